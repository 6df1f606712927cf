use mathlib.Core.Path.{refl}
use Rattle.calls.proofs.Readying.{put_fits, put_none, put_one}
use Rattle.calls.proofs.ready.put_item.Goals as goal

pub returns-then-not-yes : goal.returns-then-not-yes
returns-then-not-yes c = let a = c.args in put_none a.yes a.a a.at _ c.if-not-yes.true-raw

pub bounds-list-at : goal.bounds-list-at
bounds-list-at c =
    put_fits c.args.yes c.args.a c.args.at _ c.requires.0 c.if-not-yes.false-raw

pub returns : goal.returns
returns c =
    let a = c.args in
    put_one a.yes a.a a.at _ _ c.if-not-yes.false-raw refl
