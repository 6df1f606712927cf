use mathlib.Core.Path.{refl}
use native.Mathlib.Omega.{arith}
use borrow.Author.Rules.{rules}
use lib.ListN.{length-set}
use Rattle.calls.proofs.Finishing.{lowered_length, lowered_passes, finish_counted}
use Rattle.calls.proofs.finishes.count_finish.Goals as goal

pub overflow_add-counts-2 : goal.overflow_add-counts-2
overflow_add-counts-2 c =
    omega (arith, c.requires.2, lowered_passes _ _ _ _ c.args.items.now.drawn c.requires.0 c.args.counts.now _ c.requires.1 c.lower_waits.ensures c.args.a c.requires.0)

pub count_unmet-requires : goal.count_unmet-requires
count_unmet-requires c = (
  c.mark_edges.ensures.1,
  c.requires.0,
  simp length-set (omega (arith, c.requires.1, lowered_length _ _ _ _ c.args.items.now.drawn c.requires.0 c.args.counts.now _ c.requires.1 c.lower_waits.ensures)),
)

pub bounds-counts-a-3 : goal.bounds-counts-a-3
bounds-counts-a-3 c = simp length-set (search rules)

pub returns : goal.returns
returns c =
    finish_counted _ _ _ _ c.args.items.now.drawn c.requires.0 c.args.counts.now _ c.requires.1 c.lower_waits.ensures _ refl _ c.count_unmet.ensures
