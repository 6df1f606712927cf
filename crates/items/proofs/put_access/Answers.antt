use borrow.Author.Rules.{rules}
use Rattle.items.proofs.Tasks.{access_none, access_fits_lem, access_all}
use Rattle.items.proofs.put_access.Goals as goal

pub returns-then-mask-eq0 : goal.returns-then-mask-eq0
returns-then-mask-eq0 c = search (rules, access_none)

pub put_mask-requires : goal.put_mask-requires
put_mask-requires c =
    let call = c.args in (
      access_fits_lem _ _ _ call.i call.a _ _ _ (search rules) _ _ _ (search rules) (search rules) (search rules) c.requires.0,
      search rules,
      search rules,
      search rules,
    )

pub returns : goal.returns
returns c =
    let call = c.args in
    access_all _ _ _ call.i call.a _ _ _ (search rules) _ _ _ (search rules) (search rules) (search rules) _ _ c.put_mask.ensures
