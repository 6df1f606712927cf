use Prim.Native.Nat.{ℕ}
use mathlib.Core.Bool.{Bool, true, false, cond}
use mathlib.Core.Path.{◌≡◌, refl, sym, ◌∙◌, ap}
use borrow.Author.Rules.{rules}
use mir.Val.{bool_byte}
use lib.ListN.{get_or, length-set}
use Rattle.finite.proofs.Lists.{gather_none, gather_more, gather_done}
use Rattle.finite.proofs.Collect.{map_gather}
use Rattle.kernels.specs.Kernels.{kernel_word}
use Rattle.plan.specs.Layout.{kernel_of, constant_of, accesses_of, access_region, reads, region_at, is_read}
use Rattle.values.proofs.places.task_word.Goals as goal

as_number : (b : Bool) → bool_byte b ≡ cond b 1 0
as_number true = refl
as_number false = refl

pub loop-k-init : goal.loop-k-init
loop-k-init c = search (rules, gather_none)

pub loop-k-preserved : goal.loop-k-preserved
loop-k-preserved c =
    let P = c.args.plan.now in
    let i = c.args.i in
    let xs = c.args.copies.now in
    let l = c.loop-k in
    let at = c.access-access.ensures in (
      search rules,
      search rules,
      simp length-set (search rules),
      gather_more (is_read P i) (λ j. get_or xs (region_at P i j) 0) l.k l.n _ _ (is_read P i l.k) l.reads l.invariant.3 (search rules)
          (c.from-n.ensures ∙ (ap bool_byte (c.reads_region.ensures ∙ ap reads at) ∙ as_number (is_read P i l.k))) refl
          (ap (λ (g : ℕ). get_or xs g 0) (c.access_region.ensures.0 ∙ ap access_region at)),
    )

pub returns : goal.returns
returns c =
    let P = c.args.plan.now in
    let i = c.args.i in
    let l = c.loop-k in
    let k = c.kernel.ensures in
    let b = c.constant.ensures in
    let whole = gather_done _ _ (accesses_of P i) l.k _ l.invariant.3 (search rules) (search rules)
    ∙ sym (map_gather (λ g. get_or c.args.copies.now g 0) (accesses_of P i) (is_read P i) (region_at P i)) in
    c.kernel_word.ensures ∙ (rw (k, b) (ap (kernel_word (kernel_of P i) (constant_of P i)) whole))
