use Prim.Native.Nat.{ℕ, ◌-◌}
use mathlib.Core.Path.{◌≡◌, ◌∙◌, ap}
use native.Mathlib.Omega.{arith}
use borrow.Author.Rules.{rules}
use lib.ListN.{length, replicate, length-set}
use Rattle.tables.proofs.Padded.{copied_more, copied_done, pad_done}
use Rattle.tables.proofs.parts.pad.Goals as goal

pub loop-k-preserved : goal.loop-k-preserved
loop-k-preserved c =
    let l = c.loop-k in
    (simp length-set (search rules), copied_more c.args.from.now l.front l.k l.invariant.1 (omega (arith, l.invariant.0)))

pub returns : goal.returns
returns c =
    let k = length c.args.part.now in
    let l = c.loop-k in
    let size : length c.split_at_mut-front.result.1.now ≡ k - c.args.n = omega (arith, c.split_at_mut-front.ensures.back_len) in
    pad_done c.args.from.now _ _ c.args.n k c.requires.0 c.requires.1 (copied_done c.args.from.now l.front c.args.n l.invariant.0 c.requires.0 (λ j o. l.invariant.1 j (omega arith)))
    (c.fill.ensures.after (λ y e. e) ∙ ap (λ (n : ℕ). replicate {A = ℕ} n 0) size)
