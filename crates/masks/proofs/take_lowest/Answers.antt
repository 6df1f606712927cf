use Rattle.std.proofs.Common.{ℕ, ◌+◌, ◌-◌, ◌*◌, List, bit_and, get_or, set, refl, subst, rules}
use lib.Count.{count_trailing_zeros}
use Rattle.masks.specs.Masks.{Lowest}
use Rattle.masks.proofs.Bits.{none_left, lowest_taken}
use Rattle.masks.proofs.take_lowest.Goals as goal

pub returns-then-word-ne0 : goal.returns-then-word-ne0
returns-then-word-ne0 c =
    let l = c.loop-k in
    let x = get_or l.words l.k 0 in
    subst (λ (w : List ℕ). Lowest w (64 * l.k + count_trailing_zeros 64 x) (set l.words l.k (bit_and x (x - 1)))) l.invariant.1
    (lowest_taken l.words l.k _ (search rules) l.invariant.0 (search rules) (search rules) (search rules) refl _ refl)

pub returns : goal.returns
returns c =
    let l = c.loop-k in
    (none_left _ (search rules), l.invariant.1)
