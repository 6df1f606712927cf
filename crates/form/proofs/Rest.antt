-- Laws of the words that have to be 0: _none, _more and _not are a loop's, before its first turn,
-- over a turn, and at a word that is not 0.
use Rattle.std.proofs.Common.{◌≡◌, ℕ, ◌+◌, ◌-◌, ◌*◌, ◌<◌, ◌≤◌, Bool, true, false, ◌&&◌, ◌||◌, eqb, ltb, List, get_or, sym, refl, ap, ◌∙◌, arith, le-ltb, lt-ltb, eq-eqb, ne_eqb, eqb-true}
use mathlib.Core.Bool.{or-true}
use lib.Bits.{bit_or, or_add_and, and_le_l, and_le_r}
use Rattle.finite.specs.Below.{all_below}
use Rattle.finite.proofs.Tests.{test_ext, and-true, and_intro}
use Rattle.finite.proofs.Below.{all_more, all_of, all_fails}
use Rattle.plan.specs.Limits.{max_regions, max_tasks, max_accesses}
use Rattle.plan.specs.Layout.{at, regions_of, tasks_of, starting_of, accesses_of, access_at, rank_index}
use Rattle.plan.specs.Form.{rest_ok}
use Rattle.form.specs.Scan.{Keeps, kept, behind_ok, half, pair_ok}

-- bits that are or'ed together are 0 where each is

or_zero : (a b : ℕ) → eqb (bit_or a b) 0 ≡ (eqb a 0 && eqb b 0)
or_zero a b =
    test_ext (eqb (bit_or a b) 0) (eqb a 0 && eqb b 0)
    (λ e. let z : bit_or a b ≡ 0 = eqb-true (bit_or a b) 0 e in
    and_intro (eqb a 0) (eqb b 0) (eq-eqb a 0 (omega (arith, or_add_and a b, and_le_r a b))) (eq-eqb b 0 (omega (arith, or_add_and a b, and_le_l a b))))
    (λ e. let h = and-true (eqb a 0) (eqb b 0) e in eq-eqb (bit_or a b) 0 (omega (arith, or_add_and a b, eqb-true a 0 h.0, eqb-true b 0 h.1)))

pub zero_more : (p : ℕ → Bool) (k bits x y : ℕ) → eqb bits 0 ≡ all_below k p → (eqb x 0 && eqb y 0) ≡ p k → eqb (bit_or bits (bit_or x y)) 0 ≡ all_below (k + 1) p
zero_more p k bits x y h e = or_zero bits (bit_or x y) ∙ (ap (λ (t : Bool). eqb bits 0 && t) (or_zero x y) ∙ all_more p k (eqb bits 0) (eqb x 0 && eqb y 0) h e)

-- behind the regions

module _ (w : List ℕ) where
  pub behind_none : (g : ℕ) → g ≡ regions_of w → eqb 0 0 ≡ all_below g (behind_ok w)
  behind_none g e = sym (all_of (behind_ok w) g (λ b l. rw (lt-ltb b (regions_of w) (omega arith))))

  pub behind_more : (g bits : ℕ) (l : List ℕ) → eqb bits 0 ≡ all_below g (behind_ok w) → regions_of w ≤ g → g < max_regions → Keeps (kept w (tasks_of w)) l
      → eqb (bit_or bits (bit_or (get_or l g 0) (starting_of w g))) 0 ≡ all_below (g + 1) (behind_ok w)
  behind_more g bits l h b m k = zero_more (behind_ok w) g bits (get_or l g 0) (starting_of w g) h (rw (k.word g m, le-ltb g (regions_of w) b))

-- behind the tasks

module _ (w : List ℕ) where
  pub pair_more : (k bits tasks : ℕ) → tasks ≡ tasks_of w → eqb bits 0 ≡ all_below k (pair_ok w)
      → eqb (bit_or bits (bit_or (at w (rank_index tasks + k)) (at w (rank_index tasks + 6 * (max_tasks - tasks) + k)))) 0 ≡ all_below (k + 1) (pair_ok w)
  pair_more k bits tasks e h = rw e (zero_more (pair_ok w) k bits (at w (rank_index (tasks_of w) + k)) (at w (rank_index (tasks_of w) + half w + k)) h refl)

module _ (w : List ℕ) (i : ℕ) where
  abbrev pub rest_at : ℕ → Bool
  rest_at a = ltb a (accesses_of w i) || eqb (access_at w i a) 0

  pub rest_none : (a : ℕ) → a ≡ accesses_of w i → true ≡ all_below a rest_at
  rest_none a e = sym (all_of rest_at a (λ b l. rw (lt-ltb b (accesses_of w i) (omega arith))))

  pub rest_more : (a x : ℕ) → true ≡ all_below a rest_at → x ≡ access_at w i a → x ≡ 0 → true ≡ all_below (a + 1) rest_at
  rest_more a x h e z = all_more rest_at a true true h (sym (rw (eq-eqb (access_at w i a) 0 (omega arith)) (or-true (ltb a (accesses_of w i)))))

  pub rest_not : (a x : ℕ) → a < max_accesses → accesses_of w i ≤ a → x ≡ access_at w i a → (x ≡ 0 → ⊥) → false ≡ rest_ok w i
  rest_not a x l h e n = sym (all_fails rest_at max_accesses a l (rw (le-ltb a (accesses_of w i) h, ne_eqb (access_at w i a) 0 (λ z. n (omega arith)))))
