-- The calls of a list that are ahead of an accepted start of item 0.
use Prim.Native.Nat.{ℕ, zero, suc, ◌+◌, ◌<◌}
use mathlib.Core.Path.{◌≡◌, refl, sym, ap, subst}
use mathlib.Core.Bool.{Bool, true, false, cond}
use mathlib.Core.List.{List, [], ◌∷◌}
use native.Mathlib.Omega.{arith}
use borrow.Author.Tests.{eqb-true}
use Rattle.finite.proofs.Tests.{not_both}
use Rattle.steps.specs.Calls.{Call, start, finish, result, is_start, Lent, lent_by, call, is_accepted, play, accepted}

-- calls with n accepted starts of item 0, after which one more is accepted
abbrev Ahead : List ℕ → Lent → ℕ → Type 0
Ahead plan s n = (k : List Call) × (accepted plan (is_start 0) s k ≡ n) × ((call plan (play plan s k) (start 0)).refusal ≡ 0)

start_is : (c : Call) → is_start 0 c ≡ true → c ≡ start 0
start_is (start a) e = ap start (sym (eqb-true 0 a e))
start_is (finish a) e = absurd (not_both e refl)
start_is (result g) e = absurd (not_both e refl)

-- with c ahead of them
ahead_more : (plan : List ℕ) (c : Call) (s : Lent) (m n : ℕ) → cond (is_accepted plan s c) (cond (is_start 0 c) 1 0) 0 + m ≡ n → Ahead plan (lent_by (call plan s c)) m → Ahead plan s n
unfolding accepted play
ahead_more plan c s m n e (k, f, r) = (c ∷ k, omega (arith, e, f), r)

ahead_step : (plan : List ℕ) (c : Call) (s : Lent) (rest n : ℕ) → n < cond (is_accepted plan s c) (cond (is_start 0 c) 1 0) 0 + rest →
    ((m : ℕ) → m < rest → Ahead plan (lent_by (call plan s c)) m) → Ahead plan s n
unfolding accepted play
ahead_step plan c s rest n h on = go (is_accepted plan s c) (is_start 0 c) n refl refl h
  where
    skips : (n : ℕ) → ◌≡◌ {A = ℕ} (cond (is_accepted plan s c) (cond (is_start 0 c) 1 0) 0) 0 → n < rest → Ahead plan s n
    skips n e l = ahead_more plan c s n n (omega (arith, e)) (on n l)

    first : is_accepted plan s c ≡ true → is_start 0 c ≡ true → Ahead plan s 0
    first p q = ([], refl, subst (λ (d : Call). (call plan s d).refusal ≡ 0) (start_is c q) (eqb-true (call plan s c).refusal 0 p))

    go : (x y : Bool) (n : ℕ) → is_accepted plan s c ≡ x → is_start 0 c ≡ y → n < cond x (cond y 1 0) 0 + rest → Ahead plan s n
    go true true zero p q h = first p q
    go true true (suc n) p q h = ahead_more plan c s n (suc n) (rw (p, q) (omega arith)) (on n (omega arith))
    go true false n p q h = skips n (rw (p, q)) (omega arith)
    go false y n p q h = skips n (rw p) (omega arith)

-- of a list with more than n accepted starts of item 0, those ahead of the one with number n
pub nth_start : (plan : List ℕ) (l : List Call) (s : Lent) (n : ℕ) → n < accepted plan (is_start 0) s l → Ahead plan s n
unfolding accepted
nth_start plan [] s n h = absurd (omega arith)
nth_start plan (c ∷ l) s n h = ahead_step plan c s (accepted plan (is_start 0) (lent_by (call plan s c)) l) n h (nth_start plan l (lent_by (call plan s c)))
