-- Propositions decided by computation, beside the kit's (mathlib.Core.Logic, native.Mathlib.Decide).
use Prim.Native.Nat.{ℕ, zero, suc, ◌<◌}
use mathlib.Core.Path.{◌≡◌, subst}
use mathlib.Core.Bool.{true}
use mathlib.Core.Logic.{◌⊎◌, inl, inr, ⊎_elim}
use mathlib.Core.List.{List, [], ◌∷◌}
use native.Mathlib.Omega.{arith}
use Rattle.finite.specs.Lists.{mem}
use Rattle.finite.proofs.Below.{below_suc}
use Rattle.finite.proofs.Members.{mem_nil, mem_head, mem_tail, mem_cases}

unfoldable pub dec_map : {A B : Type 0} → (A → B) → (B → A) → Dec A → Dec B
dec_map f g (yes a) = yes (f a)
dec_map f g (no h) = no (λ b. h (g b))

unfoldable pub dec_imp : {A B : Type 0} → Dec A → Dec B → Dec (A → B)
dec_imp (no f) d = yes (λ a. absurd (f a))
dec_imp (yes a) (yes b) = yes (λ _. b)
dec_imp (yes a) (no f) = no (λ h. f (h a))

unfoldable pub dec_sum : {A B : Type 0} → Dec A → Dec B → Dec (A ⊎ B)
dec_sum (yes a) d = yes (inl a)
dec_sum (no f) (yes b) = yes (inr b)
dec_sum (no f) (no g) = no (λ s. ⊎_elim f g s)

-- the second is asked for only where the first holds
unfoldable pub dec_then : {A B : Type 0} → Dec A → (A → Dec B) → Dec (A × B)
dec_then (no f) d = no (λ h. f h.0)
dec_then (yes a) d = dec_map (λ b. (a, b)) (λ h. h.1) (d a)

unfoldable pub dec_below_suc : (n : ℕ) (P : ℕ → Type 0) → Dec (P n) → Dec ((b : ℕ) → b < n → P b) → Dec ((b : ℕ) → b < suc n → P b)
dec_below_suc n P (no f) d = no (λ h. f (h n (omega arith)))
dec_below_suc n P (yes p) (no f) = no (λ h. f (λ b l. h b (omega arith)))
dec_below_suc n P (yes p) (yes h) = yes (below_suc P n h p)

unfoldable pub dec_below : (n : ℕ) (P : ℕ → Type 0) → ((b : ℕ) → Dec (P b)) → Dec ((b : ℕ) → b < n → P b)
dec_below zero P d = yes (λ b l. absurd (omega arith))
dec_below (suc n) P d = dec_below_suc n P (d n) (dec_below n P d)

unfoldable pub dec_some_cons : (P : ℕ → Type 0) (x : ℕ) (l : List ℕ) → Dec (P x) → Dec ((y : ℕ) × (mem y l ≡ true) × P y) → Dec ((y : ℕ) × (mem y (x ∷ l) ≡ true) × P y)
dec_some_cons P x l (yes p) d = yes (x, mem_head x l, p)
dec_some_cons P x l (no f) (yes h) = yes (h.0, mem_tail h.0 x l h.1, h.2)
dec_some_cons P x l (no f) (no g) = no (λ h. ⊎_elim (λ (e : h.0 ≡ x). f (subst P e h.2)) (λ m. g (h.0, m, h.2)) (mem_cases h.0 x l h.1))

unfoldable pub dec_some : (P : ℕ → Type 0) → ((x : ℕ) → Dec (P x)) → (l : List ℕ) → Dec ((y : ℕ) × (mem y l ≡ true) × P y)
dec_some P d [] = no (λ h. mem_nil h.0 h.1)
dec_some P d (x ∷ l) = dec_some_cons P x l (d x) (dec_some P d l)
