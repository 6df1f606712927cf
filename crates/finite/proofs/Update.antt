-- Laws of update, put and set.
use Prim.Native.Nat.{ℕ, zero, suc, ◌+◌, ◌<◌}
use mathlib.Core.Path.{◌≡◌, refl, sym, ◌∙◌, ap, subst}
use mathlib.Core.Bool.{Bool, true, false, cond}
use mathlib.Core.List.{List, [], ◌∷◌, ◌++◌}
use native.Mathlib.Nat.{zero-add, suc-add}
use borrow.Author.Tests.{eqb-true, eqb-false, eq-eqb}
use lib.Dec.{eqb}
use lib.ListN.{length, get_or, set, length-set}
use lib.Seq.{get_or-set_same, get_or-set_other}
use Rattle.finite.specs.Lists.{mem}
use Rattle.finite.specs.Update.{update, put}

-- update

-- what holds at a of v, and elsewhere of f's value, holds of the updated function
pub update_ind : (P : ℕ → ℕ → Type 0) (f : ℕ → ℕ) (a v : ℕ) → P a v → ((b : ℕ) → (b ≡ a → ⊥) → P b (f b)) → (b : ℕ) → P b (update f a v b)
unfolding update
update_ind P f a v h k b = go (eqb b a) refl
  where
    go : (t : Bool) → eqb b a ≡ t → P b (cond t v (f b))
    go true e = subst (λ (c : ℕ). P c v) (sym (eqb-true b a e)) h
    go false e = k b (eqb-false b a e)

pub update_same : (f : ℕ → ℕ) (a v : ℕ) → update f a v a ≡ v
unfolding update
update_same f a v = rw (eq-eqb a a refl)

pub update_other : (f : ℕ → ℕ) (a v b : ℕ) → (b ≡ a → ⊥) → update f a v b ≡ f b
update_other f a v b = update_ind (λ b r. (b ≡ a → ⊥) → r ≡ f b) f a v (λ h. absurd (h refl)) (λ b h k. refl) b

-- the same update of functions that agree
pub update_ext : (f g : ℕ → ℕ) (a v w b : ℕ) → v ≡ w → f b ≡ g b → update f a v b ≡ update g a w b
update_ext f g a v w b e =
    update_ind (λ b r. f b ≡ g b → r ≡ update g a w b) f a v (λ k. e ∙ sym (update_same g a w)) (λ b ne k. k ∙ sym (update_other g a w b ne)) b

-- put

pub put_in : (l : List ℕ) (v : ℕ) (f : ℕ → ℕ) (x : ℕ) → mem x l ≡ true → put l v f x ≡ v
unfolding put
put_in l v f x h = rw h

pub put_out : (l : List ℕ) (v : ℕ) (f : ℕ → ℕ) (x : ℕ) → mem x l ≡ false → put l v f x ≡ f x
unfolding put
put_out l v f x h = rw h

pub put_ext : (l : List ℕ) (f g : ℕ → ℕ) (v w x : ℕ) → v ≡ w → f x ≡ g x → put l v f x ≡ put l w g x
unfolding put
put_ext l f g v w x e h = rw (e, h)

-- set

-- what holds of v, and of what xs has at g, holds of what xs has there with v put somewhere
pub set_ind : {X : Type 0} (P : X → Type 0) (xs : List X) (k g : ℕ) (v d : X) → P v → P (get_or xs g d) → P (get_or (set xs k v) g d)
set_ind P [] k g v d h e = e
set_ind P (x ∷ xs) zero zero v d h e = h
set_ind P (x ∷ xs) zero (suc g) v d h e = e
set_ind P (x ∷ xs) (suc k) zero v d h e = e
set_ind P (x ∷ xs) (suc k) (suc g) v d h e = set_ind P xs k g v d h e

pub length_set_if : (b : Bool) (xs : List ℕ) (g v : ℕ) → length (cond b (set xs g v) xs) ≡ length xs
length_set_if true xs g v = length-set xs g v
length_set_if false xs g v = refl

-- set at k, seen at g
pub set_at : {X : Type 0} (xs : List X) (k g : ℕ) (v d : X) → k < length xs → get_or (set xs k v) g d ≡ cond (eqb g k) v (get_or xs g d)
set_at xs k g v d h = go (eqb g k) refl
  where
    go : (t : Bool) → eqb g k ≡ t → get_or (set xs k v) g d ≡ cond t v (get_or xs g d)
    go true e = subst (λ (j : ℕ). get_or (set xs k v) j d ≡ v) (sym (eqb-true g k e)) (get_or-set_same xs k v d h)
    go false e = get_or-set_other xs k g v d (eqb-false g k e)

-- in the second of two lists
pub set_behind : {X : Type 0} (xs ys : List X) (k : ℕ) (v : X) → set (xs ++ ys) (length xs + k) v ≡ xs ++ set ys k v
set_behind [] ys k v = ap (λ (j : ℕ). set ys j v) (zero-add k)
set_behind (x ∷ xs) ys k v = ap (λ (j : ℕ). set (x ∷ (xs ++ ys)) j v) (suc-add (length xs) k) ∙ ap (λ zs. x ∷ zs) (set_behind xs ys k v)
