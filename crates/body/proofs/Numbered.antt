-- The number of a transfer: counted by the receives before an item of it, it is the transfer's
-- index in the transfer list.
use Prim.Native.Nat.{ℕ, zero, suc, ◌+◌, ◌-◌, ◌≤◌, ◌<◌}
use mathlib.Core.Path.{◌≡◌, refl, sym, ◌∙◌, ap, subst}
use mathlib.Core.Logic.{◌⊎◌, ⊎_elim}
use mathlib.Core.List.{List, [], ◌∷◌, ◌++◌}
use mathlib.Core.Option.{some, some-injective, none-ne-some}
use native.Mathlib.Decide.{dec_lt}
use native.Mathlib.Omega.{arith}
use lib.Dec.{eqb}
use lib.ListN.{length, get_or, length-append, get_or-append}
use lib.Seq.{get_or-append-add}
use Rattle.finite.specs.Below.{count_below}
use Rattle.finite.proofs.Lists.{count_left, count_right}
use Rattle.body.specs.Body.{Body}
use Rattle.body.specs.Transfers.{Transfer, transfer, transfer_list, transfer_count}
use Rattle.body.specs.Items.{Item, task, send, receive, kind_of, pair_of, item_list, item_count, item_at, transfer_of}
use Rattle.body.proofs.ItemList.{carried, list_ind}

-- how many receives stand among the first a items of a list
abbrev receives : List Item → ℕ → ℕ
receives l a = count_below a (λ b. eqb (kind_of (get_or l b (task 0))) 2)

-- the transfers of the items l are k: one for each receive, and an item of a transfer finds it
-- behind those of the receives before it
record Numbered (l : List Item) (k : List Transfer) : Type 0 where
  counted : receives l (length l) ≡ length k
  found : (a : ℕ) (t : Transfer) → a < length l → carried (get_or l a (task 0)) ≡ some t →
      (receives l a < length k) × (get_or k (receives l a) (transfer 0 0 0) ≡ t)

receives_left : (l m : List Item) (a : ℕ) → a ≤ length l → receives (l ++ m) a ≡ receives l a
receives_left = count_left (λ x. eqb (kind_of x) 2) (task 0)

receives_right : (l m : List Item) (a : ℕ) → receives (l ++ m) (length l + a) ≡ receives l (length l) + receives m a
receives_right = count_right (λ x. eqb (kind_of x) 2) (task 0)

numbered_nil : Numbered [] []
unfolding count_below
numbered_nil = record { counted = refl; found = λ a t l e. absurd (omega arith) }

numbered_task : (i : ℕ) → Numbered (task i ∷ []) []
unfolding count_below
numbered_task i = record { counted = refl; found = found }
  where
    found : (a : ℕ) (t : Transfer) → a < 1 → carried (get_or (task i ∷ []) a (task 0)) ≡ some t →
        (receives (task i ∷ []) a < 0) × (get_or [] (receives (task i ∷ []) a) (transfer 0 0 0) ≡ t)
    found zero t l e = absurd (none-ne-some t e)
    found (suc a) t l e = absurd (omega arith)

numbered_pair : (t : Transfer) → Numbered (pair_of t) (t ∷ [])
unfolding count_below
numbered_pair (transfer i g q) = record { counted = refl; found = found }
  where
    found : (a : ℕ) (t : Transfer) → a < 2 → carried (get_or (pair_of (transfer i g q)) a (task 0)) ≡ some t →
        (receives (pair_of (transfer i g q)) a < 1) × (get_or (transfer i g q ∷ []) (receives (pair_of (transfer i g q)) a) (transfer 0 0 0) ≡ t)
    found zero t l e = (omega arith, some-injective (transfer i g q) t e)
    found (suc zero) t l e = (omega arith, some-injective (transfer i g q) t e)
    found (suc (suc a)) t l e = absurd (omega arith)

numbered_append : (l m : List Item) (j k : List Transfer) → Numbered l j → Numbered m k → Numbered (l ++ m) (j ++ k)
numbered_append l m j k u v = record { counted = counted; found = found }
  where
    counted : receives (l ++ m) (length (l ++ m)) ≡ length (j ++ k)
    counted = ap (receives (l ++ m)) (length-append l m) ∙ omega (arith, receives_right l m (length m), u.counted, v.counted, length-append j k)

    Found : ℕ → Transfer → Type 0
    Found n t = (n < length (j ++ k)) × (get_or (j ++ k) n (transfer 0 0 0) ≡ t)

    left : (a : ℕ) (t : Transfer) → a < length l → carried (get_or (l ++ m) a (task 0)) ≡ some t → Found (receives (l ++ m) a) t
    left a t h e =
        let r = u.found a t h (sym (ap carried (get_or-append l m (task 0) a h)) ∙ e) in
        subst (λ (n : ℕ). Found n t) (sym (receives_left l m a (omega arith)))
        (omega (arith, r.0, length-append j k), get_or-append j k (transfer 0 0 0) (receives l a) r.0 ∙ r.1)

    right : (a : ℕ) (t : Transfer) → a < length m → carried (get_or (l ++ m) (length l + a) (task 0)) ≡ some t → Found (receives (l ++ m) (length l + a)) t
    right a t h e =
        let r = v.found a t h (sym (ap carried (get_or-append-add l m a (task 0))) ∙ e) in
        subst (λ (n : ℕ). Found n t) (sym (receives_right l m a ∙ ap (λ (n : ℕ). n + receives m a) u.counted))
        (omega (arith, r.0, length-append j k), get_or-append-add j k (receives m a) (transfer 0 0 0) ∙ r.1)

    found : (a : ℕ) (t : Transfer) → a < length (l ++ m) → carried (get_or (l ++ m) a (task 0)) ≡ some t → Found (receives (l ++ m) a) t
    found a t h e =
        elim (dec_lt a (length l)) [
          | yes n ↦ left a t n e
          | no n ↦ (let s : length l + (a - length l) ≡ a = omega arith in
              subst (λ (b : ℕ). Found (receives (l ++ m) b) t) s
              (right (a - length l) t (omega (arith, length-append l m)) (ap (λ (b : ℕ). carried (get_or (l ++ m) b (task 0))) s ∙ e)))
        ]

module _ (B : Body) where
  pub numbered : (a i g q : ℕ) → a < item_count B → (item_at B a ≡ send i g q) ⊎ (item_at B a ≡ receive i g q) →
      (transfer_of B a < transfer_count B) × (get_or (transfer_list B) (transfer_of B a) (transfer 0 0 0) ≡ transfer i g q)
  unfolding item_at item_list transfer_count
  numbered a i g q h e = (list_ind Numbered numbered_nil numbered_task numbered_pair numbered_append B).found a (transfer i g q) h (⊎_elim (λ s. ap carried s) (λ r. ap carried r) e)
