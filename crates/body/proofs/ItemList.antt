-- The item list: which items stand in it.
use Prim.Native.Nat.{ℕ, ◌+◌, ◌≤◌, ◌<◌}
use mathlib.Core.Path.{◌≡◌, refl, sym, ◌∙◌, ap, subst}
use mathlib.Core.Logic.{◌⊎◌, inl, inr, ⊎_elim, ◌↔◌}
use mathlib.Core.List.Memᴰ.{cases_cons as in-cases}
use mathlib.Core.List.Memᴰ.{head as here}
use mathlib.Core.List.Memᴰ.{not-nil as in-nil}
use mathlib.Core.List.Memᴰ.{tail as there}
use mathlib.Core.List.{List, [], ◌∷◌, ◌++◌, flat_map, Memᴰ as In}
use mathlib.Core.Option.{Option, none, some, some-injective, none-ne-some}
use native.Mathlib.Omega.{arith}
use Rattle.finite.specs.Lists.{range}
use Rattle.finite.proofs.Lists.{in_range, in_range_from}
use Rattle.finite.proofs.Members.{in_flat_map, in_flat_map_from, in_at, at_in}
use Rattle.body.specs.Body.{Body}
use Rattle.body.specs.Transfers.{Transfer, transfer, transfers_of, transfer_list}
use Rattle.body.specs.Items.{Item, task, send, receive, pair_of, block, item_list, item_at}
use Rattle.body.specs.Meaning.{IsTransfer, Listed}
use Rattle.body.proofs.Writers.{Transferred, transfer_from, is_transfer, transfer_is}

pub in_pair : (x : Item) (i g q : ℕ) → In x (pair_of (transfer i g q)) → (x ≡ send i g q) ⊎ (x ≡ receive i g q)
in_pair x i g q h = ⊎_elim (λ e. inl e) (λ m. ⊎_elim (λ e. inr e) (λ n. absurd (in-nil n)) (in-cases m)) (in-cases h)

-- the transfer of a send or receive
abbrev pub carried : Item → Option Transfer
carried (task i) = none
carried (send i g q) = some (transfer i g q)
carried (receive i g q) = some (transfer i g q)

-- what holds of lists of items and their transfers, by the parts that the item list is made of
module _ (R : List Item → List Transfer → Type 0) (nil : R [] []) (a-task : (i : ℕ) → R (task i ∷ []) []) (a_pair : (t : Transfer) → R (pair_of t) (t ∷ [])) (append : (l k : List Item) (m n : List Transfer) → R l m → R k n → R (l ++ k) (m ++ n)) where
  pairs_ind : (m : List Transfer) → R (flat_map pair_of m) m
  unfolding flat_map
  pairs_ind [] = nil
  pairs_ind (t ∷ m) = append (pair_of t) (flat_map pair_of m) (t ∷ []) m (a_pair t) (pairs_ind m)

  blocks_ind : (B : Body) (l : List ℕ) → R (flat_map (block B) l) (flat_map (transfers_of B) l)
  unfolding flat_map
  blocks_ind B [] = nil
  blocks_ind B (i ∷ l) =
      append (block B i) (flat_map (block B) l) (transfers_of B i) (flat_map (transfers_of B) l)
      (append (task i ∷ []) (flat_map pair_of (transfers_of B i)) [] (transfers_of B i) (a-task i) (pairs_ind (transfers_of B i)))
      (blocks_ind B l)

  pub list_ind : (B : Body) → R (item_list B) (transfer_list B)
  unfolding item_list
  list_ind B = blocks_ind B (range 0 B.tasks)

module _ (B : Body) where
  -- an item of the block of task j
  pub data InBlock (j : ℕ) (x : Item) : Type 0 where
    itself : x ≡ task j → InBlock j x
    sends : (g q : ℕ) → In (transfer j g q) (transfers_of B j) → x ≡ send j g q → InBlock j x
    receives : (g q : ℕ) → In (transfer j g q) (transfers_of B j) → x ≡ receive j g q → InBlock j x

  in_pairs : (j : ℕ) (x : Item) → In x (flat_map pair_of (transfers_of B j)) → InBlock j x
  in_pairs j x h = go (in_flat_map_from pair_of x (transfers_of B j) h)
    where
      known : (t : Transfer) → In t (transfers_of B j) → In x (pair_of t) → Transferred B j t → InBlock j x
      known t u v r =
          ⊎_elim
          (sends r.region r.target (subst (λ (z : Transfer). In z (transfers_of B j)) r.same u))
          (receives r.region r.target (subst (λ (z : Transfer). In z (transfers_of B j)) r.same u))
          (in_pair x j r.region r.target (subst (λ (z : Transfer). In x (pair_of z)) r.same v))

      go : (t : Transfer) × In t (transfers_of B j) × In x (pair_of t) → InBlock j x
      go (t, u, v) = known t u v (transfer_from B j t u)

  pub in_block : (j : ℕ) (x : Item) → In x (block B j) → InBlock j x
  in_block j x h = ⊎_elim (λ e. itself e) (λ m. in_pairs j x m) (in-cases h)

  pub in_list : (x : Item) → In x (item_list B) → (j : ℕ) × (j < B.tasks) × InBlock j x
  unfolding item_list
  in_list x h = go (in_flat_map_from (block B) x (range 0 B.tasks) h)
    where
      go : (j : ℕ) × In j (range 0 B.tasks) × In x (block B j) → (j : ℕ) × (j < B.tasks) × InBlock j x
      go (j, u, v) = let r : (0 ≤ j) × (j < 0 + B.tasks) = in_range_from j 0 B.tasks u in (j, omega arith, in_block j x v)

  list_in : (x : Item) (j : ℕ) → j < B.tasks → In x (block B j) → In x (item_list B)
  unfolding item_list
  list_in x j l h = in_flat_map (block B) x j (range 0 B.tasks) (in_range j 0 B.tasks (omega arith) (omega arith)) h

  listed_in : (x : Item) → Listed B x → In x (item_list B)
  unfolding item_at
  listed_in x (a, l, e) = at_in x (task 0) (item_list B) a l e

  in_listed : (x : Item) → In x (item_list B) → Listed B x
  unfolding item_at
  in_listed x h = in_at x (task 0) (item_list B) h

  pub tasks_listed : (i : ℕ) → Listed B (task i) ↔ (i < B.tasks)
  tasks_listed i = (λ h. from (in_list (task i) (listed_in (task i) h)), λ l. in_listed (task i) (list_in (task i) i l (here refl)))
    where
      apart : {A : Type 0} → ◌≡◌ {A = ℕ} 0 1 → A
      apart e = absurd (omega arith)

      is_task : (j : ℕ) → InBlock j (task i) → i ≡ j
      is_task j (itself e) = cc
      is_task j (sends g q m e) = apart (cc)
      is_task j (receives g q m e) = apart (cc)

      from : (j : ℕ) × (j < B.tasks) × InBlock j (task i) → i < B.tasks
      from (j, l, h) = omega (arith, is_task j h)

  block_transfer : (j : ℕ) (x : Item) (t : Transfer) → InBlock j x → carried x ≡ some t → In t (transfers_of B j)
  block_transfer j x t k c = go k
    where
      same : (g q : ℕ) → In (transfer j g q) (transfers_of B j) → carried x ≡ some (transfer j g q) → In t (transfers_of B j)
      same g q m d = subst (λ (z : Transfer). In z (transfers_of B j)) (some-injective (transfer j g q) t (sym d ∙ c)) m

      go : InBlock j x → In t (transfers_of B j)
      go (itself e) = absurd (none-ne-some t (sym (ap carried e) ∙ c))
      go (sends g q m e) = same g q m (ap carried e)
      go (receives g q m e) = same g q m (ap carried e)

  listed_transfer : (x : Item) (i g q : ℕ) → carried x ≡ some (transfer i g q) → Listed B x → IsTransfer B i g q
  listed_transfer x i g q c h = from (in_list x (listed_in x h))
    where
      from : (j : ℕ) × (j < B.tasks) × InBlock j x → IsTransfer B i g q
      from (j, l, k) = is_transfer B j i g q l (block_transfer j x (transfer i g q) k c)

  transfer_listed : (x : Item) (i g q : ℕ) → In x (pair_of (transfer i g q)) → IsTransfer B i g q → Listed B x
  transfer_listed x i g q h t = in_listed x (list_in x i t.below (there (in_flat_map pair_of x (transfer i g q) (transfers_of B i) (transfer_is B i g q t) h)))

  pub sends_listed : (i g q : ℕ) → Listed B (send i g q) ↔ IsTransfer B i g q
  sends_listed i g q = (listed_transfer (send i g q) i g q refl, transfer_listed (send i g q) i g q (here refl))

  pub receives_listed : (i g q : ℕ) → Listed B (receive i g q) ↔ IsTransfer B i g q
  receives_listed i g q = (listed_transfer (receive i g q) i g q refl, transfer_listed (receive i g q) i g q (there (here refl)))
