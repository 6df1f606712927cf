-- The item list: in which order its items stand.
use Prim.Native.Nat.{ℕ, suc, ◌+◌, ◌≤◌, ◌<◌}
use mathlib.Core.Path.{◌≡◌, refl, sym, ◌∙◌, ap, subst, subst₂}
use mathlib.Core.Bool.{true}
use mathlib.Core.Logic.{◌⊎◌, inl, inr, ⊎_elim}
use mathlib.Core.List.Memᴰ.{cases_cons as in-cases}
use mathlib.Core.List.Memᴰ.{not-nil as in-nil}
use mathlib.Core.List.{List, [], ◌∷◌, ◌++◌, Memᴰ as In}
use native.Mathlib.Decide.{dec_lt}
use native.Mathlib.Omega.{arith}
use Rattle.finite.specs.Lists.{position, range, gather}
use Rattle.finite.proofs.Lists.{in_range_from, in_gather_from}
use Rattle.finite.proofs.Members.{in_flat_map_from}
use Rattle.finite.proofs.Sorted.{Sorted, sorted_at, sorted_flat_map, sorted_gather, sorted_range, sorted_distinct}
use Rattle.body.specs.Body.{Body, Fits}
use Rattle.body.specs.Transfers.{Transfer, transfer, transferred, transfers_of}
use Rattle.body.specs.Items.{Item, task, send, receive, pair_of, block, item_list, item_count, item_at}
use Rattle.body.specs.Meaning.{Less, Listed, key}
use Rattle.body.proofs.Writers.{Transferred, transfer_from}
use Rattle.body.proofs.ItemList.{in_pair, InBlock, itself, sends, receives, in_block, sends_listed, receives_listed}

-- Less

less_irreflexive : (l : List ℕ) → Less l l → ⊥
less_irreflexive [] h = h
less_irreflexive (x ∷ l) (inl h) = omega arith
less_irreflexive (x ∷ l) (inr h) = less_irreflexive l h.1

less_nil : (l : List ℕ) → Less l [] → ⊥
less_nil [] h = h
less_nil (x ∷ l) h = h

-- nothing stands between two lists that differ by 1 in their last number
less_between : (l m : List ℕ) → Less (l ++ (0 ∷ [])) m → Less m (l ++ (1 ∷ [])) → ⊥
less_between [] [] h k = h
less_between [] (y ∷ m) (inr h) k = h.1
less_between [] (y ∷ m) (inl h) (inl k) = omega arith
less_between [] (y ∷ m) (inl h) (inr k) = less_nil m k.1
less_between (x ∷ l) [] h k = h
less_between (x ∷ l) (y ∷ m) (inl h) (inl k) = omega arith
less_between (x ∷ l) (y ∷ m) (inl h) (inr k) = omega (arith, k.0)
less_between (x ∷ l) (y ∷ m) (inr h) (inl k) = omega (arith, h.0)
less_between (x ∷ l) (y ∷ m) (inr h) (inr k) = less_between l m h.1 k.1

module _ (B : Body) where
  abbrev Precedes : Item → Item → Type 0
  Precedes x y = Less (key B x) (key B y)

  -- the region and rank of a transfer, as its items' keys have them
  abbrev transfer_key : Transfer → List ℕ
  transfer_key (transfer i g q) = position g (B.writes i) ∷ q ∷ []

  abbrev Sooner : Transfer → Transfer → Type 0
  Sooner x y = Less (transfer_key x) (transfer_key y)

  block_key : (j : ℕ) (x : Item) → InBlock B j x → (r : List ℕ) × (key B x ≡ j ∷ r)
  block_key j x (itself e) = (0 ∷ 0 ∷ 0 ∷ [], ap (key B) e)
  block_key j x (sends g q m e) = (suc (position g (B.writes j)) ∷ q ∷ 0 ∷ [], ap (key B) e)
  block_key j x (receives g q m e) = (suc (position g (B.writes j)) ∷ q ∷ 1 ∷ [], ap (key B) e)

  blocks_sorted : (j k : ℕ) → j < k → (x y : Item) → In x (block B j) → In y (block B k) → Precedes x y
  blocks_sorted j k l x y m n =
      let u = block_key j x (in_block B j x m) in
      let v = block_key k y (in_block B k y n) in
      rw (u.1, v.1) (inl l)

  pub pair_key : (i g q : ℕ) (x : Item) → (x ≡ send i g q) ⊎ (x ≡ receive i g q) → (e : ℕ) × (key B x ≡ i ∷ suc (position g (B.writes i)) ∷ q ∷ e ∷ [])
  pair_key i g q x (inl e) = (0, ap (key B) e)
  pair_key i g q x (inr e) = (1, ap (key B) e)

  -- the items of two transfers of task i, the first before the second
  pairs_sorted : (i g q h r : ℕ) → Sooner (transfer i g q) (transfer i h r) → (x y : Item) →
      In x (pair_of (transfer i g q)) → In y (pair_of (transfer i h r)) → Precedes x y
  pairs_sorted i g q h r l x y m n =
      let u = pair_key i g q x (in_pair x i g q m) in
      let v = pair_key i h r y (in_pair y i h r n) in
      rw (u.1, v.1) (inr (refl, go u.0 v.0 l))
    where
      go : (d e : ℕ) → Sooner (transfer i g q) (transfer i h r) →
          Less (suc (position g (B.writes i)) ∷ q ∷ d ∷ []) (suc (position h (B.writes i)) ∷ r ∷ e ∷ [])
      go d e (inl k) = inl (omega arith)
      go d e (inr (z, inl k)) = inr (ap suc z, inl k)
      go d e (inr (z, inr k)) = absurd k.1

  transfers_sorted : Fits B → (i : ℕ) → i < B.tasks → Sorted Sooner (transfers_of B i)
  unfolding transfers_of
  transfers_sorted F i l =
      sorted_flat_map (λ (g h : ℕ). position g (B.writes i) < position h (B.writes i)) Sooner
      (λ g. gather B.ranks (transferred B i g) (transfer i g)) (B.writes i)
      (sorted_distinct (B.writes i) (F.written_once i l))
      (λ g m. sorted_gather Sooner B.ranks (transferred B i g) (transfer i g) (λ j k s. inr (refl, inl s)))
      (λ g h m n s x y u v. between g h s x y (in_gather_from B.ranks (transferred B i g) (transfer i g) x u) (in_gather_from B.ranks (transferred B i h) (transfer i h) y v))
    where
      between : (g h : ℕ) → position g (B.writes i) < position h (B.writes i) → (x y : Transfer) →
          (k : ℕ) × (k < B.ranks) × (transferred B i g k ≡ true) × (x ≡ transfer i g k) →
          (k : ℕ) × (k < B.ranks) × (transferred B i h k ≡ true) × (y ≡ transfer i h k) → Sooner x y
      between g h s x y (j, a, b, e) (k, c, d, f) = rw (e, f) (inl s)

  pair_sorted : (t : Transfer) → Sorted Precedes (pair_of t)
  pair_sorted (transfer j g q) = (
    λ y m. ⊎_elim (λ (e : y ≡ receive j g q). rw e (inr (refl, inr (refl, inr (refl, inl (omega arith)))))) (λ n. absurd (in-nil n)) (in-cases m),
    (λ y m. absurd (in-nil m), tt),
  )

  block_sorted : Fits B → (i : ℕ) → i < B.tasks → Sorted Precedes (block B i)
  block_sorted F i l = (
    λ y m. behind y (in_flat_map_from pair_of y (transfers_of B i) m),
    sorted_flat_map Sooner Precedes pair_of (transfers_of B i) (transfers_sorted F i l) (λ t m. pair_sorted t)
        (λ t t' m m' s x y u v. between t t' s x y u v (transfer_from B i t m) (transfer_from B i t' m')),
  )
    where
      behind : (y : Item) → (t : Transfer) × In t (transfers_of B i) × In y (pair_of t) → Precedes (task i) y
      behind y (t, m, n) =
          let r = transfer_from B i t m in
          let k = pair_key i r.region r.target y (in_pair y i r.region r.target (subst (λ (z : Transfer). In y (pair_of z)) r.same n)) in
          rw k.1 (inr (refl, inl (omega arith)))

      between : (t t' : Transfer) → Sooner t t' → (x y : Item) → In x (pair_of t) → In y (pair_of t') → Transferred B i t → Transferred B i t' → Precedes x y
      between t t' s x y u v r r' =
          pairs_sorted i r.region r.target r'.region r'.target
          (subst₂ Sooner r.same r'.same s)
          x y (subst (λ (z : Transfer). In x (pair_of z)) r.same u) (subst (λ (z : Transfer). In y (pair_of z)) r'.same v)

  list_sorted : Fits B → Sorted Precedes (item_list B)
  unfolding item_list
  list_sorted F =
      sorted_flat_map (λ (j k : ℕ). j < k) Precedes (block B) (range 0 B.tasks) (sorted_range 0 B.tasks)
      (λ i m. let r : (0 ≤ i) × (i < 0 + B.tasks) = in_range_from i 0 B.tasks m in block_sorted F i (omega arith))
      (λ j k m n l. blocks_sorted j k l)

  pub ordered : Fits B → (a b : ℕ) → a < b → b < item_count B → Precedes (item_at B a) (item_at B b)
  unfolding item_at
  ordered F = sorted_at Precedes (task 0) (item_list B) (list_sorted F)

  ordered_items : Fits B → (a b : ℕ) (x y : Item) → a < b → b < item_count B → item_at B a ≡ x → item_at B b ≡ y → Precedes x y
  ordered_items F a b x y l lb e f = subst₂ Precedes e f (ordered F a b l lb)

  pub listed_once : Fits B → (a b : ℕ) → a < item_count B → b < item_count B → item_at B a ≡ item_at B b → a ≡ b
  listed_once F a b la lb e =
      elim (dec_lt a b) [
        | yes l ↦ absurd (less_irreflexive (key B (item_at B b)) (ordered_items F a b (item_at B b) (item_at B b) l lb e refl))
        | no l ↦ elim (dec_lt b a) [
          | yes m ↦ absurd (less_irreflexive (key B (item_at B b)) (ordered_items F b a (item_at B b) (item_at B b) m la refl e))
          | no m ↦ omega arith
        ]
      ]

  -- a receive stands right after its send: no key stands between theirs

  less_back : (i g q : ℕ) → Precedes (receive i g q) (send i g q) → ⊥
  less_back i g q (inl h) = omega arith
  less_back i g q (inr (z, inl h)) = omega arith
  less_back i g q (inr (z, inr (y, inl h))) = omega arith
  less_back i g q (inr (z, inr (y, inr (x, inl h)))) = omega arith
  less_back i g q (inr (z, inr (y, inr (x, inr h)))) = h.1

  send_below : Fits B → (a b i g q : ℕ) → a < item_count B → item_at B a ≡ send i g q → item_at B b ≡ receive i g q → b ≤ a → ⊥
  send_below F a b i g q la e f h =
      elim (dec_lt b a) [
        | yes m ↦ less_back i g q (ordered_items F b a (receive i g q) (send i g q) m la f e)
        | no m ↦ (let s : a ≡ b = omega arith in let z : send i g q ≡ receive i g q = sym e ∙ (ap (item_at B) s ∙ f) in let y : ◌≡◌ {A = ℕ} 0 1 = cc in omega arith)
      ]

  next_key : Fits B → (a b i g q : ℕ) → a < item_count B → b < item_count B → item_at B a ≡ send i g q → item_at B b ≡ receive i g q → b ≡ suc a
  next_key F a b i g q la lb e f =
      elim (dec_lt (suc a) b) [
        | yes l ↦ absurd (less_between (i ∷ suc (position g (B.writes i)) ∷ q ∷ []) (key B (item_at B (suc a)))
            (ordered_items F a (suc a) (send i g q) (item_at B (suc a)) (omega arith) (omega arith) e refl)
            (ordered_items F (suc a) b (item_at B (suc a)) (receive i g q) l lb refl f))
        | no l ↦ elim (dec_lt a b) [ yes m ↦ omega arith | no m ↦ absurd (send_below F a b i g q la e f (omega arith)) ]
      ]

  pub send_then : Fits B → (a i g q : ℕ) → a < item_count B → item_at B a ≡ send i g q → (suc a < item_count B) × (item_at B (suc a) ≡ receive i g q)
  send_then F a i g q la e = go ((receives_listed B i g q).1 ((sends_listed B i g q).0 (a, la, e)))
    where
      go : Listed B (receive i g q) → (suc a < item_count B) × (item_at B (suc a) ≡ receive i g q)
      go (b, lb, f) = let s : b ≡ suc a = next_key F a b i g q la lb e f in (omega arith, sym (ap (item_at B) s) ∙ f)

  pub receive_after : Fits B → (a i g q : ℕ) → a < item_count B → item_at B a ≡ receive i g q → (b : ℕ) × (a ≡ suc b) × (item_at B b ≡ send i g q)
  receive_after F a i g q la e = go ((sends_listed B i g q).1 ((receives_listed B i g q).0 (a, la, e)))
    where
      go : Listed B (send i g q) → (b : ℕ) × (a ≡ suc b) × (item_at B b ≡ send i g q)
      go (b, lb, f) = (b, next_key F b a i g q lb la f e, f)
