-- The places of an item that is found, and rows of places, one more a turn.
use Prim.Native.Nat.{ℕ, zero, suc, ◌+◌, ◌-◌, ◌*◌, ◌≤◌, ◌<◌}
use mathlib.Core.Path.{◌≡◌, refl, sym, ◌∙◌, ap, ap₂}
use mathlib.Core.Bool.{Bool, true, false, cond}
use mathlib.Core.List.{List, [], ◌∷◌, ◌++◌, map, append_assoc}
use native.Mathlib.Omega.{arith}
use lib.Dec.{eqb}
use lib.ListN.{length, take, drop, set, replicate, length-append}
use lib.Seq.{take_at, drop_at, set_at}
use Rattle.finite.specs.Lists.{gather, collect}
use Rattle.finite.specs.Put.{Added, RoomAt}
use Rattle.finite.proofs.Collect.{gather_collect, collect_most, collect_next, map_gather}
use Rattle.finite.proofs.Puts.{added_one, added_append, added_same}
use Rattle.body.specs.Body.{Body}
use Rattle.body.specs.Items.{Item, task, send, receive, kind_of, item_rank, item_count, item_at}
use Rattle.body.specs.Places.{slot, copy, reads_of, writes_of}
use Rattle.edges.specs.Tests.{rank_at}
use Rattle.plan.specs.Limits.{max_accesses}
use Rattle.plan.specs.Sizes.{slot_of}
use Rattle.plan.specs.Code.{code_kind, code_subject}
use Rattle.plan.specs.Layout.{reads, writes, access_region, body_of, accesses_of, access_at, region_at, is_read, is_written}
use Rattle.graph.specs.Table.{subject_of}
use Rattle.values.specs.Items.{Found}
use Rattle.values.proofs.Finding.{found_kind, found_subject, found_task, receive_least}
use Rattle.prepared.specs.Tables.{padded, place_row, place_rows, list_words}
use Rattle.tables.specs.Rows.{places_of, regions_used, places_moved, rows_before}
use Rattle.tables.proofs.Padded.{length_padded, padded_zeros, take_zeros, drop_zeros, lent_added}

one_most : (yes : Bool) (x : ℕ) → length (cond yes (x ∷ []) []) ≤ 1
one_most true x = omega arith
one_most false x = omega arith

-- which accesses of task i write their region, or else read it, and the copy of such a one
abbrev pub is_used : List ℕ → Bool → ℕ → ℕ → Bool
is_used w write i k = cond write (is_written w i k) (is_read w i k)

unfoldable pub used_at : List ℕ → Bool → ℕ → ℕ → ℕ → List ℕ
used_at w write i first k = cond (is_used w write i k) ((first + region_at w i k) ∷ []) []

module _ (w : List ℕ) (write : Bool) (i first : ℕ) where
  used_gathered : (t : Bool) → gather (accesses_of w i) (is_used w t i) (λ k. first + region_at w i k) ≡ map (λ g. first + g) (regions_used w t i)
  unfolding regions_used
  used_gathered true = sym (map_gather (λ g. first + g) (accesses_of w i) (is_written w i) (region_at w i))
  used_gathered false = sym (map_gather (λ g. first + g) (accesses_of w i) (is_read w i) (region_at w i))

  used_collected : collect (accesses_of w i) (used_at w write i first) ≡ map (λ g. first + g) (regions_used w write i)
  unfolding used_at
  used_collected = sym (gather_collect (accesses_of w i) (is_used w write i) (λ k. first + region_at w i k)) ∙ used_gathered write

  pub used_at_lem : (k access g : ℕ) (t : Bool) → access ≡ access_at w i k → g ≡ access_region access → t ≡ cond write (writes access) (reads access) →
      cond t ((first + g) ∷ []) [] ≡ used_at w write i first k
  unfolding used_at
  used_at_lem k access g t e u h = rw (h, u, e)

  used_most : (k : ℕ) → length (used_at w write i first k) ≤ 1
  unfolding used_at
  used_most k = one_most (is_used w write i k) (first + region_at w i k)

  module _ (k at : ℕ) (row mid : List ℕ) (a : Added (collect k (used_at w write i first)) 0 row at mid) where
    pub used_few : at ≤ k
    used_few = omega (arith, a.end, collect_most k 1 (used_at w write i first) (λ j l. used_most j))

    pub used_fits : k < max_accesses → max_accesses ≤ length row → RoomAt (used_at w write i first k) at mid
    used_fits l m = record { fits = omega (arith, used_few, used_most k, a.size) }

    pub used_done : k ≡ accesses_of w i → Added (map (λ g. first + g) (regions_used w write i)) 0 row at mid
    used_done e = added_same (ap (λ (n : ℕ). collect n (used_at w write i first)) e ∙ used_collected) a

-- the places of a send or a receive, put into a row
module _ (receives write : Bool) (at g x : ℕ) (row : List ℕ) where
  pub moved_written : (r : ℕ) (out : List ℕ) → write ≡ true → x ≡ at → Added (cond receives (g ∷ []) []) 1 (set row 0 x) r out →
      Added (places_moved receives write at g) 0 row r out
  unfolding places_moved
  moved_written r out t e a = rw t (added_append {xs = at ∷ []} (added_one e) a)

  pub moved_few : (r : ℕ) (out : List ℕ) → Added (cond receives (g ∷ []) []) 1 (set row 0 x) r out → r ≤ max_accesses
  moved_few r out a = omega (arith, one_most receives g, a.end)

  pub moved_read : write ≡ false → x ≡ cond receives at g → Added (places_moved receives write at g) 0 row 1 (set row 0 x)
  unfolding places_moved
  moved_read t e = rw t (added_one e)

module _ (w : List ℕ) (a code : ℕ) (F : Found w a code) where
  pub task_listed : (write : Bool) (i first : ℕ) → code_kind code ≡ 0 → i ≡ code_subject code → first ≡ rank_at (body_of w) a * (body_of w).regions →
      map (λ g. first + g) (regions_used w write i) ≡ places_of (body_of w) write a
  unfolding places_of regions_used reads_of writes_of copy
  task_listed write i first z s e =
      ap (λ (k : ℕ). map (λ g. k + g) (regions_used w write i)) (e ∙ ap (λ (x : Item). item_rank (body_of w) x * (body_of w).regions) is_task) ∙ go write
    where
      is_task : item_at (body_of w) a ≡ task i
      is_task = found_task w a code F z ∙ ap task (sym s)

      go : (write : Bool) → map (λ g. (body_of w).rank i * (body_of w).regions + g) (regions_used w write i) ≡ places_of (body_of w) write a
      go true = sym (ap (writes_of (body_of w) a) is_task)
      go false = sym (ap (reads_of (body_of w) a) is_task)

  pub moved_listed : (write : Bool) (at first g : ℕ) (kind : ℕ) → kind ≡ code_kind code → (kind ≡ 0 → ⊥) → at ≡ slot_of kind a →
      first ≡ rank_at (body_of w) a * (body_of w).regions → g ≡ code_subject code →
      places_moved (eqb kind 2) write at (first + g) ≡ places_of (body_of w) write a
  unfolding places_of places_moved reads_of writes_of copy slot
  moved_listed write at first g kind c z s e u = go (item_at (body_of w) a) refl (c ∙ found_kind w a code F) (u ∙ found_subject w a code F) write
    where
      go : (x : Item) → item_at (body_of w) a ≡ x → kind ≡ kind_of x → g ≡ subject_of x → (write : Bool) →
          places_moved (eqb kind 2) write at (first + g) ≡ places_of (body_of w) write a
      go (task i) q k v b = absurd (z k)
      go (send i h q') q k v b =
          let y : at ≡ slot a = omega arith in
          let f : first + g ≡ copy (body_of w) ((body_of w).rank i) h = ap₂ ◌+◌ (e ∙ ap (λ (x : Item). item_rank (body_of w) x * (body_of w).regions) q) v in
          rw (k, y, f, q) (one b)
        where
          one : (b : Bool) → places_moved false b (slot a) (copy (body_of w) ((body_of w).rank i) h) ≡ cond b (writes_of (body_of w) a (send i h q')) (reads_of (body_of w) a (send i h q'))
          one true = refl
          one false = refl
      go (receive i h q') q k v b =
          let y : at ≡ slot (a - 1) = omega (arith, receive_least w a code F (sym c ∙ k)) in
          let f : first + g ≡ copy (body_of w) q' h = ap₂ ◌+◌ (e ∙ ap (λ (x : Item). item_rank (body_of w) x * (body_of w).regions) q) v in
          rw (k, y, f, q) (one b)
        where
          one : (b : Bool) → places_moved true b (slot (a - 1)) (copy (body_of w) q' h) ≡ cond b (writes_of (body_of w) a (receive i h q')) (reads_of (body_of w) a (receive i h q'))
          one true = refl
          one false = refl

-- eight words of a padded part are lent behind its numbers, and come back as a padded list; the
-- list's length is put behind them
module _ (N : ℕ) (L l table : List ℕ) (r e : ℕ) (T : table ≡ padded N L) (size : length L ≡ r) (end : e ≡ r + 8) (room : r + 9 ≤ N) where
  whole : table ≡ L ++ replicate (N - r) 0
  whole = T ∙ (sym (padded_zeros N L (omega arith)) ∙ ap (λ (n : ℕ). L ++ replicate (N - n) 0) size)

  front : take r table ≡ L
  front = ap (take r) whole ∙ take_at L (replicate (N - r) 0) r size

  behind : drop r table ≡ replicate (N - r) 0
  behind = ap (drop r) whole ∙ drop_at L (replicate (N - r) 0) r size

  eight : e - r ≡ 8
  eight = omega arith

  pub row_lent : take (e - r) (drop r table) ≡ replicate 8 0
  row_lent = rw (eight, behind) (take_zeros 8 (N - r) (omega arith))

  rest : drop (e - r) (drop r table) ≡ 0 ∷ replicate (N - (r + 9)) 0
  rest = let k : (N - r) - 8 ≡ suc (N - (r + 9)) = omega arith in rw (eight, behind) (drop_zeros 8 (N - r) (omega arith) ∙ rw k)

  pub row_more : (ys : List ℕ) (c at : ℕ) → ys ≡ padded 8 l → c ≡ length l → at ≡ r + 8 →
      set (take r table ++ (ys ++ drop (e - r) (drop r table))) at c ≡ padded N (L ++ place_row l)
  unfolding place_row
  row_more ys c at y u v =
      let Z : List ℕ = replicate (N - (r + 9)) 0 in
      let long : length (L ++ ys) ≡ at = length-append L ys ∙ omega (arith, ap length y, length_padded 8 l) in
      let most : length (L ++ (ys ++ (c ∷ []))) ≡ r + 9 = length-append L (ys ++ (c ∷ [])) ∙ omega (arith, length-append ys (c ∷ []), ap length y, length_padded 8 l) in
      rw (front, rest, ← y, ← u) (
      ap (λ (t : List ℕ). set t at c) (sym (append_assoc L ys (0 ∷ Z)))
      ∙ (set_at (L ++ ys) 0 Z c at long
      ∙ (regroup L ys c Z ∙ (ap (λ (n : ℕ). (L ++ (ys ++ (c ∷ []))) ++ replicate (N - n) 0) (sym most) ∙ padded_zeros N (L ++ (ys ++ (c ∷ []))) (omega (arith, most)))))
      )
    where
      regroup : (xs ys : List ℕ) (c : ℕ) (zs : List ℕ) → (xs ++ ys) ++ (c ∷ zs) ≡ (xs ++ (ys ++ (c ∷ []))) ++ zs
      regroup xs ys c zs = simp append_assoc

-- the loop of `list_places`
module _ (f : ℕ → List ℕ) where
  pub length_rows : (a : ℕ) → length (rows_before f a) ≡ 9 * a
  unfolding rows_before collect place_row
  length_rows zero = refl
  length_rows (suc a) =
      length-append (rows_before f a) (place_row (f a))
      ∙ omega (arith, length_rows a, length-append (padded 8 (f a)) (length (f a) ∷ []), length_padded 8 (f a))

  pub rows_none : (N : ℕ) (t table : List ℕ) → length t ≡ N → table ≡ replicate (length t) 0 → table ≡ padded N (rows_before f 0)
  unfolding rows_before collect
  rows_none N t table l h =
      let e : N - 0 ≡ N = omega arith in
      h ∙ (ap (λ (k : ℕ). replicate {A = ℕ} k 0) (l ∙ sym e) ∙ padded_zeros N [] (omega arith))

  pub rows_more : (N a : ℕ) (t : List ℕ) → t ≡ padded N (rows_before f a ++ place_row (f a)) → t ≡ padded N (rows_before f (a + 1))
  unfolding rows_before
  rows_more N a t h = h ∙ ap (padded N) (sym (collect_next (λ b. place_row (f b)) a))

  pub rows_done : (B : Body) (n a : ℕ) (t : List ℕ) → t ≡ padded list_words (rows_before f a) → n ≡ item_count B → n ≤ a → a ≤ n → t ≡ place_rows B f
  unfolding place_rows rows_before
  rows_done B n a t h e l m = let k : a ≡ item_count B = omega arith in h ∙ ap (λ (j : ℕ). padded list_words (collect j (λ b. place_row (f b)))) k

-- `put_places`
pub rows_added : (B : Body) (f : ℕ → List ℕ) (a e : ℕ) (xs ys : List ℕ) → e ≡ a + list_words → e ≤ length xs → ys ≡ place_rows B f →
    Added (place_rows B f) a xs e (take a xs ++ (ys ++ drop (e - a) (drop a xs)))
unfolding place_rows
rows_added B f a e xs ys h k y =
    added_same y (lent_added a e xs ys (omega arith) k (ap length y ∙ (length_padded list_words (collect (item_count B) (λ b. place_row (f b))) ∙ omega arith)))
