-- What a record writes into the words that a reader holds.
use Prim.Native.Nat.{ℕ, zero, suc, ◌+◌, ◌-◌, ◌*◌, ◌/◌, ◌%◌, ◌≤◌, ◌<◌}
use mathlib.Core.Path.{◌≡◌, refl, sym, ap, ◌∙◌, subst}
use mathlib.Core.Bool.{false, cond}
use mathlib.Core.List.{List, [], ◌∷◌, ◌++◌, map}
use native.Mathlib.Omega.{arith}
use native.Mathlib.Decide.{dec_lt, ℕ_discrete}
use borrow.Author.Tests.{eq-eqb, ne_eqb}
use lib.Dec.{eqb}
use lib.ListN.{length, get_or, set, replicate, length-set, length-append, length-replicate, get_or-map, get_or-eq_default}
use lib.Seq.{get_or-append_seam, get_or-set_other, get_or-set_same}
use Rattle.text.specs.declared.Mode.{Mode}
use Rattle.finite.specs.Lists.{mem, tabulate}
use Rattle.finite.proofs.Tabulate.{tabulate_ext, tabulate_list}
use Rattle.finite.proofs.Tests.{eqb_comm, or_parts}
use Rattle.plan.specs.Layout.{plan_words, rank_index, kernel_index, constant_index, accesses_index, access_index, task_words}
use Rattle.plan.specs.Limits.{max_regions, max_tasks}
use Rattle.reading.specs.Plan.{Access, Plan, Start, Task, access_word, mode_word, no_task, start_at, started, task_at, task_word, word_at, words_of}
use Rattle.reading.specs.Reading.{closed, first, new_task, opened, with_access, with_loop, with_start, with_task}
use Rattle.reading.proofs.Back.{no_access, start_word, task_word_lem, word_at_lem}
use Rattle.reading.proofs.Forms.{none_word}
use Rattle.reading.proofs.Theorems.{words_size, zero_at}
use Rattle.reader.proofs.Held.{held}

pub miss : (l : List ℕ) (i v x : ℕ) → (x ≡ i → ⊥) → get_or (set l i v) x 0 ≡ get_or l x 0
miss l i v x h = get_or-set_other l i x v 0 h

pub hit : (l : List ℕ) (i v x : ℕ) → i < length l → x ≡ i → get_or (set l i v) x 0 ≡ v
hit l i v x h e = ap (λ (k : ℕ). get_or (set l i v) k 0) e ∙ get_or-set_same l i v 0 h

-- the places of a plan
pub data Place (k : ℕ) : Type 0 where
  header : k < 4 → Place k
  cell : (g : ℕ) → g < max_regions → k ≡ 4 + g → Place k
  word : (t j : ℕ) → t < max_tasks → j < task_words → k ≡ rank_index t + j → Place k

pub place : (k : ℕ) → k < plan_words → Place k
place k h =
    elim (dec_lt k 4) [
      | yes a ↦ header a
      | no a ↦ elim (dec_lt k (rank_index 0)) [
        | yes b ↦ cell (k - 4) (omega arith) (omega arith)
        | no b ↦ word ((k - rank_index 0) / task_words) ((k - rank_index 0) % task_words) (omega arith) (omega arith) (omega arith)
      ]
    ]

pub words_ext : (l : List ℕ) (P : Plan) → length l ≡ plan_words → ((k : ℕ) → k < plan_words → Place k → get_or l k 0 ≡ word_at P k) → words_of P ≡ l
unfolding words_of
words_ext l P s h =
    tabulate_ext plan_words (word_at P) (λ i. get_or l i 0) (λ i m. sym (h i m (place i m)))
    ∙ subst (λ (n : ℕ). tabulate n (λ i. get_or l i 0) ≡ l) s (tabulate_list l 0)

get_snoc_miss : {X : Type 0} (l : List X) (x d : X) (i : ℕ) → (i ≡ length l → ⊥) → get_or (l ++ (x ∷ [])) i d ≡ get_or l i d
get_snoc_miss [] x d zero h = absurd (h refl)
get_snoc_miss [] x d (suc i) h = refl
get_snoc_miss (y ∷ l) x d zero h = refl
get_snoc_miss (y ∷ l) x d (suc i) h = get_snoc_miss l x d i (λ e. h (ap suc e))

-- a plan's header, and its words at a place
header_same : (P Q : Plan) (k : ℕ) → k < 4 → P.passes ≡ Q.passes → P.ranks ≡ Q.ranks → P.regions ≡ Q.regions → length P.tasks ≡ length Q.tasks → word_at P k ≡ word_at Q k
header_same P Q zero h a b c d = a
header_same P Q (suc zero) h a b c d = b
header_same P Q (suc (suc zero)) h a b c d = c
header_same P Q (suc (suc (suc zero))) h a b c d = d
header_same P Q (suc (suc (suc (suc k)))) h a b c d = absurd (omega arith)

at_cell : (P : Plan) (k g : ℕ) → g < max_regions → k ≡ 4 + g → word_at P k ≡ start_at P.starts g
at_cell P k g h e = ap (word_at P) e ∙ start_word P g h

pub at_word : (P : Plan) (k t j : ℕ) → j < task_words → k ≡ rank_index t + j → word_at P k ≡ task_word (task_at P.tasks t) j
at_word P k t j h e = ap (word_at P) e ∙ task_word_lem P t j h

-- `loop`
pub loop_writes : (p q n : ℕ) → held (closed (with_loop p q n)) ≡ set (set (set (held first) 0 p) 1 q) 2 n
loop_writes p q n = words_ext (set (set (set z 0 p) 1 q) 2 n) (with_loop p q n) size at
  where
    z : List ℕ
    z = replicate plan_words 0

    size : length (set (set (set z 0 p) 1 q) 2 n) ≡ plan_words
    size = length-set (set (set z 0 p) 1 q) 2 n ∙ length-set (set z 0 p) 1 q ∙ length-set z 0 p ∙ length-replicate {A = ℕ} plan_words 0

    past : (k : ℕ) → 3 ≤ k → get_or (set (set (set z 0 p) 1 q) 2 n) k 0 ≡ 0
    past k h = miss (set (set z 0 p) 1 q) 2 n k (λ e. omega arith) ∙ miss (set z 0 p) 1 q k (λ e. omega arith) ∙ miss z 0 p k (λ e. omega arith) ∙ zero_at plan_words k

    top : (k : ℕ) → k < 4 → get_or (set (set (set z 0 p) 1 q) 2 n) k 0 ≡ word_at (with_loop p q n) k
    top zero h = refl
    top (suc zero) h = refl
    top (suc (suc zero)) h = refl
    top (suc (suc (suc zero))) h = refl
    top (suc (suc (suc (suc k)))) h = absurd (omega arith)

    at : (k : ℕ) → k < plan_words → Place k → get_or (set (set (set z 0 p) 1 q) 2 n) k 0 ≡ word_at (with_loop p q n) k
    at k h (header a) = top k a
    at k h (cell g a e) = past k (omega arith) ∙ sym (at_cell (with_loop p q n) k g a e)
    at k h (word t j a b e) = past k (omega arith) ∙ sym (at_word (with_loop p q n) k t j b e ∙ none_word j)

-- `start`
start_snoc_hit : (l : List Start) (g v : ℕ) → mem g (started l) ≡ false → start_at (l ++ (record { region = g; value = v } ∷ [])) g ≡ v
unfolding mem
start_snoc_hit [] g v h = rw (eq-eqb g g refl)
start_snoc_hit (s ∷ l) g v h = let a = or_parts (eqb g s.region) (mem g (started l)) h in rw (eqb_comm s.region g ∙ a.0) (start_snoc_hit l g v a.1)

start_snoc_miss : (l : List Start) (g v x : ℕ) → (x ≡ g → ⊥) → start_at (l ++ (record { region = g; value = v } ∷ [])) x ≡ start_at l x
start_snoc_miss [] g v x h = rw (ne_eqb g x (λ e. h (sym e)))
start_snoc_miss (s ∷ l) g v x h = ap (λ (r : ℕ). cond (eqb s.region x) s.value r) (start_snoc_miss l g v x h)

pub start_writes : (P : Plan) (g v : ℕ) → g < max_regions → mem g (started P.starts) ≡ false → held (closed (with_start P g v)) ≡ set (held (closed P)) (4 + g) v
start_writes P g v h u = words_ext (set (words_of P) (4 + g) v) (with_start P g v) (length-set (words_of P) (4 + g) v ∙ words_size P) at
  where
    at : (k : ℕ) → k < plan_words → Place k → get_or (set (words_of P) (4 + g) v) k 0 ≡ word_at (with_start P g v) k
    at k m (header a) = miss (words_of P) (4 + g) v k (λ e. omega arith) ∙ word_at_lem P k m ∙ header_same P (with_start P g v) k a refl refl refl refl
    at k m (cell x a e) =
        elim (ℕ_discrete x g) [
          | yes q ↦ hit (words_of P) (4 + g) v k (omega (arith, words_size P)) (omega arith)
              ∙ sym (at_cell (with_start P g v) k x a e ∙ ap (start_at (with_start P g v).starts) q ∙ start_snoc_hit P.starts g v u)
          | no q ↦ miss (words_of P) (4 + g) v k (λ r. q (omega arith)) ∙ word_at_lem P k m ∙ at_cell P k x a e
              ∙ sym (at_cell (with_start P g v) k x a e ∙ start_snoc_miss P.starts g v x q)
        ]
    at k m (word t j a b e) = miss (words_of P) (4 + g) v k (λ r. omega arith) ∙ word_at_lem P k m ∙ at_word P k t j b e ∙ sym (at_word (with_start P g v) k t j b e)

-- `begin`
module _ (P : Plan) (q k c : ℕ) (few : length P.tasks < max_tasks) where
  abbrev T : ℕ
  T = length P.tasks

  abbrev w1 : List ℕ
  w1 = set (held (closed P)) 3 (T + 1)

  abbrev w2 : List ℕ
  w2 = set w1 (rank_index T) q

  abbrev w3 : List ℕ
  w3 = set w2 (kernel_index T) k

  abbrev w4 : List ℕ
  w4 = set w3 (constant_index T) c

  abbrev begun : Plan
  begun = with_task P (new_task q k c)

  size : (length w1 ≡ plan_words) × (length w2 ≡ plan_words) × (length w3 ≡ plan_words) × (length w4 ≡ plan_words)
  size = let e = words_size P in (simp length-set e, simp length-set e, simp length-set e, simp length-set e)

  other : (x : ℕ) → x < plan_words → (x ≡ 3 → ⊥) → (x ≡ rank_index T → ⊥) → (x ≡ kernel_index T → ⊥) → (x ≡ constant_index T → ⊥) → get_or w4 x 0 ≡ word_at P x
  other x h a b d e = miss w3 (constant_index T) c x e ∙ miss w2 (kernel_index T) k x d ∙ miss w1 (rank_index T) q x b ∙ miss (words_of P) 3 (T + 1) x a ∙ word_at_lem P x h

  top : (x : ℕ) → x < 4 → get_or w4 x 0 ≡ word_at begun x
  top zero h = other 0 (omega arith) (λ e. omega arith) (λ e. omega arith) (λ e. omega arith) (λ e. omega arith)
  top (suc zero) h = other 1 (omega arith) (λ e. omega arith) (λ e. omega arith) (λ e. omega arith) (λ e. omega arith)
  top (suc (suc zero)) h = other 2 (omega arith) (λ e. omega arith) (λ e. omega arith) (λ e. omega arith) (λ e. omega arith)
  top (suc (suc (suc zero))) h =
      miss w3 (constant_index T) c 3 (λ e. omega arith) ∙ miss w2 (kernel_index T) k 3 (λ e. omega arith) ∙ miss w1 (rank_index T) q 3 (λ e. omega arith)
      ∙ hit (words_of P) 3 (T + 1) 3 (omega (arith, words_size P)) refl ∙ sym (length-append P.tasks (new_task q k c ∷ []))
  top (suc (suc (suc (suc x)))) h = absurd (omega arith)

  new_word : (x j : ℕ) → j < task_words → x ≡ rank_index T + j → get_or w4 x 0 ≡ task_word (new_task q k c) j
  new_word x zero h e = miss w3 (constant_index T) c x (λ r. omega arith) ∙ miss w2 (kernel_index T) k x (λ r. omega arith) ∙ hit w1 (rank_index T) q x (omega (arith, size.0)) (omega arith)
  new_word x (suc zero) h e = miss w3 (constant_index T) c x (λ r. omega arith) ∙ hit w2 (kernel_index T) k x (omega (arith, size.1)) (omega arith)
  new_word x (suc (suc zero)) h e = hit w3 (constant_index T) c x (omega (arith, size.2)) (omega arith)
  new_word x (suc (suc (suc j))) h e =
      other x (omega arith) (λ r. omega arith) (λ r. omega arith) (λ r. omega arith) (λ r. omega arith)
      ∙ at_word P x T (suc (suc (suc j))) h e ∙ ap (λ t. task_word t (suc (suc (suc j)))) (get_or-eq_default P.tasks no_task (let m : length P.tasks ≤ T = omega arith in m))
      ∙ none_word (suc (suc (suc j))) ∙ sym (empty j)
    where
      empty : (j : ℕ) → task_word (new_task q k c) (suc (suc (suc j))) ≡ 0
      empty zero = refl
      empty (suc j) = refl

  begun_at : (x : ℕ) → x < plan_words → Place x → get_or w4 x 0 ≡ word_at begun x
  begun_at x h (header a) = top x a
  begun_at x h (cell g a e) = other x h (λ r. omega arith) (λ r. omega arith) (λ r. omega arith) (λ r. omega arith) ∙ at_cell P x g a e ∙ sym (at_cell begun x g a e)
  begun_at x h (word t j a b e) =
      elim (ℕ_discrete t T) [
        | yes r ↦ new_word x j b (omega arith)
            ∙ sym (at_word begun x t j b e ∙ ap (λ (i : ℕ). task_word (task_at begun.tasks i) j) r ∙ ap (λ u. task_word u j) (get_or-append_seam P.tasks (new_task q k c) [] no_task))
        | no r ↦ other x h (λ z. omega arith) (λ z. r (omega arith)) (λ z. r (omega arith)) (λ z. r (omega arith))
            ∙ at_word P x t j b e ∙ sym (at_word begun x t j b e ∙ ap (λ u. task_word u j) (get_snoc_miss P.tasks (new_task q k c) no_task t r))
      ]

  pub begin_writes : held (opened P (new_task q k c)) ≡ w4
  begin_writes = words_ext w4 begun size.3 begun_at

-- an access
module _ (P : Plan) (t : Task) (m : Mode) (g : ℕ) (few : length P.tasks < max_tasks) (room : length t.accesses < 8) where
  abbrev N : ℕ
  N = length P.tasks

  abbrev A : ℕ
  A = length t.accesses

  abbrev x1 : List ℕ
  x1 = set (held (opened P t)) (access_index N A) (g + 128 * mode_word m)

  abbrev x2 : List ℕ
  x2 = set x1 (accesses_index N) (A + 1)

  abbrev old : Plan
  old = with_task P t

  abbrev new : Plan
  new = with_task P (with_access t m g)

  xsize : (length x1 ≡ plan_words) × (length x2 ≡ plan_words)
  xsize = let e = words_size old in (simp length-set e, simp length-set e)

  xother : (x : ℕ) → x < plan_words → (x ≡ access_index N A → ⊥) → (x ≡ accesses_index N → ⊥) → get_or x2 x 0 ≡ word_at old x
  xother x h a b = miss x1 (accesses_index N) (A + 1) x b ∙ miss (words_of old) (access_index N A) (g + 128 * mode_word m) x a ∙ word_at_lem old x h

  abbrev access : Access
  access = record { mode = m; region = g }

  same_count : length old.tasks ≡ length new.tasks
  same_count = length-append P.tasks (t ∷ []) ∙ sym (length-append P.tasks (with_access t m g ∷ []))

  old_task : task_at old.tasks N ≡ t
  old_task = get_or-append_seam P.tasks t [] no_task

  new_task_lem : task_at new.tasks N ≡ with_access t m g
  new_task_lem = get_or-append_seam P.tasks (with_access t m g) [] no_task

  code_hit : get_or (map access_word (with_access t m g).accesses) A 0 ≡ g + 128 * mode_word m
  code_hit =
      get_or-map access_word (with_access t m g).accesses A no_access
      ∙ ap access_word (get_or-append_seam t.accesses access [] no_access)

  code_miss : (a : ℕ) → (a ≡ A → ⊥) → get_or (map access_word (with_access t m g).accesses) a 0 ≡ get_or (map access_word t.accesses) a 0
  code_miss a h =
      get_or-map access_word (with_access t m g).accesses a no_access
      ∙ ap access_word (get_snoc_miss t.accesses access no_access a h)
      ∙ sym (get_or-map access_word t.accesses a no_access)

  open_word : (x j : ℕ) → j < task_words → x ≡ rank_index N + j → get_or x2 x 0 ≡ task_word (with_access t m g) j
  open_word x zero h e = xother x (omega arith) (λ r. omega arith) (λ r. omega arith) ∙ at_word old x N 0 h e ∙ ap (λ u. task_word u 0) old_task
  open_word x (suc zero) h e = xother x (omega arith) (λ r. omega arith) (λ r. omega arith) ∙ at_word old x N 1 h e ∙ ap (λ u. task_word u 1) old_task
  open_word x (suc (suc zero)) h e = xother x (omega arith) (λ r. omega arith) (λ r. omega arith) ∙ at_word old x N 2 h e ∙ ap (λ u. task_word u 2) old_task
  open_word x (suc (suc (suc zero))) h e =
      hit x1 (accesses_index N) (A + 1) x (omega (arith, xsize.0)) (omega arith) ∙ sym (length-append t.accesses (access ∷ []))
  open_word x (suc (suc (suc (suc a)))) h e =
      elim (ℕ_discrete a A) [
        | yes r ↦ miss x1 (accesses_index N) (A + 1) x (λ z. omega arith) ∙ hit (words_of old) (access_index N A) (g + 128 * mode_word m) x (omega (arith, words_size old)) (omega arith)
            ∙ sym (ap (λ (i : ℕ). get_or (map access_word (with_access t m g).accesses) i 0) r ∙ code_hit)
        | no r ↦ xother x (omega arith) (λ z. r (omega arith)) (λ z. omega arith) ∙ at_word old x N (suc (suc (suc (suc a)))) h e
            ∙ ap (λ u. task_word u (suc (suc (suc (suc a))))) old_task ∙ sym (code_miss a r)
      ]

  open_at : (x : ℕ) → x < plan_words → Place x → get_or x2 x 0 ≡ word_at new x
  open_at x h (header a) = xother x h (λ r. omega arith) (λ r. omega arith) ∙ header_same old new x a refl refl refl same_count
  open_at x h (cell y a e) = xother x h (λ r. omega arith) (λ r. omega arith) ∙ at_cell old x y a e ∙ sym (at_cell new x y a e)
  open_at x h (word u j a b e) =
      elim (ℕ_discrete u N) [
        | yes r ↦ open_word x j b (omega arith) ∙ sym (at_word new x u j b e ∙ ap (λ (i : ℕ). task_word (task_at new.tasks i) j) r ∙ ap (λ v. task_word v j) new_task_lem)
        | no r ↦ xother x h (λ z. r (omega arith)) (λ z. r (omega arith)) ∙ at_word old x u j b e
            ∙ ap (λ v. task_word v j) (get_snoc_miss P.tasks t no_task u r)
            ∙ sym (at_word new x u j b e ∙ ap (λ v. task_word v j) (get_snoc_miss P.tasks (with_access t m g) no_task u r))
      ]

  pub access_writes : held (opened P (with_access t m g)) ≡ x2
  access_writes = words_ext x2 new xsize.1 open_at
