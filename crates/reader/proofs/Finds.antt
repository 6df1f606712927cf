-- What a reader finds in the words that it holds.
use Prim.Native.Nat.{ℕ, suc, ◌+◌, ◌/◌, ◌%◌, ◌≤◌, ◌<◌}
use mathlib.Core.Path.{◌≡◌, refl, sym, ap, ◌∙◌}
use mathlib.Core.Bool.{not}
use mathlib.Core.List.{List, [], ◌∷◌}
use native.Mathlib.Omega.{arith}
use borrow.Author.Tests.{leb-true, ltb-true}
use lib.Dec.{eqb}
use lib.ListN.{length, get_or, length-append, get_or-map}
use lib.Seq.{get_or-append_seam}
use Rattle.text.specs.declared.Mode.{Mode}
use Rattle.finite.specs.Below.{any_below, count_below}
use Rattle.finite.specs.Lists.{mem}
use Rattle.finite.proofs.Below.{any_ext, count_ext}
use Rattle.finite.proofs.Tabulate.{map_tabulate, mem_tabulate, tabulate_list}
use Rattle.plan.specs.Layout.{access_at, accesses_of, at, is_read, region_at, rank_index, kernel_index, accesses_index, access_index, kernel_of, task_words}
use Rattle.plan.specs.Limits.{max_regions, max_tasks}
use Rattle.reading.specs.Plan.{Access, Plan, Task, access_word, mode_word, named, no_task, read_count, read_mode, task_word}
use Rattle.reading.specs.Valid.{access_fits}
use Rattle.reading.specs.Reading.{closed, opened, with_task}
use Rattle.reading.proofs.Back.{access_split, no_access, word_at_lem}
use Rattle.reading.proofs.Forms.{count_tabulate}
use Rattle.reading.proofs.Limits.{Opens}
use Rattle.reading.proofs.Lists.{every_at}
use Rattle.reader.proofs.Held.{held}
use Rattle.reader.proofs.Writes.{at_word}

mode_read : (m : Mode) → read_mode m ≡ not (eqb (mode_word m) 1)
mode_read Mode.In = refl
mode_read Mode.Out = refl
mode_read Mode.Inout = refl

-- with no task open
pub record Closed (P : Plan) (w : List ℕ) : Type 0 where
  pub ranks : at w 1 ≡ P.ranks
  pub regions : at w 2 ≡ P.regions
  pub tasks : at w 3 ≡ length P.tasks

pub closed_reads : (P : Plan) → Closed P (held (closed P))
closed_reads P = record { ranks = word_at_lem P 1 (omega arith); regions = word_at_lem P 2 (omega arith); tasks = word_at_lem P 3 (omega arith) }

-- with a task open: it is the last of the tasks that the words count
pub record Open (P : Plan) (t : Task) (w : List ℕ) : Type 0 where
  pub regions_of_lem : at w 2 ≡ P.regions
  pub tasks : at w 3 ≡ length P.tasks + 1
  pub kernel : kernel_of w (length P.tasks) ≡ t.kernel
  pub count : accesses_of w (length P.tasks) ≡ length t.accesses
  pub names : (g : ℕ) → mem g (named t.accesses) ≡ any_below (length t.accesses) (λ a. eqb g (region_at w (length P.tasks) a))
  pub reading : read_count t.accesses ≡ count_below (length t.accesses) (is_read w (length P.tasks))

module _ (P : Plan) (t : Task) (few : length P.tasks < max_tasks) (low : P.regions ≤ max_regions) (o : Opens P.ranks P.regions t) where
  abbrev N : ℕ
  N = length P.tasks

  abbrev A : ℕ
  A = length t.accesses

  abbrev w : List ℕ
  w = held (opened P t)

  room : A ≤ 8
  room = leb-true _ _ o.count

  word_of_lem : (i j : ℕ) → j < task_words → i ≡ rank_index N + j → at w i ≡ task_word t j
  word_of_lem i j h e =
      word_at_lem (with_task P t) i (omega arith) ∙ at_word (with_task P t) i N j h e ∙ ap (λ u. task_word u j) (get_or-append_seam P.tasks t [] no_task)

  access_of : (a : ℕ) → a < A → access_at w N a ≡ access_word (get_or t.accesses a no_access)
  access_of a h =
      let r = room in
      word_of_lem (access_index N a) (suc (suc (suc (suc a)))) (omega arith) (omega arith) ∙ get_or-map access_word t.accesses a no_access

  region_low : (a : ℕ) → a < A → (get_or t.accesses a no_access).region < max_regions
  region_low a h = let r : (get_or t.accesses a no_access).region < P.regions = ltb-true _ _ (every_at (access_fits P.regions) t.accesses a no_access o.accesses h) in omega arith

  region_of : (a : ℕ) → a < A → (get_or t.accesses a no_access).region ≡ region_at w N a
  region_of a h = let x = get_or t.accesses a no_access in sym (ap (λ (c : ℕ). c % 128) (access_of a h) ∙ (access_split x.mode x.region (region_low a h)).1)

  read_of : (a : ℕ) → a < A → read_mode (get_or t.accesses a no_access).mode ≡ is_read w N a
  read_of a h =
      let x = get_or t.accesses a no_access in
      mode_read x.mode ∙ sym (ap (λ (c : ℕ). not (eqb c 1)) (ap (λ (c : ℕ). c / 128) (access_of a h) ∙ (access_split x.mode x.region (region_low a h)).0))

  abbrev nth : ℕ → Access
  nth a = get_or t.accesses a no_access

  named_of : (g : ℕ) → mem g (named t.accesses) ≡ any_below A (λ a. eqb g (region_at w N a))
  named_of g =
      ap (λ l. mem g (named l)) (sym (tabulate_list t.accesses no_access))
      ∙ ap (mem g) (map_tabulate (λ x. x.region) A nth)
      ∙ mem_tabulate g A (λ a. (nth a).region)
      ∙ any_ext A (λ a. eqb g (nth a).region) (λ a. eqb g (region_at w N a)) (λ a k. ap (eqb g) (region_of a k))

  reads_of : read_count t.accesses ≡ count_below A (is_read w N)
  reads_of =
      ap read_count (sym (tabulate_list t.accesses no_access))
      ∙ count_tabulate A nth (λ a. read_mode (nth a).mode) (λ i. refl)
      ∙ count_ext A (λ a. read_mode (nth a).mode) (is_read w N) read_of

  pub open_reads : Open P t w
  open_reads =
      record {
        regions_of_lem = word_at_lem (with_task P t) 2 (omega arith);
        tasks = word_at_lem (with_task P t) 3 (omega arith) ∙ length-append P.tasks (t ∷ []);
        kernel = word_of_lem (kernel_index N) 1 (omega arith) (omega arith);
        count = word_of_lem (accesses_index N) 3 (omega arith) (omega arith);
        names = named_of;
        reading = reads_of;
      }
