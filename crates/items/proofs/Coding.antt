-- The numbers that are put into the item table are those of the item list.
use Prim.Native.Nat.{ℕ, ◌+◌, ◌*◌, ◌/◌, ◌%◌, ◌^◌, ◌≤◌, ◌<◌}
use mathlib.Core.Path.{◌≡◌, refl, sym, ◌∙◌, ap, ap₂}
use mathlib.Core.Bool.{Bool, true, false, cond, not, ◌&&◌}
use mathlib.Core.List.{List, [], ◌∷◌, ◌++◌, map, flat_map}
use native.Mathlib.Omega.{arith}
use borrow.Author.Tests.{lt-ltb, le-ltb, not-false}
use lib.Dec.{eqb}
use lib.ListN.{length, get_or, drop, length-map, get_or-append}
use Rattle.std.specs.Prelude.{Some, None}
use Rattle.finite.specs.Lists.{gather, collect}
use Rattle.finite.specs.Put.{Put}
use Rattle.finite.proofs.Collect.{collect_range, collect_ext, collect_beyond, collect_never, map_collect, flat_map_collect, flat_map_gather, map_flat_map, get_d_map}
use Rattle.body.specs.Body.{Body}
use Rattle.body.specs.Transfers.{Transfer, transfer, transferred, transfers_of, wrapped}
use Rattle.body.specs.Items.{task, fewer, pair_of, block, item_list, item_count, item_at}
use Rattle.body.proofs.ItemCount.{items_counted}
use Rattle.plan.specs.Limits.{max_ranks, max_tasks, max_accesses}
use Rattle.plan.specs.Sizes.{max_items}
use Rattle.plan.specs.Layout.{plan_words, ranks_of, tasks_of, rank_of, accesses_of, region_at, is_written, body_of}
use Rattle.plan.specs.Code.{code_from}
use Rattle.plan.specs.Form.{in_form, words_ok}
use Rattle.transfers.specs.Wanted.{masks_by, wanted_at, wrapped_at, wanted_masks, wrapped_masks}
use Rattle.plan.proofs.Facts.{Formed, formed}
use Rattle.transfers.proofs.Masks.{mask_bit, mask_at}
use Rattle.items.specs.Codes.{pair_codes, pair_if, mask_codes, access_codes, task_codes, all_codes, Coded}
use Rattle.graph.specs.Table.{code_of, table_of, Graph}
use Rattle.graph.proofs.Small.{form_words, form_transfers}

-- bit q of mask max_accesses i + a is set where the test p of task, access and rank holds
abbrev MasksOf : (p : ℕ → ℕ → ℕ → Bool) (masks : List ℕ) → Type 0
MasksOf p masks = (i a q : ℕ) → i < max_tasks → a < max_accesses → q < max_ranks → get_or masks (max_accesses * i + a) 0 / 2 ^ q % 2 ≡ cond (p i a q) 1 0

masks_are : (p : ℕ → ℕ → ℕ → Bool) (masks : List ℕ) → masks ≡ masks_by p → MasksOf p masks
masks_are p masks e i a q l m h =
    ap (λ (x : List ℕ). get_or x (max_accesses * i + a) 0 / 2 ^ q % 2) e ∙ (ap (λ (x : ℕ). x / 2 ^ q % 2) (mask_at p i a l m) ∙ mask_bit p i a q h)

-- the two numbers of a transfer
codes_of : Body → Transfer → List ℕ
codes_of B t = map (code_of B) (pair_of t)

codes_pair : (B : Body) (i g q : ℕ) → codes_of B (transfer i g q) ≡ pair_codes (cond (wrapped B i g q) 1 0) (B.rank i) g q
unfolding codes_of code_of fewer
codes_pair B i g q = refl

-- the numbers of the transfers of region g, written by task i, to the first n ranks
region_codes : Body → ℕ → ℕ → ℕ → List ℕ
region_codes B n i g = collect n (λ q. cond (transferred B i g q) (codes_of B (transfer i g q)) [])

region_coded : (B : Body) (n i g : ℕ) → flat_map (codes_of B) (gather n (transferred B i g) (transfer i g)) ≡ region_codes B n i g
unfolding region_codes
region_coded B n i g = flat_map_gather (codes_of B) n (transferred B i g) (transfer i g)

-- the numbers of access a of task i and rank q, if that rank wants what it writes
wanted_pair : List ℕ → ℕ → ℕ → ℕ → List ℕ
wanted_pair w i a q = cond (wanted_at w i a q) (codes_of (body_of w) (transfer i (region_at w i a) q)) []

module _ (w masks wraps : List ℕ) (F : Formed w) (M : MasksOf (wanted_at w) masks) (N : MasksOf (wrapped_at w) wraps) where
  access_wanted : (i a : ℕ) → i < max_tasks → a < max_accesses → access_codes w masks wraps i a ≡ collect max_ranks (wanted_pair w i a)
  unfolding access_codes mask_codes pair_if wanted_pair wrapped_at
  access_wanted i a l m =
      collect_ext max_ranks
      (pair_if (get_or masks (max_accesses * i + a) 0) (get_or wraps (max_accesses * i + a) 0) (rank_of w i) (region_at w i a)) (wanted_pair w i a)
      (λ q n. rw (M i a q l m n, N i a q l m n, codes_pair (body_of w) i (region_at w i a) q) (by (wanted_at w i a q) (wrapped (body_of w) i (region_at w i a) q) q))
    where
      by : (v x : Bool) (q : ℕ) →
          cond (eqb (cond v 1 0) 1) (pair_codes (cond (v && x) 1 0) (rank_of w i) (region_at w i a) q) []
          ≡ cond v (pair_codes (cond x 1 0) (rank_of w i) (region_at w i a) q) []
      by true x q = refl
      by false x q = refl

  module _ (i : ℕ) (l : i < tasks_of w) where
    access_coded : (a : ℕ) → a < accesses_of w i → access_codes w masks wraps i a ≡ cond (is_written w i a) (region_codes (body_of w) (ranks_of w) i (region_at w i a)) []
    unfolding wanted_at wanted_pair region_codes
    access_coded a m = access_wanted i a (omega (arith, F.tasks_most)) (omega (arith, (F.used i l).accesses_most)) ∙ by (is_written w i a) refl
      where
        by : (b : Bool) → is_written w i a ≡ b → collect max_ranks (wanted_pair w i a) ≡ cond b (region_codes (body_of w) (ranks_of w) i (region_at w i a)) []
        by true e =
            collect_beyond max_ranks (ranks_of w) (wanted_pair w i a) F.ranks_most
            (λ q u v. rw (lt-ltb i (tasks_of w) l, lt-ltb a (accesses_of w i) m, e, le-ltb q (ranks_of w) u))
            ∙ collect_ext (ranks_of w) (wanted_pair w i a) (λ q. cond (transferred (body_of w) i (region_at w i a) q) (codes_of (body_of w) (transfer i (region_at w i a) q)) [])
            (λ q u. rw (lt-ltb i (tasks_of w) l, lt-ltb a (accesses_of w i) m, e, lt-ltb q (ranks_of w) u))
        by false e = collect_never max_ranks (wanted_pair w i a) (λ q u. rw (lt-ltb i (tasks_of w) l, lt-ltb a (accesses_of w i) m, e))

    -- the task has no access a
    access_none : (a : ℕ) → accesses_of w i ≤ a → a < max_accesses → access_codes w masks wraps i a ≡ []
    unfolding wanted_at wanted_pair
    access_none a m n =
        access_wanted i a (omega (arith, F.tasks_most)) n
        ∙ collect_never max_ranks (wanted_pair w i a) (λ q u. rw (lt-ltb i (tasks_of w) l, le-ltb a (accesses_of w i) m))

    transfers_coded : flat_map (codes_of (body_of w)) (transfers_of (body_of w) i) ≡ collect max_accesses (access_codes w masks wraps i)
    unfolding transfers_of flat_map
    transfers_coded =
        ap (flat_map (codes_of (body_of w))) (flat_map_gather of_region (accesses_of w i) (is_written w i) (region_at w i))
        ∙ (flat_map_collect (codes_of (body_of w)) (accesses_of w i) (λ a. cond (is_written w i a) (of_region (region_at w i a)) [])
        ∙ (collect_ext (accesses_of w i) (λ a. flat_map (codes_of (body_of w)) (cond (is_written w i a) (of_region (region_at w i a)) [])) (access_codes w masks wraps i)
        (λ a m. if_coded a (is_written w i a) ∙ sym (access_coded a m))
        ∙ sym (collect_beyond max_accesses (accesses_of w i) (access_codes w masks wraps i) (F.used i l).accesses_most access_none)))
      where
        of_region : ℕ → List Transfer
        of_region g = gather (ranks_of w) (transferred (body_of w) i g) (transfer i g)

        if_coded : (a : ℕ) (b : Bool) → flat_map (codes_of (body_of w)) (cond b (of_region (region_at w i a)) []) ≡ cond b (region_codes (body_of w) (ranks_of w) i (region_at w i a)) []
        if_coded a true = region_coded (body_of w) (ranks_of w) i (region_at w i a)
        if_coded a false = refl

    block_coded : map (code_of (body_of w)) (block (body_of w) i) ≡ task_codes w masks wraps i
    unfolding task_codes codes_of code_of fewer
    block_coded = ap (λ (r : List ℕ). code_from 0 (rank_of w i) 0 i ∷ r) (map_flat_map (code_of (body_of w)) pair_of (transfers_of (body_of w) i) ∙ transfers_coded)

  list_coded : all_codes w masks wraps (tasks_of w) ≡ table_of (body_of w)
  unfolding all_codes item_list
  list_coded =
      collect_ext (tasks_of w) (task_codes w masks wraps) (λ i. map (code_of (body_of w)) (block (body_of w) i)) (λ i l. sym (block_coded i l))
      ∙ (sym (map_collect (code_of (body_of w)) (tasks_of w) (block (body_of w)))
      ∙ ap (map (code_of (body_of w))) (collect_range (tasks_of w) (block (body_of w))))

form_formed : (w : List ℕ) → in_form w ≡ true → Formed w
form_formed w h = formed w (form_words w h)

items_most : (w : List ℕ) → in_form w ≡ true → item_count (body_of w) ≤ max_items
items_most w h = omega (arith, items_counted (body_of w), (form_formed w h).tasks_most, form_transfers w h)

-- a table of a plan's items, whatever stands behind them
pub table_graph : (w rest : List ℕ) → length w ≡ plan_words → in_form w ≡ true → Graph w (table_of (body_of w) ++ rest) (item_count (body_of w))
unfolding item_at
table_graph w rest long h =
    record {
      long = long;
      formed = h;
      count = refl;
      most = items_most w h;
      each = λ a k.
          get_or-append (table_of (body_of w)) rest 0 a (omega (arith, length-map (item_list (body_of w)) (code_of (body_of w))))
          ∙ get_d_map (code_of (body_of w)) (item_list (body_of w)) a (task 0) 0 k;
    }

-- words that are found in form, and the masks of their transfers
module _ (w masks wraps zeros none : List ℕ) (found : Bool) (long : length w ≡ plan_words)
    (F : (found ≡ in_form w) × (masks ≡ cond (words_ok w) (wanted_masks w) zeros) × (wraps ≡ cond (words_ok w) (wrapped_masks w) none))
    (met : not found ≡ false) where
  form : in_form w ≡ true
  form = sym F.0 ∙ not-false found met

  codes_are : all_codes w masks wraps (tasks_of w) ≡ table_of (body_of w)
  codes_are =
      list_coded w masks wraps (form_formed w form) (masks_are (wanted_at w) masks (F.1 ∙ rw (form_words w form)))
      (masks_are (wrapped_at w) wraps (F.2 ∙ rw (form_words w form)))

  codes_counted : length (all_codes w masks wraps (tasks_of w)) ≡ item_count (body_of w)
  codes_counted = ap length codes_are ∙ length-map (item_list (body_of w)) (code_of (body_of w))

  -- the items have room in the table
  pub coded : Coded w masks wraps
  coded =
      let F = form_formed w form in
      record {
        long = long;
        tasks = F.tasks_most;
        ranks = λ i k. (F.used i k).rank_most;
        room = omega (arith, codes_counted, items_most w form);
      }

  -- the answer, and what the table holds after the code has filled it
  pub table_made : (items items' : List ℕ) (r : ℕ) → Put (all_codes w masks wraps (tasks_of w)) items r items' →
      (Some r ≡ cond (in_form w) (Some (item_count (body_of w))) None)
      × (items' ≡ cond (in_form w) (table_of (body_of w) ++ drop (item_count (body_of w)) items) items)
  table_made items items' r p =
      rw (form, p.count ∙ codes_counted) (refl, p.begins ∙ ap₂ (λ (l : List ℕ) (k : ℕ). l ++ drop k items) codes_are codes_counted)
