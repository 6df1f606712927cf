-- The tables of a plan in form, with anything behind them, hold what steps by tables look at.
use Prim.Native.Nat.{ℕ, ◌+◌, ◌*◌, ◌≤◌, ◌<◌}
use mathlib.Core.Path.{◌≡◌, refl, ◌∙◌, ap}
use mathlib.Core.Bool.{true}
use mathlib.Core.List.{List, [], ◌∷◌, ◌++◌}
use native.Mathlib.Omega.{arith}
use lib.ListN.{length, get_or, take, length-append, get_or-append}
use Rattle.finite.specs.Lists.{tabulate, collect}
use Rattle.finite.proofs.Lists.{get_d_tabulate}
use Rattle.finite.proofs.Tabulate.{tabulate_ext, tabulate_list}
use Rattle.finite.proofs.Collect.{get_d_map}
use Rattle.body.specs.Body.{Body}
use Rattle.body.specs.Items.{task, item_list, item_count, item_at}
use Rattle.body.specs.Places.{system}
use Rattle.edges.specs.Tests.{edge_test}
use Rattle.waits.specs.InStep.{sources_of}
use Rattle.plan.specs.Limits.{max_accesses}
use Rattle.plan.specs.Sizes.{max_items, max_edges}
use Rattle.plan.specs.Layout.{plan_words}
use Rattle.graph.specs.Table.{code_of, table_of}
use Rattle.graph.specs.Answers.{formed_plan, plan_body}
use Rattle.graph.proofs.Small.{plan_fits, plan_small}
use Rattle.steps.proofs.Placing.{items_few}
use Rattle.prepared.specs.Tables.{first_code, first_source, first_start, first_target, first_read, first_write, prepared_words, list_words}
use Rattle.prepared.specs.Tables.{padded, place_row, targets_of, targets_before, place_rows, tables_of}
use Rattle.prepared.specs.Tables.{items_in, code_in, sources_in, start_in, target_count, place_count, place_in, places_in}
use Rattle.prepared.specs.Laws.{Prepared}
use Rattle.prepared.proofs.Parts.{behind_at, length_padded, padded_at, padded_first, rows_place, rows_count}
use Rattle.prepared.proofs.Targets.{starts_next, starts_most, target_at, targets_most}
use Rattle.prepared.proofs.Few.{reads_few, writes_few, reads_below, writes_below}

module _ (B : Body) where
  -- the parts, and what lies behind each of them
  abbrev starts : List ℕ
  starts = tabulate (item_count B + 1) (λ a. length (targets_before B a))

  abbrev rows : List ℕ
  rows = place_rows B (system B).reads ++ place_rows B (system B).writes

  abbrev from_targets : List ℕ
  from_targets = padded max_edges (targets_before B (item_count B)) ++ rows

  abbrev from_starts : List ℕ
  from_starts = padded (max_items + 1) starts ++ from_targets

  abbrev from_sources : List ℕ
  from_sources = padded max_items (tabulate (item_count B) (sources_of (system B) (edge_test B))) ++ from_starts

  abbrev from_codes : List ℕ
  from_codes = padded max_items (table_of B) ++ from_sources

  length_places : (f : ℕ → List ℕ) → length (place_rows B f) ≡ list_words
  unfolding place_rows
  length_places f = length_padded list_words (collect (item_count B) (λ a. place_row (f a)))

  pub length_tables : length (tables_of B) ≡ prepared_words
  unfolding tables_of
  length_tables =
      omega (
        arith,
        length-append (item_count B ∷ []) from_codes,
        length-append (padded max_items (table_of B)) from_sources,
        length_padded max_items (table_of B),
        length-append (padded max_items (tabulate (item_count B) (sources_of (system B) (edge_test B)))) from_starts,
        length_padded max_items (tabulate (item_count B) (sources_of (system B) (edge_test B))),
        length-append (padded (max_items + 1) starts) from_targets,
        length_padded (max_items + 1) starts,
        length-append (padded max_edges (targets_before B (item_count B))) rows,
        length_padded max_edges (targets_before B (item_count B)),
        length-append (place_rows B (system B).reads) (place_rows B (system B).writes),
        length_places (system B).reads,
        length_places (system B).writes,
      )

  from_codes_lem : (i : ℕ) → get_or (tables_of B) (first_code + i) 0 ≡ get_or from_codes i 0
  unfolding tables_of
  from_codes_lem i = behind_at (item_count B ∷ []) from_codes 1 i (first_code + i) refl refl

  from_sources_lem : (i : ℕ) → get_or (tables_of B) (first_source + i) 0 ≡ get_or from_sources i 0
  from_sources_lem i =
      let e : first_source + i ≡ first_code + (max_items + i) = omega arith in
      ap (λ (j : ℕ). get_or (tables_of B) j 0) e
      ∙ (from_codes_lem (max_items + i) ∙ behind_at (padded max_items (table_of B)) from_sources max_items i (max_items + i) (length_padded max_items (table_of B)) refl)

  from_starts_lem : (i : ℕ) → get_or (tables_of B) (first_start + i) 0 ≡ get_or from_starts i 0
  from_starts_lem i =
      let e : first_start + i ≡ first_source + (max_items + i) = omega arith in
      ap (λ (j : ℕ). get_or (tables_of B) j 0) e
      ∙ (from_sources_lem (max_items + i)
      ∙ behind_at (padded max_items (tabulate (item_count B) (sources_of (system B) (edge_test B)))) from_starts max_items i (max_items + i)
      (length_padded max_items (tabulate (item_count B) (sources_of (system B) (edge_test B)))) refl)

  from_targets_lem : (i : ℕ) → get_or (tables_of B) (first_target + i) 0 ≡ get_or from_targets i 0
  from_targets_lem i =
      let e : first_target + i ≡ first_start + (max_items + 1 + i) = omega arith in
      ap (λ (j : ℕ). get_or (tables_of B) j 0) e
      ∙ (from_starts_lem (max_items + 1 + i) ∙ behind_at (padded (max_items + 1) starts) from_targets (max_items + 1) i (max_items + 1 + i) (length_padded (max_items + 1) starts) refl)

  from_reads : (i : ℕ) → get_or (tables_of B) (first_read + i) 0 ≡ get_or rows i 0
  from_reads i =
      let e : first_read + i ≡ first_target + (max_edges + i) = omega arith in
      ap (λ (j : ℕ). get_or (tables_of B) j 0) e
      ∙ (from_targets_lem (max_edges + i)
      ∙ behind_at (padded max_edges (targets_before B (item_count B))) rows max_edges i (max_edges + i) (length_padded max_edges (targets_before B (item_count B))) refl)

  from_writes : (i : ℕ) → get_or (tables_of B) (first_write + i) 0 ≡ get_or (place_rows B (system B).writes) i 0
  from_writes i =
      let e : first_write + i ≡ first_read + (list_words + i) = omega arith in
      ap (λ (j : ℕ). get_or (tables_of B) j 0) e
      ∙ (from_reads (list_words + i)
      ∙ behind_at (place_rows B (system B).reads) (place_rows B (system B).writes) list_words i (list_words + i) (length_places (system B).reads) refl)

module _ (plan behind : List ℕ) (formed : formed_plan plan ≡ true) where
  abbrev B : Body
  B = plan_body plan

  abbrev tables : List ℕ
  tables = tables_of B ++ behind

  few : item_count B ≤ max_items
  few = items_few (take plan_words plan) formed

  most : length (targets_before B (item_count B)) ≤ max_edges
  most = targets_most B (plan_fits (take plan_words plan) formed) (plan_small (take plan_words plan) formed)

  -- the tables come first
  in_tables : (i : ℕ) → i < prepared_words → get_or tables i 0 ≡ get_or (tables_of B) i 0
  in_tables i l = get_or-append (tables_of B) behind 0 i (omega (arith, length_tables B))

  item_number : items_in tables ≡ item_count B
  unfolding tables_of
  item_number = in_tables 0 (omega arith)

  code_number : (a : ℕ) → a < item_count B → code_in tables a ≡ code_of B (item_at B a)
  unfolding item_at
  code_number a l =
      in_tables (first_code + a) (omega (arith, few))
      ∙ (from_codes_lem B a ∙ (padded_first max_items (table_of B) (from_sources B) a (omega (arith, few)) ∙ get_d_map (code_of B) (item_list B) a (task 0) 0 l))

  source_number : (a : ℕ) → a < item_count B → sources_in tables a ≡ sources_of (system B) (edge_test B) a
  source_number a l =
      in_tables (first_source + a) (omega (arith, few))
      ∙ (from_sources_lem B a
      ∙ (padded_first max_items (tabulate (item_count B) (sources_of (system B) (edge_test B))) (from_starts B) a (omega (arith, few))
      ∙ get_d_tabulate (sources_of (system B) (edge_test B)) (item_count B) a 0 l))

  start_number : (a : ℕ) → a ≤ item_count B → start_in tables a ≡ length (targets_before B a)
  start_number a l =
      in_tables (first_start + a) (omega (arith, few))
      ∙ (from_starts_lem B a
      ∙ (padded_first (max_items + 1) (starts B) (from_targets B) a (omega (arith, few))
      ∙ get_d_tabulate (λ a. length (targets_before B a)) (item_count B + 1) a 0 (omega arith)))

  target_number : (k : ℕ) → k < length (targets_before B (item_count B)) → get_or tables (first_target + k) 0 ≡ get_or (targets_before B (item_count B)) k 0
  target_number k l =
      in_tables (first_target + k) (omega (arith, most))
      ∙ (from_targets_lem B k ∙ padded_first max_edges (targets_before B (item_count B)) (rows B) k (omega (arith, most)))

  count_number : (a : ℕ) → a < item_count B → target_count tables a ≡ length (targets_of B a)
  count_number a l = omega (arith, start_number a (omega arith), start_number (a + 1) (omega arith), starts_next B a)

  -- number k of the rows of places from `first` on
  module _ (first : ℕ) (f : ℕ → List ℕ) (each : (i : ℕ) → i < list_words → get_or tables (first + i) 0 ≡ get_or (place_rows B f) i 0)
      (short : (a : ℕ) → a < item_count B → length (f a) ≤ max_accesses) (a : ℕ) (la : a < item_count B) where
    in_rows : (k : ℕ) → k < 9 → get_or tables (first + (9 * a + k)) 0 ≡ get_or (collect (item_count B) (λ a. place_row (f a))) (9 * a + k) 0
    unfolding place_rows
    in_rows k l =
        each (9 * a + k) (omega (arith, few)) ∙ padded_at list_words (collect (item_count B) (λ a. place_row (f a))) (9 * a + k) (omega (arith, few))

    row_counts : place_count tables first a ≡ length (f a)
    row_counts = in_rows 8 (omega arith) ∙ rows_count f (item_count B) a la

    row_places : (k : ℕ) → k < length (f a) → place_in tables first a k ≡ get_or (f a) k 0
    row_places k l =
        let m : k < max_accesses = omega (arith, short a la) in
        in_rows k (omega arith) ∙ rows_place f (item_count B) a k la m

    row_listed : places_in tables first a ≡ f a
    unfolding places_in
    row_listed =
        ap (λ (n : ℕ). tabulate n (place_in tables first a)) row_counts
        ∙ (tabulate_ext (length (f a)) (place_in tables first a) (λ k. get_or (f a) k 0) row_places ∙ tabulate_list (f a) 0)

  in_reads : (i : ℕ) → i < list_words → get_or tables (first_read + i) 0 ≡ get_or (place_rows B (system B).reads) i 0
  in_reads i l =
      in_tables (first_read + i) (omega arith)
      ∙ (from_reads B i ∙ get_or-append (place_rows B (system B).reads) (place_rows B (system B).writes) 0 i (omega (arith, length_places B (system B).reads)))

  in_writes : (i : ℕ) → i < list_words → get_or tables (first_write + i) 0 ≡ get_or (place_rows B (system B).writes) i 0
  in_writes i l = in_tables (first_write + i) (omega arith) ∙ from_writes B i

  pub prepares : Prepared plan tables
  prepares =
      let R = reads_few (take plan_words plan) formed in
      let W = writes_few (take plan_words plan) formed in
      let cr = row_counts first_read (system B).reads in_reads R in
      let cw = row_counts first_write (system B).writes in_writes W in
      record {
        long = omega (arith, length-append (tables_of B) behind, length_tables B);
        items = item_number;
        most = few;
        codes = code_number;
        sources = source_number;
        ends = λ a l. omega (arith, start_number (a + 1) (omega arith), starts_next B a, starts_most B a l, most);
        counted = count_number;
        targets = λ a k l m.
            let h : k < length (targets_of B a) = omega (arith, count_number a l) in
            ap (λ (x : ℕ). get_or tables (first_target + (x + k)) 0) (start_number a (omega arith))
            ∙ (target_number (length (targets_before B a) + k) (omega (arith, starts_most B a l)) ∙ target_at B a k l h);
        read_few = λ a l. omega (arith, cr a l, R a l);
        reads = row_listed first_read (system B).reads in_reads R;
        written_few = λ a l. omega (arith, cw a l, W a l);
        writes = row_listed first_write (system B).writes in_writes W;
        read_below = λ a k l m.
            let h : k < length ((system B).reads a) = omega (arith, cr a l) in
            omega (arith, row_places first_read (system B).reads in_reads R a l k h, reads_below (take plan_words plan) formed a l k h);
        written_below = λ a k l m.
            let h : k < length ((system B).writes a) = omega (arith, cw a l) in
            omega (arith, row_places first_write (system B).writes in_writes W a l k h, writes_below (take plan_words plan) formed a l k h);
      }
