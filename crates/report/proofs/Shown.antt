-- The lines of a plan, from what running it hands out (taskiter, Shown).
use Prim.Native.Nat.{ℕ, zero, suc, ◌+◌, ◌*◌, ◌≤◌, ◌<◌}
use mathlib.Core.Path.{◌≡◌, refl, sym, ◌∙◌, ap, ap₂}
use mathlib.Core.Bool.{true}
use mathlib.Core.List.{List, [], ◌∷◌, ◌++◌, flat_map}
use native.Mathlib.Omega.{arith}
use borrow.Author.Tests.{le-leb}
use lib.ListN.{length, get_or, take, drop, replicate, length-append, length-map, length-replicate, get_or-append}
use Rattle.finite.specs.Lists.{collect}
use Rattle.finite.specs.Put.{Room}
use Rattle.finite.proofs.Collect.{collect_ext, flat_map_at, get_d_map}
use Rattle.body.specs.Body.{Body}
use Rattle.body.specs.Items.{task, item_list, item_count, item_at}
use Rattle.edges.specs.Rule.{Triple, AllEdges}
use Rattle.edges.specs.Tests.{kind_at, rank_at}
use Rattle.edges.specs.EdgeList.{edge_list}
use Rattle.plan.specs.Sizes.{max_items, edge_words, count_words, value_words, result_words}
use Rattle.plan.specs.Layout.{plan_words, body_of, regions_of}
use Rattle.plan.specs.Form.{in_form}
use Rattle.plan.proofs.Facts.{formed}
use Rattle.graph.specs.Table.{code_of, table_of, Graph}
use Rattle.graph.specs.Answers.{refusal_of, formed_plan, three}
use Rattle.graph.proofs.Small.{form_words}
use Rattle.graph.proofs.Lookup.{code_rank_lem, code_kind_lem}
use Rattle.graph.proofs.Theorems.{laws as graph-laws}
use Rattle.walk.proofs.Listing.{length_three}
use Rattle.steps.specs.Answers.{result_of}
use Rattle.steps.specs.Calls.{Call, is_step, Lent, lent, play, accepted}
use Rattle.taskiter.specs.declared.Outcome.{Outcome}
use Rattle.taskiter.specs.Run.{Run}
use Rattle.taskiter.specs.Shown.{long_run, Shown}
use Rattle.lines.specs.Lines.{item_line, edge_line, steps_line, value_line}
use Rattle.lines.specs.Tables.{item_line_at, edge_line_at, value_line_at, table_lines, list_lines, word_lines}
use Rattle.report.specs.Report.{open_state, steps_from, graph_lines, end_lines, most_steps, plan_lines, report_bytes}
use Rattle.report.proofs.Steps.{steps_taken, steps_complete}
use Rattle.report.proofs.Room.{whole, edges_all, plan_room}
use Rattle.report.proofs.Theorems.{opens}

-- edge k of a list with three numbers an edge
three_at : (l : List Triple) (rest : List ℕ) (k : ℕ) → k < length l →
    let L = flat_map three l ++ rest in ◌≡◌ {A = Triple} (get_or L (3 * k) 0, get_or L (3 * k + 1) 0, get_or L (3 * k + 2) 0) (get_or l k (0, 0, 0))
unfolding flat_map
three_at [] rest k h = absurd (omega arith)
three_at ((a, b, d) ∷ l) rest zero h = refl
three_at ((a, b, d) ∷ l) rest (suc k) h =
    let e : 3 * suc k ≡ suc (suc (suc (3 * k))) = omega arith in
    let f : 3 * suc k + 1 ≡ suc (suc (suc (3 * k + 1))) = omega arith in
    let g : 3 * suc k + 2 ≡ suc (suc (suc (3 * k + 2))) = omega arith in
    rw (f, g, e) (three_at l rest k (omega arith))

list_lines_lem : (l : List Triple) (rest : List ℕ) → list_lines (flat_map three l ++ rest) (length l) ≡ flat_map edge_line l
unfolding edge_line_at
list_lines_lem l rest =
    collect_ext (length l) (edge_line_at (flat_map three l ++ rest)) (λ k. edge_line (get_or l k (0, 0, 0))) (λ k h. ap edge_line (three_at l rest k h))
    ∙ sym (flat_map_at edge_line l (0, 0, 0))

-- the words of a plan in form
module _ (w : List ℕ) (size : length w ≡ plan_words) (form : in_form w ≡ true) where
  abbrev B : Body
  B = body_of w

  table_graph : (rest : List ℕ) → Graph w (table_of B ++ rest) (item_count B)
  unfolding item_at
  table_graph rest =
      record {
        long = size;
        formed = form;
        count = refl;
        most = graph-laws.items w form;
        each = λ a l.
            get_or-append (table_of B) rest 0 a (omega (arith, l, length-map (item_list B) (code_of B)))
            ∙ get_d_map (code_of B) (item_list B) a (task 0) 0 l;
      }

  table_lines_lem : (rest : List ℕ) → table_lines (table_of B ++ rest) (item_count B) ≡ collect (item_count B) (λ a. item_line a (kind_at B a) (rank_at B a))
  unfolding item_line_at
  table_lines_lem rest =
      collect_ext (item_count B) (item_line_at (table_of B ++ rest)) (λ a. item_line a (kind_at B a) (rank_at B a))
      (λ a l. ap₂ (item_line a) (code_kind_lem w (table_of B ++ rest) (item_count B) (table_graph rest) a l (get_or (table_of B ++ rest) a 0) refl)
      (code_rank_lem w (table_of B ++ rest) (item_count B) (table_graph rest) a l (get_or (table_of B ++ rest) a 0) refl))

  -- slices of the sizes that are asked for are long enough
  long_clear : (T L C W R : List ℕ) → length T ≡ max_items → length L ≡ edge_words → length C ≡ count_words → length W ≡ value_words → length R ≡ result_words →
      refusal_of (long_run w T L C W R) (formed_plan w) true ≡ 0
  long_clear T L C W R t l c v r =
      rw (
        le-leb plan_words (length w) (omega (arith, size)),
        le-leb max_items (length T) (omega (arith, t)),
        le-leb count_words (length C) (omega (arith, c)),
        le-leb value_words (length W) (omega (arith, v)),
        le-leb edge_words (length L) (omega (arith, l)),
        le-leb result_words (length R) (omega (arith, r)),
        whole w size form,
        form,
      )

  -- what is handed out of it, from lent zeros for counts and values
  module _ (T L R : List ℕ) (items-long : length T ≡ max_items) (edges-long : length L ≡ edge_words) (results-long : length R ≡ result_words)
      (r : Outcome) (T' L' C' W' R' : List ℕ) (S : Shown w T L (replicate count_words 0) (replicate value_words 0) R r T' L' C' W' R') where
    abbrev C : List ℕ
    C = replicate count_words 0

    abbrev W : List ℕ
    W = replicate value_words 0

    clear : r.refusal ≡ 0
    clear = S.refusal ∙ long_clear T L C W R items-long edges-long (length-replicate {A = ℕ} count_words 0) (length-replicate {A = ℕ} value_words 0) results-long

    -- items

    items_are : (r.items ≡ item_count B) × (T' ≡ table_of B ++ drop (item_count B) T)
    items_are = rw (whole w size form) at ((S.items clear).listed refl)

    items_most : r.items ≤ length T'
    items_most = omega (arith, items_are.0, ap length items_are.1, length-append (table_of B) (drop (item_count B) T), length-map (item_list B) (code_of B))

    item_lines : table_lines T' r.items ≡ collect (item_count B) (λ a. item_line a (kind_at B a) (rank_at B a))
    item_lines = rw (items_are.0, items_are.1) (table_lines_lem (drop (item_count B) T))

    -- edges

    edges_are : (r.edges ≡ length (edge_list B)) × (L' ≡ flat_map three (edge_list B) ++ drop (3 * length (edge_list B)) L)
    edges_are = go ((S.edges clear).listed refl)
      where
        go : (l : List Triple) × AllEdges (body_of (take plan_words w)) l × (r.edges ≡ length l) × (L' ≡ flat_map three l ++ drop (3 * length l) L) →
            (r.edges ≡ length (edge_list B)) × (L' ≡ flat_map three (edge_list B) ++ drop (3 * length (edge_list B)) L)
        go (l, A, n, e) =
            let same : l ≡ edge_list B = graph-laws.unique B l (edge_list B) (rw (whole w size form) at A) (edges_all w size form) in
            (n ∙ ap length same, e ∙ ap (λ (k : List Triple). flat_map three k ++ drop (3 * length k) L) same)

    edges_most : 3 * r.edges ≤ length L'
    edges_most =
        omega (
          arith,
          edges_are.0,
          ap length edges_are.1,
          length-append (flat_map three (edge_list B)) (drop (3 * length (edge_list B)) L),
          length_three (edge_list B),
        )

    edge_lines : list_lines L' r.edges ≡ flat_map edge_line (edge_list B)
    edge_lines = rw (edges_are.0, edges_are.1) (list_lines_lem (edge_list B) (drop (3 * length (edge_list B)) L))

    -- the run: its steps are those from the opening

    run : Run w (open_state w) (lent C' W') r.steps
    run = (S.ran clear).ran refl

    abbrev l : List Call
    l = steps_from w most_steps (open_state w)

    same_steps : l ≡ run.calls
    same_steps = run.only l (steps_taken w most_steps (open_state w)) (steps_complete w C W (opens w size form))

    steps_are : r.steps ≡ accepted w is_step (open_state w) l
    steps_are = run.counted ∙ (sym run.all_accepted ∙ ap (accepted w is_step (open_state w)) (sym same_steps))

    reached : lent C' W' ≡ play w (open_state w) l
    reached = run.reached ∙ ap (play w (open_state w)) (sym same_steps)

    -- results

    regions_most : regions_of w ≤ length R'
    regions_most = omega (arith, results-long, (S.behind clear).0, (formed w (form_words w form)).regions_most)

    value_lines : let t = play w (open_state w) l in
        word_lines R' (regions_of w) ≡ collect (body_of (take plan_words w)).regions (λ g. value_line g (result_of w t.counts t.values g).word)
    unfolding value_line_at
    value_lines =
        let t = play w (open_state w) l in
        ap (λ (v : List ℕ). word_lines R' (regions_of v)) (sym (whole w size form))
        ∙ collect_ext (body_of (take plan_words w)).regions (value_line_at R') (λ g. value_line g (result_of w t.counts t.values g).word)
        (λ g h. ap (value_line g) (S.results clear g h ∙ ap (λ (x : Lent). (result_of w x.counts x.values g).word) reached))

    -- all lines, by the three counts

    module _ (i k n : ℕ) (ei : i ≡ r.items) (ek : k ≡ r.edges) (en : n ≡ regions_of w) where
      abbrev bytes : List ℕ
      bytes = (table_lines T' i ++ list_lines L' k) ++ (steps_line r.steps ++ word_lines R' n)

      lines_are : bytes ≡ plan_lines w
      unfolding plan_lines graph_lines end_lines
      lines_are = rw (ei, ek, en) (ap₂ ◌++◌ (ap₂ ◌++◌ item_lines edge_lines) (ap₂ ◌++◌ (ap steps_line steps_are) value_lines))

      -- they are the plan's, and can be put
      pub lines_shown : (out : List ℕ) → report_bytes ≤ length out →
          (i ≤ length T') × (3 * k ≤ length L') × (n ≤ length R') × Room bytes out × (bytes ≡ plan_lines w)
      lines_shown out h = (
        omega (arith, ei, items_most),
        omega (arith, ek, edges_most),
        omega (arith, en, regions_most),
        omega (arith, h, ap length lines_are, plan_room w size form),
        lines_are,
      )
