-- The lines of every text have room.
use Prim.Native.Nat.{ℕ, ◌+◌, ◌*◌, ◌≤◌}
use mathlib.Core.Path.{◌≡◌, refl, ap}
use mathlib.Core.Bool.{Bool, true, false}
use mathlib.Core.List.{List, flat_map, Memᴰ as In}
use native.Mathlib.Omega.{arith}
use lib.Dec.{ltb}
use lib.ListN.{length, get_or, take, length-append}
use lib.Seq.{take_all}
use Rattle.finite.specs.Lists.{collect}
use Rattle.finite.proofs.Members.{at_in}
use Rattle.unroll.proofs.Edges.{edge_from, edge_to}
use Rattle.body.specs.Body.{Body}
use Rattle.body.specs.Items.{kind_of, item_count, item_at}
use Rattle.body.specs.Places.{system}
use Rattle.body.proofs.Accessed.{rank_below}
use Rattle.edges.specs.Rule.{Triple, AllEdges}
use Rattle.edges.specs.Tests.{distance, rank_at}
use Rattle.edges.specs.EdgeList.{edge_list}
use Rattle.edges.proofs.AllEdges.{all_edges}
use Rattle.edges.proofs.Bound.{edges_bounded}
use Rattle.edges.proofs.Decided.{edge_distance_is}
use Rattle.plan.specs.Limits.{max_regions}
use Rattle.plan.specs.Sizes.{max_items, max_edges}
use Rattle.plan.specs.Layout.{plan_words, body_of}
use Rattle.plan.specs.Form.{in_form}
use Rattle.plan.proofs.Facts.{formed}
use Rattle.graph.proofs.Small.{form_words, plan_fits, plan_small}
use Rattle.graph.proofs.Theorems.{laws as graph-laws}
use Rattle.steps.specs.Answers.{result_of}
use Rattle.steps.specs.Calls.{Call, is_step, Lent, play, accepted}
use Rattle.lines.specs.Lines.{item_line, edge_line, steps_line, value_line}
use Rattle.report.specs.Report.{open_state, steps_from, graph_lines, end_lines, most_steps, plan_lines, report_bytes}
use Rattle.finite.proofs.Collect.{collect_most, flat_map_at}
use Rattle.report.proofs.Sizes.{item_most, edge_most, steps_most, value_most}

distance_most : (a b : ℕ) → distance a b ≤ 1
distance_most a b = go (ltb a b) refl
  where
    go : (t : Bool) → ltb a b ≡ t → distance a b ≤ 1
    go true e = rw e (omega arith)
    go false e = rw e (omega arith)

-- the words of a plan in form
module _ (w : List ℕ) (size : length w ≡ plan_words) (form : in_form w ≡ true) where
  abbrev B : Body
  B = body_of w

  pub whole : take plan_words w ≡ w
  whole = take_all plan_words w (omega (arith, size))

  pub edges_all : AllEdges B (edge_list B)
  edges_all = all_edges B (plan_fits w form) (plan_small w form).regions

  items_room : length (collect (item_count B) (λ a. item_line a (kind_of (item_at B a)) (rank_at B a))) ≤ max_items * 20
  items_room =
      omega (
        arith,
        collect_most (item_count B) 20 (λ a. item_line a (kind_of (item_at B a)) (rank_at B a))
            (λ a l. item_most a (kind_of (item_at B a)) (rank_at B a) (omega (arith, l, few))
            (omega (arith, rank_below B (plan_fits w form) a l, (formed w (form_words w form)).ranks_most))),
        few,
      )
    where
      few : item_count B ≤ max_items
      few = graph-laws.items w form

  edge_room : (x : Triple) → In x (edge_list B) → length (edge_line x) ≤ 15
  edge_room (a, b, d) m =
      let e = (edges_all.exactly a b d).0 m in
      let few : item_count B ≤ max_items = graph-laws.items w form in
      edge_most a b d (omega (arith, edge_from (system B) a b d e, few)) (omega (arith, edge_to (system B) a b d e, few))
      (omega (arith, edge_distance_is (system B) a b d e, distance_most a b))

  edges_room : length (flat_map edge_line (edge_list B)) ≤ max_edges * 15
  edges_room =
      omega (
        arith,
        ap length (flat_map_at edge_line (edge_list B) (0, 0, 0)),
        collect_most (length (edge_list B)) 15 (λ k. edge_line (get_or (edge_list B) k (0, 0, 0)))
            (λ k l. edge_room (get_or (edge_list B) k (0, 0, 0)) (at_in (get_or (edge_list B) k (0, 0, 0)) (0, 0, 0) (edge_list B) k l refl)),
        edges_bounded B (plan_fits w form) (plan_small w form),
      )

  values_room : (word : ℕ → ℕ) → length (collect (body_of (take plan_words w)).regions (λ g. value_line g (word g))) ≤ max_regions * 31
  values_room word =
      let few : (body_of (take plan_words w)).regions ≤ max_regions = rw whole (formed w (form_words w form)).regions_most in
      omega (
        arith,
        collect_most (body_of (take plan_words w)).regions 31 (λ g. value_line g (word g)) (λ g l. value_most g (word g) (omega (arith, l, few))),
        few,
      )

  graph_room : length (graph_lines B) ≤ max_items * 20 + max_edges * 15
  unfolding graph_lines
  graph_room =
      omega (
        arith,
        length-append (collect (item_count B) (λ a. item_line a (kind_of (item_at B a)) (rank_at B a))) (flat_map edge_line (edge_list B)),
        items_room,
        edges_room,
      )

  end_room : (s : Lent) (l : List Call) → length (end_lines w s l) ≤ 27 + max_regions * 31
  unfolding end_lines
  end_room s l =
      let word : ℕ → ℕ = λ g. (result_of w (play w s l).counts (play w s l).values g).word in
      omega (
        arith,
        length-append (steps_line (accepted w is_step s l)) (collect (body_of (take plan_words w)).regions (λ g. value_line g (word g))),
        steps_most (accepted w is_step s l),
        values_room word,
      )

  pub plan_room : length (plan_lines w) ≤ report_bytes
  unfolding plan_lines
  plan_room =
      let s = open_state w in
      let l = steps_from w most_steps s in
      omega (arith, length-append (graph_lines B) (end_lines w s l), graph_room, end_room s l)
