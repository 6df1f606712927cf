-- The parts filled one behind another are the tables.
use Prim.Native.Nat.{ℕ, ◌+◌, ◌≤◌, ◌<◌}
use mathlib.Core.Path.{◌≡◌, sym, ◌∙◌, ap}
use mathlib.Core.Bool.{true, false}
use mathlib.Core.List.{List, [], ◌∷◌, ◌++◌, append_assoc}
use native.Mathlib.Omega.{arith}
use lib.ListN.{length, take, drop, set, length-map}
use lib.Seq.{length-take-le, get_or-take}
use Rattle.finite.specs.Lists.{tabulate}
use Rattle.finite.specs.Put.{Added}
use Rattle.finite.proofs.Collect.{get_d_map}
use Rattle.finite.proofs.Puts.{added_one, added_append, added_same, added_put}
use Rattle.finite.proofs.Replaced.{list_ext}
use Rattle.body.specs.Body.{Body}
use Rattle.body.specs.Items.{task, item_list, item_count, item_at}
use Rattle.body.specs.Places.{system}
use Rattle.edges.specs.Tests.{edge_test}
use Rattle.waits.specs.InStep.{sources_of}
use Rattle.plan.specs.Sizes.{max_items, max_edges}
use Rattle.plan.specs.Layout.{body_of}
use Rattle.graph.specs.Table.{code_of, table_of, Graph}
use Rattle.prepared.specs.Tables.{prepared_words, first_code, first_source, first_start, first_target, first_read, first_write, padded, targets_before, place_rows, tables_of}
use Rattle.tables.specs.Parts.{graph_part}
use Rattle.tables.specs.Targets.{TargetsMade}
use Rattle.tables.specs.Rows.{places_of}

module _ (w items : List ℕ) (n : ℕ) (G : Graph w items n) where
  codes_taken : n ≤ length items → take n items ≡ table_of (body_of w)
  unfolding item_at
  codes_taken h =
      let long : length (take n items) ≡ n = length-take-le n items h in
      list_ext (take n items) (table_of (body_of w)) (long ∙ (G.count ∙ sym (length-map (item_list (body_of w)) (code_of (body_of w)))))
      (λ a l.
      let k : a < n = omega (arith, long) in
      get_or-take n items a 0 k
      ∙ (G.each a k ∙ sym (get_d_map (code_of (body_of w)) (item_list (body_of w)) a (task 0) 0 (omega (arith, G.count)))))

  -- `put_graph`
  module _ (r : ℕ) (targets starts sources : List ℕ) (M : TargetsMade (body_of w) n r targets starts sources) where
    pub graph_added : (t t₁ t₂ t₃ t₄ : List ℕ) (v : ℕ) → n ≤ length items → v ≡ n →
        Added (padded max_items (take n items)) first_code (set t 0 v) first_source t₁ →
        Added (padded max_items (take n sources)) first_source t₁ first_start t₂ →
        Added (padded (max_items + 1) (take (n + 1) starts)) first_start t₂ first_target t₃ →
        Added (padded max_edges (take r targets)) first_target t₃ first_read t₄ →
        Added (graph_part (body_of w)) 0 t first_read t₄
    unfolding graph_part
    graph_added t t₁ t₂ t₃ t₄ v h e p q s u =
        added_append {xs = item_count (body_of w) ∷ []} (added_one (e ∙ G.count))
        (added_append (added_same (ap (padded max_items) (codes_taken h)) p)
        (added_append
        (added_same (ap (padded max_items) (M.counted ∙ ap (λ (k : ℕ). tabulate k (sources_of (system (body_of w)) (edge_test (body_of w)))) G.count)) q)
        (added_append
        (added_same
        (ap (padded (max_items + 1)) (M.started ∙ ap (λ (k : ℕ). tabulate (k + 1) (λ a. length (targets_before (body_of w) a))) G.count))
        s)
        (added_same (ap (padded max_edges) (M.listed ∙ ap (targets_before (body_of w)) G.count)) u))))

-- `make_tables`
tables_parts : (B : Body) → (graph_part B ++ place_rows B (places_of B false)) ++ place_rows B (places_of B true) ≡ tables_of B
unfolding tables_of graph_part places_of
tables_parts B = simp append_assoc

pub tables_filled : (B : Body) (t t₁ t₂ t₃ : List ℕ) → prepared_words ≤ length t → Added (graph_part B) 0 t first_read t₁ →
    Added (place_rows B (places_of B false)) first_read t₁ first_write t₂ → Added (place_rows B (places_of B true)) first_write t₂ prepared_words t₃ →
    t₃ ≡ tables_of B ++ drop prepared_words t
tables_filled B t t₁ t₂ t₃ h p q s =
    let a : Added (tables_of B) 0 t prepared_words t₃ = added_same (tables_parts B) (added_append (added_append p q) s) in
    let f = added_put (omega (arith, a.end)) a in
    f.begins ∙ ap (λ (k : ℕ). tables_of B ++ drop k t) (sym f.count)
