-- The paper's cases of the graph, computed on whole plans (paper 01, "Tried by hand").
use mathlib.Core.Path.{◌≡◌, refl, subst}
use mathlib.Core.Bool.{true}
use mathlib.Core.List.{[], ◌∷◌, flat_map}
use mathlib.Core.Option.{or_else}
use native.Mathlib.Omega.{arith}
use Rattle.finite.specs.Below.{all_below, any_below, count_below}
use Rattle.finite.specs.Lists.{mem, gather, range, tabulate}
use Rattle.kernels.specs.Kernels.{suits}
use Rattle.body.specs.Transfers.{last_before, source, wanted, transferred, transfers_of, wrapped}
use Rattle.body.specs.Items.{item_list, item_at, fewer}
use Rattle.body.specs.Places.{system}
use Rattle.body.specs.TwoRanks.{ten_edges}
use Rattle.edges.specs.Rule.{AllEdges}
use Rattle.edges.specs.Touch.{touch, touch_on}
use Rattle.edges.specs.Tests.{written, written_between as between, crossed, paired, copy_edge, edge_test}
use Rattle.edges.specs.EdgeList.{edges_from, edge_list}
use Rattle.edges.proofs.AllEdges.{all_edges}
use Rattle.waits.specs.Waits.{is_unmet, fresh_count}
use Rattle.waits.specs.InStep.{sources_of}
use Rattle.plan.specs.Layout.{body_of}
use Rattle.prepared.specs.Tables.{leads, targets_of}
use Rattle.plan.specs.Form.{words_ok, words_within}
use Rattle.plan.proofs.Facts.{fits}
use Rattle.tried.specs.Table.{example_words, readers_words, ahead_words, unmet_at}

-- A: the plan on two ranks that the paper gives
two_ranks_ok : words_ok (example_words 2) ≡ true
unfolding words_within all_below count_below suits
two_ranks_ok = refl

pub two_ranks_list : edge_list (body_of (example_words 2)) ≡ ten_edges
unfolding item_list flat_map range gather transfers_of transferred wanted any_below source or_else last_before mem item_at touch touch_on written between crossed paired copy_edge edge_test edges_from edge_list
two_ranks_list = refl

pub two_ranks_edges : AllEdges (body_of (example_words 2)) ten_edges
two_ranks_edges = subst (AllEdges (body_of (example_words 2))) two_ranks_list (all_edges (body_of (example_words 2)) (fits (example_words 2) two_ranks_ok) (omega arith))

-- J: two tasks on one rank that only read one region: each has its own edge, and there is none
-- between them
two_readers_ok : words_ok readers_words ≡ true
unfolding words_within all_below count_below suits
two_readers_ok = refl

two_readers_list : edge_list (body_of readers_words) ≡ (0, 0, 1) ∷ (1, 1, 1) ∷ []
unfolding item_list flat_map range gather transfers_of transferred wanted any_below source or_else last_before mem item_at touch touch_on written between crossed paired copy_edge edge_test edges_from edge_list
two_readers_list = refl

pub two_readers_edges : AllEdges (body_of readers_words) ((0, 0, 1) ∷ (1, 1, 1) ∷ [])
two_readers_edges = subst (AllEdges (body_of readers_words)) two_readers_list (all_edges (body_of readers_words) (fits readers_words two_readers_ok) (omega arith))

-- prepared plans: the targets and sources of the example's items

pub targets_example : tabulate 4 (targets_of (body_of (example_words 2))) ≡ (1 ∷ []) ∷ (0 ∷ 2 ∷ []) ∷ (1 ∷ 3 ∷ []) ∷ (2 ∷ []) ∷ []
unfolding item_list flat_map range gather transfers_of transferred wanted all_below any_below count_below source or_else last_before mem wrapped fewer item_at touch touch_on written between crossed paired copy_edge edge_test tabulate leads targets_of
targets_example = refl

pub sources_example : tabulate 4 (sources_of (system (body_of (example_words 2))) (edge_test (body_of (example_words 2)))) ≡ 1 ∷ 2 ∷ 2 ∷ 1 ∷ []
unfolding item_list flat_map range gather transfers_of transferred wanted all_below any_below count_below source or_else last_before mem wrapped fewer item_at touch touch_on written between crossed paired copy_edge edge_test tabulate sources_of
sources_example = refl

-- card 7: the unmet waits of the example's items, and where a transfer is wrapped

pub unmet_opened : unmet_at (example_words 2) [] ≡ 0 ∷ 1 ∷ 1 ∷ 1 ∷ []
unfolding item_list flat_map range gather transfers_of transferred wanted all_below any_below count_below source or_else last_before mem wrapped fewer item_at touch touch_on written between crossed paired copy_edge edge_test is_unmet fresh_count
unmet_opened = refl

pub unmet_task_run : unmet_at (example_words 2) (1 ∷ []) ≡ 1 ∷ 0 ∷ 1 ∷ 1 ∷ []
unfolding item_list flat_map range gather transfers_of transferred wanted all_below any_below count_below source or_else last_before mem wrapped fewer item_at touch touch_on written between crossed paired copy_edge edge_test is_unmet fresh_count
unmet_task_run = refl

pub unmet_send_run : unmet_at (example_words 2) (1 ∷ 1 ∷ []) ≡ 0 ∷ 2 ∷ 0 ∷ 1 ∷ []
unfolding item_list flat_map range gather transfers_of transferred wanted all_below any_below count_below source or_else last_before mem wrapped fewer item_at touch touch_on written between crossed paired copy_edge edge_test is_unmet fresh_count
unmet_send_run = refl

pub unmet_ended : unmet_at (example_words 2) (2 ∷ 2 ∷ 2 ∷ 2 ∷ []) ≡ 0 ∷ 0 ∷ 0 ∷ 0 ∷ []
unfolding item_list flat_map range gather transfers_of transferred wanted all_below any_below count_below source or_else last_before mem wrapped fewer item_at touch touch_on written between crossed paired copy_edge edge_test is_unmet fresh_count
unmet_ended = refl

pub unmet_wrapped : unmet_at ahead_words (1 ∷ 1 ∷ 1 ∷ 0 ∷ []) ≡ 1 ∷ 0 ∷ 0 ∷ 0 ∷ []
unfolding item_list flat_map range gather transfers_of transferred wanted all_below any_below count_below source or_else last_before mem wrapped fewer item_at touch touch_on written between crossed paired copy_edge edge_test is_unmet fresh_count
unmet_wrapped = refl
