-- The paper's example of two ranks, computed.
use Prim.Native.Nat.{ℕ, zero, suc, ◌<◌}
use mathlib.Core.Path.{◌≡◌, refl, ◌∙◌, ap, subst}
use mathlib.Core.Bool.{true, decide}
use mathlib.Core.Logic.Dec
use mathlib.Core.Logic.{◌↔◌, ⊎_elim}
use mathlib.Core.List.{List, [], ◌∷◌, map, flat_map, Memᴰ as In}
use mathlib.Core.Option.{Option, or_else}
use native.Mathlib.Decide.{dec_lt, dec_le, ℕ_discrete}
use native.Mathlib.Omega.{arith}
use Rattle.finite.specs.Below.{all_below, any_below, sum_below}
use Rattle.finite.specs.Lists.{mem, distinct, range, gather}
use Rattle.finite.specs.Update.{update, put}
use Rattle.finite.proofs.Tests.{true_or_false}
use Rattle.finite.proofs.Decide.{dec_map, dec_imp, dec_sum, dec_then, dec_below, dec_below_suc, dec_some, dec_some_cons}
use Rattle.finite.proofs.Members.{mem_one, mem_cases}
use Rattle.unroll.specs.Sequential.{word_on, execute, execute_to, store_of, store_at, word}
use Rattle.unroll.specs.Edges.{Edge}
use Rattle.unroll.specs.Machine.{State, Call, opening, start_state, finish_state, reply, step, run, replies}
use Rattle.unroll.specs.AnyOrder.{all_steps}
use Rattle.unroll.proofs.LastWriter.{scan, scan_suc, last_same, last_next, last_far, last_writer}
use Rattle.unroll.proofs.Decide.{dec_before, dec_writes, dec_accesses, dec_conflict, dec_last, dec_unwritten, dec_through, dec_dependence, dec_edge, dec_met, dec_ready, dec_start, dec_finish, decides}
use Rattle.unroll.proofs.Local.{same_replies, same_run}
use Rattle.unroll.proofs.EdgeList.{edges_between, edges, edges_exactly}
use Rattle.body.specs.Body.{Fits}
use Rattle.body.specs.Loop.{task_word, tasks_run, cells_of, cells_at, loop_word, loop_final}
use Rattle.body.specs.Transfers.{last_before, source, wanted, transferred, transfers_of, wrapped}
use Rattle.body.specs.Items.{task, send, receive, fewer, item_list, item_at}
use Rattle.body.specs.Places.{slot, copy, reads_of, writes_of, compute_of, initial, system, result_of}
use Rattle.body.specs.TwoRanks.{two_ranks, ten_edges, trace, calls, TwoRanks}

regions_below : (i g : ℕ) → i < 2 → mem g (two_ranks.reads i) ≡ true → g < 2
regions_below zero g l m = omega (arith, mem_one g 0 m)
regions_below (suc zero) g l m = ⊎_elim (λ (e : g ≡ 0). omega arith) (λ n. omega (arith, mem_one g 1 n)) (mem_cases g 0 (1 ∷ []) m)
regions_below (suc (suc i)) g l m = absurd (omega arith)

written_below : (i g : ℕ) → i < 2 → mem g (two_ranks.writes i) ≡ true → g < 2
written_below zero g l m = omega (arith, mem_one g 0 m)
written_below (suc zero) g l m = omega (arith, mem_one g 1 m)
written_below (suc (suc i)) g l m = absurd (omega arith)

rank_below : (i : ℕ) → i < 2 → two_ranks.rank i < 2
rank_below zero l = omega arith
rank_below (suc zero) l = omega arith
rank_below (suc (suc i)) l = absurd (omega arith)

written_once : (i : ℕ) → i < 2 → distinct (two_ranks.writes i) ≡ true
unfolding distinct mem
written_once zero l = refl
written_once (suc zero) l = refl
written_once (suc (suc i)) l = absurd (omega arith)

fits : Fits two_ranks
fits = record { rank_below = rank_below; reads_below = regions_below; writes_below = written_below; written_once = written_once; room = omega arith }

items : item_list two_ranks ≡ task 0 ∷ send 0 0 1 ∷ receive 0 0 1 ∷ task 1 ∷ []
unfolding item_list flat_map range gather transfers_of transferred wanted any_below source or_else last_before mem
items = refl

edge_list_lem : edges (system two_ranks) ≡ ten_edges
unfolding item_list flat_map range gather transfers_of transferred wanted any_below source or_else last_before mem item_at slot copy reads_of writes_of edges
    edges_between decide Dec.and true_or_false dec_lt dec_le ℕ_discrete dec_map dec_imp dec_sum dec_then dec_below dec_below_suc dec_some dec_some_cons
    scan scan_suc last_same last_next last_far last_writer dec_before dec_writes dec_accesses dec_conflict dec_last dec_unwritten dec_through
    dec_dependence dec_edge
edge_list_lem = refl

ten_edges_lem : (a b d : ℕ) → Edge (system two_ranks) a b d ↔ In (a, b, d) ten_edges
ten_edges_lem a b d = subst (λ (l : List (ℕ × ℕ × ℕ)). Edge (system two_ranks) a b d ↔ In (a, b, d) l) edge_list_lem ((edges_exactly (system two_ranks) a b d).1, (edges_exactly (system two_ranks) a b d).0)

sixteen : all_steps (system two_ranks) ≡ 16
unfolding all_steps sum_below item_list flat_map range gather transfers_of transferred wanted any_below source or_else last_before mem item_at wrapped all_below fewer
sixteen = refl

words : map (λ p. map (word (system two_ranks) p) (0 ∷ 1 ∷ 2 ∷ 3 ∷ [])) (0 ∷ 1 ∷ []) ≡ (6 ∷ 6 ∷ 6 ∷ 6 ∷ []) ∷ (7 ∷ 7 ∷ 7 ∷ 13 ∷ []) ∷ []
unfolding word_on execute execute_to store_of store_at word put dec_lt item_list flat_map range gather transfers_of transferred wanted any_below source or_else last_before mem item_at wrapped all_below fewer slot copy reads_of writes_of compute_of initial
words = refl

loop_words : map (λ p. map (loop_word two_ranks p) (0 ∷ 1 ∷ [])) (0 ∷ 1 ∷ []) ≡ (6 ∷ 6 ∷ []) ∷ (7 ∷ 13 ∷ []) ∷ []
unfolding task_word tasks_run cells_of cells_at loop_word put mem
loop_words = refl

finals : map (loop_final two_ranks) (0 ∷ 1 ∷ []) ≡ 7 ∷ 13 ∷ []
unfolding task_word tasks_run cells_of loop_final put mem
finals = refl

-- with the test of acceptance that computes, and so with every other
answered : replies (system two_ranks) (decides (system two_ranks)) (opening (system two_ranks)) calls ≡ map (λ (r : Call × Option ℕ). r.1) trace
unfolding replies reply step opening start_state finish_state word_on update put item_list flat_map range gather transfers_of transferred wanted any_below source or_else last_before mem item_at wrapped all_below fewer slot copy reads_of writes_of compute_of initial Dec.and true_or_false dec_lt dec_le ℕ_discrete dec_map dec_imp dec_sum dec_then dec_below dec_below_suc dec_some dec_some_cons scan scan_suc last_same last_next last_far last_writer dec_before dec_writes dec_accesses dec_conflict dec_last dec_unwritten dec_through dec_dependence dec_edge dec_met dec_ready dec_start dec_finish
answered = refl

results : map (result_of two_ranks (run (system two_ranks) (decides (system two_ranks)) (opening (system two_ranks)) calls)) (0 ∷ 1 ∷ []) ≡ 7 ∷ 13 ∷ []
unfolding result_of run step opening start_state finish_state word_on update put item_list flat_map range gather transfers_of transferred wanted any_below source or_else last_before mem item_at wrapped all_below fewer slot copy reads_of writes_of compute_of initial Dec.and true_or_false dec_lt dec_le ℕ_discrete dec_map dec_imp dec_sum dec_then dec_below dec_below_suc dec_some dec_some_cons scan scan_suc last_same last_next last_far last_writer dec_before dec_writes dec_accesses dec_conflict dec_last dec_unwritten dec_through dec_dependence dec_edge dec_met dec_ready dec_start dec_finish
results = refl

pub two_ranks_lem : TwoRanks
two_ranks_lem =
    record {
      fits = fits;
      items = items;
      edges = ten_edges_lem;
      all_steps_lem = sixteen;
      words = words;
      loop_words = loop_words;
      finals = finals;
      answered = λ can. same_replies (system two_ranks) can (decides (system two_ranks)) (opening (system two_ranks)) calls ∙ answered;
      results = λ can. ap (λ (s : State). map (result_of two_ranks s) (0 ∷ 1 ∷ [])) (same_run (system two_ranks) can (decides (system two_ranks)) (opening (system two_ranks)) calls) ∙ results;
    }
