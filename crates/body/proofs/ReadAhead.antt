-- The example of a read ahead of its writer, computed.
use Prim.Native.Nat.{ℕ, zero, suc, ◌<◌}
use mathlib.Core.Path.{◌≡◌, refl, ◌∙◌, ap}
use mathlib.Core.Bool.{true}
use mathlib.Core.Logic.Dec
use mathlib.Core.Logic.{⊎_elim}
use mathlib.Core.List.{[], ◌∷◌, map, flat_map}
use mathlib.Core.Option.{Option, or_else}
use native.Mathlib.Decide.{dec_lt, dec_le, ℕ_discrete}
use native.Mathlib.Omega.{arith}
use Rattle.finite.specs.Below.{all_below, any_below, count_below, sum_below}
use Rattle.finite.specs.Lists.{mem, distinct, range, gather}
use Rattle.finite.specs.Update.{update, put}
use Rattle.finite.proofs.Tests.{true_or_false}
use Rattle.finite.proofs.Decide.{dec_map, dec_imp, dec_sum, dec_then, dec_below, dec_below_suc, dec_some, dec_some_cons}
use Rattle.finite.proofs.Members.{mem_one, mem_cases}
use Rattle.unroll.specs.Sequential.{word_on}
use Rattle.unroll.specs.Machine.{State, Call, opening, start_state, finish_state, reply, step, run, replies}
use Rattle.unroll.specs.AnyOrder.{all_steps}
use Rattle.unroll.proofs.LastWriter.{scan, scan_suc, last_same, last_next, last_far, last_writer}
use Rattle.unroll.proofs.Decide.{dec_before, dec_writes, dec_accesses, dec_conflict, dec_last, dec_unwritten, dec_through, dec_dependence, dec_edge, dec_met, dec_ready, dec_start, dec_finish, decides}
use Rattle.unroll.proofs.Local.{same_replies, same_run}
use Rattle.body.specs.Body.{Fits}
use Rattle.body.specs.Loop.{task_word, tasks_run, cells_of, loop_final}
use Rattle.body.specs.Transfers.{last_before, source, wanted, transferred, transfers_of, transfer_count, wrapped, wrapped_count}
use Rattle.body.specs.Items.{task, send, receive, fewer, item_list, item_at, item_passes, total_steps}
use Rattle.body.specs.Places.{slot, copy, reads_of, writes_of, compute_of, initial, system, result_of}
use Rattle.body.specs.ReadAhead.{read_ahead, trace, calls, ReadAhead}

regions_below : (i g : ℕ) → i < 2 → mem g (read_ahead.reads i) ≡ true → g < 2
regions_below zero g l m = ⊎_elim (λ (e : g ≡ 0). omega arith) (λ n. omega (arith, mem_one g 1 n)) (mem_cases g 0 (1 ∷ []) m)
regions_below (suc zero) g l m = omega (arith, mem_one g 0 m)
regions_below (suc (suc i)) g l m = absurd (omega arith)

written_below : (i g : ℕ) → i < 2 → mem g (read_ahead.writes i) ≡ true → g < 2
written_below zero g l m = omega (arith, mem_one g 1 m)
written_below (suc zero) g l m = omega (arith, mem_one g 0 m)
written_below (suc (suc i)) g l m = absurd (omega arith)

rank_below : (i : ℕ) → i < 2 → read_ahead.rank i < 2
rank_below zero l = omega arith
rank_below (suc zero) l = omega arith
rank_below (suc (suc i)) l = absurd (omega arith)

written_once : (i : ℕ) → i < 2 → distinct (read_ahead.writes i) ≡ true
unfolding distinct mem
written_once zero l = refl
written_once (suc zero) l = refl
written_once (suc (suc i)) l = absurd (omega arith)

fits : Fits read_ahead
fits = record { rank_below = rank_below; reads_below = regions_below; writes_below = written_below; written_once = written_once; room = omega arith }

items : item_list read_ahead ≡ task 0 ∷ task 1 ∷ send 1 0 0 ∷ receive 1 0 0 ∷ []
unfolding item_list flat_map range gather transfers_of transferred wanted any_below source or_else last_before mem
items = refl

twelve : all_steps (system read_ahead) ≡ 12
unfolding all_steps sum_below item_list flat_map range gather transfers_of transferred wanted any_below source or_else last_before mem item_at wrapped all_below fewer
twelve = refl

one_wrapped : wrapped_count read_ahead ≡ 1
unfolding wrapped_count count_below transfer_count wrapped all_below flat_map range gather transfers_of transferred wanted any_below source or_else last_before mem
one_wrapped = refl

passes : map (item_passes read_ahead) (0 ∷ 1 ∷ 2 ∷ 3 ∷ []) ≡ 2 ∷ 2 ∷ 1 ∷ 1 ∷ []
unfolding item_list flat_map range gather transfers_of transferred wanted any_below source or_else last_before mem item_at wrapped all_below fewer
passes = refl

total : total_steps read_ahead ≡ 12
unfolding total_steps wrapped_count count_below transfer_count wrapped all_below item_list flat_map range gather transfers_of transferred wanted any_below source or_else last_before mem
total = refl

finals : map (loop_final read_ahead) (0 ∷ 1 ∷ []) ≡ 7 ∷ 11 ∷ []
unfolding task_word tasks_run cells_of loop_final put mem
finals = refl

-- with the test of acceptance that computes, and so with every other
answered : replies (system read_ahead) (decides (system read_ahead)) (opening (system read_ahead)) calls ≡ map (λ (r : Call × Option ℕ). r.1) trace
unfolding replies reply step opening start_state finish_state word_on update put item_list flat_map range gather transfers_of transferred wanted any_below source or_else last_before mem item_at wrapped all_below fewer slot copy reads_of writes_of compute_of initial Dec.and true_or_false dec_lt dec_le ℕ_discrete dec_map dec_imp dec_sum dec_then dec_below dec_below_suc dec_some dec_some_cons scan scan_suc last_same last_next last_far last_writer dec_before dec_writes dec_accesses dec_conflict dec_last dec_unwritten dec_through dec_dependence dec_edge dec_met dec_ready dec_start dec_finish
answered = refl

results : map (result_of read_ahead (run (system read_ahead) (decides (system read_ahead)) (opening (system read_ahead)) calls)) (0 ∷ 1 ∷ []) ≡ 7 ∷ 11 ∷ []
unfolding result_of run step opening start_state finish_state word_on update put item_list flat_map range gather transfers_of transferred wanted any_below source or_else last_before mem item_at wrapped all_below fewer slot copy reads_of writes_of compute_of initial Dec.and true_or_false dec_lt dec_le ℕ_discrete dec_map dec_imp dec_sum dec_then dec_below dec_below_suc dec_some dec_some_cons scan scan_suc last_same last_next last_far last_writer dec_before dec_writes dec_accesses dec_conflict dec_last dec_unwritten dec_through dec_dependence dec_edge dec_met dec_ready dec_start dec_finish
results = refl

pub read_ahead_lem : ReadAhead
read_ahead_lem =
    record {
      fits = fits;
      items = items;
      one_wrapped = one_wrapped;
      passes = passes;
      total = total;
      all_steps_lem = twelve;
      finals = finals;
      answered = λ can. same_replies (system read_ahead) can (decides (system read_ahead)) (opening (system read_ahead)) calls ∙ answered;
      results = λ can. ap (λ (s : State). map (result_of read_ahead s) (0 ∷ 1 ∷ [])) (same_run (system read_ahead) can (decides (system read_ahead)) (opening (system read_ahead)) calls) ∙ results;
    }
