-- The statements of specs/Meaning.antt and specs/Computes.antt, proved.
use Prim.Native.Nat.{ℕ, zero, suc, ◌<◌}
use mathlib.Core.Path.{◌≡◌, refl, sym, ◌∙◌, ap}
use mathlib.Core.Bool.{Bool, true, false, cond}
use mathlib.Core.Logic.{⊎_elim, ◌↔◌}
use mathlib.Core.List.{List}
use mathlib.Core.Option.{Option, none, some}
use native.Mathlib.Omega.{arith}
use borrow.Author.Tests.{eqb-true}
use lib.Dec.{eqb}
use Rattle.finite.specs.Lists.{mem}
use Rattle.finite.proofs.Tests.{false_of}
use Rattle.finite.proofs.Update.{put_out}
use Rattle.unroll.specs.System.{reading}
use Rattle.unroll.specs.Sequential.{store_at, word}
use Rattle.unroll.specs.Machine.{Call, item, Decides}
use Rattle.unroll.specs.AnyOrder.{End, reached, reply_after, steps, times, AnyOrder}
use Rattle.unroll.proofs.Fewer.{store_fewer, word_fewer}
use Rattle.unroll.proofs.Theorems.{any_order, start_rule}
use Rattle.body.specs.Body.{Body, Fits}
use Rattle.body.specs.Loop.{tasks_run, cells_of, cells_at, loop_word, loop_final}
use Rattle.body.specs.Transfers.{last_before, wrapped}
use Rattle.body.specs.Items.{writer, item_count, item_at, item_passes, total_steps}
use Rattle.body.specs.Places.{copy, system, result_from, result_of}
use Rattle.body.specs.Meaning.{Meaning}
use Rattle.body.specs.Computes.{InOrder, Computes, Laws}
use Rattle.body.proofs.Writers.{last_writer, no_writer, sources, last_some, last_none}
use Rattle.body.proofs.ItemList.{tasks_listed, sends_listed, receives_listed}
use Rattle.body.proofs.ItemCount.{items_counted}
use Rattle.body.proofs.Wrapped.{wraps, passes_task, passes_wrapped, passes_other, passes_most, wrapped_last}
use Rattle.body.proofs.WrappedCount.{total, total_no_pass, total_each, all_steps_lem}
use Rattle.body.proofs.Made.{writers_made, waits_made, result_whole}
use Rattle.body.proofs.ItemOrder.{ordered, listed_once, send_then, receive_after}
use Rattle.body.proofs.Numbered.{numbered}
use Rattle.body.proofs.Places.{slots_apart, copies_apart, copy_no_slot, copy_opening, slot_opening}
use Rattle.body.proofs.Accessed.{one_rank}
use Rattle.body.proofs.Holders.{holder, holder_start, up_to_date_own}
use Rattle.body.proofs.Simulation.{full_system, before_pass, words}

module _ (B : Body) where
  tasks_unwritten : (t g : ℕ) (c : ℕ → ℕ) → ((k : ℕ) → k < t → mem g (B.writes k) ≡ false) → tasks_run B t c g ≡ c g
  unfolding tasks_run
  tasks_unwritten zero g c f = refl
  tasks_unwritten (suc t) g c f = put_out (B.writes t) _ _ g (f t (omega arith)) ∙ tasks_unwritten t g c (λ k l. f k (omega arith))

  cells_unwritten : (p g : ℕ) → ((k : ℕ) → k < B.tasks → mem g (B.writes k) ≡ false) → cells_of B p g ≡ B.starting g
  unfolding cells_of
  cells_unwritten zero g f = refl
  cells_unwritten (suc p) g f = tasks_unwritten B.tasks g (cells_of B p) f ∙ cells_unwritten p g f

  final_unwritten : (g : ℕ) → last_before B B.tasks g ≡ none → loop_final B g ≡ B.starting g
  unfolding loop_final
  final_unwritten g e = cells_unwritten B.passes g (last_none B B.tasks g e)

  final_no_pass : (g : ℕ) → B.passes ≡ 0 → loop_final B g ≡ B.starting g
  unfolding loop_final cells_of
  final_no_pass g e = ap (λ (p : ℕ). cells_of B p g) e

  module _ (F : Fits B) where
    -- the instances left out change no word of the others
    words_made : (p a : ℕ) → p < item_passes B a → a < item_count B → word (system B) p a ≡ loop_word B p (writer (item_at B a))
    words_made p a lp la =
        word_fewer (full_system B) (item_passes B) (λ a l. (passes_most B (item_at B a)).0)
        (λ q b x lb h c p a la u v k. writers_made B F p a q b x la lb u v (reading c) h) p a la lp
        ∙ words B F p a (omega (arith, (passes_most B (item_at B a)).0)) la

    -- the copy on the rank of the last writer is up to date before every pass
    full_written : (g j : ℕ) → g < B.regions → last_before B B.tasks g ≡ some j → store_at (full_system B) B.passes 0 (copy B (B.rank j) g) ≡ loop_final B g
    unfolding loop_final cells_at tasks_run
    full_written g j lg e =
        (before_pass B F B.passes (omega arith)).copies (B.rank j) g (F.rank_below j (last_some B B.tasks g j e).below) lg
        (⊎_elim
        (λ (h : holder B B.passes 0 g ≡ none). rw h)
        (λ (h : holder B B.passes 0 g ≡ last_before B B.tasks g). rw (h ∙ e) (up_to_date_own B j g))
        (holder_start B B.passes g))

    -- and no instance left out writes it
    final_written : (g j : ℕ) → g < B.regions → last_before B B.tasks g ≡ some j → store_at (system B) B.passes 0 (copy B (B.rank j) g) ≡ loop_final B g
    final_written g j lg e =
        store_fewer (full_system B) (item_passes B) (λ a l. (passes_most B (item_at B a)).0)
        (λ q b x lb h c p a la u v k. writers_made B F p a q b x la lb u v (reading c) h) B.passes 0 (copy B (B.rank j) g) (omega arith)
        (λ p a la u v k. result_whole B F g j lg (last_some B B.tasks g j e) p a la v k)
        ∙ full_written g j lg e

    pub in_order : InOrder B
    in_order = record { words = words_made; written = final_written; unwritten = final_unwritten; no_pass_lem = final_no_pass }

    pub meaning : Meaning B
    meaning =
        record {
          last_writer = last_writer B;
          no_writer = no_writer B;
          sources = sources B;
          wraps = wraps B;
          task_passes = λ a i e. passes_task B i (item_at B a) e;
          wrapped_passes = λ a i g q o w. passes_wrapped B i g q (item_at B a) o ((wraps B i g q).1 w);
          other_passes = λ a i g q o w. passes_other B i g q (item_at B a) o (false_of (wrapped B i g q) (λ t. w ((wraps B i g q).0 t)));
          total = total B;
          total_no_pass = total_no_pass B;
          total_each = total_each B;
          waits_made = waits_made B F;
          wrapped_last = wrapped_last B;
          tasks_listed = tasks_listed B;
          sends_listed = sends_listed B;
          receives_listed = receives_listed B;
          counted = items_counted B;
          ordered = ordered B F;
          listed_once = listed_once B F;
          send_then = send_then B F;
          receive_after = receive_after B F;
          numbered = numbered B;
          copies_apart = copies_apart B;
          slots_apart = slots_apart;
          copy_no_slot = copy_no_slot B F;
          copy_opening = copy_opening B;
          slot_opening = slot_opening B F;
          one_rank = one_rank B F;
        }

    module _ (can : Decides (system B)) where
      in_any_order : AnyOrder (system B) can
      in_any_order = any_order (system B) can (writers_made B F)

      answers : (l : List Call) (c : Call) (v : ℕ) → reply_after (system B) can l c ≡ some v →
          (item c < item_count B) × (times (system B) can c l < item_passes B (item c)) × (v ≡ loop_word B (times (system B) can c l) (writer (item_at B (item c))))
      answers l c v e =
          let m = in_any_order.in_passes l c v e in
          (m.0, m.1, in_any_order.answers l c v e ∙ words_made (times (system B) can c l) (item c) m.1 m.0)

      ends : (l : List Call) → End (system B) (reached (system B) can l) ↔ (steps (system B) can l ≡ total_steps B)
      ends l = (λ e. (in_any_order.ends l).0 e ∙ all_steps_lem B, λ e. (in_any_order.ends l).1 (e ∙ sym (all_steps_lem B)))

      results : (l : List Call) → End (system B) (reached (system B) can l) → (g : ℕ) → g < B.regions → result_of B (reached (system B) can l) g ≡ loop_final B g
      unfolding result_of
      results l end g lg = from (last_before B B.tasks g) refl
        where
          made : (j : ℕ) → last_before B B.tasks g ≡ some j → (b : Bool) → eqb B.passes 0 ≡ b →
              cond b (B.starting g) ((reached (system B) can l).places (copy B (B.rank j) g)) ≡ loop_final B g
          made j e true z = sym (final_no_pass g (eqb-true B.passes 0 z))
          made j e false z = in_any_order.final l end B.passes (λ a la. (passes_most B (item_at B a)).0) (copy B (B.rank j) g) ∙ final_written g j lg e

          from : (o : Option ℕ) → last_before B B.tasks g ≡ o → result_from B (reached (system B) can l) g o ≡ loop_final B g
          from none e = sym (final_unwritten g e)
          from (some j) e = made j e (eqb B.passes 0) refl

      pub computes : Computes B can
      computes = record { any_order = in_any_order; answers = answers; ends = ends; results = results }

pub laws : Laws
laws = record { meaning = meaning; start_rule = λ B. start_rule (system B); writers_made = writers_made; in_order = in_order; computes = computes }
