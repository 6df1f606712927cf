-- The items of the example, and the numbers of its unrolled loop: computed.
use Prim.Native.Nat.{ℕ, zero, suc, ◌+◌, ◌-◌, ◌*◌, ◌%◌, ◌^◌, ◌<◌}
use mathlib.Core.Path.{◌≡◌, refl, ◌∙◌, ap}
use mathlib.Core.List.{List, [], ◌∷◌, map, flat_map}
use mathlib.Core.Option.{or_else}
use native.Mathlib.Nat.{mod-eq_of_lt}
use native.Mathlib.Omega.{arith}
use lib.ListN.{length, get_or}
use Rattle.finite.specs.Below.{all_below, any_below, count_below}
use Rattle.finite.specs.Lists.{mem, gather, range}
use Rattle.finite.specs.Update.{put}
use Rattle.kernels.specs.Kernels.{total, kernel_word}
use Rattle.body.specs.Loop.{task_word, tasks_run, cells_of, cells_at, loop_word, loop_final}
use Rattle.body.specs.Transfers.{last_before, source, wanted, transferred, transfers_of, transfer_count, wrapped, wrapped_count}
use Rattle.body.specs.Items.{Item, writer, task, send, receive, fewer, item_list, item_count, item_at, item_passes, total_steps}
use Rattle.plan.specs.Layout.{body_of}
use Rattle.tried.specs.Table.{example_words, ahead_words}

-- the items of the example, whatever its passes
pub example_items : (p : ℕ) → item_list (body_of (example_words p)) ≡ task 0 ∷ send 0 0 1 ∷ receive 0 0 1 ∷ task 1 ∷ []
unfolding item_list flat_map range gather transfers_of transferred wanted any_below source or_else last_before mem
example_items p = refl

-- none of its transfers is wrapped, so each item has the plan's passes
pub example_passes : (p a : ℕ) → a < 4 → item_passes (body_of (example_words p)) a ≡ p
unfolding item_at fewer wrapped all_below item_list flat_map range gather transfers_of transferred wanted any_below source or_else last_before mem
example_passes p zero l = omega arith
example_passes p (suc zero) l = omega arith
example_passes p (suc (suc zero)) l = omega arith
example_passes p (suc (suc (suc zero))) l = omega arith
example_passes p (suc (suc (suc (suc a)))) l = absurd (omega arith)

none_wrapped : (p : ℕ) → wrapped_count (body_of (example_words p)) ≡ 0
unfolding wrapped_count transfer_count count_below wrapped all_below flat_map range gather transfers_of transferred wanted any_below source or_else last_before mem
none_wrapped p = refl

pub example_total : (p : ℕ) → total_steps (body_of (example_words p)) ≡ 2 * (p * 4)
unfolding total_steps
example_total p =
    let n : item_count (body_of (example_words p)) ≡ 4 = ap length (example_items p) in
    ap (λ (x : ℕ). 2 * (p * x - 2 * wrapped_count (body_of (example_words p)))) n ∙ omega (arith, none_wrapped p)

-- B and C: the final numbers of the unrolled loop

pub final_two : (loop_final (body_of (example_words 2)) 0 ≡ 7) × (loop_final (body_of (example_words 2)) 1 ≡ 13)
unfolding loop_final cells_of tasks_run task_word put mem gather kernel_word total
final_two = (refl, refl)

pub final_none : (loop_final (body_of (example_words 0)) 0 ≡ 5) × (loop_final (body_of (example_words 0)) 1 ≡ 0)
unfolding loop_final cells_of
final_none = (refl, refl)

-- the task that item 0 is
pub first_writer : (p : ℕ) → writer (item_at (body_of (example_words p)) 0) ≡ 0
unfolding item_at
first_writer p = ap (λ (l : List Item). writer (get_or l 0 (task 0))) (example_items p)

-- I, card 5: region 0 before pass q, at the end, and the word of task 0 in pass q

cells_next : (p q : ℕ) → cells_of (body_of (example_words p)) (suc q) 0 ≡ (1 + (cells_of (body_of (example_words p)) q 0 + 0)) % 2 ^ 64
unfolding cells_of tasks_run task_word put mem gather kernel_word total
cells_next p q = refl

cells_of_lem : (p q : ℕ) → q + 5 < 2 ^ 64 → cells_of (body_of (example_words p)) q 0 ≡ q + 5
unfolding cells_of
cells_of_lem p zero h = refl
cells_of_lem p (suc q) h =
    let m : 1 + (q + 5 + 0) < 2 ^ 64 = omega arith in
    cells_next p q ∙ (ap (λ (x : ℕ). (1 + (x + 0)) % 2 ^ 64) (cells_of_lem p q (omega arith)) ∙ (mod-eq_of_lt m ∙ omega arith))

pub final_of : (p : ℕ) → p + 5 < 2 ^ 64 → loop_final (body_of (example_words p)) 0 ≡ p + 5
unfolding loop_final
final_of p h = cells_of_lem p p h

pub word_of_lem : (p q : ℕ) → q + 6 < 2 ^ 64 → loop_word (body_of (example_words p)) q 0 ≡ q + 6
unfolding loop_word cells_at tasks_run task_word mem gather kernel_word total
word_of_lem p q h =
    let m : 1 + (q + 5 + 0) < 2 ^ 64 = omega arith in
    ap (λ (x : ℕ). (1 + (x + 0)) % 2 ^ 64) (cells_of_lem p q (omega arith)) ∙ (mod-eq_of_lt m ∙ omega arith)

-- card 2: a wrapped transfer

pub ahead_passes : map (item_passes (body_of ahead_words)) (0 ∷ 1 ∷ 2 ∷ 3 ∷ []) ≡ 2 ∷ 2 ∷ 1 ∷ 1 ∷ []
unfolding item_at fewer wrapped all_below item_list flat_map range gather transfers_of transferred wanted any_below source or_else last_before mem
ahead_passes = refl

pub ahead_total : total_steps (body_of ahead_words) ≡ 12
unfolding total_steps wrapped_count transfer_count count_below wrapped all_below item_list flat_map range gather transfers_of transferred wanted any_below source or_else last_before mem
ahead_total = refl

pub ahead_final : (loop_final (body_of ahead_words) 0 ≡ 7) × (loop_final (body_of ahead_words) 1 ≡ 11)
unfolding loop_final cells_of tasks_run task_word put mem gather kernel_word total
ahead_final = (refl, refl)
