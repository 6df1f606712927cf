-- How many bytes the parts of a text have.
use Prim.Native.Nat.{ℕ, ◌+◌, ◌*◌, ◌/◌, ◌%◌, ◌≤◌}
use mathlib.Core.Path.{◌≡◌, refl, ap}
use mathlib.Core.List.{List, ◌∷◌, [], ◌++◌}
use native.Mathlib.Nat.{suc-mul}
use native.Mathlib.Numerals.{add-one}
use native.Mathlib.Omega.{arith}
use lib.ListN.{length, length-append}
use Rattle.finite.specs.Lists.{collect}
use Rattle.finite.proofs.Collect.{collect_next}
use Rattle.text.specs.declared.Number.TheVariants.{Value}
use Rattle.text.specs.Ascii.{ascii}
use Rattle.plan.specs.Layout.{passes_of, ranks_of, regions_of, starting_of, rank_of, kernel_of, constant_of}
use Rattle.text.specs.Digits.{digits}
use Rattle.reading.specs.Written.{text_of}
use Rattle.writer.specs.Parts.{field, last, three, mode_text, access_line, access_lines, loop_line, start_line, begin_line, task_lines, start_lines, all_tasks}
use Rattle.writer.proofs.Parts.{start_some, mode_other, text_parts}

-- the digits of a number
abbrev pub count : ℕ → ℕ
count n = length (digits (Value n))

last_length : (n : ℕ) → length (last n) ≡ 2 + count n
last_length n = omega (arith, length-append (digits (Value n)) (10 ∷ []))

pub three_length : (x y z : ℕ) → length (three x y z) ≡ 4 + count x + count y + count z
three_length x y z =
    omega (arith, length-append (field x) (field y ++ last z), length-append (field y) (last z), last_length z)

pub start_length : (w : List ℕ) (g : ℕ) → (starting_of w g ≡ 0 → ⊥) → length (start_line w g) ≡ 8 + count g + count (starting_of w g)
start_length w g h =
    omega (arith, ap length (start_some w g h), length-append (ascii "start") (field g ++ last (starting_of w g)), length-append (field g) (last (starting_of w g)), last_length (starting_of w g))

-- the line of an access, by its mode
module _ (c : ℕ) where
  access_length : (m : ℕ) → mode_text (c / 128) ≡ mode_text m → length (access_line c) ≡ length (mode_text m) + 2 + count (c % 128)
  unfolding access_line
  access_length m e = omega (arith, length-append (mode_text (c / 128)) (last (c % 128)), ap length e, last_length (c % 128))

  pub in_length : c / 128 ≡ 0 → length (access_line c) ≡ 4 + count (c % 128)
  unfolding mode_text
  in_length e = omega (arith, access_length 0 (ap mode_text e))

  pub out_length : c / 128 ≡ 1 → length (access_line c) ≡ 5 + count (c % 128)
  unfolding mode_text
  out_length e = omega (arith, access_length 1 (ap mode_text e))

  pub inout_length : (c / 128 ≡ 0 → ⊥) → (c / 128 ≡ 1 → ⊥) → length (access_line c) ≡ 7 + count (c % 128)
  unfolding mode_text
  inout_length h k = omega (arith, access_length 2 (mode_other (c / 128) h k))

module _ (w : List ℕ) where
  pub task_length : (i : ℕ) → length (task_lines w i) ≡ 9 + length (three (rank_of w i) (kernel_of w i) (constant_of w i)) + length (access_lines w i)
  unfolding task_lines begin_line
  task_length i =
      omega (
        arith,
        length-append (begin_line w i) (access_lines w i ++ ascii "end\n"),
        length-append (ascii "begin") (three (rank_of w i) (kernel_of w i) (constant_of w i)),
        length-append (access_lines w i) (ascii "end\n"),
      )

  pub text_length : length (text_of w) ≡ 4 + length (three (passes_of w) (ranks_of w) (regions_of w)) + length (start_lines w) + length (all_tasks w)
  unfolding loop_line
  text_length =
      omega (
        arith,
        ap length (text_parts w),
        length-append (loop_line w) (start_lines w ++ all_tasks w),
        length-append (ascii "loop") (three (passes_of w) (ranks_of w) (regions_of w)),
        length-append (start_lines w) (all_tasks w),
      )

-- A loop that adds up the lengths of f 0, f 1, .., each at most m.
pub record Summed (f : ℕ → List ℕ) (m i sum : ℕ) : Type 0 where
  pub all : sum ≡ length (collect i f)
  pub most : sum ≤ i * m

module _ (f : ℕ → List ℕ) (m : ℕ) where
  pub sum_none : Summed f m 0 0
  unfolding collect
  sum_none = record { all = refl; most = omega arith }

  pub sum_more : (i sum r : ℕ) → Summed f m i sum → r ≡ length (f i) → r ≤ m → Summed f m (i + 1) (sum + r)
  sum_more i sum r s e h =
      record {
        all = omega (arith, s.all, ap length (collect_next f i), length-append (collect i f) (f i));
        most = rw (add-one i) (omega (arith, s.most, suc-mul i m));
      }

  pub sum_done : (n i sum : ℕ) → Summed f m i sum → n ≤ i → i ≤ n → Summed f m n sum
  sum_done n i sum s h k = let e : i ≡ n = omega arith in rw e at s
