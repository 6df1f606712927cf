-- The written text is made of the parts that code puts one after another.
use Prim.Native.Nat.{ℕ, zero, suc, ◌+◌, ◌/◌, ◌%◌}
use mathlib.Core.Path.{◌≡◌, refl, sym, ◌∙◌, ap, ap₂}
use mathlib.Core.Bool.{Bool, true, false, cond}
use mathlib.Core.List.{List, [], ◌∷◌, ◌++◌, append_assoc}
use native.Mathlib.Omega.{arith}
use borrow.Author.Tests.{eq-eqb, ne_eqb}
use lib.Dec.{eqb, eqb-suc-zero}
use Rattle.finite.specs.Lists.{collect, tabulate}
use Rattle.finite.proofs.Collect.{collect_first, collect_ext}
use Rattle.text.specs.declared.Number.TheVariants.{Value}
use Rattle.text.specs.declared.Record.{Record}
use Rattle.text.specs.declared.Record.TheVariants.{Loop, Begin, End}
use Rattle.text.specs.Ascii.{ascii}
use Rattle.plan.specs.Layout.{passes_of, ranks_of, regions_of, tasks_of, starting_of, rank_of, kernel_of, constant_of, accesses_of, access_at}
use Rattle.reading.specs.Plan.{access_of, mode_of, plan_of, starts_of, task_of}
use Rattle.text.specs.Digits.{digits}
use Rattle.reading.specs.Written.{access_records, line, start_records, task_records, text_from, text_of}
use Rattle.reading.proofs.Appends.{accesses_append, tasks_append, text_append}
use Rattle.writer.specs.Parts.{field, last, three, mode_text, access_line, access_line_at, loop_line, start_line, begin_line, task_lines, start_lines, all_tasks}

-- lines of two and of three numbers, and what stands behind them

two_fields : (x y rest : List ℕ) → (x ++ (9 ∷ y)) ++ (10 ∷ rest) ≡ (x ++ (9 ∷ (y ++ (10 ∷ [])))) ++ rest
two_fields x y rest = simp append_assoc refl

three_fields : (x y z rest : List ℕ) → (x ++ (9 ∷ (y ++ (9 ∷ z)))) ++ (10 ∷ rest) ≡ (x ++ (9 ∷ (y ++ (9 ∷ (z ++ (10 ∷ [])))))) ++ rest
three_fields x y z rest = simp append_assoc refl

loop_text : (p q n : ℕ) (rest : List ℕ) → line (Loop (Value p) (Value q) (Value n)) ++ (10 ∷ rest) ≡ (ascii "loop" ++ three p q n) ++ rest
loop_text p q n rest = ap (λ (s : List ℕ). ascii "loop" ++ (9 ∷ s)) (three_fields (digits (Value p)) (digits (Value q)) (digits (Value n)) rest)

begin_text : (q k c : ℕ) (rest : List ℕ) → line (Begin (Value q) (Value k) (Value c)) ++ (10 ∷ rest) ≡ (ascii "begin" ++ three q k c) ++ rest
begin_text q k c rest = ap (λ (s : List ℕ). ascii "begin" ++ (9 ∷ s)) (three_fields (digits (Value q)) (digits (Value k)) (digits (Value c)) rest)

start_text : (g v : ℕ) (rest : List ℕ) → line (Record.Start (Value g) (Value v)) ++ (10 ∷ rest) ≡ (ascii "start" ++ (field g ++ last v)) ++ rest
start_text g v rest = ap (λ (s : List ℕ). ascii "start" ++ (9 ∷ s)) (two_fields (digits (Value g)) (digits (Value v)) rest)

-- accesses

pub mode_other : (m : ℕ) → (m ≡ 0 → ⊥) → (m ≡ 1 → ⊥) → mode_text m ≡ mode_text 2
unfolding mode_text
mode_other m h k = rw (ne_eqb m 0 h, ne_eqb m 1 k)

access_text : (m x : ℕ) → line (Record.Access (mode_of m) (Value x)) ++ (10 ∷ []) ≡ mode_text m ++ last x
unfolding mode_text
access_text zero x = refl
access_text (suc zero) x = refl
access_text (suc (suc m)) x = rw (eqb-suc-zero (suc m), ne_eqb (suc (suc m)) 1 (λ e. omega arith))

module _ (w : List ℕ) where
  accesses_text : (i n : ℕ) → text_from (access_records (tabulate n (λ a. access_of (access_at w i a)))) ≡ collect n (access_line_at w i)
  unfolding tabulate collect access_line_at access_line
  accesses_text i zero = refl
  accesses_text i (suc n) =
      let l = tabulate n (λ a. access_of (access_at w i a)) in
      ap text_from (accesses_append l (access_of (access_at w i n) ∷ []))
      ∙ text_append (access_records l) (access_records (access_of (access_at w i n) ∷ []))
      ∙ ap₂ ◌++◌ (accesses_text i n) (access_text (access_at w i n / 128) (access_at w i n % 128))

  task_text : (i : ℕ) → text_from (task_records (task_of w i ∷ [])) ≡ task_lines w i
  unfolding task_lines begin_line
  task_text i =
      let l = access_records (task_of w i).accesses in
      begin_text (rank_of w i) (kernel_of w i) (constant_of w i) (text_from (l ++ (End ∷ [])))
      ∙ ap (λ (s : List ℕ). begin_line w i ++ s) (text_append l (End ∷ []) ∙ ap (λ (s : List ℕ). s ++ ascii "end\n") (accesses_text i (accesses_of w i)))

  tasks_text : (n : ℕ) → text_from (task_records (tabulate n (task_of w))) ≡ collect n (task_lines w)
  unfolding tabulate collect
  tasks_text zero = refl
  tasks_text (suc n) =
      let l = tabulate n (task_of w) in
      ap text_from (tasks_append l (task_of w n ∷ []))
      ∙ text_append (task_records l) (task_records (task_of w n ∷ []))
      ∙ ap₂ ◌++◌ (tasks_text n) (task_text n)

  -- regions from g on

  start_next : (g n : ℕ) → text_from (start_records (starts_of w g (suc n))) ≡ start_line w g ++ text_from (start_records (starts_of w (suc g) n))
  unfolding start_line
  start_next g n = go (eqb (starting_of w g) 0)
    where
      go : (t : Bool) →
          text_from (start_records (cond t (starts_of w (suc g) n) (record { region = g; value = starting_of w g } ∷ starts_of w (suc g) n)))
          ≡ cond t [] (ascii "start" ++ (field g ++ last (starting_of w g))) ++ text_from (start_records (starts_of w (suc g) n))
      go true = refl
      go false = start_text g (starting_of w g) (text_from (start_records (starts_of w (suc g) n)))

  pub start_none : (g : ℕ) → starting_of w g ≡ 0 → start_line w g ≡ []
  unfolding start_line
  start_none g h = rw (eq-eqb (starting_of w g) 0 h)

  pub start_some : (g : ℕ) → (starting_of w g ≡ 0 → ⊥) → start_line w g ≡ ascii "start" ++ (field g ++ last (starting_of w g))
  unfolding start_line
  start_some g h = rw (ne_eqb (starting_of w g) 0 h)

  starts_text : (g n : ℕ) → text_from (start_records (starts_of w g n)) ≡ collect n (λ k. start_line w (g + k))
  unfolding collect
  starts_text g zero = refl
  starts_text g (suc n) =
      let e : g + 0 ≡ g = omega arith in
      start_next g n
      ∙ ap₂ ◌++◌ (ap (start_line w) (sym e)) (starts_text (suc g) n ∙ collect_ext n (λ k. start_line w (suc g + k)) (λ k. start_line w (g + suc k)) (λ k l. let f : suc g + k ≡ g + suc k = omega arith in ap (start_line w) f))
      ∙ sym (collect_first n (λ k. start_line w (g + k)))

  pub text_parts : text_of w ≡ loop_line w ++ (start_lines w ++ all_tasks w)
  unfolding text_of plan_of loop_line
  text_parts =
      loop_text (passes_of w) (ranks_of w) (regions_of w) (text_from (start_records (starts_of w 0 (regions_of w)) ++ task_records (tabulate (tasks_of w) (task_of w))))
      ∙ ap (λ (s : List ℕ). loop_line w ++ s)
      (text_append (start_records (starts_of w 0 (regions_of w))) (task_records (tabulate (tasks_of w) (task_of w)))
      ∙ ap₂ ◌++◌
      (starts_text 0 (regions_of w) ∙ collect_ext (regions_of w) (λ k. start_line w (0 + k)) (start_line w) (λ k l. let e : 0 + k ≡ k = omega arith in ap (start_line w) e))
      (tasks_text (tasks_of w)))
