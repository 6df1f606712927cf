-- The records of joined lists, and the text of joined records.
use mathlib.Core.Path.{◌≡◌, refl, sym, ap, ◌∙◌}
use mathlib.Core.List.{List, [], ◌∷◌, ◌++◌, append_assoc}
use Prim.Native.Nat.{ℕ}
use Rattle.text.specs.declared.Number.TheVariants.{Value}
use Rattle.text.specs.declared.Record.{Record}
use Rattle.text.specs.declared.Record.TheVariants.{Begin, End}
use Rattle.reading.specs.Plan.{Access, Start, Task}
use Rattle.reading.specs.Written.{access_records, line, start_records, task_records, text_from}

pub starts_append : (l k : List Start) → start_records (l ++ k) ≡ start_records l ++ start_records k
starts_append [] k = refl
starts_append (s ∷ l) k = ap (λ r. Record.Start (Value s.region) (Value s.value) ∷ r) (starts_append l k)

pub accesses_append : (l k : List Access) → access_records (l ++ k) ≡ access_records l ++ access_records k
accesses_append [] k = refl
accesses_append (a ∷ l) k = ap (λ r. Record.Access a.mode (Value a.region) ∷ r) (accesses_append l k)

pub tasks_append : (l k : List Task) → task_records (l ++ k) ≡ task_records l ++ task_records k
tasks_append [] k = refl
tasks_append (t ∷ l) k =
    ap (λ r. Begin (Value t.rank) (Value t.kernel) (Value t.constant) ∷ (access_records t.accesses ++ (End ∷ r))) (tasks_append l k)
    ∙ ap (λ r. Begin (Value t.rank) (Value t.kernel) (Value t.constant) ∷ r) (sym (append_assoc (access_records t.accesses) (End ∷ task_records l) (task_records k)))

pub text_append : (l k : List Record) → text_from (l ++ k) ≡ text_from l ++ text_from k
text_append [] k = refl
text_append (r ∷ l) k = ap (λ (s : List ℕ). line r ++ (10 ∷ s)) (text_append l k) ∙ sym (append_assoc (line r) (10 ∷ text_from l) (text_from k))
