-- What of a text leaves no trace in the words, and which of the texts read to the same words is the written one.
use Prim.Native.Nat.{ℕ}
use mathlib.Core.Path.{◌≡◌, refl, sym, ap, ◌∙◌}
use mathlib.Core.Bool.{true}
use mathlib.Core.Logic.{◌↔◌}
use mathlib.Core.List.{List, [], ◌∷◌, Memᴰ as In}
use native.Mathlib.Decide.{ℕ_discrete}
use Rattle.text.specs.declared.Record.{Record}
use Rattle.finite.specs.Lists.{distinct}
use Rattle.finite.proofs.Tests.{and-true}
use Rattle.text.specs.Records.{record_of, split}
use Rattle.text.proofs.SplitLaws.{split_cons}
use Rattle.text.proofs.Fields.{split_at}
use Rattle.reading.specs.Laws.{Says}
use Rattle.reading.specs.Plan.{Plan, Start, plan_of, start_at, started, words_of}
use Rattle.reading.specs.Reading.{closed, first, next}
use Rattle.reading.specs.Valid.{every, valid}
use Rattle.reading.specs.Written.{Rising, SameButStarts, line, records, text_from, text_of}
use Rattle.reading.proofs.Back.{again, is_canonical, plan_back, start_same, words_same}
use Rattle.reading.proofs.Limits.{Limits, limits}
use Rattle.reading.proofs.Lines.{line_lacks, plain, record_back}
use Rattle.reading.proofs.Round.{plan_rising, said}
use Rattle.reading.proofs.Runs.{run, run_records}
use Rattle.reading.proofs.Sizes.{records_plain}
use Rattle.reading.proofs.Starts.{in_start, rising_unique, start_in_lem}

-- where each `start` of a value in l is also in k, k has every value of l
start_kept : (l k : List Start) → distinct (started k) ≡ true → ((s : Start) → (s.value ≡ 0 → ⊥) → In s l → In s k) →
    (g : ℕ) → (start_at l g ≡ 0 → ⊥) → start_at k g ≡ start_at l g
start_kept l k d f g n =
    let s : Start = record { region = g; value = start_at l g } in
    in_start s k d (f s n (start_in_lem s l n refl))

starts_alike : (l k : List Start) → distinct (started l) ≡ true → distinct (started k) ≡ true → ((s : Start) → (s.value ≡ 0 → ⊥) → In s l ↔ In s k) →
    (g : ℕ) → start_at l g ≡ start_at k g
starts_alike l k c d f g =
    elim (ℕ_discrete (start_at l g) 0) [
      | no n ↦ sym (start_kept l k d (λ s m. (f s m).0) g n)
      | yes e ↦
          elim (ℕ_discrete (start_at k g) 0) [
            | no n ↦ start_kept k l c (λ s m. (f s m).1) g n
            | yes u ↦ e ∙ sym u
          ]
    ]

starts_moved : (l k : List Start) → distinct (started l) ≡ true → ((g : ℕ) → start_at l g ≡ start_at k g) → (s : Start) → (s.value ≡ 0 → ⊥) → In s l → In s k
starts_moved l k d e s n m = start_in_lem s k n (sym (e s.region) ∙ in_start s l d m)

module _ (P Q : Plan) (L : Limits P) (M : Limits Q) where
  same_words : SameButStarts P Q → words_of P ≡ words_of Q
  same_words S = words_same P Q S.passes S.ranks S.regions S.tasks (starts_alike P.starts Q.starts L.once M.once S.starts)

  words_trace : words_of P ≡ words_of Q → SameButStarts P Q
  words_trace e =
      let b : again P L ≡ again Q M = sym (plan_back P L) ∙ ap plan_of e ∙ plan_back Q M in
      let v : (g : ℕ) → start_at P.starts g ≡ start_at Q.starts g = λ g. sym (start_same P L g) ∙ ap (λ (R : Plan). start_at R.starts g) b ∙ start_same Q M g in
      record {
        passes = ap (λ (R : Plan). R.passes) b;
        ranks = ap (λ (R : Plan). R.ranks) b;
        regions = ap (λ (R : Plan). R.regions) b;
        tasks = ap (λ (R : Plan). R.tasks) b;
        starts = λ s n. (starts_moved P.starts Q.starts L.once v s n, starts_moved Q.starts P.starts M.once (λ g. sym (v g)) s n);
      }

  -- plans whose `start` records rise without a value 0 are the same then
  rising_same : SameButStarts P Q → Rising 0 P.starts → Rising 0 Q.starts → P ≡ Q
  rising_same S r q =
      λ i. record {
        passes = S.passes i;
        ranks = S.ranks i;
        regions = S.regions i;
        starts = rising_unique P.starts Q.starts r q S.starts i;
        tasks = S.tasks i;
      }

-- the records of lines
records_in : List (List ℕ) → List Record
records_in [] = []
records_in (l ∷ []) = []
records_in (l ∷ m ∷ ls) = record_of l ∷ records_in (m ∷ ls)

records_back : (l : List Record) → every plain l ≡ true → records_in (split 10 (text_from l)) ≡ l
unfolding records_in
records_back [] h = refl
records_back (r ∷ l) h =
    let a = and-true (plain r) (every plain l) h in
    let c = split_cons 10 (text_from l) in
    let i = rw c.2 at (records_back l a.1) in
    rw (split_at 10 (line r) (text_from l) (line_lacks r a.0), c.2, record_back r a.0, i)

closed_same : (P Q : Plan) → next (closed P) ≡ next (closed Q) → P ≡ Q
closed_same P Q e = cc

-- a text is that of one plan
text_plan : (P Q : Plan) → valid P ≡ true → valid Q ≡ true → text_from (records P) ≡ text_from (records Q) → P ≡ Q
text_plan P Q h k e =
    let r : records P ≡ records Q =
    sym (records_back (records P) (records_plain P (limits P h))) ∙ ap (λ (t : List ℕ). records_in (split 10 t)) e
    ∙ records_back (records Q) (records_plain Q (limits Q k)) in
    closed_same P Q (sym (run_records P h) ∙ ap (run first) r ∙ run_records Q k)

pub no_trace : (text other : List ℕ) (P Q : Plan) → Says text P → Says other Q → (words_of P ≡ words_of Q) ↔ SameButStarts P Q
no_trace text other P Q s t =
    let L = limits P s.within in
    let M = limits Q t.within in
    (words_trace P Q L M, same_words P Q L M)

pub written : (text : List ℕ) (P : Plan) → Says text P → (text ≡ text_of (words_of P)) ↔ Rising 0 P.starts
unfolding text_of
written text P s =
    let L = limits P s.within in
    let Q = plan_of (words_of P) in
    let c = said (words_of P) (is_canonical P L s.some) in
    let M = limits Q c.valids in
    let r = plan_rising (words_of P) in (
      λ e. rw (text_plan P Q s.within c.valids (sym s.lines ∙ e)) r,
      λ q. s.lines ∙ ap (λ (R : Plan). text_from (records R)) (rising_same P Q L M (words_trace P Q L M (sym c.words)) q r),
    )
