-- A step of a journal tried in code: it does not hold, and nothing is changed; or it is made.
use Prim.Native.Nat.{ℕ, suc, ◌+◌}
use mathlib.Core.Path.{◌≡◌, refl, sym, ◌∙◌, ap}
use mathlib.Core.Bool.{Bool, true, false, cond, not, ◌&&◌}
use mathlib.Core.List.{List}
use mathlib.Core.Option.{Option, none, some}
use borrow.Author.Tests.{eq-eqb, ne_eqb}
use lib.Dec.{eqb}
use lib.ListN.{length, get_or, set, length-set}
use Rattle.std.specs.Prelude.{Result, Ok, Err, is_err}
use Rattle.std.proofs.lemmas.Bool.{false≢true}
use Rattle.finite.proofs.Replaced.{length_replaced}
use Rattle.plan.specs.declared.refusal.Refusal.{Refusal}
use Rattle.plan.specs.Refusals.{refusal_number}
use Rattle.plan.proofs.Refusals.{number_above}
use Rattle.steps.specs.State.{first_held}
use Rattle.steps.specs.Answers.{Left, refused}
use Rattle.steps.specs.Calls.{Lent, lent, lent_by}
use Rattle.prepared.specs.Steps.{word_in, counts_in, finished_in}
use Rattle.prepared.specs.Calls.{call_in}
use Rattle.prepared.proofs.Lowering.{lowered_length}
use Rattle.engine.proofs.Rows.{started_by}
use Rattle.ranges.specs.Judged.{start_refusal, finish_refusal}
use Rattle.journal.specs.Lines.{Step, start, finish}
use Rattle.journal.specs.Checking.{call_of, states}
use Rattle.checker.specs.Tried.{SameRoom, Tried, line_refusal, line_leaves, Lined}
use Rattle.checker.proofs.Stepping.{start_refused, start_made, finish_refused, finish_made}

-- the number of what a test answers, by whether it refuses
pub number_refused : {A : Type 0} (r : Result A Refusal) → is_err r ≡ true → refusal_number r ≡ 0 → ⊥
number_refused (Ok x) h = absurd (false≢true h)
number_refused (Err e) h = number_above e

pub number_passed : {A : Type 0} (r : Result A Refusal) → is_err r ≡ false → refusal_number r ≡ 0
number_passed (Ok x) h = refl
number_passed (Err e) h = absurd (false≢true (sym h))

-- by what the step's call answers
module _ (P T : List ℕ) (s : Lent) (e : Step) (q : Left) (is : q ≡ call_in P T s (call_of e)) where
  tried_not : (eqb q.refusal 0 && states e q.word) ≡ false → Tried P T s e false s
  tried_not h =
      record {
        told = sym (ap (λ (x : Left). eqb x.refusal 0 && states e x.word) (sym is) ∙ h);
        leaves = refl;
        room = record { counts = refl; values = refl };
      }

  tried_made : (eqb q.refusal 0 && states e q.word) ≡ true → SameRoom s (lent_by q) → Tried P T s e true (lent_by q)
  tried_made h r =
      record {
        told = sym (ap (λ (x : Left). eqb x.refusal 0 && states e x.word) (sym is) ∙ h);
        leaves = ap lent_by is;
        room = r;
      }

module _ (P T C W : List ℕ) (a : ℕ) where
  -- a start with the word v
  module _ (v n : ℕ) (is : n ≡ start_refusal P T C (length W) a) where
    pub start_barred : (n ≡ 0 → ⊥) → Tried P T (lent C W) (start a v) false (lent C W)
    start_barred h = tried_not P T (lent C W) (start a v) (refused P C W n) (start_refused P T C W a n is h) (rw (ne_eqb n 0 h))

    module _ (z : n ≡ 0) (x : ℕ) (word : x ≡ word_in P T C W a) where
      made : (C' W' : List ℕ) → C' ≡ set C a (suc (get_or C a 0)) → W' ≡ set W (first_held + a) x →
          ◌≡◌ {A = Left} (record { refusal = 0; word = x; counts = C'; values = W' }) (call_in P T (lent C W) (call_of (start a v)))
      made C' W' c w = started_by P T C W a x C' W' word c w ∙ start_made P T C W a n is z

      pub start_differs : (x ≡ v → ⊥) → Tried P T (lent C W) (start a v) false (lent C W)
      start_differs h = tried_not P T (lent C W) (start a v) _ (made _ _ refl refl) (ne_eqb x v h)

      pub start_holds : x ≡ v → (C' W' : List ℕ) → C' ≡ set C a (suc (get_or C a 0)) → W' ≡ set W (first_held + a) v → Tried P T (lent C W) (start a v) true (lent C' W')
      start_holds h C' W' c w =
          tried_made P T (lent C W) (start a v) _ (made C' W' c (w ∙ ap (set W (first_held + a)) (sym h))) (eq-eqb x v h)
          (record { counts = ap length c ∙ simp length-set; values = ap length w ∙ simp length-set })

  -- a finish
  module _ (n : ℕ) (is : n ≡ finish_refusal P T C (length W) a) where
    pub finish_barred : (n ≡ 0 → ⊥) → Tried P T (lent C W) (finish a) false (lent C W)
    finish_barred h = tried_not P T (lent C W) (finish a) (refused P C W n) (finish_refused P T C W a n is h) (rw (ne_eqb n 0 h))

    pub finish_holds : n ≡ 0 → (x : ℕ) (C' W' : List ℕ) → ◌≡◌ {A = Left} (record { refusal = 0; word = x; counts = C'; values = W' }) (finished_in P T C W a) →
        Tried P T (lent C W) (finish a) true (lent C' W')
    unfolding finished_in counts_in
    finish_holds z x C' W' e =
        tried_made P T (lent C W) (finish a) _ (e ∙ finish_made P T C W a n is z) refl
        (record {
          counts = ap (λ (r : Left). length r.counts) e ∙ simp (length-set, lowered_length);
          values = ap (λ (r : Left). length r.values) e ∙ simp length_replaced;
        })

-- a line that says the step, and one that says none
pub line_tried : (P T : List ℕ) (s t : Lent) (e : Step) (o : Option Step) (b : Bool) (r : ℕ) → o ≡ some e → Tried P T s e b t → r ≡ cond (not b) 21 0 → Lined P T s o r t
line_tried P T s t e o b r p h q =
    record {
      refusal = q ∙ (ap (λ (x : Bool). cond (not x) 21 0) h.told ∙ sym (ap (line_refusal P T s) p));
      leaves = h.leaves ∙ (ap (λ (x : Bool). cond x (lent_by (call_in P T s (call_of e))) s) h.told ∙ sym (ap (line_leaves P T s) p));
      room = h.room;
    }

pub line_unread : (P T : List ℕ) (s : Lent) (o : Option Step) → o ≡ none → Lined P T s o 20 s
line_unread P T s o p =
    record { refusal = sym (ap (line_refusal P T s) p); leaves = sym (ap (line_leaves P T s) p); room = record { counts = refl; values = refl } }
