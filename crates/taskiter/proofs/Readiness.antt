-- Neither 11 nor 12 is given: the tests, and the demands' words for it.
use Prim.Native.Nat.{ℕ, ◌≤◌}
use mathlib.Core.Path.{◌≡◌}
use mathlib.Core.Bool.{true, ◌&&◌}
use mathlib.Core.List.{List}
use native.Mathlib.Decide.{dec_lt}
use native.Mathlib.Omega.{arith}
use lib.ListN.{length, get_or, take, get_or-eq_default}
use lib.Seq.{length-take-le, get_or-take}
use Rattle.finite.proofs.Tests.{and-true, and_intro}
use Rattle.plan.specs.Limits.{max_word}
use Rattle.plan.specs.Layout.{plan_words, at}
use Rattle.plan.specs.Form.{Words}
use Rattle.reading.proofs.Theorems.{laws as reading-laws}
use Rattle.graph.specs.Answers.{formed_plan}
use Rattle.steps.specs.Answers.{long_slices, formed_counts, formed_numbers}
use Rattle.steps.proofs.Accepting.{long_slices_lem, formed_counts_lem, formed_numbers_lem, formed_state, Clear}
use Rattle.taskiter.specs.Given.{FromText}
use Rattle.taskiter.specs.Demands.{PlanReady, Ready}

-- a plan in form, and a plan that some text is read to

pub read_formed : (plan : List ℕ) → FromText plan → formed_plan plan ≡ true
read_formed plan t = reading-laws.in_form_lem t.0 (take plan_words plan) t.1

module _ (plan : List ℕ) (words : (i : ℕ) → get_or plan i 0 ≤ max_word) (long : plan_words ≤ length plan) where
  pub cut_words : Words (take plan_words plan)
  cut_words = record { size = length-take-le plan_words plan long; fits = each }
    where
      each : (i : ℕ) → at (take plan_words plan) i ≤ max_word
      each i =
          elim (dec_lt i plan_words) [
            | yes l ↦ omega (arith, words i, get_or-take plan_words plan i 0 l)
            | no l ↦ omega (arith, get_or-eq_default (take plan_words plan) 0 {n = i} (let m : length (take plan_words plan) ≤ i = omega (arith, length-take-le plan_words plan long) in m))
          ]

  pub formed_read : formed_plan plan ≡ true → FromText plan
  formed_read = (reading-laws.exactly (take plan_words plan) cut_words).0

module _ (plan counts values : List ℕ) where
  -- the test that 12 goes by
  pub formed_clear : long_slices plan counts values ≡ true → (formed_plan plan && formed_state plan counts values) ≡ true → Clear plan counts values
  formed_clear l f =
      let k = and-true (formed_plan plan) (formed_state plan counts values) f in
      let q = and-true (formed_counts plan counts values) (formed_numbers plan counts values) k.1 in
      record { long = l; formed_plan_lem = k.0; formed_counts_lem = q.0; formed_numbers_lem = q.1 }

  pub clear_formed : Clear plan counts values → (formed_plan plan && formed_state plan counts values) ≡ true
  clear_formed c =
      and_intro (formed_plan plan) (formed_state plan counts values) c.formed_plan_lem
      (and_intro (formed_counts plan counts values) (formed_numbers plan counts values) c.formed_counts_lem c.formed_numbers_lem)

  pub ready_long : PlanReady plan counts values → long_slices plan counts values ≡ true
  ready_long R = (long_slices_lem plan counts values).1 (R.long_plan_lem, R.long_counts, R.long_values)

  pub ready_form : PlanReady plan counts values → formed_plan plan ≡ true
  ready_form R = read_formed plan R.read

  pub ready_clear : Ready plan counts values → Clear plan counts values
  ready_clear R =
      record {
        long = ready_long R.plan_ready;
        formed_plan_lem = ready_form R.plan_ready;
        formed_counts_lem = (formed_counts_lem plan counts values).1 (λ a l. let k = R.counts_formed a l in (k.finished, k.started));
        formed_numbers_lem = (formed_numbers_lem plan counts values).1 R.numbers_formed;
      }

  pub counts_ready : PlanReady plan counts values → formed_counts plan counts values ≡ true → formed_numbers plan counts values ≡ true → Ready plan counts values
  counts_ready R f n =
      record {
        plan_ready = R;
        counts_formed = λ a l. let k = (formed_counts_lem plan counts values).0 f a l in record { finished = k.0; started = k.1 };
        numbers_formed = (formed_numbers_lem plan counts values).0 n;
      }

  module _ (words : (i : ℕ) → get_or plan i 0 ≤ max_word) where
    pub form_ready : long_slices plan counts values ≡ true → formed_plan plan ≡ true → PlanReady plan counts values
    form_ready l f =
        let k = (long_slices_lem plan counts values).0 l in
        record { long_plan_lem = k.0; long_counts = k.1; long_values = k.2; read = formed_read plan words k.0 f }

    pub clear_ready : Clear plan counts values → Ready plan counts values
    clear_ready c = counts_ready (form_ready c.long c.formed_plan_lem) c.formed_counts_lem c.formed_numbers_lem
