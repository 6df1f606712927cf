-- What the doors of the calls tell: the refusal, or the number of items and what the functions behind
-- may rest on. It serves the contracts of inner functions: nothing here need be believed.
use Rattle.std.specs.Prelude.{ℕ, ◌≤◌, ◌<◌, ◌≡◌, Bool, true, cond, ◌&&◌, List, [], ◌++◌, Result, IfOk, IfErr, leb, length, take, drop}
use Rattle.body.specs.Items.{item_count, item_passes}
use Rattle.plan.specs.declared.refusal.Refusal.{Refusal}
use Rattle.plan.specs.Refusals.{refusal_number}
use Rattle.plan.specs.Layout.{plan_words, body_of}
use Rattle.plan.specs.Sizes.{count_words}
use Rattle.graph.specs.Table.{table_of, Graph}
use Rattle.graph.specs.Answers.{refusal_of, long_plan, formed_plan, plan_body}
use Rattle.steps.specs.State.{state_of, unmet_by}
use Rattle.steps.specs.Answers.{count_ok, formed_counts, formed_numbers}

-- by the plan P, where the other slices are long enough or not
pub record ByPlan (P : List ℕ) (long : Bool) (table : List ℕ) (r : Result ℕ Refusal) (table' : List ℕ) : Type 0 where
  pub refusal : refusal_number r ≡ refusal_of (long_plan P && long) (formed_plan P) true
  pub clear : IfOk r (λ n. Graph (take plan_words P) table' n)
  pub listed : IfOk r (λ n. table' ≡ table_of (plan_body P) ++ drop n table)
  pub refused : IfErr r (λ e. table' ≡ table)

-- counts in form for the n items of a plan w
pub record Clear (w counts : List ℕ) (n : ℕ) : Type 0 where
  pub room : count_words ≤ length counts
  pub counts_ok_lem : (a : ℕ) → a < n → count_ok (item_passes (body_of w) a) (state_of counts []) a ≡ true
  pub numbers_ok : (a : ℕ) → a < n → leb (unmet_by counts a) n ≡ true

-- by the plan P and the counts
pub record ByState (P counts : List ℕ) (long : Bool) (table : List ℕ) (r : Result ℕ Refusal) (table' : List ℕ) : Type 0 where
  pub refusal : refusal_number r ≡ refusal_of (long_plan P && (leb count_words (length counts) && long))
      (formed_plan P && (formed_counts P counts [] && formed_numbers P counts [])) true
  pub clear : IfOk r (λ n. Graph (take plan_words P) table' n × Clear (take plan_words P) counts n)
  pub listed : table' ≡ cond ((long_plan P && (leb count_words (length counts) && long)) && formed_plan P)
      (table_of (plan_body P) ++ drop (item_count (plan_body P)) table) table
