-- How many items of wrapped transfers there are, and the total of steps.
use Prim.Native.Nat.{ℕ, suc, ◌+◌, ◌-◌, ◌*◌, ◌≤◌}
use mathlib.Core.Path.{◌≡◌, refl, sym, ◌∙◌, ap}
use mathlib.Core.Bool.{Bool, false, cond}
use mathlib.Core.List.{List, [], ◌∷◌, ◌++◌}
use native.Mathlib.Nat.{mul_comm, mul_assoc, suc-mul, zero-mul}
use native.Mathlib.Decide.{dec_lt}
use native.Mathlib.Omega.{arith}
use lib.ListN.{length, get_or, length-append}
use Rattle.finite.specs.Below.{count_below, sum_below}
use Rattle.finite.proofs.Below.{count_le, count_sum, sum_const, sum_ext}
use Rattle.finite.proofs.Lists.{count_right}
use Rattle.finite.proofs.Sums.{sum_add}
use Rattle.unroll.specs.AnyOrder.{all_steps}
use Rattle.body.specs.Body.{Body}
use Rattle.body.specs.Transfers.{Transfer, transfer, transfer_count, wrapped, is_wrapped, wrapped_count}
use Rattle.body.specs.Items.{Item, task, send, receive, pair_of, fewer, item_count, item_at, item_passes, total_steps}
use Rattle.body.specs.Places.{system}
use Rattle.body.proofs.ItemList.{list_ind}
use Rattle.body.proofs.Wrapped.{fewer_most, passes_most}

-- of how many elements of the list p holds
abbrev count_in : {X : Type 0} → (X → Bool) → X → List X → ℕ
count_in p d l = count_below (length l) (λ k. p (get_or l k d))

count_in_append : {X : Type 0} (p : X → Bool) (d : X) (l m : List X) → count_in p d (l ++ m) ≡ count_in p d l + count_in p d m
count_in_append p d l m = ap (λ (n : ℕ). count_below n (λ k. p (get_or (l ++ m) k d))) (length-append l m) ∙ count_right p d l m (length m)

module _ (B : Body) where
  -- an item of a wrapped transfer
  abbrev left_out : Item → Bool
  left_out (task i) = false
  left_out (send i g q) = wrapped B i g q
  left_out (receive i g q) = wrapped B i g q

  -- the items l are those of the transfers m, and maybe tasks: two for each that is wrapped
  abbrev Twice : List Item → List Transfer → Type 0
  Twice l m = count_in left_out (task 0) l ≡ 2 * count_in (is_wrapped B) (transfer 0 0 0) m

  twice_append : (l k : List Item) (m n : List Transfer) → Twice l m → Twice k n → Twice (l ++ k) (m ++ n)
  twice_append l k m n h e = omega (arith, count_in_append left_out (task 0) l k, count_in_append (is_wrapped B) (transfer 0 0 0) m n)

  twice_pair : (t : Transfer) → Twice (pair_of t) (t ∷ [])
  unfolding count_below
  twice_pair (transfer i g q) = omega arith

  left_out_counted : count_below (item_count B) (λ a. left_out (item_at B a)) ≡ 2 * wrapped_count B
  unfolding item_at count_below wrapped_count transfer_count
  left_out_counted = list_ind Twice refl (λ i. refl) twice_pair twice_append B

  fewer_cases : (x : Item) → fewer B x ≡ cond (left_out x) 1 0
  unfolding fewer
  fewer_cases (task i) = refl
  fewer_cases (send i g q) = refl
  fewer_cases (receive i g q) = refl

  -- the passes that items have fewer than the plan, all together
  pub fewer_counted : sum_below (item_count B) (λ a. fewer B (item_at B a)) ≡ 2 * wrapped_count B
  fewer_counted =
      sum_ext (item_count B) (λ a. fewer B (item_at B a)) (λ a. cond (left_out (item_at B a)) 1 0) (λ a l. fewer_cases (item_at B a))
      ∙ (sym (count_sum (item_count B) (λ a. left_out (item_at B a))) ∙ left_out_counted)

  wrapped_most : 2 * wrapped_count B ≤ item_count B
  wrapped_most = omega (arith, left_out_counted, count_le (λ a. left_out (item_at B a)) (item_count B))

  -- the loop has a pass
  module _ (h : 1 ≤ B.passes) where
    most_steps_lem : 2 * wrapped_count B ≤ B.passes * item_count B
    most_steps_lem = let z : suc (B.passes - 1) ≡ B.passes = omega arith in omega (arith, wrapped_most, suc-mul (B.passes - 1) (item_count B), ap (λ (n : ℕ). n * item_count B) z)

    pub total : total_steps B + 2 * (2 * wrapped_count B) ≡ 2 * (B.passes * item_count B)
    unfolding total_steps
    total = omega (arith, most_steps_lem)

    some_steps : all_steps (system B) ≡ total_steps B
    unfolding all_steps
    some_steps =
        omega (
          arith,
          total,
          sum_add (item_count B) (λ a. 2 * item_passes B a) (λ a. fewer B (item_at B a) + fewer B (item_at B a)),
          sum_add (item_count B) (λ a. fewer B (item_at B a)) (λ a. fewer B (item_at B a)),
          sum_ext (item_count B) (λ a. 2 * item_passes B a + (fewer B (item_at B a) + fewer B (item_at B a))) (λ a. 2 * B.passes)
              (λ a l. omega (arith, fewer_most B (item_at B a))),
          sum_const (item_count B) (2 * B.passes) ∙ (mul_comm (item_count B) (2 * B.passes) ∙ mul_assoc 2 B.passes (item_count B)),
          fewer_counted,
        )

  pub total_no_pass : B.passes ≡ 0 → total_steps B ≡ 0
  unfolding total_steps
  total_no_pass e = omega (arith, ap (λ (n : ℕ). n * item_count B) e, zero-mul (item_count B))

  no_steps : B.passes ≡ 0 → all_steps (system B) ≡ total_steps B
  unfolding all_steps
  no_steps e =
      sum_ext (item_count B) (λ a. 2 * item_passes B a) (λ a. 0) (λ a l. omega (arith, (passes_most B (item_at B a)).0))
      ∙ (sum_const (item_count B) 0 ∙ omega (arith, total_no_pass e))

  pub all_steps_lem : all_steps (system B) ≡ total_steps B
  all_steps_lem = elim (dec_lt 0 B.passes) [ yes h ↦ some_steps h | no h ↦ no_steps (omega arith) ]

  pub total_each : total_steps B ≡ sum_below (item_count B) (λ a. 2 * item_passes B a)
  unfolding all_steps
  total_each = sym all_steps_lem
