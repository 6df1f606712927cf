-- The words of steps fit 64 bits where the plan's and the state's do, and so do the values that
-- calls leave.
use Prim.Native.Nat.{ℕ, zero, suc, ◌+◌, ◌*◌, ◌%◌, ◌≤◌}
use mathlib.Core.Bool.{Bool, true, false, cond, ◌||◌}
use mathlib.Core.List.{List, [], ◌∷◌, map}
use native.Mathlib.Decide.{dec_lt}
use native.Mathlib.Omega.{arith}
use lib.Dec.{ltb}
use lib.ListN.{length, get_or, set, take, get_or-eq_default}
use Rattle.finite.specs.Lists.{mem}
use Rattle.finite.specs.Update.{replaced}
use Rattle.finite.proofs.Replaced.{length_replaced, replaced_at}
use Rattle.kernels.proofs.Laws.{kernel_word_below}
use Rattle.unroll.specs.Sequential.{word_on}
use Rattle.body.specs.Items.{Item, task, send, receive, item_at}
use Rattle.body.specs.Places.{compute_of, initial, system}
use Rattle.plan.specs.Limits.{max_word}
use Rattle.plan.specs.Layout.{plan_words, kernel_of, constant_of}
use Rattle.graph.specs.Answers.{plan_body}
use Rattle.steps.specs.State.{first_held}
use Rattle.steps.specs.Answers.{is_copy, is_slot, is_held, opened, word_now, started, finished}
use Rattle.journal.specs.Laws.{Words}

map_fits : (f : ℕ → ℕ) → ((x : ℕ) → f x ≤ max_word) → (l : List ℕ) → Words (map f l)
map_fits f h [] i = omega arith
map_fits f h (x ∷ l) zero = h x
map_fits f h (x ∷ l) (suc i) = map_fits f h l i

take_fits : (n : ℕ) (xs : List ℕ) → Words xs → Words (take n xs)
take_fits zero xs h i = omega arith
take_fits (suc n) [] h i = omega arith
take_fits (suc n) (x ∷ xs) h zero = h 0
take_fits (suc n) (x ∷ xs) h (suc i) = take_fits n xs (λ j. h (suc j)) i

set_fits : (xs : List ℕ) (k v : ℕ) → v ≤ max_word → Words xs → Words (set xs k v)
set_fits [] k v l h i = h i
set_fits (x ∷ xs) zero v l h zero = l
set_fits (x ∷ xs) zero v l h (suc i) = h (suc i)
set_fits (x ∷ xs) (suc k) v l h zero = h 0
set_fits (x ∷ xs) (suc k) v l h (suc i) = set_fits xs k v l (λ j. h (suc j)) i

replaced_fits : (p : ℕ → Bool) (f : ℕ → ℕ) (xs : List ℕ) → ((i : ℕ) → f i ≤ max_word) → Words xs → Words (replaced p f xs)
replaced_fits p f xs k h i =
    elim (dec_lt i (length xs)) [
      | yes l ↦ rw (replaced_at p f xs i l) (go (p i))
      | no l ↦ beyond (let m : length (replaced p f xs) ≤ i = omega (arith, length_replaced p f xs) in m)
    ]
  where
    beyond : length (replaced p f xs) ≤ i → get_or (replaced p f xs) i 0 ≤ max_word
    beyond m = omega (arith, get_or-eq_default (replaced p f xs) 0 m)

    go : (b : Bool) → cond b (f i) (get_or xs i 0) ≤ max_word
    go true = k i
    go false = h i

module _ (plan counts values : List ℕ) (plan_words_lem : Words plan) where
  initial_fits : (x : ℕ) → initial (plan_body plan) x ≤ max_word
  unfolding initial
  initial_fits x = go (ltb x ((plan_body plan).ranks * (plan_body plan).regions))
    where
      go : (b : Bool) → cond b ((plan_body plan).starting (x % (plan_body plan).regions)) 0 ≤ max_word
      go true = take_fits plan_words plan plan_words_lem (4 + (x % (plan_body plan).regions))
      go false = omega arith

  module _ (value-words : Words values) where
    pub opened_fits : Words (opened plan counts values).values
    opened_fits = replaced_fits (λ x. is_copy (plan_body plan) x || (is_slot (plan_body plan) x || is_held (plan_body plan) x)) (initial (plan_body plan)) values initial_fits value-words

    pub word_fits : (a : ℕ) → word_now plan counts values a ≤ max_word
    unfolding word_on compute_of
    word_fits a = go (item_at (plan_body plan) a) (map (λ x. get_or values x 0) ((system (plan_body plan)).reads a)) (map_fits (λ x. get_or values x 0) value-words ((system (plan_body plan)).reads a))
      where
        go : (x : Item) (l : List ℕ) → Words l → compute_of (plan_body plan) x l ≤ max_word
        go (task i) l w =
            omega (
              arith,
              kernel_word_below (kernel_of (take plan_words plan) i) (constant_of (take plan_words plan) i) l
                  (omega (arith, take_fits plan_words plan plan_words_lem (134 + 12 * i))) (λ k. omega (arith, w k)),
            )
        go (send i g q) l w = w 0
        go (receive i g q) l w = w 0

    pub started_fits : (a : ℕ) → Words (started plan counts values a).values
    started_fits a = set_fits values (first_held + a) (word_now plan counts values a) (word_fits a) value-words

    pub finished_fits : (a : ℕ) → Words (finished plan counts values a).values
    finished_fits a = replaced_fits (λ x. mem x ((system (plan_body plan)).writes a)) (λ x. get_or values (first_held + a) 0) values (λ i. value-words (first_held + a)) value-words
