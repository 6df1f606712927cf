-- What the parts of a scan promise of a line from an offset on: of a word, of a run of digits, of a
-- number. It serves the contracts of inner functions: nothing here need be believed.
use Rattle.std.specs.Prelude.{◌≡◌, ℕ, ◌+◌, ◌^◌, ◌<◌, ◌≤◌, Bool, true, false, List, [], ◌∷◌, ◌++◌, length, drop, ◌==◌, nat_eq, slice_index, Option, MatchOption}
use Rattle.text.specs.Ascii.{ascii}
use Rattle.text.specs.Numbers.{is_digit, all_digits, decimal_after}
use Rattle.text.specs.Digits.{digits}
use Rattle.text.specs.declared.Number.TheVariants.{Value}
use Rattle.plan.specs.Limits.{max_word}
use Rattle.entries.specs.declared.Numeral.{Numeral}

-- the words with the tab behind them
abbrev pub start_word : List ℕ
start_word = ascii "start" ++ (9 ∷ [])

abbrev pub finish_word : List ℕ
finish_word = ascii "finish" ++ (9 ∷ [])

-- the first byte is b, and is a digit: not where there is none
abbrev pub head_is : ℕ → List ℕ → Bool
head_is b [] = false
head_is b (c ∷ t) = c == b

abbrev pub head_digit : List ℕ → Bool
head_digit [] = false
head_digit (c ∷ t) = is_digit c

-- a word of n bytes stands in front
pub record Begins (s : List ℕ) (n : ℕ) (word : List ℕ) : Type 0 where
  pub parts : s ≡ word ++ drop n s
  pub within : n ≤ length s

-- the digits from `at` to `stop` write `value`
pub record Read (s : List ℕ) (at value stop : ℕ) : Type 0 where
  pub front : List ℕ
  pub parts : drop at s ≡ front ++ drop stop s
  pub size : stop ≡ at + length front
  pub within : stop ≤ length s
  pub all : all_digits front ≡ true
  pub says : decimal_after 0 front ≡ value
  pub small : value < 10 ^ length front

-- the first digits from `at` on, `size` of them, write `value`: at most 19, and fewer only where no
-- digit follows
pub record Run (s : List ℕ) (at value size : ℕ) : Type 0 where
  pub read : Read s at value (at + size)
  pub most : size ≤ 19
  pub ends : size < 19 → head_digit (drop (at + size) s) ≡ false

-- 19 digits, the first of them no 0
pub record Long (s : List ℕ) (at value stop : ℕ) : Type 0 where
  pub read : Read s at value stop
  pub size : stop ≡ at + 19
  pub lead : nat_eq (slice_index s at) 48 ≡ false

-- the digits of the number `value` stand from `at` to `stop`, and no digit behind them
pub record Numbered (s : List ℕ) (at value stop : ℕ) : Type 0 where
  pub fits : value ≤ max_word
  pub parts : drop at s ≡ digits (Value value) ++ drop stop s
  pub within : stop ≤ length s
  pub only : (n : ℕ) (t : List ℕ) → n ≤ max_word → drop at s ≡ digits (Value n) ++ t → head_digit t ≡ false → (value ≡ n) × (drop stop s ≡ t)

-- no number's digits stand there with no digit behind them
abbrev pub NoNumber : List ℕ → ℕ → Type 0
NoNumber s at = (n : ℕ) (t : List ℕ) → n ≤ max_word → drop at s ≡ digits (Value n) ++ t → head_digit t ≡ false → ⊥

abbrev pub NumberAt : List ℕ → ℕ → Option Numeral → Type 0
NumberAt s at r = MatchOption r (NoNumber s at) (λ (x : Numeral). Numbered s at x.value x.end)

-- the same with the byte b behind them, and `next` behind it
pub record Fielded (s : List ℕ) (at b value next : ℕ) : Type 0 where
  pub fits : value ≤ max_word
  pub parts : drop at s ≡ digits (Value value) ++ (b ∷ drop next s)
  pub within : next ≤ length s
  pub only : (n : ℕ) (t : List ℕ) → n ≤ max_word → drop at s ≡ digits (Value n) ++ (b ∷ t) → (value ≡ n) × (drop next s ≡ t)

abbrev pub NoField : List ℕ → ℕ → ℕ → Type 0
NoField s at b = (n : ℕ) (t : List ℕ) → n ≤ max_word → drop at s ≡ digits (Value n) ++ (b ∷ t) → ⊥

abbrev pub FieldAt : List ℕ → ℕ → ℕ → Option Numeral → Type 0
FieldAt s at b r = MatchOption r (NoField s at b) (λ (x : Numeral). Fielded s at b x.value x.end)

-- the same with nothing behind them
pub record Last (s : List ℕ) (at value : ℕ) : Type 0 where
  pub fits : value ≤ max_word
  pub parts : drop at s ≡ digits (Value value)

abbrev pub NoLast : List ℕ → ℕ → Type 0
NoLast s at = (n : ℕ) → n ≤ max_word → drop at s ≡ digits (Value n) → ⊥

abbrev pub LastAt : List ℕ → ℕ → Option ℕ → Type 0
LastAt s at r = MatchOption r (NoLast s at) (λ v. Last s at v)
