-- Calls as words, and what `taskiter_play` answers and leaves: a list of calls is played one after
-- another, and each call's refusal and word go to the lent answers.
use Rattle.std.specs.Prelude.{ℕ, ◌+◌, ◌*◌, ◌/◌, ◌%◌, ◌≡◌, Bool, cond, ◌&&◌, eqb, leb, length, take, drop}
use mathlib.Core.List.{List, [], ◌∷◌, ◌++◌, map, flat_map}
use Rattle.steps.specs.Answers.{Left, long_slices}
use Rattle.steps.specs.Calls.{Call, start, finish, result, lent, play, replies}

-- the call that a word says: 3 × its number, and 0 for a start, 1 for a finish, 2 for a result
abbrev pub call_of : ℕ → Call
call_of word =
    cond (eqb (word % 3) 0) (start (word / 3))
    (cond (eqb (word % 3) 1) (finish (word / 3)) (result (word / 3)))

abbrev pub calls_of : List ℕ → List Call
calls_of = map call_of

-- where the words `calls` are played after the calls `before`: those made ahead of word k
abbrev pub ahead : List Call → List ℕ → ℕ → List Call
ahead before calls k = before ++ calls_of (take k calls)

-- the word that says a call, and the number of a call
abbrev pub word_of : Call → ℕ
word_of (start a) = 3 * a
word_of (finish a) = 3 * a + 1
word_of (result g) = 3 * g + 2

abbrev pub number_of : Call → ℕ
number_of (start a) = a
number_of (finish a) = a
number_of (result g) = g

-- a call with a number below this has a word of 64 bits
abbrev pub call_numbers : ℕ
call_numbers = 6148914691236517205

-- the two words that a call's answer takes
abbrev pub two : Left → List ℕ
two r = r.refusal ∷ r.word ∷ []

module _ (plan counts values calls answers : List ℕ) where
  -- the slices are long enough, the answers for two words a call
  abbrev pub long_play : Bool
  long_play = long_slices plan counts values && leb (2 * length calls) (length answers)

  -- the answer r, and the lent slices at exit
  pub record Played (r : ℕ) (counts' values' answers' : List ℕ) : Type 0 where
    -- 11 a slice too short, then nothing is changed; every other refusal stands in its answer
    pub refusal : r ≡ cond long_play 0 11
    pub refused : (r ≡ 0 → ⊥) → (counts' ≡ counts) × (values' ≡ values) × (answers' ≡ answers)
    -- the state is the one after the calls, the answers are theirs, and the words behind stay
    pub state : r ≡ 0 → lent counts' values' ≡ play plan (lent counts values) (calls_of calls)
    pub told : r ≡ 0 →
        answers' ≡ flat_map two (replies plan (lent counts values) (calls_of calls)) ++ drop (2 * length calls) answers
