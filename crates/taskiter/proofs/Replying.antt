-- What C gets from `taskiter_play` (demands 1 and 3), from its contract.
use Prim.Native.Nat.{ℕ, zero, suc, ◌+◌, ◌*◌, ◌/◌, ◌%◌, ◌≤◌, ◌<◌}
use mathlib.Core.Path.{◌≡◌, refl, sym, ◌∙◌, ap}
use mathlib.Core.Bool.{Bool, true, false, cond}
use mathlib.Core.Logic.{◌⊎◌, inl, inr}
use mathlib.Core.List.Memᴰ.{head as here}
use mathlib.Core.List.Memᴰ.{tail as there}
use mathlib.Core.List.{List, [], ◌∷◌, ◌++◌, map, flat_map, Memᴰ as In}
use native.Mathlib.Decide.{ℕ_discrete, dec_lt}
use native.Mathlib.Omega.{arith}
use borrow.Author.Tests.{le-leb, leb-true}
use lib.Dec.{leb}
use lib.ListN.{length, get_or, take, drop, length-map}
use lib.Seq.{length-take-le, split_at}
use Rattle.finite.proofs.Tests.{false_of, not_both, and-true, and_intro}
use Rattle.finite.proofs.Tabulate.{map_append}
use Rattle.body.specs.Body.{Body}
use Rattle.plan.specs.Limits.{max_word}
use Rattle.steps.specs.Answers.{Left, long_slices, open_of}
use Rattle.steps.specs.Calls.{Call, start, finish, result, Lent, lent_by, call, play, replies}
use Rattle.steps.proofs.Refusals.{not_short, open_11}
use Rattle.steps.proofs.Playing.{play_append, replies_at}
use Rattle.taskiter.specs.Played.{call_of, calls_of, ahead, word_of, number_of, call_numbers, two, long_play, Played}
use Rattle.taskiter.specs.Demands.{Short, PlayRefused, InAnyOrder, PlayGiven, call_after}
use Rattle.taskiter.proofs.Playing.{word_start, word_finish, word_result}
use Rattle.taskiter.proofs.Parts.{length_parts, get_d_part, length_behind, get_d_behind}

-- words and calls, one to one

pub call_word : (c : Call) → call_of (word_of c) ≡ c
call_word (start a) = let e : 3 * a / 3 ≡ a = omega arith in word_start (3 * a) (omega arith) ∙ ap start e
call_word (finish a) = let e : (3 * a + 1) / 3 ≡ a = omega arith in word_finish (3 * a + 1) (omega arith) ∙ ap finish e
call_word (result g) = let e : (3 * g + 2) / 3 ≡ g = omega arith in word_result (3 * g + 2) (λ z. omega arith) (λ z. omega arith) ∙ ap result e

pub word_call : (w : ℕ) → word_of (call_of w) ≡ w
word_call w =
    elim (ℕ_discrete (w % 3) 0) [
      | yes e ↦ (let k : 3 * (w / 3) ≡ w = omega arith in ap word_of (word_start w e) ∙ k)
      | no f ↦
          elim (ℕ_discrete (w % 3) 1) [
            | yes e ↦ (let k : 3 * (w / 3) + 1 ≡ w = omega arith in ap word_of (word_finish w e) ∙ k)
            | no g ↦ (let k : 3 * (w / 3) + 2 ≡ w = omega arith in ap word_of (word_result w f g) ∙ k)
          ]
    ]

calls_words : (l : List Call) → calls_of (map word_of l) ≡ l
calls_words [] = refl
calls_words (c ∷ l) = rw (call_word c, calls_words l)

word_most : (c : Call) → number_of c < call_numbers → word_of c ≤ max_word
word_most (start a) l = omega arith
word_most (finish a) l = omega arith
word_most (result g) l = omega arith

words_most : (l : List Call) → ((c : Call) → In c l → number_of c < call_numbers) → (i : ℕ) → get_or (map word_of l) i 0 ≤ max_word
words_most [] h i = omega arith
words_most (c ∷ l) h zero = word_most c (h c (here refl))
words_most (c ∷ l) h (suc i) = words_most l (λ d m. h d (there m)) i

pub in_words : (l : List Call) → ((c : Call) → In c l → number_of c < call_numbers) → (calls : List ℕ) × (calls_of calls ≡ l) × ((i : ℕ) → get_or calls i 0 ≤ max_word)
in_words l h = (map word_of l, calls_words l, words_most l h)

-- demand 1

module _ (plan C W calls A : List ℕ) where
  abbrev Few : Type 0
  Few = Short plan C W ⊎ (length A < 2 * length calls)

  slices_short : long_slices plan C W ≡ false → Short plan C W
  unfolding open_of
  slices_short h = (open_11 plan C W).0 (rw h)

  few_not : long_play plan C W calls A ≡ true → Few → ⊥
  few_not h (inl s) = not_short plan C W (and-true (long_slices plan C W) (leb (2 * length calls) (length A)) h).0 s
  few_not h (inr l) = omega (arith, leb-true (2 * length calls) (length A) (and-true (long_slices plan C W) (leb (2 * length calls) (length A)) h).1)

  few : long_play plan C W calls A ≡ false → Few
  few h =
      elim (dec_lt (length A) (2 * length calls)) [
        | yes l ↦ inr l
        | no l ↦ inl (slices_short (false_of (long_slices plan C W) (λ s. not_both (and_intro (long_slices plan C W) _ s (le-leb (2 * length calls) (length A) (omega arith))) h)))
      ]

  pub play_refused : (r : ℕ) (C' W' A' : List ℕ) → Played plan C W calls A r C' W' A' → PlayRefused plan C W calls A r C' W' A'
  play_refused r C' W' A' P = go (long_play plan C W calls A) refl P.refusal
    where
      go : (b : Bool) → long_play plan C W calls A ≡ b → r ≡ cond b 0 11 → PlayRefused plan C W calls A r C' W' A'
      go true h e =
          record {
            short = (λ z. absurd (omega arith), λ f. absurd (few_not h f));
            changes_nothing = λ z. absurd (omega arith);
            else_0 = λ f. e;
          }
      go false h e =
          record {
            short = (λ z. few h, λ f. e);
            changes_nothing = λ z. P.refused (λ y. omega arith);
            else_0 = λ f. absurd (f e);
          }

-- demand 3

length_replies : (plan : List ℕ) (l : List Call) (s : Lent) → length (replies plan s l) ≡ length l
unfolding replies
length_replies plan [] s = refl
length_replies plan (c ∷ l) s = ap suc (length_replies plan l (lent_by (call plan s c)))

module _ (B : Body) (plan : List ℕ) (s : Lent) (order : (l : List Call) → InAnyOrder B plan s l) (before : List Call) (calls A : List ℕ)
    (long : long_slices plan (play plan s before).counts (play plan s before).values ≡ true) (room : 2 * length calls ≤ length A) (r : ℕ) (C' W' A' : List ℕ)
    (P : Played plan (play plan s before).counts (play plan s before).values calls A r C' W' A') where
  -- the calls ahead of call k, and call k
  abbrev first : ℕ → List Call
  first k = ahead before calls k

  abbrev asked : ℕ → Call
  asked k = call_of (get_or calls k 0)

  accepted : r ≡ 0
  accepted = P.refusal ∙ rw (long, le-leb (2 * length calls) (length A) room)

  abbrev made : List Left
  made = replies plan (play plan s before) (calls_of calls)

  length_made : length made ≡ length calls
  length_made = length_replies plan (calls_of calls) (play plan s before) ∙ length-map calls call_of

  answers_are : A' ≡ flat_map two made ++ drop (2 * length calls) A
  answers_are = P.told accepted

  module _ (k : ℕ) (l : k < length calls) where
    calls_split : calls_of calls ≡ calls_of (take k calls) ++ (asked k ∷ calls_of (drop (suc k) calls))
    calls_split = ap calls_of (split_at calls k 0 l) ∙ map_append call_of (take k calls) (get_or calls k 0 ∷ drop (suc k) calls)

    reply_is : (d : Left) → get_or made k d ≡ call_after B plan s (first k) (asked k)
    reply_is d =
        let e : k ≡ length (calls_of (take k calls)) = omega (arith, length-map (take k calls) call_of, length-take-le k calls (omega arith)) in
        ap (λ (v : List Call). get_or (replies plan (play plan s before) v) k d) calls_split
        ∙ (ap (λ (n : ℕ). get_or (replies plan (play plan s before) (calls_of (take k calls) ++ (asked k ∷ calls_of (drop (suc k) calls)))) n d) e
        ∙ (replies_at plan (calls_of (take k calls)) (calls_of (drop (suc k) calls)) (asked k) (play plan s before) d
        ∙ ap (λ (t : Lent). call plan t (asked k)) (sym (play_append plan before (calls_of (take k calls)) s))))

    answer_at : (j : ℕ) → j < 2 → get_or A' (2 * k + j) 0 ≡ get_or (two (call_after B plan s (first k) (asked k))) j 0
    answer_at j lj =
        let d = call_after B plan s (first k) (asked k) in
        ap (λ (x : List ℕ). get_or x (2 * k + j) 0) answers_are
        ∙ (get_d_part two 2 (λ x. refl) d made (drop (2 * length calls) A) k j (omega (arith, length_made)) lj
        ∙ ap (λ (x : Left). get_or (two x) j 0) (reply_is d))

    refusal_at : get_or A' (2 * k) 0 ≡ (call_after B plan s (first k) (asked k)).refusal
    refusal_at = let e : 2 * k ≡ 2 * k + 0 = omega arith in ap (λ (i : ℕ). get_or A' i 0) e ∙ answer_at 0 (omega arith)

    word_at_lem : get_or A' (2 * k + 1) 0 ≡ (call_after B plan s (first k) (asked k)).word
    word_at_lem = answer_at 1 (omega arith)

    -- an accepted call c
    module _ (c : Call) (e : get_or calls k 0 ≡ word_of c) where
      asked_is : asked k ≡ c
      asked_is = ap call_of e ∙ call_word c

      refusal_of_lem : get_or A' (2 * k) 0 ≡ 0 → (call_after B plan s (first k) c).refusal ≡ 0
      refusal_of_lem z = ap (λ (d : Call). (call_after B plan s (first k) d).refusal) (sym asked_is) ∙ (sym refusal_at ∙ z)

      word_of_lem : get_or A' (2 * k + 1) 0 ≡ (call_after B plan s (first k) c).word
      word_of_lem = word_at_lem ∙ ap (λ (d : Call). (call_after B plan s (first k) d).word) asked_is

  pub play_given : PlayGiven B plan s before calls A r C' W' A'
  play_given =
      record {
        accepted = accepted;
        refusal = refusal_at;
        word = word_at_lem;
        behind = (
          ap length answers_are ∙ length_behind (flat_map two made) A (2 * length calls) size room,
          λ i l. ap (λ (x : List ℕ). get_or x i 0) answers_are ∙ get_d_behind (flat_map two made) A (2 * length calls) size i l,
        );
        started = λ k a l e z. word_of_lem k l (start a) e ∙ ((order (first k ++ (start a ∷ []))).starts (first k) [] a refl (refusal_of_lem k l (start a) e z)).2;
        finished = λ k a l e z. word_of_lem k l (finish a) e ∙ ((order (first k ++ (finish a ∷ []))).finishes (first k) [] a refl (refusal_of_lem k l (finish a) e z)).2;
        shown = λ k g l e z.
            let o = (order (first k ++ (result g ∷ []))).results (first k) [] g refl (refusal_of_lem k l (result g) e z) in
            (o.1, word_of_lem k l (result g) e ∙ o.2);
        state = P.state accepted ∙ sym (play_append plan before (calls_of calls) s);
        in_any_order = order (before ++ calls_of calls);
      }
    where
      size : length (flat_map two made) ≡ 2 * length calls
      size = length_parts two 2 (λ x. refl) made ∙ ap (λ (n : ℕ). 2 * n) length_made
