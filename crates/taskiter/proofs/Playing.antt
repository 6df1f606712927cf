-- Playing a list of calls in code: the loop of `taskiter_play`, by what is left to play.
use Prim.Native.Nat.{ℕ, suc, ◌+◌, ◌*◌, ◌/◌, ◌%◌, ◌≤◌, ◌<◌}
use mathlib.Core.Path.{◌≡◌, refl, sym, ◌∙◌, ap, ap₂}
use mathlib.Core.Bool.{Bool, true, false, ◌||◌}
use mathlib.Core.List.{List, [], ◌∷◌, ◌++◌, append_assoc, append-nil, flat_map}
use native.Mathlib.Omega.{arith}
use borrow.Author.Tests.{eq-eqb, ne_eqb, le-leb, leb-true, le-ltb, ltb-false}
use lib.Dec.{ltb, leb}
use lib.ListN.{length, get_or, set, take, drop, length-append, take-append-drop, drop_of_length-le}
use lib.Seq.{length-take-le, drop-cons, take_at, drop_at, drop-drop, sets-eq}
use Rattle.finite.proofs.Tests.{false_of, not_both, and-true, and_intro, or_parts}
use Rattle.plan.specs.Layout.{plan_words}
use Rattle.steps.specs.State.{count_words, value_words}
use Rattle.steps.specs.Answers.{Left, long_slices}
use Rattle.steps.specs.Calls.{start, finish, result, Lent, lent, lent_by, call, play, replies}
use Rattle.steps.proofs.Accepting.{long_slices_lem}
use Rattle.taskiter.specs.Played.{call_of, calls_of, two, long_play, Played}

-- the call that a word says, by its kind

pub word_start : (w : ℕ) → w % 3 ≡ 0 → call_of w ≡ start (w / 3)
word_start w e = rw (eq-eqb (w % 3) 0 e)

pub word_finish : (w : ℕ) → w % 3 ≡ 1 → call_of w ≡ finish (w / 3)
word_finish w e = rw (ne_eqb (w % 3) 0 (λ z. omega arith), eq-eqb (w % 3) 1 e)

pub word_result : (w : ℕ) → (w % 3 ≡ 0 → ⊥) → (w % 3 ≡ 1 → ⊥) → call_of w ≡ result (w / 3)
word_result w m n = rw (ne_eqb (w % 3) 0 m, ne_eqb (w % 3) 1 n)

-- the test of the slices as code makes it, b being what `is_short` answers
module _ (plan C W calls A : List ℕ) (b : Bool) (short : b ≡ (ltb (length plan) plan_words || (ltb (length C) count_words || ltb (length W) value_words))) where
  module _ (h : (b || ltb (length A / 2) (length calls)) ≡ false) where
    pub play_room : 2 * length calls ≤ length A
    play_room = let l = ltb-false (length A / 2) (length calls) (or_parts b (ltb (length A / 2) (length calls)) h).1 in omega arith

    pub play_long : long_play plan C W calls A ≡ true
    play_long =
        let s = sym short ∙ (or_parts b (ltb (length A / 2) (length calls)) h).0 in
        let p = or_parts (ltb (length plan) plan_words) (ltb (length C) count_words || ltb (length W) value_words) s in
        let c = or_parts (ltb (length C) count_words) (ltb (length W) value_words) p.1 in
        and_intro (long_slices plan C W) (leb (2 * length calls) (length A))
        ((long_slices_lem plan C W).1 (ltb-false (length plan) plan_words p.0, ltb-false (length C) count_words c.0, ltb-false (length W) value_words c.1))
        (le-leb (2 * length calls) (length A) play_room)

  long_enough : long_play plan C W calls A ≡ true → (b || ltb (length A / 2) (length calls)) ≡ false
  long_enough e =
      let p = and-true (long_slices plan C W) (leb (2 * length calls) (length A)) e in
      let l = (long_slices_lem plan C W).0 p.0 in
      let m = leb-true (2 * length calls) (length A) p.1 in
      let n : length calls ≤ length A / 2 = omega arith in
      rw (
        short,
        le-ltb (length plan) plan_words l.0,
        le-ltb (length C) count_words l.1,
        le-ltb (length W) value_words l.2,
        le-ltb (length A / 2) (length calls) n,
      )

  pub played_short : (b || ltb (length A / 2) (length calls)) ≡ true → Played plan C W calls A 11 C W A
  played_short h =
      record {
        refusal = rw (false_of (long_play plan C W calls A) (λ e. not_both h (long_enough e)));
        refused = λ n. (refl, refl, refl);
        state = λ z. absurd (omega arith);
        told = λ z. absurd (omega arith);
      }

-- before call k: s and A are the state and the answers at entry, t and A' those by now
pub record Rest (plan : List ℕ) (s : Lent) (calls A : List ℕ) (t : Lent) (A' : List ℕ) (k : ℕ) : Type 0 where
  pub most : k ≤ length calls
  -- what is left to play leads to the state and the answers that the whole leads to
  pub state : play plan t (calls_of (drop k calls)) ≡ play plan s (calls_of calls)
  pub told : take (2 * k) A' ++ flat_map two (replies plan t (calls_of (drop k calls))) ≡ flat_map two (replies plan s (calls_of calls))
  pub behind : drop (2 * k) A' ≡ drop (2 * k) A

module _ (plan : List ℕ) (s : Lent) (calls A : List ℕ) where
  pub rest_none : Rest plan s calls A s A 0
  rest_none = record { most = omega arith; state = refl; told = refl; behind = refl }

  module _ (t : Lent) (A' : List ℕ) (k : ℕ) (R : Rest plan s calls A t A' k) where
    -- call k answers and leaves u, and v and w are put
    module _ (l : k < length calls) (room : 2 * length calls ≤ length A') (u : Left) (e : u ≡ call plan t (call_of (get_or calls k 0))) (v w : ℕ) (first-put : v ≡ u.refusal)
        (second-put : w ≡ u.word) where
      abbrev put : List ℕ
      put = set (set A' (2 * k) v) (2 * k + 1) w

      put_is : put ≡ (take (2 * k) A' ++ two u) ++ drop (2 * (k + 1)) A'
      put_is =
          let i : 2 * k + 1 ≡ suc (2 * k) = omega arith in
          let m : 2 * k + 2 ≡ 2 * (k + 1) = omega arith in
          rw (first-put, second-put, i) (sets-eq (two u) A' (2 * k) (omega arith) ∙ ap (λ (n : ℕ). (take (2 * k) A' ++ two u) ++ drop n A') m)

      front_size : length (take (2 * k) A' ++ two u) ≡ 2 * (k + 1)
      front_size = omega (arith, length-append (take (2 * k) A') (two u), length-take-le (2 * k) A' (omega arith))

      calls_first : drop k calls ≡ get_or calls k 0 ∷ drop (k + 1) calls
      calls_first = let m : suc k ≡ k + 1 = omega arith in drop-cons calls k 0 l ∙ ap (λ (n : ℕ). get_or calls k 0 ∷ drop n calls) m

      state_next : play plan (lent_by u) (calls_of (drop (k + 1) calls)) ≡ play plan t (calls_of (drop k calls))
      unfolding play
      state_next = ap (λ (x : Left). play plan (lent_by x) (calls_of (drop (k + 1) calls))) e ∙ ap (λ (c : List ℕ). play plan t (calls_of c)) (sym calls_first)

      replies_next : two u ++ flat_map two (replies plan (lent_by u) (calls_of (drop (k + 1) calls))) ≡ flat_map two (replies plan t (calls_of (drop k calls)))
      unfolding replies flat_map
      replies_next =
          ap (λ (x : Left). two x ++ flat_map two (replies plan (lent_by x) (calls_of (drop (k + 1) calls)))) e
          ∙ ap (λ (c : List ℕ). flat_map two (replies plan t (calls_of c))) (sym calls_first)

      pub rest_more : Rest plan s calls A (lent_by u) put (k + 1)
      rest_more =
          record {
            most = omega arith;
            state = state_next ∙ R.state;
            told = ap (λ (x : List ℕ). x ++ flat_map two (replies plan (lent_by u) (calls_of (drop (k + 1) calls))))
                (ap (take (2 * (k + 1))) put_is ∙ take_at (take (2 * k) A' ++ two u) (drop (2 * (k + 1)) A') (2 * (k + 1)) front_size)
                ∙ (append_assoc (take (2 * k) A') (two u) (flat_map two (replies plan (lent_by u) (calls_of (drop (k + 1) calls))))
                ∙ (ap (λ (x : List ℕ). take (2 * k) A' ++ x) replies_next ∙ R.told));
            behind = ap (drop (2 * (k + 1))) put_is
                ∙ (drop_at (take (2 * k) A' ++ two u) (drop (2 * (k + 1)) A') (2 * (k + 1)) front_size
                ∙ behind_next);
          }
        where
          behind_next : drop (2 * (k + 1)) A' ≡ drop (2 * (k + 1)) A
          behind_next =
              let m : 2 * k + 2 ≡ 2 * (k + 1) = omega arith in
              ap (λ (n : ℕ). drop n A') (sym m)
              ∙ (sym (drop-drop 2 (2 * k) A') ∙ (ap (drop 2) R.behind ∙ (drop-drop 2 (2 * k) A ∙ ap (λ (n : ℕ). drop n A) m)))

    -- nothing is left to play
    module _ (l : length calls ≤ k) where
      over : k ≡ length calls
      over = omega (arith, R.most)

      none_left : drop k calls ≡ []
      none_left = drop_of_length-le calls {i = k} l

      state_done : t ≡ play plan s (calls_of calls)
      unfolding play
      state_done = ap (λ (c : List ℕ). play plan t (calls_of c)) (sym none_left) ∙ R.state

      told_done : take (2 * k) A' ≡ flat_map two (replies plan s (calls_of calls))
      unfolding replies flat_map
      told_done =
          sym (append-nil (take (2 * k) A'))
          ∙ (ap (λ (c : List ℕ). take (2 * k) A' ++ flat_map two (replies plan t (calls_of c))) (sym none_left) ∙ R.told)

      answers_done : A' ≡ flat_map two (replies plan s (calls_of calls)) ++ drop (2 * length calls) A
      answers_done =
          sym (take-append-drop (2 * k) A')
          ∙ ap₂ ◌++◌ told_done (R.behind ∙ ap (λ (n : ℕ). drop (2 * n) A) over)

pub played_done : (plan C W calls A : List ℕ) → long_play plan C W calls A ≡ true → (C' W' A' : List ℕ) (k : ℕ) → Rest plan (lent C W) calls A (lent C' W') A' k → length calls ≤ k →
    Played plan C W calls A 0 C' W' A'
played_done plan C W calls A h C' W' A' k R l =
    record {
      refusal = rw h;
      refused = λ n. absurd (n refl);
      state = λ z. state_done plan (lent C W) calls A (lent C' W') A' k R l;
      told = λ z. answers_done plan (lent C W) calls A (lent C' W') A' k R l;
    }
