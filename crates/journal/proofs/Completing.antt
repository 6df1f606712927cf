-- A check from the state after calls since an opening: `Checks` and `Completes` of specs/Laws.antt.
use Prim.Native.Nat.{ℕ, ◌+◌, ◌≤◌, ◌<◌}
use mathlib.Core.Path.{◌≡◌, refl, sym, ◌∙◌, ap}
use mathlib.Core.Bool.{Bool, true, false, cond}
use mathlib.Core.Logic.{◌↔◌, ◌⊎◌, inl, inr}
use mathlib.Core.List.{List, [], ◌∷◌, ◌++◌, map}
use native.Mathlib.Omega.{arith}
use borrow.Author.Tests.{eq-eqb}
use lib.ListN.{length}
use Rattle.unroll.specs.Machine.{opening}
use Rattle.body.specs.Body.{Body}
use Rattle.body.specs.Items.{total_steps}
use Rattle.body.specs.Places.{system}
use Rattle.body.specs.Loop.{loop_final}
use Rattle.plan.specs.Layout.{plan_words}
use Rattle.graph.specs.Answers.{formed_plan, plan_body}
use Rattle.steps.specs.State.{state_of}
use Rattle.steps.specs.Answers.{Left, is_complete, open_of, result_of}
use Rattle.steps.specs.Calls.{Call, is_step, Lent, lent_by, call, play, accepted}
use Rattle.steps.proofs.Accepting.{complete, open_accepted, open_opened, result_complete}
use Rattle.steps.proofs.Simulating.{Tied, opening_tied}
use Rattle.steps.proofs.Playing.{play_append, accepted_append}
use Rattle.steps.proofs.Ending.{Done, done_total, result_final}
use Rattle.prepared.proofs.Reached.{shown_play, shown_clear, open_long, open_formed, shown_opening}
use Rattle.journal.specs.Lines.{Step, start, finish}
use Rattle.journal.specs.Checking.{call_of, after, passed, check_from}
use Rattle.journal.specs.Written.{journal_of}
use Rattle.journal.specs.Laws.{Words, Checks, Completes}
use Rattle.journal.proofs.Bounded.{opened_fits}
use Rattle.journal.proofs.Stepping.{Each, kept_each, Sound, play_sound}
use Rattle.journal.proofs.Following.{each_passes, checks}

-- the number of an accepted journal
one_true : (b : Bool) → (◌≡◌ {A = ℕ} (cond b 1 0) 1) ↔ (b ≡ true)
one_true true = (λ e. refl, λ e. refl)
one_true false = (λ e. absurd (omega arith), λ e. let z : ◌≡◌ {A = ℕ} 0 1 = cc in z)

-- steps that hold are all accepted
each_accepted : (plan : List ℕ) (l : List Step) (s : Lent) → Each plan s l → accepted plan is_step s (map call_of l) ≡ length l
unfolding Each accepted
each_accepted plan [] s h = refl
each_accepted plan (start a w ∷ l) s h = rw (eq-eqb _ 0 h.0.0) (omega (arith, each_accepted plan l (after (call plan) s (start a w)) h.1))
each_accepted plan (finish a ∷ l) s h = rw (eq-eqb _ 0 h.0) (omega (arith, each_accepted plan l (after (call plan) s (finish a)) h.1))

module _ (plan counts values : List ℕ) (plan_words_lem : Words plan) (value-words : Words values) (z : (open_of plan counts values).refusal ≡ 0) where
  abbrev B : Body
  B = plan_body plan

  abbrev first : Lent
  first = lent_by (open_of plan counts values)

  abbrev long : plan_words ≤ length plan
  long = open_long plan counts values z

  abbrev formed : formed_plan plan ≡ true
  formed = open_formed plan counts values z

  tied : Tied plan first (opening (system B))
  tied = opening_tied plan counts values z

  sound : Sound plan long formed first
  sound =
      record {
        shown = shown_opening plan counts values z;
        words = rw (open_opened plan counts values ((open_accepted plan counts values).0 z).0 formed) (opened_fits plan counts values plan_words_lem value-words);
      }

  module _ (before : List Call) (check : List ℕ → Left) (is : (journal : List ℕ) → check journal ≡ check_from (call plan) plan (play plan first before) journal) where
    abbrev s : Lent
    s = play plan first before

    pub after_checks : Checks plan s check
    after_checks = checks plan long formed plan_words_lem s (play_sound plan long formed plan_words_lem before first sound) check is

    module _ (l : List Step) (h : Each plan s l) where
      -- all calls since the opening, and the state that they leave
      abbrev calls : List Call
      calls = before ++ map call_of l

      abbrev t : Lent
      t = play plan first calls

      passes : check (journal_of l) ≡ passed plan t
      passes =
          each_passes plan long formed plan_words_lem s (play_sound plan long formed plan_words_lem before first sound) check is l h
          ∙ ap (passed plan) (sym (play_append plan before (map call_of l) first))

      says_end : ((check (journal_of l)).word ≡ 1) ↔ Done plan long formed first tied calls
      says_end =
          let c = complete B (state_of t.counts t.values) in
          let o = one_true (is_complete B (state_of t.counts t.values)) in
          let e : (check (journal_of l)).word ≡ _ = ap (λ (r : Left). r.word) passes in
          (λ p. c.0 (o.0 (sym e ∙ p)), λ f. e ∙ o.1 (c.1 f))

      told : ((check (journal_of l)).word ≡ 1) ⊎ ((check (journal_of l)).word ≡ 0)
      told = go (is_complete B (state_of t.counts t.values)) (ap (λ (r : Left). r.word) passes)
        where
          go : (b : Bool) → (check (journal_of l)).word ≡ cond b 1 0 → ((check (journal_of l)).word ≡ 1) ⊎ ((check (journal_of l)).word ≡ 0)
          go true e = inl e
          go false e = inr e

      counted : ((check (journal_of l)).word ≡ 1) ↔ (accepted plan is_step first before + length l ≡ total_steps B)
      counted =
          let d = done_total plan long formed first tied calls in
          let n : accepted plan is_step first calls ≡ accepted plan is_step first before + length l =
          accepted_append plan is_step first before (map call_of l) ∙ ap (λ (k : ℕ). accepted plan is_step first before + k) (each_accepted plan l s h) in
          (λ p. sym n ∙ d.0 (says_end.0 p), λ q. says_end.1 (d.1 (n ∙ q)))

      result_of_lem : (g : ℕ) → result_of plan (check (journal_of l)).counts (check (journal_of l)).values g ≡ result_of plan t.counts t.values g
      result_of_lem g = ap (λ (r : Left). result_of plan r.counts r.values g) passes

      shown : (g : ℕ) → g < B.regions → ((check (journal_of l)).word ≡ 1) ↔ ((result_of plan (check (journal_of l)).counts (check (journal_of l)).values g).refusal ≡ 0)
      shown g lg =
          let c = result_complete plan t.counts t.values (shown_clear plan long formed t (shown_play plan long formed calls first (shown_opening plan counts values z))) g in
          let r = ap (λ (r : Left). r.refusal) (result_of_lem g) in
          (λ p. r ∙ c.1 (lg, says_end.0 p), λ q. says_end.1 (c.0 (sym r ∙ q)).1)

      final : (check (journal_of l)).word ≡ 1 → (g : ℕ) → g < B.regions → (result_of plan (check (journal_of l)).counts (check (journal_of l)).values g).word ≡ loop_final B g
      final p g lg =
          let q = sym (ap (λ (r : Left). r.refusal) (result_of_lem g)) ∙ (shown g lg).0 p in
          ap (λ (r : Left). r.word) (result_of_lem g) ∙ result_final plan long formed first tied calls g q

    none_held : Each plan s []
    unfolding Each
    none_held = tt

    nothing : ((check []).word ≡ 1) ↔ (accepted plan is_step first before ≡ total_steps B)
    nothing = let c = counted [] none_held in (λ p. omega (arith, c.0 p), λ q. c.1 (omega arith))

    pub after_completes : Completes plan first before check
    after_completes =
        record {
          either = λ journal e. let (l, p, h) = (after_checks.accepts journal).0 e in rw p (told l (kept_each plan l s h));
          complete = λ l h. counted l (kept_each plan l s h);
          results = λ journal e. let (l, p, h) = (after_checks.accepts journal).0 e in rw p (shown l (kept_each plan l s h));
          final = λ journal e. let (l, p, h) = (after_checks.accepts journal).0 e in rw p (final l (kept_each plan l s h));
          empty = (ap (λ (r : Left). r.refusal) (passes [] none_held), nothing);
        }
