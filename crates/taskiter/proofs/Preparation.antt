-- What C gets of a prepared plan: steps by tables that refuse change nothing, and from an opening on
-- calls by the tables that preparing leaves are the ordinary ones.
use Prim.Native.Nat.{ℕ, ◌+◌, ◌≤◌, ◌<◌}
use mathlib.Core.Path.{◌≡◌, refl, sym, ◌∙◌, ap, subst}
use mathlib.Core.Bool.{Bool, true, false, cond, not, ◌&&◌, ◌||◌}
use mathlib.Core.Logic.{◌⊎◌, inl, inr, ⊎_elim, ◌↔◌}
use mathlib.Core.List.{List, [], ◌∷◌, ◌++◌, Memᴰ as In}
use native.Mathlib.Decide.{dec_lt, ℕ_discrete}
use native.Mathlib.Omega.{arith}
use borrow.Author.Tests.{leb-true, eq-eqb, ne_eqb, lt-ltb, le-leb}
use lib.Dec.{eqb, ltb, leb}
use lib.ListN.{length, get_or, take, drop}
use lib.Seq.{take_at, drop_at}
use Rattle.finite.specs.Lists.{distinct}
use Rattle.finite.proofs.Tests.{and-true, and_intro, not_both, false_of}
use Rattle.plan.specs.Layout.{plan_words}
use Rattle.plan.specs.Sizes.{max_items, count_words, value_words}
use Rattle.graph.specs.declared.Number.{Number}
use Rattle.graph.specs.Answers.{refusal_of, plan_body}
use Rattle.steps.specs.State.{state_of, unmet_by}
use Rattle.steps.specs.Answers.{Left, tests_by, finish_tests, long_slices, unless, open_of}
use Rattle.steps.specs.Calls.{Call, start, finish, Lent, lent_by, call, play}
use Rattle.steps.proofs.Accepting.{long_slices_lem, unless_unchanged, open_accepted}
use Rattle.steps.proofs.Playing.{play_append}
use Rattle.prepared.specs.Tables.{prepared_words, PrepareAnswer, items_in}
use Rattle.prepared.specs.Steps.{own_in, start_ok, finish_ok, started_in, start_prepared, finished_in, finish_prepared, freed_in, FreeingAnswer}
use Rattle.prepared.specs.Calls.{calls_of as calls_made, call_made}
use Rattle.prepared.specs.Laws.{Prepared}
use Rattle.prepared.proofs.Theorems.{laws}
use Rattle.taskiter.specs.Demands.{Short, PreparedRefused, call_after, Freed, PreparedGiven}

-- a step by tables, with its own tests and what it leaves where it is accepted
module _ (plan tables counts values : List ℕ) where
  abbrev all_long : Bool
  all_long = long_slices plan counts values && leb prepared_words (length tables)

  short_false : Short plan counts values ⊎ (length tables < prepared_words) → all_long ≡ false
  short_false h =
      false_of all_long (λ t.
      let u = and-true (long_slices plan counts values) (leb prepared_words (length tables)) t in
      let l = (long_slices_lem plan counts values).0 u.0 in
      ⊎_elim (λ k. ⊎_elim (λ p. omega (arith, l.0)) (λ q. ⊎_elim (λ c. omega (arith, l.1)) (λ v. omega (arith, l.2)) q) k)
      (λ k. omega (arith, leb-true prepared_words (length tables) u.1)) h)

  false_short : all_long ≡ false → Short plan counts values ⊎ (length tables < prepared_words)
  false_short e =
      elim (dec_lt (length tables) prepared_words) [
        | yes t ↦ inr t
        | no t ↦ inl (elim (dec_lt (length plan) plan_words) [
          | yes p ↦ inl p
          | no p ↦ inr (elim (dec_lt (length counts) count_words) [
            | yes c ↦ inl c
            | no c ↦ inr (elim (dec_lt (length values) value_words) [
              | yes v ↦ v
              | no v ↦ absurd (not_both
                  (and_intro (long_slices plan counts values) (leb prepared_words (length tables))
                  ((long_slices_lem plan counts values).1 (omega arith, omega arith, omega arith)) (le-leb prepared_words (length tables) (omega arith))) e)
            ])
          ])
        ])
      ]

  -- 11 is given for slices that are short, and for nothing else
  eleven : (long formed within : Bool) (tests : ℕ) (made : Left) → (tests ≡ 11 → ⊥) → made.refusal ≡ 0 →
      (unless plan counts values (refusal_of long formed within) (unless plan counts values tests made)).refusal ≡ 11 → long ≡ false
  eleven false formed within tests made other accepted h = refl
  eleven true false within tests made other accepted h = absurd (omega arith)
  eleven true true false tests made other accepted h = absurd (omega arith)
  eleven true true true tests made other accepted h =
      elim (ℕ_discrete tests 0) [
        | yes e ↦ absurd (omega (arith, accepted, rw (eq-eqb tests 0 e) at h))
        | no e ↦ absurd (other (rw (ne_eqb tests 0 e) at h))
      ]

  judged_refused : (formed within : Bool) (tests : ℕ) (made : Left) → (tests ≡ 11 → ⊥) → made.refusal ≡ 0 →
      PreparedRefused plan tables counts values (unless plan counts values (refusal_of all_long formed within) (unless plan counts values tests made))
  judged_refused formed within tests made other accepted =
      record {
        short = (λ h. rw (short_false h), λ h. false_short (eleven all_long formed within tests made other accepted h));
        changes_nothing = unless_unchanged plan counts values (refusal_of all_long formed within) (unless plan counts values tests made)
            (unless_unchanged plan counts values tests made (λ f. absurd (f accepted)));
      }

  -- the tests of a start give 14 to 16, those of a finish 17
  start_other : (left idle none : Bool) → ◌≡◌ {A = ℕ} (cond left (cond idle (cond none 0 16) 15) 14) 11 → ⊥
  start_other false idle none e = omega arith
  start_other true false none e = omega arith
  start_other true true false e = omega arith
  start_other true true true e = omega arith

  finish_other : (idle : Bool) → ◌≡◌ {A = ℕ} (cond idle 17 0) 11 → ⊥
  finish_other true e = omega arith
  finish_other false e = omega arith

  pub start_refused : (a : ℕ) → PreparedRefused plan tables counts values (start_prepared plan tables counts values a)
  unfolding start_prepared started_in
  start_refused a =
      judged_refused (leb (items_in tables) max_items && (not (ltb a (items_in tables)) || start_ok plan tables counts values a)) (ltb a (items_in tables))
      (tests_by (own_in plan tables counts values a) (state_of counts values) (unmet_by counts a) a) (started_in plan tables counts values a)
      (start_other (ltb ((state_of counts values).finished a) (own_in plan tables counts values a)) (eqb ((state_of counts values).started a) ((state_of counts values).finished a))
      (eqb (unmet_by counts a) 0)) refl

  pub finish_refused : (a : ℕ) → PreparedRefused plan tables counts values (finish_prepared plan tables counts values a)
  unfolding finish_prepared finished_in
  finish_refused a =
      judged_refused (leb (items_in tables) max_items && (not (ltb a (items_in tables)) || finish_ok plan tables counts values a)) (ltb a (items_in tables))
      (finish_tests (state_of counts values) a) (finished_in plan tables counts values a) (finish_other (eqb ((state_of counts values).started a) ((state_of counts values).finished a))) refl

-- the numbers of a list that stands behind its length
taken_list : (l behind freed : List ℕ) → freed ≡ (length l ∷ l) ++ behind → take (get_or freed 0 0) (drop 1 freed) ≡ l
taken_list l behind freed e = ap (λ (x : List ℕ). take (get_or x 0 0) (drop 1 x)) e ∙ take_at l behind (length l) refl

left_behind : (l behind freed : List ℕ) → freed ≡ (length l ∷ l) ++ behind → drop (1 + length l) freed ≡ behind
left_behind l behind freed e = ap (drop (1 + length l)) e ∙ drop_at (length l ∷ l) behind (1 + length l) (omega arith)

-- from an opening
module _ (plan counts values : List ℕ) (z : (open_of plan counts values).refusal ≡ 0)
    (tables : List ℕ) (r : Number) (tables' : List ℕ) (room : prepared_words ≤ length tables) (A : PrepareAnswer plan tables r tables') where
  abbrev s : Lent
  s = lent_by (open_of plan counts values)

  none : r.refusal ≡ 0
  none =
      let o = (open_accepted plan counts values).0 z in
      A.refusal ∙ rw (le-leb plan_words (length plan) ((long_slices_lem plan counts values).0 o.0).0, le-leb prepared_words (length tables) room, o.1)

  tables_made : Prepared plan tables'
  tables_made = subst (Prepared plan) (sym (A.made none).1) (laws.prepares plan (drop prepared_words tables) ((open_accepted plan counts values).0 z).1)

  -- a finish that lists what it makes ready, after the calls l
  module _ (l : List Call) (a : ℕ) (freed : List ℕ) (q : Left) (freed' : List ℕ) (few : max_items < length freed) where
    abbrev t : Lent
    t = play plan s l

    freed_listed : FreeingAnswer plan tables' t.counts t.values freed a q freed' → Freed (plan_body plan) plan s l a freed q freed'
    unfolding play
    freed_listed F =
        record {
          same = same;
          exactly = λ h b.
              let e = laws.freed plan tables' counts values tables_made z l a (accepted h) b in
              let c : call_after (plan_body plan) plan s (l ++ (finish a ∷ [])) (start b) ≡ call plan (lent_by (call plan t (finish a))) (start b) =
              ap (λ (x : Lent). call plan x (start b)) (played l) in
              subst (λ (x : List ℕ). In b x ↔ (((call_after (plan_body plan) plan s (l ++ (finish a ∷ [])) (start b)).refusal ≡ 0) × ((call plan t (start b)).refusal ≡ 0 → ⊥))) (sym (taken h))
              (λ i. let u = e.0 i in (ap (λ (x : Left). x.refusal) c ∙ u.0, u.1), λ u. e.1 (sym (ap (λ (x : Left). x.refusal) c) ∙ u.0, u.1));
          fits = λ h. omega (arith, head h, laws.freed_few plan tables' counts values tables_made z l a (accepted h));
          behind = λ h. ap (λ (x : ℕ). drop (1 + x) freed') (head h) ∙ (rest h ∙ ap (λ (x : ℕ). drop (1 + x) freed) (sym (head h)));
          kept = λ h b u. ap (λ (x : Lent). (call plan x (start b)).refusal) (played l) ∙ laws.ready_kept plan tables' counts values tables_made z l a (accepted h) b u;
          refused = F.refused;
          once = λ h. subst (λ (x : List ℕ). distinct x ≡ true) (sym (taken h)) (laws.freed_once plan tables' counts values tables_made z l a (accepted h));
        }
      where
        same : q ≡ call plan t (finish a)
        same = F.finished ∙ (rw (lt-ltb max_items (length freed) few) (laws.same_call plan tables' counts values tables_made z l (record { prepared = true; call = finish a })))

        accepted : q.refusal ≡ 0 → (call plan t (finish a)).refusal ≡ 0
        accepted h = sym (ap (λ (x : Left). x.refusal) same) ∙ h

        listed : List ℕ
        listed = freed_in plan tables' t.counts t.values a

        taken : q.refusal ≡ 0 → take (get_or freed' 0 0) (drop 1 freed') ≡ listed
        taken h = taken_list listed _ freed' (F.listed h)

        head : q.refusal ≡ 0 → get_or freed' 0 0 ≡ length listed
        head h = ap (λ (x : List ℕ). get_or x 0 0) (F.listed h)

        rest : q.refusal ≡ 0 → drop (1 + length listed) freed' ≡ drop (1 + length listed) freed
        rest h = left_behind listed (drop (1 + length listed) freed) freed' (F.listed h)

        played : (k : List Call) → play plan s (k ++ (finish a ∷ [])) ≡ lent_by (call plan (play plan s k) (finish a))
        played k = play_append plan k (finish a ∷ []) s

  pub prepared_given : PreparedGiven (plan_body plan) plan s r tables'
  prepared_given =
      record {
        made = (none, (A.made none).0);
        replied = laws.same_replies plan tables' counts values tables_made z;
        state = laws.same_play plan tables' counts values tables_made z;
        counted = laws.same_accepted plan tables' counts values tables_made z;
        next = λ m c.
            ap (λ (x : Lent). call_made plan tables' x c) (laws.same_play plan tables' counts values tables_made z m)
            ∙ laws.same_call plan tables' counts values tables_made z (calls_made m) c;
        freed = λ m a freed q freed' few F.
            freed_listed (calls_made m) a freed q freed' few
            (subst (λ (x : Lent). FreeingAnswer plan tables' x.counts x.values freed a q freed') (laws.same_play plan tables' counts values tables_made z m) F);
      }
