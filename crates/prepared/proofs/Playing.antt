-- Lists of calls from an opening, by the tables or ordinary.
use Prim.Native.Nat.{ℕ, ◌+◌, ◌≤◌}
use mathlib.Core.Path.{◌≡◌, refl, ◌∙◌, ap}
use mathlib.Core.Bool.{Bool, true, false, cond}
use mathlib.Core.List.{List, [], ◌∷◌}
use lib.Dec.{eqb}
use lib.ListN.{length}
use Rattle.plan.specs.Layout.{plan_words}
use Rattle.graph.specs.Answers.{formed_plan}
use Rattle.steps.specs.Answers.{Left, open_of}
use Rattle.steps.specs.Calls.{Call, start, finish, result, Lent, lent_by, call, is_accepted, play, replies, accepted}
use Rattle.prepared.specs.Calls.{Made, calls_of, call_in, call_made, play_made, replies_made, accepted_made}
use Rattle.prepared.specs.Laws.{Prepared}
use Rattle.prepared.proofs.Reached.{Shown, shown_step, shown_play, shown_clear, shown_in_step, open_long, open_formed, shown_opening}
use Rattle.prepared.proofs.Same.{start_same, finish_same}

module _ (plan : List ℕ) (long : plan_words ≤ length plan) (formed : formed_plan plan ≡ true) (tables : List ℕ) (P : Prepared plan tables) where
  -- a call in a state that calls reach
  pub call_in_lem : (s : Lent) → Shown plan long formed s → (c : Call) → call_in plan tables s c ≡ call plan s c
  call_in_lem s h (start a) = start_same plan tables s.counts s.values P (shown_clear plan long formed s h) a
  call_in_lem s h (finish a) = finish_same plan tables s.counts s.values P (shown_clear plan long formed s h) (shown_in_step plan long formed s h) a
  call_in_lem s h (result g) = refl

  call_made_lem : (s : Lent) → Shown plan long formed s → (m : Made) → call_made plan tables s m ≡ call plan s m.call
  call_made_lem s h m = go m.prepared
    where
      go : (t : Bool) → cond t (call_in plan tables s m.call) (call plan s m.call) ≡ call plan s m.call
      go true = call_in_lem s h m.call
      go false = refl

  play_made_lem : (l : List Made) (s : Lent) → Shown plan long formed s → play_made plan tables s l ≡ play plan s (calls_of l)
  unfolding play_made play
  play_made_lem [] s h = refl
  play_made_lem (m ∷ l) s h =
      ap (λ (r : Left). play_made plan tables (lent_by r) l) (call_made_lem s h m)
      ∙ play_made_lem l (lent_by (call plan s m.call)) (shown_step plan long formed s h m.call)

  replies_made_lem : (l : List Made) (s : Lent) → Shown plan long formed s → replies_made plan tables s l ≡ replies plan s (calls_of l)
  unfolding replies_made replies
  replies_made_lem [] s h = refl
  replies_made_lem (m ∷ l) s h =
      ap (λ (r : Left). r ∷ replies_made plan tables (lent_by r) l) (call_made_lem s h m)
      ∙ ap (λ (k : List Left). call plan s m.call ∷ k) (replies_made_lem l (lent_by (call plan s m.call)) (shown_step plan long formed s h m.call))

  accepted_made_lem : (t : Call → Bool) (l : List Made) (s : Lent) → Shown plan long formed s → accepted_made plan tables t s l ≡ accepted plan t s (calls_of l)
  unfolding accepted_made accepted
  accepted_made_lem t [] s h = refl
  accepted_made_lem t (m ∷ l) s h =
      ap (λ (r : Left). cond (eqb r.refusal 0) (cond (t m.call) 1 0) 0 + accepted_made plan tables t (lent_by r) l) (call_made_lem s h m)
      ∙ ap (λ (k : ℕ). cond (is_accepted plan s m.call) (cond (t m.call) 1 0) 0 + k)
      (accepted_made_lem t l (lent_by (call plan s m.call)) (shown_step plan long formed s h m.call))

-- from an opening
module _ (plan tables counts values : List ℕ) (P : Prepared plan tables) (z : (open_of plan counts values).refusal ≡ 0) where
  abbrev first : Lent
  first = lent_by (open_of plan counts values)

  abbrev long : plan_words ≤ length plan
  long = open_long plan counts values z

  abbrev formed : formed_plan plan ≡ true
  formed = open_formed plan counts values z

  shown : Shown plan long formed first
  shown = shown_opening plan counts values z

  pub same_play : (l : List Made) → play_made plan tables first l ≡ play plan first (calls_of l)
  same_play l = play_made_lem plan long formed tables P l first shown

  pub same_replies : (l : List Made) → replies_made plan tables first l ≡ replies plan first (calls_of l)
  same_replies l = replies_made_lem plan long formed tables P l first shown

  pub same_accepted : (t : Call → Bool) (l : List Made) → accepted_made plan tables t first l ≡ accepted plan t first (calls_of l)
  same_accepted t l = accepted_made_lem plan long formed tables P t l first shown

  pub same_call : (l : List Call) (m : Made) → call_made plan tables (play plan first l) m ≡ call plan (play plan first l) m.call
  same_call l m = call_made_lem plan long formed tables P (play plan first l) (shown_play plan long formed l first shown) m
