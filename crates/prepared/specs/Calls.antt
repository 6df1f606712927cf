-- Lists of calls, each by the tables or ordinary, as the host likes.
use Rattle.std.specs.Prelude.{ℕ, ◌+◌, Bool, cond, List, [], ◌∷◌, map, eqb}
use Rattle.steps.specs.Answers.{Left}
use Rattle.steps.specs.Calls.{Call, start, finish, result, Lent, lent_by, call}
use Rattle.prepared.specs.Steps.{start_prepared, finish_prepared}

-- a call, and whether it goes by the tables; there is no other result than the ordinary one
pub record Made : Type 0 where
  pub prepared : Bool
  pub call : Call

abbrev pub calls_of : List Made → List Call
calls_of l = map (λ m. m.call) l

module _ (plan tables : List ℕ) where
  abbrev pub call_in : Lent → Call → Left
  call_in s (start a) = start_prepared plan tables s.counts s.values a
  call_in s (finish a) = finish_prepared plan tables s.counts s.values a
  call_in s (result g) = call plan s (result g)

  abbrev pub call_made : Lent → Made → Left
  call_made s m = cond m.prepared (call_in s m.call) (call plan s m.call)

  -- the state after a list, what its calls answer and leave, and how many that t picks are accepted
  unfoldable pub play_made : Lent → List Made → Lent
  play_made s [] = s
  play_made s (m ∷ l) = play_made (lent_by (call_made s m)) l

  unfoldable pub replies_made : Lent → List Made → List Left
  replies_made s [] = []
  replies_made s (m ∷ l) = call_made s m ∷ replies_made (lent_by (call_made s m)) l

  unfoldable pub accepted_made : (Call → Bool) → Lent → List Made → ℕ
  accepted_made t s [] = 0
  accepted_made t s (m ∷ l) = cond (eqb (call_made s m).refusal 0) (cond (t m.call) 1 0) 0 + accepted_made t (lent_by (call_made s m)) l
