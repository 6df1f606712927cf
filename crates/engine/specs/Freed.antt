-- Where the items go that a finish makes ready. Nothing here need be believed.
use Rattle.std.specs.Prelude.{ℕ, ◌<◌, ◌≡◌, List, [], ◌++◌}
use Rattle.std.proofs.Common.{sym, ◌∙◌}
use Rattle.finite.specs.Lists.{mem}
use Rattle.finite.specs.Put.{Added}
use Rattle.finite.proofs.Members.{mem_append}
use Rattle.finite.proofs.Puts.{added_append}
use Rattle.masks.specs.Masks.{Entered}
use Rattle.masks.proofs.Sets.{entered_more}
use Rattle.steps.specs.State.{unmet_by}
use Rattle.prepared.specs.Steps.{lowered_by, freed_by}

-- the items of a list were put into a set
abbrev pub Joined : List ℕ → List ℕ → List ℕ → Type 0
Joined words xs words' = Entered words (λ b. mem b xs) words'

-- more put behind what was put, through the same reference
pub listed_more : (xs ys : List ℕ) {a b c : ℕ} {l m n : List ℕ} {N : Type 0} {p q r : N} →
    Added xs a l b m × (q ≡ p) → Added ys b m c n × (r ≡ q) → Added (xs ++ ys) a l c n × (r ≡ p)
listed_more xs ys P Q = (added_append P.0 Q.0, Q.1 ∙ P.1)

pub joined_more : (xs ys : List ℕ) {l m n : List ℕ} {N : Type 0} {p q r : N} →
    Joined l xs m × (q ≡ p) → Joined m ys n × (r ≡ q) → Joined l (xs ++ ys) n × (r ≡ p)
joined_more xs ys {l} {m} {n} P Q =
    (entered_more l m n (λ b. mem b xs) (λ b. mem b ys) (λ b. mem b (xs ++ ys)) P.0 Q.0 (λ b k. sym (mem_append b xs ys)), Q.1 ∙ P.1)

-- of the n items that f gives, each can be put at the turn at which it becomes ready
module _ (S : Type 0) (can_put : S → ℕ → Type 0) (puts : S → List ℕ → S → Type 0) where
  pub record Takes (f : ℕ → ℕ) (n : ℕ) (counts : List ℕ) (s : S) : Type 0 where
    pub none : puts s [] s
    pub each : (k : ℕ) (t : S) → k < n → unmet_by (lowered_by f k counts) (f k) ≡ 1 → puts s (freed_by f k counts) t → can_put t (f k)
