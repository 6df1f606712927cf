-- Whatever the journal, a check leaves the state after its first lines, whose steps hold.
use Prim.Native.Nat.{ℕ}
use mathlib.Core.Path.{◌≡◌, refl, sym, ◌∙◌, ap}
use mathlib.Core.List.{List, [], ◌++◌, append-nil}
use borrow.Author.Tests.{eq-eqb}
use Rattle.text.specs.Records.{split}
use Rattle.steps.specs.Answers.{Left, open_of}
use Rattle.steps.specs.Calls.{Call, Lent, lent_by, call, play}
use Rattle.prepared.proofs.Reached.{shown_play, open_long, open_formed, shown_opening}
use Rattle.journal.specs.Lines.{Step}
use Rattle.journal.specs.Checking.{check_from, check_of, check_more_of}
use Rattle.journal.specs.Written.{journal_of}
use Rattle.journal.specs.Laws.{play_steps, Kept}
use Rattle.journal.proofs.Stepping.{each_kept}
use Rattle.journal.proofs.Judging.{Judged, held, broke, judged}
use Rattle.journal.proofs.Tables.{more_from}

-- the steps l of the first lines hold, and r leaves their state
abbrev pub Reaches : List ℕ → Lent → List ℕ → Left → Type 0
Reaches plan s journal r = (l : List Step) × (rest : List ℕ) × (journal ≡ journal_of l ++ rest) × Kept plan s l × (lent_by r ≡ play_steps plan s l)

-- from any state, and whatever the words of plan and state
from_reaches : (plan : List ℕ) (s : Lent) (r : Left) (journal : List ℕ) → r ≡ check_from (call plan) plan s journal → Reaches plan s journal r
from_reaches plan s r journal e = go (judged plan (split 10 journal) s 1 journal refl)
  where
    go : Judged plan s 1 journal (check_from (call plan) plan s journal) → Reaches plan s journal r
    go (held l p h q) = (l, [], p ∙ sym (append-nil (journal_of l)), each_kept plan l s h, ap lent_by (e ∙ q))
    go (broke l rest k p h b q) = (l, rest, p, each_kept plan l s h, ap lent_by (e ∙ q))

module _ (plan counts values : List ℕ) (z : (open_of plan counts values).refusal ≡ 0) where
  abbrev first : Lent
  first = lent_by (open_of plan counts values)

  -- an accepted opening comes first
  pub check_opened : (journal : List ℕ) → check_of plan counts values journal ≡ check_from (call plan) plan first journal
  unfolding check_of
  check_opened journal = rw (eq-eqb (open_of plan counts values).refusal 0 z)

  pub check_reaches : (journal : List ℕ) → Reaches plan first journal (check_of plan counts values journal)
  check_reaches journal = from_reaches plan first (check_of plan counts values journal) journal (check_opened journal)

  -- after any calls since
  module _ (before : List Call) where
    abbrev s : Lent
    s = play plan first before

    pub more_opened : (journal : List ℕ) → check_more_of plan s.counts s.values journal ≡ check_from (call plan) plan s journal
    more_opened = more_from plan (open_long plan counts values z) (open_formed plan counts values z) s
        (shown_play plan (open_long plan counts values z) (open_formed plan counts values z) before first (shown_opening plan counts values z))

    pub more_reaches : (journal : List ℕ) → Reaches plan s journal (check_more_of plan s.counts s.values journal)
    more_reaches journal = from_reaches plan s (check_more_of plan s.counts s.values journal) journal (more_opened journal)
