-- The statements of specs/Meaning.antt and specs/AnyOrder.antt, proved.
use Prim.Native.Nat.{ℕ, zero, suc, ◌+◌, ◌<◌}
use mathlib.Core.Path.{◌≡◌, subst}
use mathlib.Core.Logic.{inl, inr, ◌↔◌}
use mathlib.Core.List.{List}
use mathlib.Core.Option.{some}
use native.Mathlib.Omega.{arith}
use Rattle.unroll.specs.System.{System}
use Rattle.unroll.specs.Edges.{Edge}
use Rattle.unroll.specs.Machine.{State, Call, Met, CanStart, start, finish, answer, Decides}
use Rattle.unroll.specs.Meaning.{WaitsMade, StartRule, Meaning}
use Rattle.unroll.specs.AnyOrder.{WritersMade, reached, reply_after, AnyOrder, Laws}
use Rattle.unroll.proofs.Edges.{dependence_later, dependence_sooner, same_or_next, edge_distance, edge_only_readers}
use Rattle.unroll.proofs.Decide.{decides}
use Rattle.unroll.proofs.Local.{same_machine, local}
use Rattle.unroll.proofs.Progress.{end_or_can}
use Rattle.unroll.proofs.Runs.{can_accepts, reply_none, start_changes, finish_changes, replies_at, shown_times, reached_invariant, answers, in_passes, last_started, at_end_lem, final}
use Rattle.unroll.proofs.Counts.{counts, ends, completes}

module _ (S : System) (can : Decides S) (W : WritersMade S) where
  progress : (l : List Call) (a : ℕ) → a < S.items → (reached S can l).finished a < S.passes a → (c : Call) × (v : ℕ) × (reply_after S can l c ≡ some v)
  progress l a la m =
      elim (end_or_can S (reached S can l) (reached_invariant S can W l)) [
        | inl e ↦ absurd (omega (arith, e a la))
        | inr h ↦ (h.0, answer S (reached S can l) h.0, can_accepts S can (reached S can l) h.0 h.1)
      ]

  pub any_order : AnyOrder S can
  any_order =
      record {
        replied = replies_at S can;
        starts = λ l a. shown_times S can (start a) l;
        finishes = λ l a. shown_times S can (finish a) l;
        answers = answers S can W;
        in_passes = in_passes S can W;
        last_started = last_started S can W;
        progress = progress;
        at_end_lem = at_end_lem S can W;
        completes = completes S can W;
        counts = counts S can;
        ends = ends S can W;
        final = final S can W;
      }

module _ (S : System) where
  rule_start : (s : State) (a : ℕ) → CanStart S s a → StartRule S s a
  rule_start s a c =
      record {
        in_range = c.in_range;
        left = c.left;
        idle = c.idle;
        same_pass = λ b e. c.ready b 0 (s.started a) e (omega arith);
        pass_before = λ b p e h. c.ready b 1 p e (omega arith);
      }

  start_ready : (s : State) (a : ℕ) → StartRule S s a → (b d p : ℕ) → Edge S b a d → p + d ≡ s.started a → Met S s b p
  start_ready s a r b zero p e h = let z : s.started a ≡ p = omega arith in subst (λ (k : ℕ). Met S s b k) z (r.same_pass b e)
  start_ready s a r b (suc zero) p e h = r.pass_before b p e (omega arith)
  start_ready s a r b (suc (suc d)) p e h = absurd (omega (arith, edge_distance S b a (suc (suc d)) e))

  pub start_rule : (s : State) (a : ℕ) → CanStart S s a ↔ StartRule S s a
  start_rule s a = (rule_start s a, λ r. record { in_range = r.in_range; left = r.left; idle = r.idle; ready = start_ready s a r })

  pub finished_rule : WaitsMade S → (s : State) (a b d p : ℕ) → StartRule S s a → Edge S b a d → p + d ≡ s.started a → p < s.finished b
  finished_rule M s a b d p r e h = go (start_ready s a r b d p e h)
    where
      go : Met S s b p → p < s.finished b
      go (inl m) = m
      go (inr m) = absurd (omega (arith, M b a d p e (omega (arith, r.left, r.idle))))

pub meaning : (S : System) → Meaning S
meaning S =
    record {
      every_pass = λ k p a q b. (dependence_later S k p a q b, dependence_sooner S k p a q b);
      same_or_next = same_or_next S;
      distance = edge_distance S;
      only_readers = edge_only_readers S;
      start_rule = start_rule S;
      finished_rule = finished_rule S;
      decides = decides S;
      same_machine = same_machine S;
      start_changes = start_changes S;
      finish_changes = finish_changes S;
      refusal_changes = reply_none S;
      local = local S;
    }

pub laws : Laws
laws = record { meaning = meaning; any_order = any_order }
