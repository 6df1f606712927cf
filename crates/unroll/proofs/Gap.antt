-- The assumption on passes is needed: the system of specs/Gap.antt answers another word than its items in order, computed.
use mathlib.Core.Path.{◌≡◌, refl}
use mathlib.Core.Bool.{decide, decide_iff}
use mathlib.Core.Logic.Dec
use mathlib.Core.List.{[]}
use mathlib.Core.Option.{some}
use native.Mathlib.Decide.{dec_lt, dec_le, ℕ_discrete}
use native.Mathlib.Omega.{arith}
use Rattle.finite.specs.Lists.{mem}
use Rattle.finite.specs.Update.{put}
use Rattle.finite.proofs.Tests.{true_or_false}
use Rattle.finite.proofs.Decide.{dec_map, dec_imp, dec_sum, dec_then, dec_below, dec_below_suc, dec_some, dec_some_cons}
use Rattle.unroll.specs.Sequential.{word_on, execute, execute_to, store_of, store_at, word}
use Rattle.unroll.specs.Machine.{start, opening, CanStart, Decides, run, accepted}
use Rattle.unroll.specs.AnyOrder.{reply_after}
use Rattle.unroll.specs.Gap.{gap, Needed}
use Rattle.unroll.proofs.LastWriter.{scan, scan_suc, last_same, last_next, last_far, last_writer}
use Rattle.unroll.proofs.Decide.{dec_before, dec_writes, dec_accesses, dec_conflict, dec_last, dec_unwritten, dec_through, dec_dependence, dec_edge, dec_met, dec_ready, dec_start}
use Rattle.unroll.proofs.Runs.{can_accepts}

-- item 2 waits for item 1 alone, which has no pass
can_start : CanStart gap (opening gap) 2
unfolding decide opening mem true_or_false dec_lt dec_le ℕ_discrete Dec.and dec_map dec_imp dec_sum dec_then dec_below dec_below_suc dec_some
    dec_some_cons scan scan_suc last_same last_next last_far last_writer dec_before dec_writes dec_accesses dec_conflict dec_last dec_unwritten
    dec_through dec_dependence dec_edge dec_met dec_ready dec_start
can_start = (decide_iff (dec_start gap (opening gap) 2)).0 refl

in_order : word gap 0 2 ≡ 2
unfolding word_on execute execute_to store_of store_at word put mem dec_lt
in_order = refl

module _ (can : Decides gap) where
  answered : reply_after gap can [] (start 2) ≡ some 1
  unfolding run word_on opening
  answered = can_accepts gap can (opening gap) (start 2) can_start

  pub needed : Needed can
  unfolding accepted
  needed = record { answered = answered; in_order = in_order; fails = λ h. omega (arith, h.answers [] (start 2) 1 answered, in_order) }
