use native.Mathlib.Omega.{arith}
use borrow.Author.Rules.{rules}
use lib.ListN.{length-set}
use Rattle.doors.proofs.Counting.{counts_none, counts_more, counts_done}
use Rattle.doors.proofs.counts.clear_counts.Goals as goal

pub loop-a-init : goal.loop-a-init
loop-a-init c = search (rules, counts_none)

pub bounds-counts-a-in-loop-a : goal.bounds-counts-a-in-loop-a
bounds-counts-a-in-loop-a c = simp length-set (search rules)

pub loop-a-preserved : goal.loop-a-preserved
loop-a-preserved c = (simp length-set (search rules), counts_more c.args.counts.now _ c.loop-a.a c.loop-a.invariant.1 (omega arith))

pub returns : goal.returns
returns c = counts_done _ _ _ _ c.loop-a.invariant.1 (omega arith) (omega arith)
