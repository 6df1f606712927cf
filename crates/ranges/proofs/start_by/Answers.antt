use Rattle.ranges.proofs.Refusing.{start_ready, start_range, start_done, start_running, start_unmet}
use Rattle.ranges.proofs.start_by.Goals as goal

pub returns-then-x : goal.returns-then-x
returns-then-x c = start_ready _ c.if-x.true

pub returns-then-not-is_in_range : goal.returns-then-not-is_in_range
returns-then-not-is_in_range c = start_range _ _ c.is_in_range.ensures c.if-not-is_in_range.true-raw

pub returns-then-x-2 : goal.returns-then-x-2
returns-then-x-2 c =
    start_done _ _ c.is_in_range.ensures c.if-not-is_in_range.false-raw c.if-x-2.true

pub returns-then-x-3 : goal.returns-then-x-3
returns-then-x-3 c =
    start_unmet _ _ c.is_in_range.ensures c.if-not-is_in_range.false-raw c.if-x-2.false c.if-x-3.true c.if-x.false

pub returns-else-x-3 : goal.returns-else-x-3
returns-else-x-3 c =
    start_running _ _ c.is_in_range.ensures c.if-not-is_in_range.false-raw c.if-x-2.false c.if-x-3.false
