use Rattle.ranges.proofs.Refusing.{finish_range, finish_idle, finish_running}
use Rattle.ranges.proofs.finish_by.Goals as goal

pub returns-then-is_running : goal.returns-then-is_running
returns-then-is_running c = finish_running _ _ c.is_running.ensures c.if-is_running.true

pub returns-then-is_in_range : goal.returns-then-is_in_range
returns-then-is_in_range c =
    finish_idle _ _ c.is_in_range.ensures c.if-is_in_range.true _ c.is_running.ensures c.if-is_running.false

pub returns-else-is_in_range : goal.returns-else-is_in_range
returns-else-is_in_range c = finish_range _ _ c.is_in_range.ensures c.if-is_in_range.false
