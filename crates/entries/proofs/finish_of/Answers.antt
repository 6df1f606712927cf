use Rattle.entries.proofs.Steps.{finish_no_item, finish_said}
use Rattle.entries.proofs.finish_of.Goals as goal

pub returns-in_err-item : goal.returns-in_err-item
returns-in_err-item c =
    rw c.from_residual.ensures (finish_no_item c.args.line.now c.requires c.in_err-item.ensures)

pub returns : goal.returns
returns c = finish_said c.args.line.now c.requires _ c.in_ok-item.ensures
