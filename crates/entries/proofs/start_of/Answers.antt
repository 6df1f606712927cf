use Rattle.entries.proofs.Steps.{start_no_item, start_no_word, start_said}
use Rattle.entries.proofs.start_of.Goals as goal

pub returns-in_err-item : goal.returns-in_err-item
returns-in_err-item c =
    rw c.from_residual.ensures (start_no_item c.args.line.now c.requires c.in_err-item.ensures)

pub returns-in_err-word : goal.returns-in_err-word
returns-in_err-word c =
    rw c.from_residual-in_err-word.ensures (start_no_word c.args.line.now c.requires _ _ c.in_ok-item.ensures c.in_err-word.ensures)

pub returns : goal.returns
returns c = start_said c.args.line.now c.requires _ _ c.in_ok-item.ensures _ c.in_ok-word.ensures
