use Rattle.finite.proofs.Puts.{added_append}
use Rattle.writer.proofs.lines.put_three.Goals as goal

pub returns : goal.returns
returns c =
    added_append c.put_bytes-head.ensures (added_append c.put_field-first.ensures (added_append c.put_field-second.ensures c.put_last.ensures))
