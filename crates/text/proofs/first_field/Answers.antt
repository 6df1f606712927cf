use Rattle.std.proofs.Common.{sym, length-take-le}
use Rattle.text.proofs.SplitLaws.{before_le}
use Rattle.text.proofs.first_field.Goals as goal

pub slice_bounds-result-end : goal.slice_bounds-result-end
slice_bounds-result-end c =
    let t = c.args.t.now in
    sym (length-take-le _ t (rw c.find-n.ensures (before_le 9 t)))
