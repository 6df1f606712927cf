use Rattle.writer.specs.Parts.{begin_line}
use Rattle.writer.proofs.lines.put_begin.Goals as goal

pub put_three-requires : goal.put_three-requires
unfolding begin_line
put_three-requires c =
    rw (c.constant.ensures, c.kernel-kernel.ensures, c.rank-rank.ensures) c.requires.1

pub returns : goal.returns
unfolding begin_line
returns c =
    rw (c.constant.ensures, c.kernel-kernel.ensures, c.rank-rank.ensures) at c.put_three.ensures
