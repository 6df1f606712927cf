use Rattle.writer.specs.Parts.{loop_line}
use Rattle.writer.proofs.lines.put_loop.Goals as goal

pub put_three-requires : goal.put_three-requires
unfolding loop_line
put_three-requires c =
    rw (c.regions.ensures, c.ranks-ranks.ensures, c.passes-passes.ensures) c.requires

pub returns : goal.returns
unfolding loop_line
returns c =
    rw (c.regions.ensures, c.ranks-ranks.ensures, c.passes-passes.ensures) at c.put_three.ensures
