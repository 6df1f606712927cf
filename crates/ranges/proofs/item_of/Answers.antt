use Rattle.ranges.specs.Numbers.{item_in}
use Rattle.ranges.proofs.item_of.Goals as goal

pub returns : goal.returns
unfolding item_in
returns c =
    rw (c.own_of.ensures, c.passes-passes.ensures, c.from.ensures)
