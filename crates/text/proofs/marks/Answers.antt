use Rattle.text.proofs.MarkLaws.{word_marked}
use Rattle.text.proofs.marks.Goals as goal

pub returns : goal.returns
returns c =
    word_marked c.args.w c.args.b c.wrapping_sub_u64.result c.ranges.b.fits c.wrapping_sub_u64.ensures.value
