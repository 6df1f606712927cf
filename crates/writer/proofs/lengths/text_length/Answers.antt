use mathlib.Core.Path.{◌≡◌}
use native.Mathlib.Omega.{arith}
use lib.ListN.{length}
use Rattle.plan.specs.Layout.{passes_of, ranks_of, regions_of}
use Rattle.plan.proofs.Facts.{formed}
use Rattle.graph.proofs.Small.{form_words}
use Rattle.writer.specs.Parts.{three}
use Rattle.writer.proofs.Sizes.{text_length}
use Rattle.writer.proofs.lengths.text_length.Goals as goal

pub starts_length-requires : goal.starts_length-requires
starts_length-requires c =
    let w = c.args.plan.now in
    (formed w (form_words w c.requires.1)).regions_most

pub returns : goal.returns
returns c =
    let w = c.args.plan.now in
    let e : c.three_length-numbers.result ≡ length (three (passes_of w) (ranks_of w) (regions_of w)) =
    rw (c.regions.ensures, c.ranks.ensures, c.passes.ensures) at c.three_length-numbers.ensures.0 in
    omega (arith, text_length w, c.tasks_length.ensures.0, c.starts_length.ensures.0)
