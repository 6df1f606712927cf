use borrow.Author.Rules.{rules}
use lib.ListN.{replicate}
use Rattle.prepared.specs.Tables.{prepared_words}
use Rattle.checker.proofs.Lining.{lines_prepared, lines_own}
use Rattle.checker.proofs.check_clear.Goals as goal

pub check_lines-requires : goal.check_lines-requires
check_lines-requires c = (
  record {
    own = lines_own _ _ _ _ c.args.items.now.drawn c.requires.0 _ (replicate prepared_words 0) c.make_tables.ensures;
    long_counts = c.requires.1;
    long_values = c.requires.2;
  },
  c.requires.0,
)

pub returns : goal.returns
returns c =
    lines_prepared c.args.plan.now c.args.counts.now c.args.values.now c.args.journal.now _ (replicate prepared_words 0) _ _ c.check_lines.ensures c.requires.0 c.make_tables.ensures
    (search rules)
