use native.Mathlib.Omega.{arith}
use borrow.Author.Rules.{rules}
use Rattle.masks.proofs.Bits.{insert_fits, inserted}
use Rattle.masks.proofs.insert.Goals as goal

pub overflow_add-words : goal.overflow_add-words
overflow_add-words c =
    omega (arith, insert_fits c.args.words.now c.args.a _ c.requires.0 c.requires.1 c.requires.2 (search rules) c.bit_of.ensures)

pub returns : goal.returns
returns c =
    inserted c.args.words.now c.args.a _ c.requires.0 c.requires.1 c.requires.2 (search rules) c.bit_of.ensures
