use mathlib.Core.Path.{sym}
use borrow.Author.Rules.{rules}
use Rattle.output.proofs.Numbers.{length_one_lem, length_two, length_three, length_four}
use Rattle.output.proofs.few_digits.Goals as goal

pub returns-then-n-lt10 : goal.returns-then-n-lt10
returns-then-n-lt10 c = sym (length_one_lem _ (search rules))

pub returns-then-n-lt100 : goal.returns-then-n-lt100
returns-then-n-lt100 c = sym (length_two _ (search rules) (search rules))

pub returns-then-n-lt1000 : goal.returns-then-n-lt1000
returns-then-n-lt1000 c = sym (length_three _ (search rules) (search rules))

pub returns : goal.returns
returns c = sym (length_four _ (search rules) (search rules))
