use borrow.Author.Rules.{rules}
use Rattle.output.proofs.Numbers.{left_all_lem, left_two, left_less, left_one, left_last, left_pair}
use Rattle.output.proofs.put_number.Goals as goal

pub loop-rest-init : goal.loop-rest-init
loop-rest-init c = search (rules, left_all_lem)

pub overflow_sub-i : goal.overflow_sub-i
overflow_sub-i c = (left_two _ _ _ _ _ _ c.loop-rest.invariant.0 c.loop-rest-test.true).0

pub put_two-requires : goal.put_two-requires
put_two-requires c = (search rules, (left_two _ _ _ _ _ _ c.loop-rest.invariant.0 c.loop-rest-test.true).1)

pub loop-rest-preserved : goal.loop-rest-preserved
loop-rest-preserved c = search (rules, left_less)

pub returns-then-rest-lt10 : goal.returns-then-rest-lt10
returns-then-rest-lt10 c = search (rules, left_one)

pub put_two-requires-2 : goal.put_two-requires-2
put_two-requires-2 c = (search rules, left_last _ _ _ _ _ _ c.loop-rest.invariant.0 (search rules) (search rules))

pub returns : goal.returns
returns c = search (rules, left_pair)
