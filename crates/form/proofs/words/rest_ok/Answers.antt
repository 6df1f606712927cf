use Rattle.std.proofs.Common.{rules}
use Rattle.form.proofs.Rest.{rest_none, rest_more, rest_not}
use Rattle.form.proofs.words.rest_ok.Goals as goal

pub loop-a-init : goal.loop-a-init
loop-a-init c = search (rules, rest_none)

pub returns-then-access-ne0 : goal.returns-then-access-ne0
returns-then-access-ne0 c = rest_not _ _ c.loop-a.a _ c.loop-a-test.true (search rules) c.access.ensures (search rules)

pub loop-a-preserved : goal.loop-a-preserved
loop-a-preserved c = search (rules, rest_more)
