use Rattle.walk.proofs.rows.may_be_open.Goals as goal

pub returns-then-not-hit : goal.returns-then-not-hit
returns-then-not-hit c = rw c.if-not-hit.true-raw

pub returns : goal.returns
returns c = rw c.if-not-hit.false-raw c.any_open.ensures
