use native.Mathlib.Omega.{arith}
use Rattle.taskiter.proofs.Playing.{word_start, word_finish, word_result}
use Rattle.taskiter.proofs.play_one.Goals as goal

pub returns-in-0 : goal.returns-in-0
returns-in-0 c =
    rw (word_start c.args.word c.in-0.is) c.taskiter_start.ensures

pub returns-in-1 : goal.returns-in-1
returns-in-1 c =
    rw (word_finish c.args.word c.in-1.is) c.taskiter_finish.ensures

pub returns-in_default : goal.returns-in_default
returns-in_default c =
    rw (word_result c.args.word (λ z. omega arith) (λ z. omega arith)) c.taskiter_result.ensures
