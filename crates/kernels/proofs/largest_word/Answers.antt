use Rattle.std.proofs.Common.{◌≡◌, max, fold, rules, arith}
use Rattle.kernels.proofs.Laws.{largest_fold}
use Rattle.kernels.proofs.largest_word.Goals as goal

pub returns : goal.returns
returns c =
    let e : c.fold.result ≡ fold (λ s x. max x s) 0 c.args.reads.now = search rules in
    omega (arith, e, largest_fold c.args.reads.now 0)
