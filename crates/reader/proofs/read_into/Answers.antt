use Rattle.std.proofs.Common.{◌≡◌, ℕ, arith, length, replicate, ap, ◌∙◌}
use Rattle.plan.specs.Layout.{plan_words}
use Rattle.reader.proofs.Ends.{tells_refused}
use Rattle.reader.proofs.read_into.Goals as goal

pub read_words-requires : goal.read_words-requires
read_words-requires c = c.fill.ensures.after (λ y h. h) ∙ ap (λ (k : ℕ). replicate k 0) c.requires

pub returns-in-Err : goal.returns-in-Err
returns-in-Err c =
    let n : length c.read_words.new.words ≡ plan_words = omega (arith, c.read_words.auto.words, c.fill.ensures.len, c.requires) in
    tells_refused c.args.text.now _ _ _ _ c.in-Err.ensures c.from.ensures (c.fill-in-Err.ensures.after (λ y h. h) ∙ ap (λ (k : ℕ). replicate k 0) n)
