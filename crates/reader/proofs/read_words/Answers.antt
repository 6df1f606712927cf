use Rattle.reader.proofs.Ends.{read_long}
use Rattle.reader.proofs.read_words.Goals as goal

pub returns-then-text-gt-MAX_BYTES : goal.returns-then-text-gt-MAX_BYTES
returns-then-text-gt-MAX_BYTES c = read_long c.args.text.now c.if-text-gt-MAX_BYTES.true
