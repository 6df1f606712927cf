use mathlib.Core.Path.{sym}
use native.Mathlib.Omega.{arith}
use borrow.Author.Tests.{le-leb}
use lib.ListN.{length}
use Rattle.plan.specs.Form.{Words}
use Rattle.reading.specs.Written.{text_of}
use Rattle.reading.proofs.Theorems.{text_laws}
use Rattle.writer.proofs.has_room.Goals as goal

pub returns-then-room-ge-TEXT_BYTES : goal.returns-then-room-ge-TEXT_BYTES
returns-then-room-ge-TEXT_BYTES c =
    let w = c.args.words.now in
    let known : Words w = record { size = c.requires.0; fits = λ i. omega (arith, (c.shared_slice_known-1.given i).fits) } in
    sym (le-leb (length (text_of w)) c.args.room (omega (arith, text_laws.longest w known c.requires.1, c.if-room-ge-TEXT_BYTES.true)))
