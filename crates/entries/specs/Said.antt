-- What an entry says: no entry says no step.
use Rattle.std.specs.Prelude.{Option as Maybe, Some, None}
use Rattle.std.proofs.Math.Option.{Option, none, some}
use Rattle.journal.specs.Lines.{Step, start, finish}
use Rattle.entries.specs.declared.Entry.{Entry}
use Rattle.entries.specs.declared.Entry.TheVariants.{Start, Finish}

abbrev pub said : Maybe Entry → Option Step
said None = none
said (Some (Start a w)) = some (start a w)
said (Some (Finish a)) = some (finish a)
