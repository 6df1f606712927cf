use mathlib.Core.List.{List, [], ◌∷◌, ◌++◌}
use mathlib.Core.Path.{sym, ap}
use Prim.Native.Nat.{ℕ}
use Rattle.finite.proofs.Puts.{added_same, room_same}
use Rattle.lines.proofs.Fields.{field_digits}
use Rattle.lines.proofs.put_last.Goals as goal

pub put_last-requires : goal.put_last-requires
put_last-requires c = room_same (ap (λ (s : List ℕ). s ++ (10 ∷ [])) (field_digits _)) c.requires

pub returns : goal.returns
returns c = added_same (ap (λ (s : List ℕ). s ++ (10 ∷ [])) (sym (field_digits _))) c.put_last.ensures
