use borrow.Author.Rules.{rules}
use Rattle.values.proofs.Finding.{number_most}
use Rattle.calls.proofs.finishes.write_item.Goals as goal

pub overflow_add-word : goal.overflow_add-word
overflow_add-word c = let h = number_most _ _ _ c.requires.0 in search rules

pub offset_bounds-values-a : goal.offset_bounds-values-a
offset_bounds-values-a c = let h = number_most _ _ _ c.requires.0 in search rules

pub bounds-values-a : goal.bounds-values-a
bounds-values-a c = let h = number_most _ _ _ c.requires.0 in search rules
