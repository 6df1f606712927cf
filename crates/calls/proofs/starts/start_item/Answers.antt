use borrow.Author.Rules.{rules}
use Rattle.values.proofs.Finding.{number_most}
use Rattle.calls.proofs.Behind.{started_is}
use Rattle.calls.proofs.starts.start_item.Goals as goal

pub overflow_add-values : goal.overflow_add-values
overflow_add-values c = let h = number_most _ _ _ c.requires.0 in search rules

pub offset_bounds-values-a : goal.offset_bounds-values-a
offset_bounds-values-a c = let h = number_most _ _ _ c.requires.0 in search rules

pub bounds-values-a : goal.bounds-values-a
bounds-values-a c = let h = number_most _ _ _ c.requires.0 in search rules

pub offset_bounds-counts-a : goal.offset_bounds-counts-a
offset_bounds-counts-a c = let h = number_most _ _ _ c.requires.0 in search rules

pub bounds-counts-a : goal.bounds-counts-a
bounds-counts-a c = let h = number_most _ _ _ c.requires.0 in search rules

pub bounds-counts-a-2 : goal.bounds-counts-a-2
bounds-counts-a-2 c = let h = number_most _ _ _ c.requires.0 in search rules

pub returns : goal.returns
returns c =
    started_is _ _ _ c.requires.0 c.args.counts.now c.args.values.now _ c.item_word-word.ensures
