use mathlib.Core.Path.{refl}
use native.Mathlib.Nat.{le_of_eq}
use borrow.Author.Rules.{rules}
use Rattle.transfers.proofs.Rows.{narrow, rows_none, rows_more, laid}
use Rattle.transfers.proofs.Last.{sources_named}
use Rattle.transfers.proofs.FlagsOf.{tallied_none, zeros_fit}
use Rattle.transfers.proofs.Closing.{regions_few}
use Rattle.transfers.proofs.Found.{tasks_few, writers_found, ahead_found, visited, found_count, found_masks, found_wrapped}
use Rattle.transfers.proofs.find_transfers.Goals as goal

pub loop-t-init : goal.loop-t-init
loop-t-init c = search (rules, tasks_few, rows_none)

pub row_of-requires : goal.row_of-requires
row_of-requires c = search (rules, narrow)

pub loop-t-preserved : goal.loop-t-preserved
loop-t-preserved c = search (rules, rows_more)

pub name_unwritten-requires : goal.name_unwritten-requires
name_unwritten-requires c = search (rules, regions_few)

pub invariant_of-search : goal.invariant_of-search
invariant_of-search c = record {
  sources = search (rules, sources_named);
  tallied = tallied_none _ _ c.requires.1 refl;
  fits = zeros_fit _ c.requires.1;
}

pub visit_tasks-requires : goal.visit_tasks-requires
visit_tasks-requires c = (search (rules, laid), search (rules, le_of_eq))

pub close_regions-requires : goal.close_regions-requires
close_regions-requires c =
    let e = c.tasks-tasks.ensures in
    let r = c.regions.ensures in
    let v = c.visit_tasks.ensures in (
      c.requires.0,
      writers_found _ _ _ _ _ e c.name_unwritten.ensures r v.last,
      ahead_found _ _ _ _ _ _ _ _ _ c.requires.0 e c.name_unwritten.ensures r c.requires.1 refl v.flags c.visit_tasks.new.self.tallied
          c.visit_tasks.new.self.fits,
      visited _ _ _ _ _ _ _ _ _ c.requires.0 e c.name_unwritten.ensures r c.requires.1 refl v.flags c.visit_tasks.new.self.tallied
          c.visit_tasks.new.self.fits _ c.requires.2,
    )

pub returns : goal.returns
returns c = search (rules, found_count, found_masks, found_wrapped, c.masks-1.given.1.1, c.visit_tasks.ensures.same_reference, c.close_regions.ensures.same_reference)
