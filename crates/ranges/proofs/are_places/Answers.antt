use borrow.Author.Rules.{rules}
use lib.Dec.{ltb}
use Rattle.finite.proofs.Below.{all_none}
use Rattle.plan.specs.Limits.{max_accesses}
use Rattle.plan.specs.Sizes.{first_held}
use Rattle.prepared.specs.Tables.{place_in}
use Rattle.ranges.proofs.Stopping.{below_more, below_stop, list_all}
use Rattle.ranges.proofs.are_places.Goals as goal

pub loop-k-init : goal.loop-k-init
loop-k-init c = search (rules, all_none)

pub returns-then-from-ge-FIRST_HELD : goal.returns-then-from-ge-FIRST_HELD
returns-then-from-ge-FIRST_HELD c =
    list_all (λ k. ltb (place_in c.args.tables.now c.args.first c.args.a k) first_held) _ max_accesses _ c.from-count.ensures c.if-count-gt-MAX_ACCESSES.false _
    (below_stop (place_in c.args.tables.now c.args.first c.args.a) first_held c.loop-k.k _ c.from.ensures c.if-from-ge-FIRST_HELD.true _ (search rules))

pub loop-k-preserved : goal.loop-k-preserved
loop-k-preserved c = (
  search rules,
  below_more (place_in c.args.tables.now c.args.first c.args.a) first_held c.loop-k.k _ c.from.ensures c.if-from-ge-FIRST_HELD.false c.loop-k.invariant.1,
)
