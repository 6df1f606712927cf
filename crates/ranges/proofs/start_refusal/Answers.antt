use mathlib.Core.Path.{◌≡◌, refl}
use Rattle.std.proofs.lemmas.Result.{err_from_is_err_and}
use Rattle.plan.proofs.Refusals.{number_above}
use Rattle.ranges.specs.Numbers.{item_in}
use Rattle.ranges.proofs.Refusing.{start_early, start_places, start_numbers}
use Rattle.ranges.proofs.start_refusal.Goals as goal

pub returns-in_err-early_refusal : goal.returns-in_err-early_refusal
returns-in_err-early_refusal c =
    let p = err_from_is_err_and c.from_residual.result c.from_residual.ensures.1 in
    rw (p.1, p.2)
    (start_early c.args.plan.now c.args.tables.now c.args.counts.now c.args.values c.args.item _ c.in_err-early_refusal.ensures.0 (number_above _))

pub returns-then-not-are_places : goal.returns-then-not-are_places
returns-then-not-are_places c =
    start_places c.args.plan.now c.args.tables.now c.args.counts.now c.args.values c.args.item _ c.in_ok-early_refusal.ensures.0 refl _ refl _ c.are_places.ensures c.if-not-are_places.true-raw

pub returns : goal.returns
returns c =
    let e : c.item_of.result ≡ item_in c.args.plan.now c.args.tables.now c.args.counts.now c.args.item = rw c.new.ensures at c.item_of.ensures in
    start_numbers c.args.plan.now c.args.tables.now c.args.counts.now c.args.values c.args.item _ c.in_ok-early_refusal.ensures.0 refl _ refl _ c.are_places.ensures c.if-not-are_places.false-raw _ e _ c.start_by.ensures
