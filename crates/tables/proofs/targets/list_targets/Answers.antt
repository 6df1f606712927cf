use Prim.Native.Nat.{◌≤◌}
use mathlib.Core.Path.{◌≡◌, refl, ◌∙◌}
use native.Mathlib.Omega.{arith}
use borrow.Author.Rules.{rules}
use lib.ListN.{length, length-set}
use Rattle.finite.proofs.Lists.{tabulate_none, tabulate_more}
use Rattle.finite.proofs.Puts.{collect_none, collect_more}
use Rattle.plan.specs.Layout.{body_of}
use Rattle.prepared.specs.Tables.{targets_of, targets_before}
use Rattle.tables.proofs.Targeted.{sources_none, sources_more, sources_countable, sources_done, next_fits, targets_few, start_at_lem, targets_listed}
use Rattle.tables.proofs.targets.list_targets.Goals as goal

pub loop-a-init : goal.loop-a-init
loop-a-init c = search (rules, collect_none, tabulate_none, sources_none)

pub overflow_cast-starts : goal.overflow_cast-starts
overflow_cast-starts c =
    omega (arith, targets_few _ _ _ c.args.items.now.drawn _ c.requires.0 _ _ _ c.loop-a.invariant.0 (search rules))

pub put_from-at-requires : goal.put_from-at-requires
put_from-at-requires c =
    let G = c.args.items.now.drawn in (
      search rules,
      next_fits _ _ _ G _ c.requires.0 _ _ _ c.loop-a.invariant.0 (search rules),
      sources_countable _ _ _ _ c.loop-a.invariant.3 (omega (arith, c.loop-a-test.true, G.most)),
    )

pub loop-a-preserved : goal.loop-a-preserved
loop-a-preserved c =
    let l = c.loop-a in
    let B = body_of c.args.items.now.plan.now in
    let row = c.put_from-at.ensures in
    let v = start_at_lem _ _ _ c.args.items.now.drawn _ c.requires.0 _ _ _ l.invariant.0 _ refl in (
      collect_more (targets_of B) 0 l.a _ _ _ _ _ l.invariant.0 row.put,
      simp length-set (search rules),
      tabulate_more (λ b. length (targets_before B b)) l.a _ l.starts l.invariant.2 (search rules) v,
      sources_more B _ l.a _ _ l.invariant.3 row.counted,
    )

pub overflow_cast-starts-2 : goal.overflow_cast-starts-2
overflow_cast-starts-2 c =
    omega (arith, targets_few _ _ _ c.args.items.now.drawn _ c.requires.0 _ _ _ c.loop-a.invariant.0 (search rules))

pub returns : goal.returns
returns c =
    let l = c.loop-a in
    let B = body_of c.args.items.now.plan.now in
    let G = c.args.items.now.drawn in
    let m : l.a ≤ length c.args.items.now.codes.now = search rules in
    let e : l.a ≡ length c.args.items.now.codes.now = omega (arith, c.loop-a-test.false) in
    let v = start_at_lem _ _ _ G _ c.requires.0 _ _ _ l.invariant.0 _ refl in
    record {
      many = l.invariant.0.size ∙ c.requires.0;
      most = targets_few _ _ _ G _ c.requires.0 _ _ _ l.invariant.0 m;
      listed = targets_listed _ _ _ G _ c.requires.0 _ _ _ l.invariant.0 (search rules) m;
      long = simp length-set l.invariant.1;
      started =
          tabulate_more (λ b. length (targets_before B b)) _ _ l.starts (rw e at l.invariant.2) (omega (arith, l.invariant.1, G.most)) (rw e at v);
      wide = l.invariant.3.size;
      counted = sources_done B _ l.a _ l.invariant.3 G.count G.most (search rules) m;
    }
