use mathlib.Core.Path.{refl}
use native.Mathlib.Omega.{arith}
use Rattle.calls.proofs.Behind.{start_beyond, start_done, start_running, start_waiting, start_made, start_asks}
use Rattle.calls.proofs.starts.start_clear.Goals as goal

pub returns-then-items-item : goal.returns-then-items-item
returns-then-items-item c =
    start_beyond _ c.args.counts.now _ _ c.args.items.now.drawn c.requires.0 c.args.values.now c.requires.1 _ c.if-items-item.true

pub returns-then-passes-done : goal.returns-then-passes-done
returns-then-passes-done c =
    start_done _ c.args.counts.now _ _ c.args.items.now.drawn c.requires.0 c.args.values.now c.requires.1 _ _ refl c.if-items-item.false
    _ c.passes.ensures c.if-passes-done.true

pub returns-then-pass-done : goal.returns-then-pass-done
returns-then-pass-done c =
    start_running _ c.args.counts.now _ _ c.args.items.now.drawn c.requires.0 c.args.values.now c.requires.1 _ _ refl c.if-items-item.false
    _ c.passes.ensures c.if-passes-done.false c.if-pass-done.true

pub returns-then-counts-a-ne0 : goal.returns-then-counts-a-ne0
returns-then-counts-a-ne0 c =
    start_waiting _ c.args.counts.now _ _ c.args.items.now.drawn c.requires.0 c.args.values.now c.requires.1 _ _ refl c.if-items-item.false
    _ c.passes.ensures
    (omega (arith, c.if-passes-done.false)) (omega (arith, c.if-pass-done.false)) (λ z. omega (arith, z, c.if-counts-a-ne0.true))

pub start_item-requires : goal.start_item-requires
start_item-requires c =
    start_asks _ c.args.counts.now _ _ c.args.items.now.drawn c.requires.0 c.args.values.now c.requires.1 _ _ refl c.if-items-item.false
    _ c.passes.ensures
    (omega (arith, c.if-passes-done.false)) (omega (arith, c.if-pass-done.false)) _ c.from.ensures

pub returns : goal.returns
returns c =
    start_made _ c.args.counts.now _ _ c.args.items.now.drawn c.requires.0 c.args.values.now c.requires.1 _ _ refl c.if-items-item.false
    _ c.passes.ensures
    (omega (arith, c.if-passes-done.false)) (omega (arith, c.if-pass-done.false)) (omega (arith, c.if-counts-a-ne0.false)) _ c.start_item.ensures
