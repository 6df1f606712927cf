use Prim.Native.Nat.{ℕ, ◌<◌}
use mathlib.Core.Path.{◌≡◌, refl, sym, ◌∙◌, ap}
use native.Mathlib.Omega.{arith}
use lib.ListN.{get_or, take, length-set}
use Rattle.finite.proofs.Lists.{tabulate_none, tabulate_more}
use Rattle.plan.specs.Sizes.{first_held}
use Rattle.prepared.specs.Tables.{first_read, place_in}
use Rattle.engine.proofs.Rows.{place_read, place_small, words_gathered}
use Rattle.engine.proofs.starts.gather_words.Goals as goal
use Rattle.engine.proofs.starts.gather_words.Goals.{After-from}

pub loop-k-init : goal.loop-k-init
loop-k-init c =
    (refl, place_read c.args.tables.now first_read c.args.a 8 _ c.from-count.ensures, omega arith, c.requires.4, tabulate_none (λ j. get_or c.args.values.now (place_in c.args.tables.now first_read c.args.a j) 0) c.args.words.now)

pub bounds-tables-row-in-loop-k : goal.bounds-tables-row-in-loop-k
bounds-tables-row-in-loop-k c =
    omega (arith, c.requires.2.few)

-- the place that a turn reads
below : (c : After-from) → c.from.result < first_held
below c =
    let l = c.loop-k in
    place_small c.args.tables.now first_read c.args.a c.requires.2 l.k _ (omega (arith, l.invariant.1, c.loop-k-test.true)) c.from.ensures

pub offset_bounds-values-from : goal.offset_bounds-values-from
offset_bounds-values-from c = omega (arith, below (goal.at.offset_bounds-values-from c).After-from)

pub bounds-values-from : goal.bounds-values-from
bounds-values-from c = omega (arith, c.requires.3, below (goal.at.bounds-values-from c).After-from)

pub bounds-words-k : goal.bounds-words-k
bounds-words-k c =
    omega (arith, c.requires.2.few, c.loop-k.invariant.1, c.loop-k.invariant.3, c.loop-k-test.true)

pub loop-k-preserved : goal.loop-k-preserved
loop-k-preserved c =
    let l = c.loop-k in
    let W = c.args.values.now in (
      l.invariant.0,
      l.invariant.1,
      omega (arith, c.loop-k-test.true),
      simp length-set l.invariant.3,
      tabulate_more (λ j. get_or W (place_in c.args.tables.now first_read c.args.a j) 0) l.k _ l.words l.invariant.4
          (omega (arith, c.requires.2.few, l.invariant.1, l.invariant.3, c.loop-k-test.true))
          (ap (λ (x : ℕ). get_or W x 0) (place_read c.args.tables.now first_read c.args.a l.k _ c.from.ensures)),
    )

pub returns : goal.returns
returns c =
    let l = c.loop-k in
    let e : c.from-count.result ≡ l.k = omega (arith, l.invariant.2, c.loop-k-test.false) in (
      words_gathered c.args.tables.now first_read c.args.a (λ x. get_or c.args.values.now x 0) l.k _ (ap (λ (n : ℕ). take n l.words) e ∙ l.invariant.4)
          (sym e ∙ l.invariant.1),
      omega (arith, c.requires.2.few, l.invariant.1),
      l.invariant.3,
    )
