use native.Mathlib.Omega.{arith}
use Rattle.transfers.proofs.FlagsOf.{tallied_most, access_flags_lem, access_tally, raised_fit, region_flags, region_tally}
use Rattle.transfers.proofs.Search.raise.Goals as goal

pub overflow_add-self : goal.overflow_add-self
overflow_add-self c =
    omega (arith, tallied_most _ _ _ c.args.self.now.tallied, c.set_bit.ensures.2)

pub invariant_of-self : goal.invariant_of-self
invariant_of-self c = record {
  sources = c.args.self.now.sources;
  fits = λ k l. raised_fit _ _ _ c.requires.1 (omega (arith, c.args.self.now.tallied.size, c.if-at-lt-PLAN_MASKS.true)) _ c.set_bit.ensures.0 k (c.args.self.now.fits k l);
  tallied = access_tally _ _ _ c.args.self.now.tallied _ _ c.requires.1 c.if-at-lt-PLAN_MASKS.true _ c.set_bit.ensures.0 _ c.set_bit.ensures.1;
}

pub invariant_of-self-else-at-lt-PLAN_MASKS : goal.invariant_of-self-else-at-lt-PLAN_MASKS
invariant_of-self-else-at-lt-PLAN_MASKS c = record {
  sources = c.args.self.now.sources;
  fits = c.args.self.now.fits;
  tallied = region_tally _ _ _ c.args.self.now.tallied _ _ c.requires.1 c.requires.0 _ (omega (arith, c.if-at-lt-PLAN_MASKS.false)) _ c.set_bit-else-at-lt-PLAN_MASKS.ensures.0;
}

pub returns-then-at-lt-PLAN_MASKS-clause-flags : goal.returns-then-at-lt-PLAN_MASKS-clause-flags
returns-then-at-lt-PLAN_MASKS-clause-flags c =
    access_flags_lem _ _ _ c.args.self.now.tallied _ _ c.requires.1 c.if-at-lt-PLAN_MASKS.true _ c.set_bit.ensures.0

pub returns-else-at-lt-PLAN_MASKS-clause-flags : goal.returns-else-at-lt-PLAN_MASKS-clause-flags
returns-else-at-lt-PLAN_MASKS-clause-flags c =
    region_flags _ _ _ c.args.self.now.tallied _ _ c.requires.1 c.requires.0 _ (omega (arith, c.if-at-lt-PLAN_MASKS.false)) _ c.set_bit-else-at-lt-PLAN_MASKS.ensures.0
