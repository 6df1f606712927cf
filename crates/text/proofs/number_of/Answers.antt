use Rattle.std.proofs.Common.{◌≡◌, ◌+◌, ◌*◌, true, length, sym, ◌∙◌, arith, length-take-le, rules}
use borrow.Author.Tests.{not-true, not-false}
use Rattle.text.specs.Numbers.{well_formed, decimal_after}
use Rattle.text.proofs.NumberLaws.{well_formed_digits, well_formed_length, digit_at, digits_take, decimal_last, number_malformed, number_value, number_large}
use Rattle.text.proofs.number_of.Goals as goal
use Rattle.text.proofs.number_of.Goals.{After-from-last, Else-not-well_formed}

formed : (c : Else-not-well_formed) → well_formed c.args.f.now ≡ true
formed c = sym c.well_formed-2.ensures ∙ not-false _ c.if-not-well_formed.false-raw

-- what the 20 digits write
pub returns-then-not-well_formed : goal.returns-then-not-well_formed
returns-then-not-well_formed c = sym (number_malformed _ (sym c.well_formed-2.ensures ∙ not-true _ c.if-not-well_formed.true-raw))

pub decimal-requires : goal.decimal-requires
decimal-requires c = (omega arith, well_formed_digits _ (formed (goal.at.decimal-requires c).Else-not-well_formed))

pub returns-then-f-lt20 : goal.returns-then-f-lt20
returns-then-f-lt20 c = sym (number_value _ _ (formed (goal.at.returns-then-f-lt20 c).Else-not-well_formed) c.decimal.ensures (search rules))

pub decimal-most-requires : goal.decimal-most-requires
decimal-most-requires c =
    let f = c.args.f.now in
    (omega (arith, length-take-le 19 f (omega arith)), digits_take 19 f (well_formed_digits f (formed (goal.at.decimal-most-requires c).Else-not-well_formed)))

pub overflow_sub-f : goal.overflow_sub-f
overflow_sub-f c =
    let f = c.args.f.now in
    omega (arith, digit_at f 19 (omega arith) (well_formed_digits f (formed (goal.at.overflow_sub-f c).Else-not-well_formed)))

value : (c : After-from-last) → decimal_after 0 c.args.f.now ≡ c.decimal-most.result * 10 + c.from-last.result
value c =
    let f = c.args.f.now in
    let n : length f ≡ 19 + 1 = omega (arith, well_formed_length f (sym c.well_formed-2.ensures ∙ c.if-not-well_formed.false)) in
    rw (decimal_last 19 f n, c.decimal-most.ensures, c.from-last.ensures)

pub returns-then-last-most : goal.returns-then-last-most
returns-then-last-most c = sym (number_large _ (formed (goal.at.returns-then-last-most c).Else-not-well_formed) (omega (arith, value (goal.at.returns-then-last-most c).After-from-last)))

pub returns : goal.returns
returns c = sym (number_value _ _ (formed (goal.at.returns c).Else-not-well_formed) (sym (value (goal.at.returns c).After-from-last)) (search rules))
