use Rattle.std.proofs.Common.{◌≡◌, ◌<◌, ◌+◌, false, nat_lt, arith, List, length, ltb-true, sym, ap, subst, ◌∙◌}
use Rattle.text.specs.Records.{next_at, record_at}
use Rattle.reader.specs.Steps.{move_line, phase_number, refusal_number}
use Rattle.reader.proofs.Loops.{Stands, stands_bounds, stands_done, stands_first, stands_next, stands_stopped}
use Rattle.reader.proofs.read_lines.Goals as goal
use Rattle.reader.proofs.read_lines.Goals.{After-take_line, In-Ok}

pub loop-reader-init : goal.loop-reader-init
loop-reader-init c =
    let at : c.new-reader.result.at ≡ 0 = c.new-reader.ensures.1 in
    (rw c.new-reader.ensures.0, rw at (stands_first c.args.text.now _ _ c.requires.0 c.requires.1 c.requires.2))

pub take_line-requires : goal.take_line-requires
take_line-requires c = stands_bounds _ _ _ _ _ _ c.loop-reader.invariant.1

-- bytes are left, and the line that is read is the one at the reader's offset
left : (c : After-take_line) → c.loop-reader.reader.at < length c.args.text.now
left c =
    subst (λ (t : List _). c.loop-reader.reader.at < length t) c.loop-reader.invariant.0 (ltb-true _ _ (sym c.more.ensures ∙ c.loop-reader-test.true))

found : (c : After-take_line) → c.next-found.result ≡ record_at c.args.text.now c.loop-reader.reader.at
found c = c.next-found.ensures.0 ∙ ap (λ (t : List _). record_at t c.loop-reader.reader.at) c.loop-reader.invariant.0

-- one line further
further : (c : In-Ok) →
    Stands c.args.text.now (next_at c.args.text.now c.loop-reader.reader.at) (phase_number c.in-Ok.then) (c.loop-reader.line + 1) c.take_line.new.named c.take_line.new.words
    × (c.loop-reader.reader.at < next_at c.args.text.now c.loop-reader.reader.at)
further c =
    let p = phase_number c.loop-reader.phase in
    let named = c.loop-reader.named in
    let words = c.loop-reader.words in
    stands_next c.args.text.now c.loop-reader.reader.at c.loop-reader.line named words c.take_line.new.named c.take_line.new.words p c.loop-reader.invariant.1
    (left (goal.at.loop-reader-smaller c).After-take_line) (phase_number c.in-Ok.then) (c.in-Ok.ensures ∙ ap (λ x. move_line p x named words) (found (goal.at.loop-reader-smaller c).After-take_line))

-- where the reader stands then
next : (c : In-Ok) → c.next-found.new.self.at ≡ next_at c.args.text.now c.loop-reader.reader.at
next c = c.next-found.ensures.2 ∙ ap (λ (t : List _). next_at t c.loop-reader.reader.at) c.loop-reader.invariant.0

pub loop-reader-smaller : goal.loop-reader-smaller
loop-reader-smaller c = omega (arith, (further c).1, (further c).0.within, next c)

pub loop-reader-preserved : goal.loop-reader-preserved
loop-reader-preserved c = (rw c.next-found.ensures.1 c.loop-reader.invariant.0, rw (next c) (further c).0)

pub returns-in-Err : goal.returns-in-Err
returns-in-Err c =
    let p = phase_number c.loop-reader.phase in
    let named = c.loop-reader.named in
    let words = c.loop-reader.words in
    stands_stopped c.args.text.now c.loop-reader.reader.at c.loop-reader.line named words named words p c.loop-reader.invariant.1 (left (goal.at.returns-in-Err c).After-take_line)
    (refusal_number c.in-Err.why) (c.in-Err.ensures ∙ ap (λ x. move_line p x named words) (found (goal.at.returns-in-Err c).After-take_line))

pub returns : goal.returns
returns c =
    stands_done c.args.text.now c.loop-reader.reader.at c.loop-reader.line c.loop-reader.named c.loop-reader.words c.loop-reader.phase c.loop-reader.invariant.1
    (subst (λ (t : List _). nat_lt c.loop-reader.reader.at (length t) ≡ false) c.loop-reader.invariant.0 (sym c.more.ensures ∙ c.loop-reader-test.false))
