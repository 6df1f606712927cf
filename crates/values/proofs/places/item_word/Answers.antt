use Prim.Native.Nat.{ℕ, ◌+◌, ◌<◌}
use mathlib.Core.Path.{◌≡◌, sym, ◌∙◌, ap}
use native.Mathlib.Omega.{arith}
use borrow.Author.Rules.{rules}
use Rattle.plan.specs.Sizes.{slot_of}
use Rattle.plan.specs.Code.{code_kind}
use Rattle.plan.specs.Layout.{regions_of}
use Rattle.values.proofs.Finding.{number_most, kind_most, kind_left, found_ready, region_below}
use Rattle.values.proofs.Words.{receive_word, send_word, task_word_lem}
use Rattle.values.proofs.places.item_word.Goals as goal
use Rattle.values.proofs.places.item_word.Goals.{Else-kind-eq-SEND, Then-kind-eq-SEND}

pub slot_of-requires : goal.slot_of-requires
slot_of-requires c = let F = c.requires.0 in (omega (arith, c.item_kind-kind.ensures, kind_most _ _ _ F), number_most _ _ _ F)

pub returns-then-kind-eq-RECEIVE : goal.returns-then-kind-eq-RECEIVE
returns-then-kind-eq-RECEIVE c =
    let k = c.item_kind-kind.ensures in
    receive_word _ _ _ c.requires.0 c.args.values.now _ (sym k ∙ c.if-kind-eq-RECEIVE.true) (c.slot_of.ensures.0 ∙ ap (λ (x : ℕ). slot_of x c.args.a) k)

-- a send's region lies in the part
near : (c : Then-kind-eq-SEND) → c.item_subject-subject.result < regions_of c.args.plan.now
near c =
    let one = sym c.item_kind-kind.ensures ∙ c.if-kind-eq-SEND.true in
    rw c.item_subject-subject.ensures.0 (region_below _ _ _ c.requires.0 (λ e. omega (arith, one)))

pub bounds-copies-subject : goal.bounds-copies-subject
bounds-copies-subject c = let n = near (goal.at.bounds-copies-subject c).Then-kind-eq-SEND in search rules

pub returns-then-kind-eq-SEND : goal.returns-then-kind-eq-SEND
returns-then-kind-eq-SEND c =
    let f = c.first_copy-first in
    let r = c.region_count-regions.ensures.0 in
    send_word _ _ _ c.requires.0 c.args.values.now _ f.ensures.0 _ (ap (λ (x : ℕ). f.result + x) r) _
    (sym c.item_kind-kind.ensures ∙ c.if-kind-eq-SEND.true) c.item_subject-subject.ensures.0 (near (goal.at.returns-then-kind-eq-SEND c).Then-kind-eq-SEND)

-- what is no receive and no send is a task
left : (c : Else-kind-eq-SEND) → code_kind c.args.code ≡ 0
left c =
    let k = c.item_kind-kind.ensures in
    kind_left _ _ _ c.requires.0 (λ e. c.if-kind-eq-RECEIVE.false (k ∙ e)) (λ e. c.if-kind-eq-SEND.false (k ∙ e))

pub task_word-requires : goal.task_word-requires
task_word-requires c =
    (found_ready _ _ _ c.requires.0 _ (left (goal.at.task_word-requires c).Else-kind-eq-SEND) c.item_subject-subject.ensures.0, search rules)

pub returns : goal.returns
returns c =
    let f = c.first_copy-first in
    let r = c.region_count-regions.ensures.0 in
    task_word_lem _ _ _ c.requires.0 c.args.values.now _ f.ensures.0 _ (ap (λ (x : ℕ). f.result + x) r) _ _
    (left (goal.at.returns c).Else-kind-eq-SEND) c.item_subject-subject.ensures.0 c.task_word.ensures
