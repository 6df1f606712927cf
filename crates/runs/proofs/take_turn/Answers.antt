use Rattle.runs.proofs.Turning.{startable, out, finishable, own_begun, apart_begun, turn_left, set_after}
use Rattle.runs.proofs.take_turn.Goals as goal

pub start_item-requires : goal.start_item-requires
start_item-requires c =
    (startable _ _ c.requires.1 _ _ _ c.args.words.now c.requires.0, c.requires.2)

pub finish_into_set-requires : goal.finish_into_set-requires
finish_into_set-requires c =
    let P = c.requires.1 in
    let C = c.args.counts.now in
    let W = c.args.values.now in
    let words = c.args.words.now in
    let begun = c.start_item.ensures.0 in (
      finishable _ _ P _ C W words c.requires.0 _ _ _ begun,
      c.requires.0.set.size,
      apart_begun _ _ P _ C W words c.requires.0 _ _ _ begun,
      out _ _ P _ C W words c.requires.0,
      own_begun _ _ P _ C W words c.requires.0 _ _ _ begun,
    )

pub returns : goal.returns
returns c =
    let P = c.requires.1 in
    let C = c.args.counts.now in
    let W = c.args.values.now in
    let words = c.args.words.now in
    let begun = c.start_item.ensures.0 in
    let ended = c.finish_into_set.ensures in (
      turn_left _ _ P _ C W words c.requires.0 _ _ _ begun _ _ _ _ ended.0 ended.1,
      set_after _ _ P _ C W words c.requires.0 _ _ _ begun _ _ _ _ ended.0 ended.1,
      c.start_item.ensures.1,
    )
