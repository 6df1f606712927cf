-- The laws of steps by tables.
use Rattle.prepared.specs.Laws.{Laws}
use Rattle.prepared.proofs.Preparing.{prepares}
use Rattle.prepared.proofs.Starting.{started_same}
use Rattle.prepared.proofs.Finishing.{finished_same}
use Rattle.prepared.proofs.Playing.{same_play, same_replies, same_accepted, same_call}
use Rattle.prepared.proofs.Freeing.{freed, freed_once, freed_few, ready_kept}

pub laws : Laws
laws =
    record {
      prepares = prepares;
      started_same = started_same;
      finished_same = finished_same;
      same_play = same_play;
      same_replies = same_replies;
      same_accepted = same_accepted;
      same_call = same_call;
      freed = freed;
      freed_once = freed_once;
      freed_few = freed_few;
      ready_kept = ready_kept;
    }
