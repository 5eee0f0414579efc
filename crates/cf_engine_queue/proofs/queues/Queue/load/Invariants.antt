use Rattle.cf_collections.specs.Split.{behind, front}
use Rattle.std.proofs.Common.{length}
use Rattle.cf_engine_queue.specs.Keys.{is_kind_below}
use Rattle.cf_volume_image.specs.RecordLists.{stands_before}
use Rattle.cf_engine_queue.proofs.Loading.{HasHeard}
use Rattle.cf_engine_queue.proofs.queues.Queue.load.Given as goal

-- the queue has what the records so far say
abbrev pub invariant-loop-one : goal.invariant-loop-one
invariant-loop-one l = HasHeard (front (is_kind_below l.end) (behind (stands_before l.from) l.records)) (front (is_kind_below l.end) l.items) l.queue

abbrev pub decreases-loop-one : goal.decreases-loop-one
decreases-loop-one l = length l.items
