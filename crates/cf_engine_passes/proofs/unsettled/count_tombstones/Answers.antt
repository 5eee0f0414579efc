use Rattle.std.proofs.Common.{length, refl}
use Rattle.cf_engine_passes.proofs.CountedLeft.{tombstones_counted}
use Rattle.cf_engine_queue.specs.Books.{tombstone_value}
use Rattle.cf_engine_passes.proofs.unsettled.count_tombstones.Goals as goal

pub returns : goal.returns
returns g c = tombstones_counted g.S.Steps.sense c.args.s.now c.in_ok-queue.queue tombstone_value c.tombstones.result.now (length c.tombstones.result.now) c.in_ok-queue.ensures c.tombstones.ensures refl
