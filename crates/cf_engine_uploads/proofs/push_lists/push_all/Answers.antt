use Rattle.cf_engine_queue.specs.Books.{tombstone_value}
use Rattle.cf_engine_uploads.proofs.Listed.{with_tombstones}
use Rattle.std.specs.Prelude.{map}
use Rattle.cf_engine_uploads.proofs.push_lists.push_all.Goals as goal

pub returns : goal.returns
returns g c = with_tombstones g.S.Steps.sense g.R.Remote.told c.args.s.now c.push_with-done.new.s c.args.e.now c.push_with-done.new.e c.push_with-done.result c.in_ok-queue.queue (map tombstone_value c.tombstones.result.now) c.in_ok-queue.ensures c.tombstones.ensures c.push_with-done.ensures
