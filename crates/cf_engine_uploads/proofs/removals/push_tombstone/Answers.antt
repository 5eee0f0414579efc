use Rattle.cf_engine_queue.specs.Books.{tombstone_value}
use Rattle.cf_engine_steps.specs.States.{whole}
use Rattle.cf_engine_uploads.proofs.Removed.{buries, not_buried}
use Rattle.cf_engine_uploads.proofs.removals.push_tombstone.Goals as goal

pub returns-then-left_out : goal.returns-then-left_out
returns-then-left_out g c = not_buried (whole g.S.Steps.sense g.R.Remote.told) (c.args.s.now, c.args.e.now) (tombstone_value c.args.one.now) c.in_ok-left_out.left_out c.in_ok-left_out.ensures c.if-left_out.true

pub returns-else-left_out : goal.returns-else-left_out
returns-else-left_out g c = buries (whole g.S.Steps.sense g.R.Remote.told) (c.args.s.now, c.args.e.now) (tombstone_value c.args.one.now) c.in_ok-left_out.left_out c.in_ok-left_out.ensures (c.push_removal.new.s, c.push_removal.new.e) c.push_removal.result c.if-left_out.false c.push_removal.ensures
