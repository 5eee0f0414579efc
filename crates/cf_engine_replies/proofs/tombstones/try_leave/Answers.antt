use Rattle.cf_engine_queue.specs.Books.{entry_value}
use Rattle.cf_engine_steps.specs.Answering.{Any}
use Rattle.cf_engine_steps.specs.States.{whole}
use Rattle.cf_engine_replies.specs.Tombstones.{tombstone_kept}
use Rattle.cf_model.specs.PushReplies.{whatever}
use Rattle.cf_engine_replies.proofs.Parts.{fails_by, whatever_done}
use Rattle.cf_engine_replies.proofs.tombstones.try_leave.Goals as goal

pub returns-in_err-leave_tombstone : goal.returns-in_err-leave_tombstone
returns-in_err-leave_tombstone g c = fails_by _ (tombstone_kept (entry_value c.args.entry.now) c.args.rid c.args.version) whatever _ _ _ _ c.from_residual.ensures.1 c.in_err-leave_tombstone.ensures

pub returns : goal.returns
returns g c = whatever_done (whole g.S.Steps.sense g.R.Remote.told) Any (tombstone_kept (entry_value c.args.entry.now) c.args.rid c.args.version) _ _ _ c.in_ok-leave_tombstone.ensures
