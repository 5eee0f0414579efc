use Rattle.std.proofs.Common.{true, false}
use Rattle.cf_engine_steps.specs.Answering.{Any}
use Rattle.cf_engine_steps.specs.States.{whole}
use Rattle.cf_model.specs.Arrows.{unit}
use Rattle.cf_model.specs.PushReplies.{reset_if}
use Rattle.cf_engine_steps.proofs.Laws.{returned}
use Rattle.cf_engine_replies.proofs.Parts.{by_known}
use Rattle.cf_engine_replies.proofs.removals.reset_if.Goals as goal

pub returns-then-resets : goal.returns-then-resets
returns-then-resets g c = by_known _ reset_if _ _ c.args.resets true _ c.if-resets.true c.reset_cursor.ensures

pub returns-else-resets : goal.returns-else-resets
returns-else-resets g c = by_known _ reset_if _ _ c.args.resets false _ c.if-resets.false (returned (whole g.S.Steps.sense g.R.Remote.told) Any unit (c.args.s.now, c.args.e.now))
