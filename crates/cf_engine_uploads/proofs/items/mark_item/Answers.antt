use Rattle.cf_engine_steps.proofs.Laws.{goes_any, returned}
use Rattle.cf_engine_steps.specs.Answering.{Any}
use Rattle.cf_engine_steps.specs.States.{whole}
use Rattle.cf_model.specs.Arrows.{unit}
use Rattle.cf_model.specs.PushReplies.{whatever}
use Rattle.cf_model.specs.Skips.{try_mark_now}
use Rattle.std.specs.Prelude.{Ok}
use Rattle.cf_engine_uploads.proofs.items.mark_item.Goals as goal

pub returns : goal.returns
returns g c = goes_any (whole g.S.Steps.sense g.R.Remote.told) Any (try_mark_now c.args.id) whatever (c.args.s.now, c.args.e.now) (c.try_mark_now.new.s, c.try_mark_now.new.e) (c.try_mark_now.new.s, c.try_mark_now.new.e) c.in_ok-try_mark_now.field-0 (Ok unit) c.in_ok-try_mark_now.ensures (returned (whole g.S.Steps.sense g.R.Remote.told) Any unit (c.try_mark_now.new.s, c.try_mark_now.new.e))
