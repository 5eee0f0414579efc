use Rattle.std.proofs.Common.{sym, ◌∙◌}
use Rattle.cf_filter_events.proofs.OffEvents.{done_off, refused_off}
use Rattle.cf_filter_events.proofs.events.act_off.Goals as goal

pub returns-then-needs_volume : goal.returns-then-needs_volume
returns-then-needs_volume g c = rw c.refused.ensures (refused_off g.A.Actor.acts c.args.event.now c.args.actor.now c.requires.of (sym c.needs_volume.ensures ∙ c.if-needs_volume.true))

pub returns : goal.returns
returns g c = done_off g.A.Actor.acts c.args.event.now c.args.actor.now c.beside-told.new.self _ _ c.beside-told.ensures c.known.ensures
