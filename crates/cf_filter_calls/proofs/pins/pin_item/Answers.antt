use Rattle.cf_filter_calls.proofs.Suited.{pins_made}
use Rattle.cf_filter_calls.proofs.pins.pin_item.Goals as goal

pub returns : goal.returns
returns g c = pins_made g.S.Steps.sense c.args.s.now c.make_all.new.s c.rows.result.now c.args.id c.args.pin c.args.reach c.in_ok-changes.changes c.as_slice.result.now c.make_all.result c.rows.ensures.means c.in_ok-changes.ensures c.as_slice.ensures c.make_all.ensures
