use Rattle.cf_filter_calls.proofs.Ticked.{keys_by}
use Rattle.cf_filter_calls.proofs.ticks.end_expired.Goals as goal

pub returns : goal.returns
returns g c = keys_by g.S.Steps.sense c.requests.result.now c.in_ok-keys.keys.items c.deref.result.now c.args.s.now c.expire_all.new.s c.expire_all.result c.requests.ensures.means c.in_ok-keys.ensures c.deref.ensures.value c.expire_all.ensures
