use Rattle.cf_engine_uploads.proofs.Hydrated.{hydrated}
use Rattle.cf_engine_uploads.proofs.hydrations.hydrate.Goals as goal

pub returns : goal.returns
returns g c = λ i. hydrated g.S.Steps.sense g.R.Remote.told c.args.id i c.args.s.now c.hydrate_item.new.s c.args.e.now c.hydrate_item.new.e c.hydrate_item.result c.in_ok-check_placeholder.ensures (c.hydrate_item.ensures i)
