use Rattle.std.proofs.Common.{[]}
use Rattle.cf_engine_provider.proofs.Called.{not_validated}
use Rattle.cf_engine_provider.proofs.callbacks.AgentProvider.on_callback.Goals as goal

pub returns-in-Validate : goal.returns-in-Validate
returns-in-Validate g c = ([], g.met.P.Port.stays c.args.port.now, λ ok. not_validated g.R.Remote.told (g.P.Port.sight c.args.port.now) c.args.call.now c.args.self.now c.in-Validate.is)
