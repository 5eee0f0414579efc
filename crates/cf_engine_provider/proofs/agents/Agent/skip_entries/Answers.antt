use Rattle.cf_model.specs.Fetching.{no_entries}
use Rattle.cf_engine_provider.proofs.Listed.{skipped_then}
use Rattle.cf_engine_provider.proofs.agents.Agent.skip_entries.Goals as goal

pub returns : goal.returns
returns g c =
    skipped_then g.P.Port.goes g.R.Remote.told g.met.P.Port.goes_on (no_entries c.args.key) c.args.code c.args.self.now c.skip.new.self c.skip.new.self c.args.port.now c.skip.new.port c.no_entries.new.port c.in_ok-skip.field-0 c.no_entries.result
    c.in_ok-skip.ensures c.no_entries.ensures
