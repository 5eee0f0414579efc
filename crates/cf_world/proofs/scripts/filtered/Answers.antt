use Rattle.std.proofs.Common.{refl, sym}
use Rattle.cf_base.specs.declared.policies.Mode.TheVariants as mode
use Rattle.cf_world_filter.specs.Scripts.{scripts}
use Rattle.cf_world_plays.proofs.Commanded.{written}
use Rattle.cf_world_plays.proofs.RemoteCounts.{never, never_faulted}
use Rattle.cf_world_plays.proofs.ModeEvents.{all_of_mode}
use Rattle.cf_world_plays.specs.RemoteFaults.{faults_by}
use Rattle.cf_world.proofs.scripts.filtered.Goals as goal

pub returns-clause-writes : goal.returns-clause-writes
returns-clause-writes g c =
    written g.D.Disk.state g.R.Remote.told scripts c.args.disk c.report-played.result.disk c.args.remote c.args.remote c.new.result c.report-played.result.actor
    (λ held begins. sym c.new.ensures) (λ held trace s holds runs. record {}) (λ same. refl) (λ n rose. never_faulted n (g.R.Remote.told c.args.remote).faults rose) (λ s t trace powers runs rose lists. never (faults_by trace) rose)
    c.args.text.now (g.K.Sink.held c.args.sink.now) (g.K.Sink.held c.report-played.new.sink) c.report-played.result.status c.report-played.ensures.writes

pub report-played-requires-clause-of : goal.report-played-requires-clause-of
report-played-requires-clause-of g c = all_of_mode mode.Filter c.args.text.now c.args.events.items c.requires.script
