use Rattle.std.proofs.Common.{◌∙◌, ap, sym, subst}
use Rattle.cf_engine.specs.Actors.{acts_of}
use Rattle.cf_base.specs.declared.policies.Mode.TheVariants as mode
use Rattle.cf_world_plays.proofs.Commanded.{replay_leaves, written_as}
use Rattle.cf_world_plays.proofs.RemoteCounts.{remote_count}
use Rattle.cf_world_plays.proofs.ModeEvents.{all_of_mode}
use Rattle.cf_link.specs.Listed.{Lists}
use Rattle.cf_world.proofs.scripts.replayed.Goals as goal

pub returns-clause-writes : goal.returns-clause-writes
returns-clause-writes g c =
    written_as g.D.Disk.state g.R.Remote.told (acts_of g.R.Remote.told) c.args.disk c.put_out-played.result.disk c.args.remote c.into_remote.result c.new-actor.result c.put_out-played.result.actor
    (λ held begins. c.new-actor.ensures.begins held _ begins.0 begins.1)
    (λ held trace s holds runs. replay_leaves g.R.Remote.told held _ trace s c.into_remote.result (c.into_remote.ensures.holds s holds) runs)
    (λ same. c.into_remote.ensures.is ∙ ap (λ a. a.engine.agent.link.remote) same ∙ c.new-actor.ensures.remote)
    (λ n rose. remote_count g.R.Remote.told n c.args.remote c.new-actor.result.engine.agent.link.remote c.put_out-played.result.actor.engine.agent.link.remote c.into_remote.result c.new-actor.ensures.remote c.into_remote.ensures.is rose)
    (λ s t trace powers runs rose lists fails first. lists fails (subst (λ r. Lists fails (g.R.Remote.told r)) (sym c.new-actor.ensures.remote) first))
    c.args.output c.args.text.now (g.K.Sink.held c.args.sink.now) (g.K.Sink.held c.put_out-played.new.sink) c.put_out-played.result.status c.put_out-played.ensures.writes

pub put_out-played-requires-clause-of : goal.put_out-played-requires-clause-of
put_out-played-requires-clause-of g c = all_of_mode mode.Replay c.args.text.now c.args.events.items c.requires.script
