use Rattle.std.proofs.Common.{◌∙◌, ap}
use Rattle.cf_link.specs.Linked.{Linked}
use Rattle.cf_engine.proofs.Started.{remote_back}
use Rattle.cf_engine.proofs.actors.SyncActor.into_remote.Goals as goal

pub returns-clause-holds : goal.returns-clause-holds
returns-clause-holds g c = λ s h. remote_back g.R.Remote.told c.args.self c.into_remote.result s (c.into_remote.ensures ∙ ap (λ (l : Linked g.row.R.Denot). l.remote) c.into_link.ensures) h
