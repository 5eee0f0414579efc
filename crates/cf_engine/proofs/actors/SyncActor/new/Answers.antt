use Rattle.cf_engine.proofs.Started.{begins_at}
use Rattle.cf_engine.proofs.actors.SyncActor.new.Goals as goal

pub returns-clause-begins : goal.returns-clause-begins
returns-clause-begins g c = λ held clusters is count. begins_at g.R.Remote.told c.new.result c.on_link.result held clusters c.on_link.ensures (c.new.ensures.stands held is count)
