use Rattle.cf_world_devices.proofs.Scrubbed.{judges}
use Rattle.cf_world_devices.proofs.scrubs.judged.Goals as goal

pub returns-in-Ok-clause-judges : goal.returns-in-Ok-clause-judges
returns-in-Ok-clause-judges g c = judges c.args.bytes.now c.in-Ok.judgement (g.K.Sink.held c.args.sink.now) (g.K.Sink.held c.put-status.new.sink) c.put-status.result c.in-Ok.ensures c.put-status.ensures.puts
