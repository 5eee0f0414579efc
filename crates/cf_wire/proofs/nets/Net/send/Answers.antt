use Rattle.cf_wire.proofs.Posting.{posted}
use Rattle.cf_wire.proofs.nets.Net.send.Goals as goal

pub returns-clause-posted : goal.returns-clause-posted
returns-clause-posted c = posted c.args.message c.args.self.now c.add.new.self c.add.result c.add.ensures.sent
