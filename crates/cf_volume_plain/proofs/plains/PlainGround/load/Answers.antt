use Rattle.std.proofs.Common.{◌∙◌}
use Rattle.cf_volume_plain.proofs.PlainSteps.{read_got, room_in}
use Rattle.cf_volume_plain.proofs.plains.PlainGround.load.Goals as goal

pub read-requires : goal.read-requires
read-requires c = room_in c.args.self.now c.args.held.now c.args.cluster c.requires.room c.requires.inside

pub returns-clause-got : goal.returns-clause-got
returns-clause-got c = c.read.ensures ∙ read_got c.args.self.now c.args.cluster
