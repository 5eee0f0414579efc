use Rattle.cf_world_plays.proofs.Imaged.{handed_image}
use Rattle.cf_world_plays.proofs.images.put_image.Goals as goal

pub returns-clause-writes : goal.returns-clause-writes
returns-clause-writes g c =
    handed_image g.D.Disk.state c.args.disk.now c.power.new.self c.hand_out.new.disk c.power.ensures.left c.power.ensures.durable c.power.ensures.powers c.hand_out.ensures.keeps c.hand_out.ensures.powers
    (g.K.Sink.held c.args.sink.now) (g.K.Sink.held c.hand_out.new.sink) c.hand_out.result c.hand_out.ensures.writes
