use Rattle.cf_volume_plain.proofs.PlainSteps.{put_ran, put_same, put_wrote, room_in}
use Rattle.cf_volume_plain.proofs.plains.PlainGround.stage.Goals as goal

pub put-requires : goal.put-requires
put-requires c = room_in c.args.self.now c.args.held.now c.in-Some.cluster c.requires.room c.in-Some.ensures.was_free.0

pub returns-clause-wrote : goal.returns-clause-wrote
returns-clause-wrote c =
    put_wrote c.args.self.now c.put.new.self c.in-Some.cluster c.args.block.now c.told-block (room_in c.args.self.now c.args.held.now c.in-Some.cluster c.requires.room c.in-Some.ensures.was_free.0) c.put.ensures

pub returns-clause-same : goal.returns-clause-same
returns-clause-same c =
    put_same c.args.self.now c.put.new.self c.in-Some.cluster c.args.block.now c.told-block (room_in c.args.self.now c.args.held.now c.in-Some.cluster c.requires.room c.in-Some.ensures.was_free.0) c.put.ensures
    c.args.held.now c.in-Some.ensures.was_free.1

pub returns-clause-ran : goal.returns-clause-ran
returns-clause-ran c =
    put_ran c.args.self.now c.put.new.self c.in-Some.cluster c.args.block.now c.told-block (room_in c.args.self.now c.args.held.now c.in-Some.cluster c.requires.room c.in-Some.ensures.was_free.0) c.put.ensures
