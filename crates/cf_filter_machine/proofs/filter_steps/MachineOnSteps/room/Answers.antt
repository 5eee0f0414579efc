use Rattle.std.proofs.Common.{subst, sym}
use Rattle.cf_filter_machine.proofs.DeskSteps.{seen_at}
use Rattle.cf_filter_machine.proofs.RoomReads.{room_read}
use Rattle.cf_filter_machine.specs.Sensing.{sense}
use Rattle.cf_filter_steps.specs.Answering.{Reads}
use Rattle.cf_filter_steps.specs.Readings.{room_of}
use Rattle.cf_filter_steps.specs.Suiting.{Suiting}
use Rattle.cf_filter_steps.specs.declared.rooms.Room.{Room}
use Rattle.cf_filter_machine.proofs.filter_steps.MachineOnSteps.room.Goals as goal

pub returns : goal.returns
returns g c =
    subst (λ (r : Room). Reads (sense g.G.Ground.state) (Suiting c.args.changes.now) (room_of c.args.changes.now) c.args.self.now r) (sym c.lacking.ensures)
    (room_read g.G.Ground.state c.args.changes.now c.args.self.now c.in_ok-room.room (λ v at fits. c.in_ok-room.ensures v (seen_at g.G.Ground.state v c.self.view_is at) fits))
