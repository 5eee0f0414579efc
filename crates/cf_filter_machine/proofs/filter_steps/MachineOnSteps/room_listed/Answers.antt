use Rattle.std.proofs.Common.{subst, sym}
use Rattle.cf_filter_machine.proofs.DeskSteps.{seen_at}
use Rattle.cf_filter_machine.proofs.Listings.{listed_read}
use Rattle.cf_filter_machine.specs.Sensing.{sense}
use Rattle.cf_filter_steps.specs.Answering.{Reads}
use Rattle.cf_filter_steps.specs.Listing.{Listing, room_listed}
use Rattle.cf_filter_steps.specs.declared.rooms.Room.{Room}
use Rattle.cf_filter_machine.proofs.filter_steps.MachineOnSteps.room_listed.Goals as goal

pub returns : goal.returns
returns g c = λ f.
    subst (λ (r : Room). Reads (sense g.G.Ground.state) (Listing f c.args.dir c.args.changes.now c.args.records.now) (room_listed f c.args.changes.now) c.args.self.now r) (sym c.lacking.ensures)
    (listed_read g.G.Ground.state c.args.dir c.args.changes.now c.args.records.now c.args.self.now c.in_ok-room.room (λ v b at fits has. c.in_ok-room.ensures v b (seen_at g.G.Ground.state v c.self.view_is at) fits has) f)
