use Rattle.std.proofs.Common.{◌∙◌, ap}
use Rattle.cf_model.specs.Requests.{Waiting}
use Rattle.cf_waits.proofs.Beside.{last_aged}
use Rattle.cf_waits.proofs.Turned.{aged_sound, ticked_is}
use Rattle.cf_waits.specs.Told.{next_expired}
use Rattle.cf_waits.proofs.requests.Requests.advance.Goals as goal

pub advance-requires : goal.advance-requires
advance-requires c = ap (λ (s : Waiting). next_expired 0 s) c.self.view_is ∙ c.requires

pub invariant_of-self : goal.invariant_of-self
invariant_of-self c = (c.self.invariant.0, c.self.invariant.1, aged_sound _ c.args.ticks c.advance.new.self.asks c.self.invariant.2 c.advance.ensures, last_aged c.self.inside.last c.args.ticks c.self.inside.waits.waits c.self.inside.asks.asks c.advance.new.self.asks c.self.invariant.3 c.advance.ensures)

pub returns : goal.returns
returns c = ticked_is c.args.self.now _ c.args.ticks c.advance.new.self.asks c.self.view_is c.advance.ensures
