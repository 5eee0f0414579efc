use Rattle.std.proofs.Common.{refl}
use Rattle.cf_filter_machine.proofs.DeskSteps.{desk_exit, desk_stepped, seen_desk, with_desk}
use Rattle.cf_filter_desk.specs.Desks.{Desk}
use Rattle.cf_model.specs.Arrows.{noted}
use Rattle.cf_filter_steps.specs.Answering.{Any}
use Rattle.std.specs.Prelude.{◌++◌, map}
use Rattle.cf_filter_machine.proofs.GoodSteps.{same_good}
use Rattle.cf_model.specs.Settling.{cancel_line}
use Rattle.cf_filter_steps.specs.Readings.{asked_line, with_asks}
use Rattle.cf_filter_machine.proofs.filter_steps.MachineOnSteps.tell_asks.Goals as goal

pub returns : goal.returns
returns g c =
    desk_stepped g.G.Ground.state Any (with_asks c.args.cancelled.now c.args.asks.now) (λ (d : Desk). record d { notes = d.notes ++ map cancel_line c.args.cancelled.now ++ map asked_line c.args.asks.now; outbox = d.outbox ++ c.args.asks.now }) c.args.self.now _ c.self.inside.desk c.tell_asks.new.self
    (with_desk c.tell_asks.new.self c.self.view_is) (seen_desk c.self.view_is) c.in_ok-tell_asks.ensures (λ s. refl) (λ s h. refl) (λ s h p. same_good s (with_asks c.args.cancelled.now c.args.asks.now s) refl refl refl h.good)

pub returns-in_err-tell_asks : goal.returns-in_err-tell_asks
returns-in_err-tell_asks g c = desk_exit g.G.Ground.state Any (noted (with_asks c.args.cancelled.now c.args.asks.now)) c.args.self.now _ c.tell_asks.new.self c.from_residual.result c.from_residual.ensures.1 (with_desk c.tell_asks.new.self c.self.view_is)
