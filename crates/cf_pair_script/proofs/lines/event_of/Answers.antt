use Rattle.std.proofs.Common.{sym, ◌∙◌}
use Rattle.cf_pair_script.proofs.LineReads.{of_another, of_none, of_one}
use Rattle.cf_pair_script.proofs.lines.event_of.Goals as goal

pub returns-in_default : goal.returns-in_default
returns-in_default c = let h = rw c.in_default.is at c.in_ok-event.ensures in of_none c.args.device c.args.text.now h

pub returns-then-not-is_of_device : goal.returns-then-not-is_of_device
returns-then-not-is_of_device c =
    let h = rw c.in-Some.is at c.in_ok-event.ensures in of_another c.args.device c.args.text.now c.in-Some.event h (sym c.is_of_device.ensures ∙ c.if-not-is_of_device.true)

pub returns : goal.returns
returns c = let h = rw c.in-Some.is at c.in_ok-event.ensures in of_one c.args.device c.args.text.now c.in-Some.event h (sym c.is_of_device.ensures ∙ c.if-not-is_of_device.false)
