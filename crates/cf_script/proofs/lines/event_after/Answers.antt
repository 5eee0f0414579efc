use Rattle.cf_script.proofs.lines.event_after.Goals as goal

pub returns-in-Other : goal.returns-in-Other
returns-in-Other c = rw c.in-Other.is c.other.ensures
