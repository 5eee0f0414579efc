use Rattle.cf_script.proofs.command_lines.word_line.Goals as goal

pub returns-in-Close : goal.returns-in-Close
returns-in-Close c = rw c.in-Close.is c.close.ensures

pub returns-in-Cancel : goal.returns-in-Cancel
returns-in-Cancel c = rw c.in-Cancel.is c.cancel.ensures

pub returns-in-Tick : goal.returns-in-Tick
returns-in-Tick c = rw c.in-Tick.is c.tick.ensures

pub returns-in-Link : goal.returns-in-Link
returns-in-Link c = rw c.in-Link.is c.link.ensures
