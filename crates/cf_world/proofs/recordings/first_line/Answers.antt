use Rattle.std.proofs.Common.{sym, ◌∙◌}
use Rattle.cf_world.proofs.Parted.{line_found, line_whole}
use Rattle.cf_world.proofs.recordings.first_line.Goals as goal

pub returns-in-Some-clause-line : goal.returns-in-Some-clause-line
returns-in-Some-clause-line c = line_found c.args.text.now c.in-Some.end (sym c.line_end.ensures ∙ c.in-Some.is)

pub returns-in-None-clause-line : goal.returns-in-None-clause-line
returns-in-None-clause-line c = line_whole c.args.text.now c.requires (sym c.line_end.ensures ∙ c.in-None.is)
