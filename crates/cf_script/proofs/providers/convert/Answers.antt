use Rattle.cf_script.proofs.PlacesRead.{convert_reads, no_convert}
use Rattle.cf_script.proofs.providers.convert.Goals as goal

pub returns-in-Ok-Some : goal.returns-in-Ok-Some
returns-in-Ok-Some c = convert_reads c.args.target.now c.args.word.now (c.in-Ok-Some.path, c.in-Ok-Some.identity) (rw c.in-Ok-Some.field-0-is at c.in-Ok-Some.ensures)

pub returns-in-Ok-None : goal.returns-in-Ok-None
returns-in-Ok-None c = no_convert c.args.target.now c.args.word.now (rw c.in-Ok-None.field-0-is at c.in-Ok-None.ensures)
