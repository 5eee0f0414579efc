use Rattle.cf_script.proofs.PlacesRead.{sized_reads, no_sized}
use Rattle.cf_script.proofs.providers.update_sized.Goals as goal

pub returns-in-Ok-Some : goal.returns-in-Ok-Some
returns-in-Ok-Some c = sized_reads c.args.target.now c.args.word.now c.args.size.now c.in-Some.size (c.in-Ok-Some.path, c.in-Ok-Some.identity) c.in-Some.ensures (rw c.in-Ok-Some.field-0-is at c.in-Ok-Some.ensures)

pub returns-in-Ok-None : goal.returns-in-Ok-None
returns-in-Ok-None c = no_sized c.args.target.now c.args.word.now c.args.size.now (rw c.in-Ok-None.field-0-is at c.in-Ok-None.ensures)
