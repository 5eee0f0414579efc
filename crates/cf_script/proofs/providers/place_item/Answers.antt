use Rattle.cf_script_words.proofs.WordLists.{texts}
use Rattle.cf_script.proofs.PlacesRead.{place_reads, no_place}
use Rattle.cf_script.proofs.providers.place_item.Goals as goal

pub returns-in-Ok-Some : goal.returns-in-Ok-Some
returns-in-Ok-Some c = place_reads c.args.target.now c.args.size.now c.args.identity_word.now (texts c.args.flag.now) c.in-Some.size c.in-Some-in_sync.in_sync (c.in-Ok-Some.path, c.in-Ok-Some.identity) c.in-Some.ensures c.in-Some-in_sync.ensures (rw c.in-Ok-Some.field-0-is at c.in-Ok-Some.ensures)

pub returns-in-Ok-None : goal.returns-in-Ok-None
returns-in-Ok-None c = no_place c.args.target.now c.args.size.now c.args.identity_word.now (texts c.args.flag.now) (rw c.in-Ok-None.field-0-is at c.in-Ok-None.ensures)
