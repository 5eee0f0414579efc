use Rattle.std.proofs.Common.{◌∙◌, sym}
use Rattle.std.proofs.lemmas.Bool.{true≢false}
use Rattle.cf_volume_changes.proofs.room.changes.tally_of.Goals as goal

pub returns-in-Ok-false : goal.returns-in-Ok-false
returns-in-Ok-false c = λ seen v at fits. absurd (true≢false (sym (c.in-Ok-false.ensures v (c.in_ok-so_far.ensures seen v c.args.list.now at fits)).0 ∙ c.in-Ok-false.field-0-test))

pub returns-in-Ok-true : goal.returns-in-Ok-true
returns-in-Ok-true c = λ seen v at fits. (c.in-Ok-true.ensures v (c.in_ok-so_far.ensures seen v c.args.list.now at fits)).1
