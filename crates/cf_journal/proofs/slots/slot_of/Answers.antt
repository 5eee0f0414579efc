use Rattle.cf_journal.proofs.Choosing.{neither}
use Rattle.cf_journal.proofs.slots.slot_of.Goals as goal

pub returns-clause-none : goal.returns-clause-none
returns-clause-none c = neither c.args.text.now c.args.size c.in_default.ensures.none c.in_default-spelled_in.ensures.none
