use Rattle.cf_journal.proofs.Unique.{one_content}
use Rattle.cf_journal.proofs.laws.one_content.Goals as goal

pub returns : goal.returns
returns c = one_content
