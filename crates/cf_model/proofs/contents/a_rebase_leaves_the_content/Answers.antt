use Rattle.cf_model.proofs.Rebasing.{rebase_stays}
use Rattle.cf_model.proofs.contents.a_rebase_leaves_the_content.Goals as goal

-- src/contents.rt
pub returns-clause-done : goal.returns-clause-done
returns-clause-done c = rebase_stays
