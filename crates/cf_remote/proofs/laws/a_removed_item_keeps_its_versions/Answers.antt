use Rattle.cf_remote.proofs.RunLaws.{removal_holds}
use Rattle.cf_remote.proofs.laws.a_removed_item_keeps_its_versions.Goals as goal

pub returns : goal.returns
returns c = removal_holds
