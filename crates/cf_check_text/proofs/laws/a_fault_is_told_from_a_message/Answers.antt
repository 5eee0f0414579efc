use Rattle.cf_check_text.proofs.Clashes.{parted_no_meet}
use Rattle.cf_check_text.proofs.laws.a_fault_is_told_from_a_message.Goals as goal

pub returns : goal.returns
returns c = parted_no_meet
