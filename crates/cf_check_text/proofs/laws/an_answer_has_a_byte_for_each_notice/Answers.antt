use Rattle.cf_check_text.proofs.Lines.{notices_fit}
use Rattle.cf_check_text.proofs.laws.an_answer_has_a_byte_for_each_notice.Goals as goal

pub returns : goal.returns
returns c = notices_fit
