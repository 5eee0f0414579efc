use Rattle.cf_check_text.proofs.Refusals.{fault_or_answer, fault_or_refusal}
use Rattle.cf_check_text.proofs.laws.a_fault_is_told_from_another_result.Goals as goal

pub returns-clause-refusal : goal.returns-clause-refusal
returns-clause-refusal c = fault_or_refusal

pub returns-clause-answer : goal.returns-clause-answer
returns-clause-answer c = fault_or_answer
