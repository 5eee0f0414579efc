use Rattle.cf_check_text.proofs.Lines.{next_result, results_of}
use Rattle.cf_check_text.proofs.laws.each_clean_answer_has_one_result_line.Goals as goal

pub returns-clause-each : goal.returns-clause-each
returns-clause-each c = results_of

pub returns-clause-next : goal.returns-clause-next
returns-clause-next c = next_result
