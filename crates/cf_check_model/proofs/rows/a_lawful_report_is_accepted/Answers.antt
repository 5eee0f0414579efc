use Rattle.std.proofs.Common.{refl, [], arith}
use Rattle.cf_check_model.specs.Rows.{inline_read, read_report}
use Rattle.cf_check_model.proofs.Played.{accepted_as_usual}
use Rattle.cf_check_model.proofs.rows.a_lawful_report_is_accepted.Goals as goal

pub returns : goal.returns
returns c = accepted_as_usual inline_read read_report 4 (omega arith) (refl, (refl, (refl, (refl, record {})))) refl refl ([], refl) (λ _. refl)
