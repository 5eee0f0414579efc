use Rattle.std.proofs.Common.{◌++◌, codes, refl, arith}
use Rattle.cf_check_model.specs.Rows.{before_last, changed_report, inline_read, line, after_open}
use Rattle.cf_check_model.proofs.Played.{accepted_as_usual}
use Rattle.cf_check_model.proofs.rows.the_front_of_a_changed_report_is_accepted.Goals as goal

pub returns-clause-changed : goal.returns-clause-changed
returns-clause-changed c = accepted_as_usual inline_read changed_report 3 (omega arith) (refl, (refl, (refl, record {}))) refl refl (after_open ++ line (codes "= data 68656c6c70"), refl) (λ e. absurd (omega (arith, e)))

pub returns-clause-cut : goal.returns-clause-cut
returns-clause-cut c = accepted_as_usual inline_read before_last 3 (omega arith) (refl, (refl, (refl, record {}))) refl refl (after_open, refl) (λ e. absurd (omega (arith, e)))
