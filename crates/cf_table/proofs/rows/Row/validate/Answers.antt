use Rattle.std.proofs.Common.{refl}
use Rattle.cf_table.proofs.ByteMeans.{validate_bytes}
use Rattle.cf_table.proofs.Told.{means, told}
use Rattle.cf_table.proofs.rows.Row.validate.Goals as goal

pub returns-clause-ok : goal.returns-clause-ok
returns-clause-ok c = λ i m. means _ _ (told c.args.self.now i m) (validate_bytes c.args.self.now _ c.args.span i c.in_ok-valid.ensures refl refl refl refl refl refl refl m.bytes)
