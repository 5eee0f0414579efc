use Rattle.std.proofs.Common.{sym}
use Rattle.std.proofs.lemmas.Result.{err_from_is_err_and}
use Rattle.cf_wire.proofs.FieldSteps.{taken, lacked}
use Rattle.cf_wire.proofs.fields.bytes.Goals as goal

pub returns-in_err-bytes : goal.returns-in_err-bytes
returns-in_err-bytes c =
    let p = err_from_is_err_and c.from_residual.result c.from_residual.ensures.1 in
    rw (p.1, p.2) (lacked c.args.n c.in_err-bytes.field-0.0 c.args.r.now c.bytes.new.self c.in_err-bytes.ensures.short)

pub returns : goal.returns
returns c = taken c.args.n c.in_ok-bytes.field-0.now c.args.r.now c.bytes.new.self (sym c.in_ok-bytes.ensures.size) c.in_ok-bytes.ensures.took
