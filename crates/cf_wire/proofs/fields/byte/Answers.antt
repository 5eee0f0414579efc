use Rattle.std.proofs.lemmas.Result.{err_from_is_err_and}
use Rattle.cf_wire.proofs.FieldSteps.{byte_taken, byte_lacked}
use Rattle.cf_wire.proofs.fields.byte.Goals as goal

pub returns-in_err-u8 : goal.returns-in_err-u8
returns-in_err-u8 c =
    let p = err_from_is_err_and c.from_residual.result c.from_residual.ensures.1 in
    rw (p.1, p.2) (byte_lacked c.in_err-u8.field-0.0 c.args.r.now c.u8.new.self c.in_err-u8.ensures.short)

pub returns : goal.returns
returns c = byte_taken c.in_ok-u8.field-0 c.args.r.now c.u8.new.self c.in_ok-u8.ensures.took
