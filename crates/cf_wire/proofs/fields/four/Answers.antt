use Rattle.std.proofs.lemmas.Result.{err_from_is_err_and}
use Rattle.cf_wire.proofs.FieldSteps.{four_taken, four_lacked}
use Rattle.cf_wire.proofs.fields.four.Goals as goal

pub returns-in_err-u32 : goal.returns-in_err-u32
returns-in_err-u32 c =
    let p = err_from_is_err_and c.from_residual.result c.from_residual.ensures.1 in
    rw (p.1, p.2) (four_lacked c.in_err-u32.field-0.0 c.args.r.now c.u32.new.self c.in_err-u32.ensures.short)

pub returns : goal.returns
returns c = four_taken c.in_ok-u32.field-0 c.args.r.now c.u32.new.self c.in_ok-u32.ensures.fits c.in_ok-u32.ensures.took
