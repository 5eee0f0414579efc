use Rattle.std.proofs.lemmas.Result.{err_from_is_err_and}
use Rattle.cf_wire.proofs.FieldSteps.{eight_taken, eight_lacked}
use Rattle.cf_wire.proofs.fields.eight.Goals as goal

pub returns-in_err-u64 : goal.returns-in_err-u64
returns-in_err-u64 c =
    let p = err_from_is_err_and c.from_residual.result c.from_residual.ensures.1 in
    rw (p.1, p.2) (eight_lacked c.in_err-u64.field-0.0 c.args.r.now c.u64.new.self c.in_err-u64.ensures.short)

pub returns : goal.returns
returns c = eight_taken c.in_ok-u64.field-0 c.args.r.now c.u64.new.self c.in_ok-u64.ensures.fits c.in_ok-u64.ensures.took
