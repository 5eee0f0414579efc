use Rattle.std.specs.Prelude.{◌≡◌, ◌⊎◌, false}
use Rattle.cf_base.specs.Names.{is_name}
use Rattle.cf_base.specs.declared.codes.Code.TheVariants as code
use Rattle.cf_base.specs.declared.codes.CallError.{CallError}
use Rattle.cf_base.specs.declared.codes.CallError.TheVariants as fail
use Rattle.cf_filter_calls.proofs.Listed.{failed_as}
use Rattle.cf_filter_calls.proofs.listings.try_name.Goals as goal

pub returns-in_err-read-clause-bad : goal.returns-in_err-read-clause-bad
returns-in_err-read-clause-bad c = failed_as c.from_residual.result c.in_err-read.field-0.0 (λ (e : CallError). (e ≡ fail.OutOfMemory) ⊎ ((e ≡ fail.No code.BadPath) × (is_name c.args.bytes.now ≡ false))) c.from_residual.ensures.1 c.in_err-read.ensures.bad

pub returns-clause-ok : goal.returns-clause-ok
returns-clause-ok c = c.in_ok-read.ensures.ok.1
