use Rattle.std.proofs.Common.{sym, ◌∙◌}
use Rattle.cf_base.specs.Names.{is_name}
use Rattle.cf_model.proofs.NameLaws.{name_is}
use Rattle.cf_filter_calls.proofs.Listed.{named_not, named_ok}
use Rattle.cf_filter_calls.proofs.listings.is_name.Goals as goal

pub returns-in-Ok : goal.returns-in-Ok
returns-in-Ok c = named_ok c.try_name.result _ (is_name c.args.bytes.now) c.try_name.ensures.ok c.in-Ok.is ∙ sym (name_is c.args.bytes.now)

pub returns-in-Err-No : goal.returns-in-Err-No
returns-in-Err-No c = named_not c.try_name.result _ _ (is_name c.args.bytes.now) c.try_name.ensures.bad c.in-Err-No.is c.in-Err-No.field-0-is ∙ sym (name_is c.args.bytes.now)
