use Rattle.cf_item_rules.proofs.Fitted.{convert_fits, create_fits, keep_fits, mark_fits, revert_fits, unmark_fits, update_fits}
use Rattle.cf_item_rules.proofs.placeholder_laws.plans_fit.Goals as goal

pub returns : goal.returns
returns c = record {
  create = create_fits;
  convert = convert_fits;
  revert = revert_fits;
  update = update_fits;
  mark = mark_fits;
  unmark = unmark_fits;
  keep = keep_fits;
}
