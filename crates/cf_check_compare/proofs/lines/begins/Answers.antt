use Rattle.std.proofs.Common.{sym, ◌∙◌}
use Rattle.cf_check_compare.proofs.FirstLines.{begins_is}
use Rattle.cf_check_compare.proofs.lines.begins.Goals as goal

pub returns : goal.returns
returns c = c.starts_with.ensures.value ∙ sym (begins_is c.args.front.now c.args.text.now)
