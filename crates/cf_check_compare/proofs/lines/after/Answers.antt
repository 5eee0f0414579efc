use Rattle.cf_check_compare.proofs.FirstLines.{after_least}
use Rattle.cf_check_compare.proofs.lines.after.Goals as goal

pub returns : goal.returns
returns c = after_least c.args.text.now c.args.count _ (c.min-count.ensures)
