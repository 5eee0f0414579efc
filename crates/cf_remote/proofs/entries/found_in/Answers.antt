use Rattle.std.proofs.Common.{◌∙◌, sym}
use Rattle.cf_remote.proofs.FoundEntries.{found_unfit}
use Rattle.cf_remote.proofs.entries.found_in.Goals as goal

pub returns-then-fit : goal.returns-then-fit
returns-then-fit c = c.found_fit.ensures c.args.directory (sym c.in-Ok.ensures ∙ c.if-fit.true)

pub returns-else-fit : goal.returns-else-fit
returns-else-fit c = found_unfit c.args.directory c.args.name.now c.args.reply (sym c.in-Ok.ensures ∙ c.if-fit.false)
