use Rattle.cf_disk.proofs.CutSteps.{puts_none, puts_more}
use Rattle.cf_disk.proofs.power_cuts.drop_pages.Goals as goal

pub loop-number-init : goal.loop-number-init
loop-number-init c = puts_none c.args.pages.now c.args.bytes.now

pub loop-number-preserved : goal.loop-number-preserved
loop-number-preserved c = puts_more c.args.pages.now c.loop-number.number c.args.bytes.now c.loop-number.bytes c.drop_page.new.bytes c.loop-number.auto.bytes c.loop-number.invariant c.drop_page.ensures
