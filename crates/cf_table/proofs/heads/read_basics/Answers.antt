use Rattle.cf_table.proofs.OneText.{basics_are}
use Rattle.cf_table.proofs.heads.read_basics.Goals as goal

pub returns-clause-fits : goal.returns-clause-fits
returns-clause-fits c = basics_are c.args.format _ c.in_ok-flags.ensures.fits c.in_ok-pin.ensures.fits c.in_ok-lengths.ensures.fits
