use Rattle.std.proofs.Common.{sym}
use Rattle.cf_ranges.proofs.Maps.{present, absent}
use Rattle.cf_ranges.proofs.pair_lists.lookup.Goals as goal

pub returns-in-Ok : goal.returns-in-Ok
returns-in-Ok c = sym (present 0 c.args.pairs.now c.args.block c.in-Ok.place c.requires c.in-Ok.ensures.found)

pub returns-in-Err : goal.returns-in-Err
returns-in-Err c = sym (absent 0 c.args.pairs.now c.args.block _ c.requires c.in-Err.ensures.absent)
