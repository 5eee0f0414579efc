use Rattle.std.proofs.Common.{ap}
use Rattle.std.specs.Prelude.{is_some}
use Rattle.cf_waits.proofs.Lined.{line_is}
use Rattle.cf_waits.proofs.lines.near_by.Goals as goal

pub near_in_line-requires : goal.near_in_line-requires
near_in_line-requires c = line_is c.args.line c.args.waits.now (ap is_some c.in-Some.is) c.requires
