use Rattle.std.proofs.Common.{[], refl}
use Rattle.cf_filter.proofs.ports.FilterOnPort.execute.Goals as goal

pub returns : goal.returns
returns g c = c.execute_beside.ensures [] (record { are = refl; fits = record {} })
