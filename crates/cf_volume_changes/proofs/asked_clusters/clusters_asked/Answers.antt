use Rattle.std.proofs.Common.{sym, ap, length, arith}
use Rattle.cf_volume_changes.proofs.NotThere.{others_none}
use Rattle.cf_volume_changes.proofs.asked_clusters.clusters_asked.Goals as goal

pub returns-in_default : goal.returns-in_default
returns-in_default c = record { asked = sym (ap length (others_none c.args.change.now c.in_default.not-Write c.in_default.not-Size)); small = omega arith }
