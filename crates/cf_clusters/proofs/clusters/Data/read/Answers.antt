use Rattle.std.proofs.Common.{ℕ, ◌∙◌, ap}
use Rattle.cf_disk.specs.Disk.{part}
use Rattle.cf_clusters.specs.Area.{place}
use Rattle.cf_clusters.proofs.clusters.Data.read.Goals as goal

pub returns-clause-got : goal.returns-clause-got
returns-clause-got g c = c.in_ok-read.ensures.got ∙ ap (λ (n : ℕ). part (place c.args.cluster) n (g.D.Disk.state c.args.disk.now).seen) c.told-out
