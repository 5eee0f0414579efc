use Rattle.std.proofs.Common.{List, ap, arith}
use Rattle.cf_clusters.specs.declared.uses.Use.{Use}
use Rattle.cf_clusters.specs.Roles.{how_many, is_now}
use Rattle.cf_clusters.proofs.Counts.{now_count}
use Rattle.cf_clusters.proofs.clusters.Data.used.Goals as goal

pub returns : goal.returns
returns c =
    let now = now_count c.self.inside.order.items c.self.inside.places.items c.self.inside.free c.self.inside.staged c.self.inside.held c.self.invariant.layout in
    let view = ap (λ (us : List Use). how_many is_now us) c.self.view_is in
    omega (arith, c.len.ensures, c.self.inside.places.ok, now, view)
