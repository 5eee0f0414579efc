use Rattle.std.proofs.Common.{of_calls, rules}
use Rattle.std.proofs.lemmas.Fn.{always_returns_same}
use Rattle.cf_collections.proofs.Splits.{parted, point_is}
use Rattle.cf_collections.proofs.searches.count_before.Goals as goal

pub returns-clause-count : goal.returns-clause-count
returns-clause-count g c =
    let point = c.partition_point.ensures.partitioned (g.P.Probe.is_behind c.args.probe.now) (always_returns_same _ _ _ (λ a r f k. search (rules, of_calls))) (parted (g.P.Probe.is_behind c.args.probe.now) c.args.items.now c.requires) in
    point_is (g.P.Probe.is_behind c.args.probe.now) c.args.items.now c.partition_point.result c.partition_point.ensures.bound point.0 point.1
