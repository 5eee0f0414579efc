use Rattle.std.proofs.Common.{leb, arith, rules}
use Rattle.std.proofs.lemmas.List.Sorted.{IsPartitionPoint-from_clause}
use Rattle.cf_base.specs.declared.spans.Span.{Span}
use Rattle.cf_ranges.proofs.Search.{parted}
use Rattle.cf_ranges.proofs.Skips.{near, near_are_runs}
use Rattle.cf_ranges.proofs.run_lists.near_runs.Goals as goal

pub returns-clause-runs : goal.returns-clause-runs
returns-clause-runs c = rw (c.from_index.ensures) (near_are_runs c.saturating_sub.result c.args.runs.now c.requires)

pub returns-clause-missing : goal.returns-clause-missing
returns-clause-missing c =
    let point = IsPartitionPoint-from_clause (λ (r : Span). leb r.start c.args.at) c.args.runs.now c.partition_point-next.result c.partition_point-next.ensures.partitioned (parted c.args.at c.args.runs.now c.requires) (λ a r q k. search rules) in
    rw (c.from_index.ensures) (near c.args.at c.partition_point-next.result c.saturating_sub.result c.args.runs.now c.requires c.partition_point-next.ensures.bound point (omega (arith, c.saturating_sub.ensures)))
