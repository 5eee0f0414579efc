use Rattle.std.proofs.Common.{leb, rules}
use Rattle.std.proofs.lemmas.List.Sorted.{IsPartitionPoint-from_clause}
use Rattle.cf_base.specs.declared.spans.Span.{Span}
use Rattle.cf_ranges.proofs.Joins.{counted}
use Rattle.cf_ranges.proofs.Search.{parted}
use Rattle.cf_ranges.proofs.run_lists.begun.Goals as goal

pub returns-clause-count : goal.returns-clause-count
returns-clause-count c =
    counted c.args.at c.partition_point.result c.args.runs.now c.partition_point.ensures.bound
    (IsPartitionPoint-from_clause (λ (r : Span). leb r.start c.args.at) c.args.runs.now c.partition_point.result c.partition_point.ensures.partitioned (parted c.args.at c.args.runs.now c.requires) (λ a r q k. search rules))
