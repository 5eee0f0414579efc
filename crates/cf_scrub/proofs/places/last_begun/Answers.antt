use Rattle.std.proofs.Common.{◌-◌, leb, arith, rules}
use Rattle.std.proofs.lemmas.List.Sorted.{IsPartitionPoint-from_clause}
use Rattle.cf_base.specs.declared.spans.Span.{Span}
use Rattle.cf_ranges.proofs.Search.{parted}
use Rattle.cf_scrub.proofs.LastRuns.{is_last_begun, none_begun}
use Rattle.cf_scrub.proofs.places.last_begun.Goals as goal

pub returns-then-next-eq0 : goal.returns-then-next-eq0
returns-then-next-eq0 c =
    let point = IsPartitionPoint-from_clause (λ (r : Span). leb r.start c.args.by) c.args.runs.now c.partition_point-next.result c.partition_point-next.ensures.partitioned (parted c.args.by c.args.runs.now c.requires) (λ a r q k. search rules) in
    none_begun c.args.by c.partition_point-next.result c.args.runs.now point c.if-next-eq0.true

pub returns : goal.returns
returns c =
    let point = IsPartitionPoint-from_clause (λ (r : Span). leb r.start c.args.by) c.args.runs.now c.partition_point-next.result c.partition_point-next.ensures.partitioned (parted c.args.by c.args.runs.now c.requires) (λ a r q k. search rules) in
    is_last_begun c.args.by c.partition_point-next.result (c.partition_point-next.result - 1) c.args.runs.now (record { start = 0; len = 0 }) c.requires c.partition_point-next.ensures.bound point (omega arith)
