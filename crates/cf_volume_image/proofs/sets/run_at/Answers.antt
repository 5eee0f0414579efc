use Rattle.std.proofs.Common.{◌-◌, ◌∙◌, leb, sym, arith, rules}
use Rattle.std.proofs.lemmas.List.Sorted.{IsPartitionPoint-from_clause}
use Rattle.std.proofs.lemmas.Bool.{le-ltb}
use Rattle.cf_base.specs.declared.spans.Span.{Span}
use Rattle.cf_ranges.proofs.Search.{parted, begun, point_none, point_some}
use Rattle.cf_volume_image.proofs.SetTests.{is_run_at}
use Rattle.cf_volume_image.proofs.sets.run_at.Goals as goal

pub returns-then-next-eq0 : goal.returns-then-next-eq0
returns-then-next-eq0 c =
    let point = IsPartitionPoint-from_clause (λ (r : Span). leb r.start c.args.at) c.args.runs.now c.partition_point-next.result c.partition_point-next.ensures.partitioned (parted c.args.at c.args.runs.now c.requires) (λ a r q k. search rules) in
    point_none c.args.at c.partition_point-next.result c.args.runs.now c.requires point c.if-next-eq0.true

pub overflow_sub-at : goal.overflow_sub-at
overflow_sub-at c =
    let point = IsPartitionPoint-from_clause (λ (r : Span). leb r.start c.args.at) c.args.runs.now c.partition_point-next.result c.partition_point-next.ensures.partitioned (parted c.args.at c.args.runs.now c.requires) (λ a r q k. search rules) in
    begun c.args.at c.partition_point-next.result (c.partition_point-next.result - 1) c.args.runs.now (record { start = 0; len = 0 }) point (omega arith)

pub returns-then-at-run : goal.returns-then-at-run
returns-then-at-run c =
    let point = IsPartitionPoint-from_clause (λ (r : Span). leb r.start c.args.at) c.args.runs.now c.partition_point-next.result c.partition_point-next.ensures.partitioned (parted c.args.at c.args.runs.now c.requires) (λ a r q k. search rules) in
    is_run_at c.args.runs.now c.args.at (c.partition_point-next.result - 1) (record { start = 0; len = 0 }) c.requires (omega (arith, c.partition_point-next.ensures.bound))
    (begun c.args.at c.partition_point-next.result (c.partition_point-next.result - 1) c.args.runs.now (record { start = 0; len = 0 }) point (omega arith)) c.if-at-run.true

pub returns-else-at-run : goal.returns-else-at-run
returns-else-at-run c =
    let point = IsPartitionPoint-from_clause (λ (r : Span). leb r.start c.args.at) c.args.runs.now c.partition_point-next.result c.partition_point-next.ensures.partitioned (parted c.args.at c.args.runs.now c.requires) (λ a r q k. search rules) in
    sym (point_some c.args.at c.partition_point-next.result (c.partition_point-next.result - 1) c.args.runs.now (record { start = 0; len = 0 }) c.requires c.partition_point-next.ensures.bound point (omega arith)) ∙ le-ltb _ _ c.if-at-run.false
