use Rattle.std.proofs.Common.{◌+◌, ◌∙◌, leb, ltb, rules, sym}
use Rattle.std.proofs.lemmas.List.Sorted.{IsPartitionPoint-from_clause}
use Rattle.cf_model.specs.Missing.{Wait}
use Rattle.cf_waits.proofs.Lined.{near_line, parted_ends, parted_starts}
use Rattle.cf_waits.proofs.Skipped.{whole_waits}
use Rattle.cf_waits.proofs.lines.near_in_line.Goals as goal

pub returns : goal.returns
returns c = near_line c.args.item c.args.v.now c.args.span.start c.args.span.end (sym c.is_whole.ensures ∙ c.if-is_whole.false) c.args.waits.now _ c.partition_point-first.result c.partition_point-count.result (whole_waits c.args.waits.now c.partition_point-first.result) c.requires c.partition_point-first.ensures.bound
    (IsPartitionPoint-from_clause (λ (w : Wait). leb (w.span.start + w.span.len) c.args.span.start) _ _ c.partition_point-first.ensures.partitioned (parted_ends c.args.span.start c.args.waits.now c.requires) (λ a r q k. search rules))
    (IsPartitionPoint-from_clause (λ (w : Wait). ltb w.span.start c.args.span.end) _ _ c.partition_point-count.ensures.partitioned (parted_starts c.args.span.end c.partition_point-first.result c.args.waits.now _ c.requires (whole_waits c.args.waits.now c.partition_point-first.result)) (λ a r q k. search rules))
