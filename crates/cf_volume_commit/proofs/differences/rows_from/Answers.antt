use Rattle.std.proofs.Common.{◌∙◌, ltb, rules}
use Rattle.std.proofs.lemmas.List.Sorted.{IsPartitionPoint-from_clause}
use Rattle.cf_volume_commit.proofs.NotedIds.{new_from, parted, rest_from}
use Rattle.cf_table.specs.declared.rows.Row.{Row}
use Rattle.cf_volume_commit.proofs.differences.rows_from.Goals as goal

pub returns : goal.returns
returns c = rest_from c.args.rows.now c.partition_point-place.result
    ∙ new_from c.args.next c.partition_point-place.result c.args.rows.now c.requires
    (IsPartitionPoint-from_clause (λ (r : Row). ltb r.id.0 c.args.next.0) _ _ c.partition_point-place.ensures.partitioned (parted c.args.next c.args.rows.now c.requires) (λ a r q k. search rules))
