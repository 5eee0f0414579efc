use Rattle.std.proofs.Common.{leb, ltb, rules}
use Rattle.std.proofs.lemmas.List.Sorted.{IsPartitionPoint-from_clause}
use Rattle.cf_waits.specs.declared.entries.Entry.{Entry}
use Rattle.cf_waits.proofs.InIndex.{on_item, parted_below, parted_up_to, whole_rest}
use Rattle.cf_waits.proofs.entries.entries_on.Goals as goal

pub returns : goal.returns
returns c =
    on_item c.args.item c.args.entries.now _ c.partition_point-start.result c.partition_point-end.result (whole_rest c.args.entries.now c.partition_point-start.result) c.partition_point-start.ensures.bound c.partition_point-end.ensures.bound
    (IsPartitionPoint-from_clause (λ (e : Entry). ltb e.item.0 c.args.item.0) _ _ c.partition_point-start.ensures.partitioned (parted_below c.args.item c.args.entries.now c.requires) (λ a r q k. search rules))
    (IsPartitionPoint-from_clause (λ (e : Entry). leb e.item.0 c.args.item.0) _ _ c.partition_point-end.ensures.partitioned (parted_up_to c.args.item c.args.entries.now _ c.partition_point-start.result c.requires (whole_rest c.args.entries.now c.partition_point-start.result)) (λ a r q k. search rules))
