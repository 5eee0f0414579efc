use Rattle.std.proofs.Common.{rules}
use Rattle.std.proofs.lemmas.List.Sorted.{IsPartitionPoint-from_clause}
use Rattle.cf_waits.specs.Books.{stands_before}
use Rattle.cf_waits.proofs.InIndex.{parted, place_is}
use Rattle.cf_waits.proofs.entries.place_of.Goals as goal

pub returns : goal.returns
returns c =
    place_is c.args.entry c.args.entries.now c.partition_point.result c.partition_point.ensures.bound
    (IsPartitionPoint-from_clause (λ e. stands_before e c.args.entry) _ _ c.partition_point.ensures.partitioned (parted c.args.entry c.args.entries.now c.requires) (λ a r q k. search rules))
