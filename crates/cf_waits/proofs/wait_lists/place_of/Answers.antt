use Rattle.std.proofs.Common.{ltb, rules}
use Rattle.std.proofs.lemmas.List.Sorted.{IsPartitionPoint-from_clause}
use Rattle.cf_model.specs.Missing.{Wait}
use Rattle.cf_waits.specs.Rising.{wait_key}
use Rattle.cf_waits.proofs.ByNumber.{parted, place_is}
use Rattle.cf_waits.proofs.wait_lists.place_of.Goals as goal

pub returns : goal.returns
returns c =
    place_is wait_key c.args.number c.args.waits.now c.partition_point.result c.partition_point.ensures.bound
    (IsPartitionPoint-from_clause (λ (w : Wait). ltb w.id.0.number c.args.number) _ _ c.partition_point.ensures.partitioned (parted wait_key c.args.number c.args.waits.now c.requires) (λ a r q k. search rules))
