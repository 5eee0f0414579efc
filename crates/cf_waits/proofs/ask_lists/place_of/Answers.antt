use Rattle.std.proofs.Common.{ltb, rules}
use Rattle.std.proofs.lemmas.List.Sorted.{IsPartitionPoint-from_clause}
use Rattle.cf_model.specs.Requests.{Live}
use Rattle.cf_waits.specs.Rising.{ask_key}
use Rattle.cf_waits.proofs.ByNumber.{parted, place_is}
use Rattle.cf_waits.proofs.ask_lists.place_of.Goals as goal

pub returns : goal.returns
returns c =
    place_is ask_key c.args.number c.args.asks.now c.partition_point.result c.partition_point.ensures.bound
    (IsPartitionPoint-from_clause (λ (a : Live). ltb a.ask.key.number c.args.number) _ _ c.partition_point.ensures.partitioned (parted ask_key c.args.number c.args.asks.now c.requires) (λ a r q k. search rules))
