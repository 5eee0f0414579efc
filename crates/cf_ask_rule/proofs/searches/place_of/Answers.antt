use Rattle.std.proofs.Common.{◌+◌, leb, rules}
use Rattle.std.proofs.lemmas.List.Sorted.{IsPartitionPoint-from_clause}
use Rattle.cf_base.specs.declared.spans.Span.{Span}
use Rattle.cf_ask_rule.proofs.Following.{parted, place_found}
use Rattle.cf_ask_rule.proofs.searches.place_of.Goals as goal

pub returns : goal.returns
returns c =
    place_found c.args.from c.partition_point.result c.args.runs.now c.partition_point.ensures.bound
    (IsPartitionPoint-from_clause (λ (r : Span). leb (r.start + r.len) c.args.from) c.args.runs.now c.partition_point.result c.partition_point.ensures.partitioned (parted c.args.from c.args.runs.now c.requires) (λ a r q k. search rules))
