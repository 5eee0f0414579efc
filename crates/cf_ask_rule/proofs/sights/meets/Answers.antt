use Rattle.std.proofs.Common.{◌-◌, leb, sym, ◌∙◌, arith, rules}
use Rattle.std.proofs.lemmas.List.Sorted.{IsPartitionPoint-from_clause}
use Rattle.cf_base.specs.declared.spans.Span.{Span}
use Rattle.cf_ask_rule.proofs.Search.{meets_none, parted, point_none, point_some}
use Rattle.cf_ask_rule.proofs.sights.meets.Goals as goal

pub returns-then-start-end : goal.returns-then-start-end
returns-then-start-end c = sym (meets_none c.args.runs.now c.args.start c.args.end (omega arith))

pub returns-then-next-eq0 : goal.returns-then-next-eq0
returns-then-next-eq0 c =
    let point = IsPartitionPoint-from_clause (λ (r : Span). leb r.start (c.args.end - 1)) c.args.runs.now c.partition_point-next.result c.partition_point-next.ensures.partitioned (parted (c.args.end - 1) c.args.runs.now c.requires) (λ a r q k. search rules) in
    sym (point_none c.args.start c.args.end (c.args.end - 1) c.partition_point-next.result c.args.runs.now (omega arith) point c.if-next-eq0.true)

pub returns : goal.returns
returns c =
    let point = IsPartitionPoint-from_clause (λ (r : Span). leb r.start (c.args.end - 1)) c.args.runs.now c.partition_point-next.result c.partition_point-next.ensures.partitioned (parted (c.args.end - 1) c.args.runs.now c.requires) (λ a r q k. search rules) in
    c.reaches.ensures ∙ sym (point_some c.args.start c.args.end (c.args.end - 1) c.partition_point-next.result (c.partition_point-next.result - 1) c.args.runs.now (record { start = 0; len = 0 }) c.requires (omega arith) (omega arith) c.partition_point-next.ensures.bound point (omega arith))
