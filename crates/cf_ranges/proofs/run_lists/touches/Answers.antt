use Rattle.std.proofs.Common.{◌+◌, ◌*◌, ◌-◌, ◌∙◌, ℕ, arith, leb, rules, sym}
use Rattle.std.proofs.lemmas.List.Sorted.{IsPartitionPoint-from_clause}
use Rattle.cf_base.specs.declared.spans.Span.{Span}
use Rattle.cf_ranges.proofs.Search.{parted, touched_none, touched_some}
use Rattle.cf_ranges.proofs.run_lists.touches.Goals as goal

pub returns-then-next-eq0 : goal.returns-then-next-eq0
returns-then-next-eq0 c =
    let last : ℕ = 4096 * c.args.block + 4095 in
    let point = IsPartitionPoint-from_clause (λ (r : Span). leb r.start last) c.args.runs.now c.partition_point-next.result c.partition_point-next.ensures.partitioned (parted last c.args.runs.now c.requires.runs) (λ a r q k. search rules) in
    sym (touched_none c.args.block last c.partition_point-next.result c.args.runs.now (omega arith) point c.if-next-eq0.true)

pub returns : goal.returns
returns c =
    let last : ℕ = 4096 * c.args.block + 4095 in
    let point = IsPartitionPoint-from_clause (λ (r : Span). leb r.start last) c.args.runs.now c.partition_point-next.result c.partition_point-next.ensures.partitioned (parted last c.args.runs.now c.requires.runs) (λ a r q k. search rules) in
    c.reaches.ensures ∙ sym (touched_some c.args.block last c.partition_point-next.result (c.partition_point-next.result - 1) c.args.runs.now (record { start = 0; len = 0 }) c.requires.runs (omega arith) c.partition_point-next.ensures.bound point (omega arith))
