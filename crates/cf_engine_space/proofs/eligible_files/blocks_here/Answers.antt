use Rattle.std.proofs.Common.{List, length, sym, ◌∙◌, ap, Bool, cond}
use Rattle.std.specs.Prelude.{◌==◌, None, Some}
use Rattle.cf_base.specs.declared.spans.Span.{Span}
use Rattle.cf_engine_space.proofs.Eligible.{no_runs, some_runs}
use Rattle.cf_model.specs.Blocks.{blocks_held, blocks_in}
use Rattle.cf_volume_points.proofs.RowRoom.{below_blocks, blocks_counted}
use Rattle.cf_engine_space.proofs.eligible_files.blocks_here.Goals as goal

pub returns-then-is_empty : goal.returns-then-is_empty
returns-then-is_empty c = λ i m. sym (ap (λ (b : Bool). cond b (Some (blocks_held i.held)) None) (no_runs c.args.row.now.here i.held m.bytes.here (ap (λ (rs : List Span). length rs == 0) (sym c.runs.ensures.value) ∙ sym c.is_empty.ensures ∙ c.if-is_empty.true)))

pub returns : goal.returns
returns c = λ i m.
    ap Some (c.blocks-2.ensures.count (blocks_in (length i.held)) (below_blocks c.args.row.now i m) ∙ blocks_counted c.args.row.now i c.runs.ensures.maximal m)
    ∙ sym (ap (λ (b : Bool). cond b (Some (blocks_held i.held)) None) (some_runs c.args.row.now.here i.held c.runs.ensures.maximal m.bytes.here (ap (λ (rs : List Span). length rs == 0) (sym c.runs.ensures.value) ∙ sym c.is_empty.ensures ∙ c.if-is_empty.false)))
