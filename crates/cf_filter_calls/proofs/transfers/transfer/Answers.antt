use Rattle.std.proofs.Common.{◌∙◌, ap, subst, ◌≤◌, List, ℕ, length, true}
use Rattle.cf_base.specs.declared.changes.Change.TheVariants as change
use Rattle.cf_filter_calls.specs.Operating.{IsOperable, operated}
use Rattle.cf_model.specs.Blocks.{blocks_of}
use Rattle.cf_model.specs.Requests.{Leaves}
use Rattle.cf_model.specs.Words.{counting}
use Rattle.cf_filter_steps.specs.Answering.{Answers}
use Rattle.cf_filter_calls.proofs.Transferred.{transferred}
use Rattle.cf_filter_calls.proofs.transfers.transfer.Goals as goal

pub returns : goal.returns
returns g c =
    let near = c.is_near.ensures c.if-not-is_near.false in
    transferred g.S.Steps.sense c.args.ask.now c.args.at c.args.bytes.now c.touched_blocks-blocks.result c.args.s.now c.operate.new.s c.operate.result near.0 (subst (λ (l : List ℕ). length l ≤ 549755813888) c.as_slice.ensures near.1)
    (c.touched_blocks-blocks.ensures.blocks ∙ ap (λ (l : List ℕ). blocks_of c.args.at (length l)) c.as_slice.ensures)
    (subst (λ (l : List ℕ). Answers g.S.Steps.sense (IsOperable c.args.ask.now.item (change.Filled c.args.ask.now.item c.args.at l))
    (operated true c.args.ask.now.item (change.Filled c.args.ask.now.item c.args.at l) (Leaves c.args.ask.now.key (counting c.touched_blocks-blocks.result.start c.touched_blocks-blocks.result.len))) c.args.s.now c.operate.result c.operate.new.s)
    c.in_ok-copy.ensures c.operate.ensures)
