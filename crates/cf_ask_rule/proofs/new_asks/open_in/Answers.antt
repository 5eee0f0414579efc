use Rattle.std.proofs.Common.{◌∙◌, arith}
use Rattle.cf_ask_rule.proofs.Opening.{finished, pushed, skipped}
use Rattle.cf_ask_rule.proofs.new_asks.open_in.Goals as goal

pub loop-at-preserved-then-end-block : goal.loop-at-preserved-then-end-block
loop-at-preserved-then-end-block c = record {
  blocks = λ w o h e. skipped c.args.v.now c.args.needs.now c.args.owned.now w o c.loop-at.next c.in-Some.at c.end_of-end.result c.loop-at.out.items h e c.in-Some.ensures.next c.end_of-end.ensures.from c.end_of-end.ensures.all (c.loop-at.invariant.blocks w o h e);
  next = c.end_of-end.ensures.small c.if-end-block.true;
}

pub loop-at-preserved : goal.loop-at-preserved
loop-at-preserved c = record {
  blocks = λ w o h e. c.in_ok-push.ensures.items ∙ pushed c.args.v.now c.args.needs.now c.args.owned.now w o c.loop-at.next c.in-Some.at c.loop-at.out.items h e c.in-Some.ensures.next (c.end_of-end.ensures.none (omega (arith, c.end_of-end.ensures.from, c.if-end-block.false))) (c.loop-at.invariant.blocks w o h e);
  next = omega (arith, c.in-Some.ensures.small);
}

pub returns : goal.returns
returns c = λ w o h e. finished c.args.v.now c.args.needs.now w o c.loop-at.next c.loop-at.out.items h c.in_default.ensures.next (c.loop-at.invariant.blocks w o h e)
