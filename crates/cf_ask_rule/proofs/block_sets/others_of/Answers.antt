use Rattle.std.proofs.Common.{sym}
use Rattle.cf_ask_rule.proofs.Places.{clipped, cut_places}
use Rattle.cf_ask_rule.proofs.block_sets.others_of.Goals as goal

pub returns : goal.returns
returns c = sym (cut_places c.args.owned.now c.in_ok-others.others c.args.blocks _ c.runs-maximal-2.ensures.maximal c.runs-maximal.ensures.maximal c.in_ok-others.ensures (λ b l. clipped c.args.blocks.start c.args.blocks.len _ _ b c.min-start.ensures c.min.ensures l))
