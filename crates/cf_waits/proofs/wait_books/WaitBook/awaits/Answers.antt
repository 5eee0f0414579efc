use Rattle.std.proofs.Common.{◌∙◌}
use Rattle.cf_ask_rule.proofs.Kept.{near_awaited}
use Rattle.cf_waits.proofs.wait_books.WaitBook.awaits.Goals as goal

pub returns : goal.returns
returns c =
    c.is_awaited.ensures ∙ near_awaited c.args.item c.args.v.now c.positions_of-span.result.start c.positions_of-span.result.end c.args.a.now c.near.result.now c.args.self.now.waits c.size-size.ensures.small c.positions_of-span.ensures c.near.ensures
