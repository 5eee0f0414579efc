use Rattle.std.proofs.Common.{[], arith, sym}
use Rattle.cf_ask_rule.proofs.Fronted.{made_from, none_owned}
use Rattle.cf_waits.proofs.ask_books.asks_behind.Goals as goal

pub returns : goal.returns
returns c = λ item v ws small from. made_from item v c.args.block ws [] c.args.asks.now small from (λ b l m. sym (none_owned item c.args.end b c.args.asks.now c.requires (omega (arith, c.if-block-end.false)) m))
