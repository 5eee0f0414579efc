use Rattle.std.proofs.Common.{◌++◌, ◌∙◌, List, ap, subst, sym}
use Rattle.cf_model.specs.Requests.{Live}
use Rattle.cf_waits.proofs.Turning.{all_turned}
use Rattle.cf_waits.specs.Rising.{IsRising, ask_key}
use Rattle.cf_waits.proofs.turns.turn_asks.Goals as goal

pub add_asks-requires-clause-rising : goal.add_asks-requires-clause-rising
add_asks-requires-clause-rising c =
    subst (λ (l : List Live). IsRising ask_key (l ++ c.args.made.items))
    (sym (all_turned c.args.cancelled.now c.args.dropped c.args.changed c.args.book.now.asks c.cancel_asks.new.book.asks c.drop_ask.new.book.asks c.change_ask.new.book.asks c.cancel_asks.ensures.asks c.drop_ask.ensures.asks c.change_ask.ensures.asks)) c.requires.rising

pub returns : goal.returns
returns c =
    c.add_asks.ensures
    ∙ ap (λ (l : List Live). l ++ c.args.made.items)
    (all_turned c.args.cancelled.now c.args.dropped c.args.changed c.args.book.now.asks c.cancel_asks.new.book.asks c.drop_ask.new.book.asks c.change_ask.new.book.asks c.cancel_asks.ensures.asks c.drop_ask.ensures.asks c.change_ask.ensures.asks)
