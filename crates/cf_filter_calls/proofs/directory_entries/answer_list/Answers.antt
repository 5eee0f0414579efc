use Rattle.cf_filter_calls.proofs.Entered.{list_bad, list_good}
use Rattle.cf_filter_calls.proofs.directory_entries.answer_list.Goals as goal

pub returns-then-not-good : goal.returns-then-not-good
returns-then-not-good g c = list_bad g.S.Steps.sense c.args.s.now c.finish.new.s c.args.ask.now c.args.list.now c.args.good c.args.records.now c.finish.result c.if-not-good.true c.finish.ensures

pub returns : goal.returns
returns g c = list_good g.S.Steps.sense c.args.s.now c.enter_list.new.s c.args.ask.now c.args.list.now c.args.good c.is_unlisted.result c.args.records.now c.enter_list.result c.if-not-good.false c.is_unlisted.ensures c.if-not-is_unlisted.false c.enter_list.ensures
