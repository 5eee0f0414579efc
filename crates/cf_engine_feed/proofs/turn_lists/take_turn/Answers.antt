use Rattle.cf_engine_feed.proofs.PlannedTurns.{second_by}
use Rattle.cf_engine_feed.proofs.turn_lists.take_turn.Goals as goal

pub returns : goal.returns
returns g c = second_by g.S.Steps.sense g.R.Remote.told c.in_ok-turn.turn c.args.entry.now c.args.s.now c.do_turn-done.new.s c.args.e.now c.do_turn-done.new.e c.args.targets.now c.do_turn-done.new.targets c.do_turn-done.result c.in_ok-turn.ensures c.do_turn-done.ensures
