use Rattle.cf_engine_feed.specs.Turns.{fed_of}
use Rattle.cf_engine_feed.proofs.PlannedTurns.{entry_there, first_by}
use Rattle.cf_engine_feed.proofs.turn_lists.first_turn_at.Goals as goal

pub returns : goal.returns
returns g c = first_by g.S.Steps.sense g.R.Remote.told c.args.entries.now c.in_ok-turn.turn c.args.place c.args.postponed c.args.later.now.items c.in-Some.entry.now c.args.s.now c.do_planned-done.new.s c.args.e.now c.do_planned-done.new.e c.args.targets.now c.do_planned-done.new.targets
    (fed_of c.args.entries.now c.do_planned-done.result c.do_planned-done.new.later.items) (entry_there c.args.entries.now c.args.place c.in-Some.entry.now c.in-Some.ensures.lookup.0 c.in-Some.ensures.lookup.1) c.in_ok-turn.ensures (c.do_planned-done.ensures c.args.entries.now)
