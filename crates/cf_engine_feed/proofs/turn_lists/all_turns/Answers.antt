use Rattle.std.proofs.Common.{sym, ◌∙◌}
use Rattle.cf_engine_feed.proofs.IndexFinds.{empty}
use Rattle.cf_engine_feed.proofs.NoEntries.{nothing_fed}
use Rattle.cf_engine_steps.specs.States.{whole}
use Rattle.cf_engine_feed.proofs.turn_lists.all_turns.Goals as goal

pub returns-then-is_empty : goal.returns-then-is_empty
returns-then-is_empty g c = nothing_fed (whole g.S.Steps.sense g.R.Remote.told) (c.args.s.now, c.args.e.now) c.args.entries.now (sym c.is_empty.ensures ∙ c.if-is_empty.true)

pub returns : goal.returns
returns g c = c.turns_with-done.ensures (empty c.new-targets.result c.new-targets.ensures)
