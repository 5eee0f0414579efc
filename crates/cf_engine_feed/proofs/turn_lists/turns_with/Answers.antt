use Rattle.std.proofs.Common.{◌∙◌, ap}
use Rattle.cf_engine_feed.specs.Turns.{entries_at, fed_of}
use Rattle.cf_engine_feed.proofs.FeedTurns.{in_order}
use Rattle.cf_engine_feed.proofs.turn_lists.turns_with.Goals as goal

pub returns : goal.returns
returns g c = λ none. (
  c.turns_by-done.ensures.0,
  in_order g.S.Steps.sense g.R.Remote.told c.rows-2.result.now c.rows.result.now c.as_slice.result.now c.args.entries.now c.as_slice-2.result.now c.args.s.now c.turns_by-done.new.s c.args.e.now c.turns_by-done.new.e c.fill.new.targets c.turns_by-done.new.targets
      (fed_of c.args.entries.now c.turns_by-done.result c.turns_by-done.ensures.0) c.rows-2.ensures.means c.rows.ensures.means c.as_slice.ensures.value (λ items m r. c.in_ok-fill.ensures items m r none)
      (λ items m t index. ap (entries_at c.args.entries.now) c.as_slice-2.ensures.value ∙ c.in_ok-places.ensures items m t index) c.turns_by-done.ensures.1,
)
