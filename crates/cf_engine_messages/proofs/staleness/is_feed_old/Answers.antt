use Rattle.std.proofs.Common.{◌∙◌, ap, refl, not}
use Rattle.cf_engine_messages.proofs.StaleReplies.{feed_by}
use Rattle.cf_model.specs.State.{Volatile}
use Rattle.cf_engine_messages.proofs.staleness.is_feed_old.Goals as goal

pub returns : goal.returns
returns g c = λ es.
    feed_by g.S.Steps.sense c.args.s.now g.R.Remote.told c.args.e.now c.args.round c.args.clock es c.epoch.result c.rounds.result c.in_ok-cursor.cursor c.is_round_open-counts.result c.has_entries-none.result (not c.has_entries-none.result) c.is_feed_over.result c.epoch.ensures
    (c.rounds.ensures ∙ ap (λ (v : Volatile). v.rounds) c.volatile.ensures) (c.is_round_open-counts.ensures ∙ ap (λ (v : Volatile). v.round_open) c.volatile-2.ensures) c.in_ok-cursor.ensures c.has_entries-none.ensures refl c.is_feed_over.ensures
