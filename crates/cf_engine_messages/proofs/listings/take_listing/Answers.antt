use Rattle.std.proofs.Common.{List, subst}
use Rattle.cf_base.specs.declared.items.SeenPath.{SeenPath}
use Rattle.cf_engine_messages.proofs.Entered.{takes_listed}
use Rattle.cf_engine_provider.specs.Parts.{give_entries}
use Rattle.cf_engine_steps.specs.Answering.{Answers, Any}
use Rattle.cf_engine_steps.specs.States.{whole}
use Rattle.cf_engine_messages.proofs.listings.take_listing.Goals as goal

pub returns : goal.returns
returns g c = takes_listed g.S.Steps.sense g.R.Remote.told c.args.key c.args.entries.now c.args.s.now c.give_entries-done.new.s c.args.e.now c.give_entries-done.new.e c.in_ok-list.list c.in_ok-list.seen.items c.give_entries-done.result c.in_ok-list.ensures
    (subst (λ (l : List SeenPath). Answers (whole g.S.Steps.sense g.R.Remote.told) Any (give_entries c.args.key c.in_ok-list.list l) (c.args.s.now, c.args.e.now) c.give_entries-done.result (c.give_entries-done.new.s, c.give_entries-done.new.e)) c.deref.ensures.value c.give_entries-done.ensures)
