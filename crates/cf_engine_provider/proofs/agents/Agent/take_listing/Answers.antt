use Rattle.std.proofs.Common.{[], ◌∙◌, ap}
use Rattle.std.specs.Prelude.{map}
use Rattle.cf_engine_provider.specs.Listings.{paths_from}
use Rattle.cf_model.specs.Fetching.{new_item_of}
use Rattle.cf_engine_provider.proofs.Heard.{gave, not_given}
use Rattle.cf_engine_provider.proofs.agents.Agent.take_listing.Goals as goal

pub returns-then-found : goal.returns-then-found
returns-then-found g c = λ own. ([], g.met.P.Port.stays c.args.port.now, λ ok. not_given g.R.Remote.told c.args.key own c.args.found.now c.args.entries.now c.args.found.now.sends_new c.args.self.now c.if-found.true)

pub returns : goal.returns
returns g c = λ own.
    gave g.R.Remote.told g.P.Port.goes c.args.key own c.args.found.now c.args.entries.now c.args.found.now.sends_new c.in_ok-list.list c.deref-3.result.now c.args.self.now c.give_entries.new.self c.args.port.now c.give_entries.new.port c.give_entries.result c.if-found.false
    (c.in_ok-list.ensures ∙ ap (map new_item_of) (c.deref.ensures.value ∙ c.in_ok-new.ensures))
    (c.deref-3.ensures.value ∙ c.in_ok-seen.ensures ∙ ap (paths_from c.args.found.now.next.0) (c.deref-2.ensures.value ∙ c.in_ok-new.ensures)) c.give_entries.ensures
