use Rattle.std.proofs.Common.{refl, sym, ◌∙◌, ◌∷◌}
use Rattle.cf_model.specs.Store.{RecordedDone, Stored, at_rid, move_to}
use Rattle.cf_remote.specs.Stores.{holding}
use Rattle.cf_remote.proofs.Accepted.{item_free, other_place}
use Rattle.cf_remote.proofs.Doing.{done_is, version_is}
use Rattle.cf_remote.proofs.stores.Store.place.Goals as goal

pub place-requires-clause-free : goal.place-requires-clause-free
place-requires-clause-free c = item_free c.self.inside.shelf c.args.parent c.args.parent c.args.name c.args.name c.args.rid refl refl
    (other_place (holding c.self.inside.shelf c.self.inside.clock c.self.inside.tokens c.self.inside.keep) c.args.rid c.args.parent c.args.name (rw (← c.self.view_is) at c.requires.accepted)).free

pub place-requires-clause-inside : goal.place-requires-clause-inside
place-requires-clause-inside c =
    (other_place (holding c.self.inside.shelf c.self.inside.clock c.self.inside.tokens c.self.inside.keep) c.args.rid c.args.parent c.args.name (rw (← c.self.view_is) at c.requires.accepted)).inside

pub returns : goal.returns
returns c = rw (← c.self.view_is) (done_is (holding c.self.inside.shelf c.self.inside.clock c.self.inside.tokens c.self.inside.keep) c.args.token (move_to (holding c.self.inside.shelf c.self.inside.clock c.self.inside.tokens c.self.inside.keep) c.args.rid c.args.parent c.args.name) c.args.rid c.latest_of-version.result c.place.new.self c.clock_after-clock.result c.place.new.tokens
    refl (version_is c.latest_of-version.result _ c.latest_of-version.ensures.latest)
    (c.in_ok-place.ensures.ok ∙ (λ i. at_rid c.args.rid (λ (s : Stored). record s { parent = c.args.parent; name = c.args.name; changed = c.clock_after-clock.ensures i }) c.self.inside.shelf))
    c.clock_after-clock.ensures (c.in_ok-place.ensures.recorded ∙ (λ i. (c.args.token, RecordedDone c.args.rid (sym (version_is c.latest_of-version.result _ c.latest_of-version.ensures.latest) i)) ∷ c.self.inside.tokens)))
