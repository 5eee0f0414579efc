use Rattle.std.proofs.Common.{refl, sym, subst}
use Rattle.cf_base.specs.declared.changes.Change.{Change}
use Rattle.cf_base.specs.declared.changes.Change.TheVariants as change
use Rattle.cf_model.specs.Changes.{next_number}
use Rattle.cf_model.specs.Effects.{made, size_made}
use Rattle.cf_model.specs.Items.{pin_of}
use Rattle.cf_volume_changes.proofs.Arrived.{make_arrives}
use Rattle.cf_volume_changes.specs.Calls.{IsPut}
use Rattle.cf_volume_changes.specs.Steady.{known_of}
use Rattle.cf_volume.specs.Accepted.{FollowsAim}
use Rattle.cf_volume.proofs.make.new_items.put_make.Goals as goal

pub returns-clause-put : goal.returns-clause-put
returns-clause-put g c = λ v at.
    subst (λ (x : Change). IsPut x v (g.G.Ground.state c.args.ground.now) (g.G.Ground.state c.args.ground.now) (known_of c.put_new.new.parts) c.put_new.result) (sym c.in-Make.is)
    (c.put_new.ensures.put v (change.Make c.in-Make.item c.in-Make.parent c.in-Make.name c.in-Make.kind c.in-Make.size c.in-Make.identity)
    (made c.in-Make.item c.in-Make.parent c.in-Make.name c.in-Make.kind c.in-Make.size c.in-Make.identity (pin_of v.items c.in-Make.parent) (next_number v)) (size_made c.in-Make.kind c.in-Make.size) at
    (make_arrives (g.G.Ground.state c.args.ground.now) (known_of c.args.parts.now) v c.in_ok-row-in-Make.row c.in-Make.item c.in-Make.parent c.in-Make.name c.in-Make.kind c.in-Make.size c.in-Make.identity _ at.now refl c.in_ok-row-in-Make.ensures.means))

pub returns-clause-aimed : goal.returns-clause-aimed
returns-clause-aimed g c = λ v.
    subst (λ (x : Change). FollowsAim x v (g.G.Ground.state c.args.ground.now) c.put_new.result) (sym c.in-Make.is)
    (c.put_new.ensures.aimed v (change.Make c.in-Make.item c.in-Make.parent c.in-Make.name c.in-Make.kind c.in-Make.size c.in-Make.identity) refl)
