use Rattle.std.proofs.Common.{refl, sym, ◌∙◌}
use Rattle.cf_filter_events.proofs.Begun.{begun_counting, begun_faulting, begun_steps, beside_counts, beside_steps, broken_refuses}
use Rattle.cf_filter_events.proofs.Counted.{counts_always, shown_counts, stays}
use Rattle.cf_filter_events.proofs.EventFaults.{faults_always, on_faults, shown_faults}
use Rattle.cf_filter_events.proofs.places.RunningOn.act.Goals as goal

pub returns-then-not-needs_volume-clause-steps : goal.returns-then-not-needs_volume-clause-steps
returns-then-not-needs_volume-clause-steps g c =
    beside_steps g.A.Actor.acts g.G.Ground.state c.args.event.now c.args.self.now.filter c.args.self.now.actor c.beside-told.new.self _ _ c.beside-told.ensures c.known.ensures

pub returns-then-not-needs_volume-clause-counts : goal.returns-then-not-needs_volume-clause-counts
returns-then-not-needs_volume-clause-counts g c = beside_counts g.A.Actor.acts g.G.Ground.state c.args.self.now.filter c.args.self.now.actor _ _ c.known.ensures

pub returns-then-not-needs_volume-clause-faults : goal.returns-then-not-needs_volume-clause-faults
returns-then-not-needs_volume-clause-faults g c =
    on_faults g.A.Actor.acts g.G.Ground.state g.met.A.Actor.actor c.args.self.now.filter c.args.self.now.actor c.beside-told.new.self c.args.event.now _ _ c.beside-told.ensures c.known.ensures

pub returns-then-is_broken-clause-steps : goal.returns-then-is_broken-clause-steps
returns-then-is_broken-clause-steps g c =
    rw c.refused.ensures (broken_refuses g.A.Actor.acts g.G.Ground.state c.args.event.now c.args.self.now c.requires.of (sym c.needs_volume.ensures ∙ c.if-not-needs_volume.false) (sym c.is_broken.ensures ∙ c.if-is_broken.true))

pub returns-then-is_broken-clause-counts : goal.returns-then-is_broken-clause-counts
returns-then-is_broken-clause-counts g c =
    let disk = g.G.Ground.state c.args.self.now.filter.disk in counts_always _ _ _ disk disk (shown_counts _ _ disk disk c.refused.ensures refl (stays disk))

pub returns-then-is_broken-clause-faults : goal.returns-then-is_broken-clause-faults
returns-then-is_broken-clause-faults g c = let n = g.A.Actor.acts.remote c.args.self.now.actor in faults_always _ _ _ n n (shown_faults _ _ n n c.refused.ensures refl refl)

pub returns-clause-steps : goal.returns-clause-steps
returns-clause-steps g c =
    begun_steps g.A.Actor.acts g.G.Ground.state c.args.event.now c.args.self.now.filter c.args.self.now.actor c.begin.new.self c.act_begun-told.new.self _ _ _ _ c.begin.ensures.begins (sym c.is_broken.ensures ∙ c.if-is_broken.false) c.act_begun-told.ensures c.known-2.ensures c.local.ensures

pub returns-clause-counts : goal.returns-clause-counts
returns-clause-counts g c =
    begun_counting g.A.Actor.acts g.G.Ground.state c.args.event.now c.args.self.now.filter c.args.self.now.actor c.begin.new.self c.act_begun-told.new.self _ _ _ _ c.begin.ensures.begins (sym c.is_broken.ensures ∙ c.if-is_broken.false) c.act_begun-told.ensures c.is_broken-2.ensures c.known-2.ensures c.local.ensures

pub returns-clause-faults : goal.returns-clause-faults
returns-clause-faults g c =
    begun_faulting g.A.Actor.acts g.G.Ground.state c.args.event.now c.args.self.now.filter c.args.self.now.actor c.begin.new.self c.act_begun-told.new.self _ _ _ _ c.begin.ensures.begins c.begin.ensures.remote (sym c.is_broken.ensures ∙ c.if-is_broken.false) c.act_begun-told.ensures c.known-2.ensures c.local.ensures
