use Rattle.std.proofs.Common.{ap, sym, ◌∙◌}
use Rattle.cf_filter_events.proofs.Asked.{calls_plainly}
use Rattle.cf_filter_events.proofs.Finished.{a_call}
use Rattle.cf_filter_events.proofs.Hushing.{policy_hush}
use Rattle.cf_base.specs.declared.policies.Mode.{Mode}
use Rattle.cf_model.specs.Calls.{set_policy}
use Rattle.cf_model.specs.State.{in_filter}
use Rattle.cf_filter_events.proofs.places.RunningOn.set_policy.Goals as goal

pub returns : goal.returns
returns g c =
    calls_plainly g.A.Provider.answers g.A.Actor.acts g.met.A.Actor.actor g.G.Ground.state _ (set_policy c.mode.result c.args.policy.now) _ _ _ _ _ _ _ _ (a_call _ _) (policy_hush c.mode.result c.args.policy.now) (λ z m. ap (λ (k : Mode). in_filter (set_policy k c.args.policy.now) z) (m ∙ sym c.mode.ensures)) c.new.ensures c.set_policy-told.ensures c.done.ensures c.answered.ensures
