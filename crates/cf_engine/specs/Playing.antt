-- The engine plays the provider of its mode, and stands for its part of the state as events go on.
use Rattle.std.proofs.Common.{◌≡◌, ◌+◌, ℕ, refl, sym, ◌∙◌, ap, subst}
use Rattle.cf_base.specs.declared.policies.Mode.TheVariants as mode
use Rattle.cf_engine.specs.Actors.{Answers, Holds, Sees, Syncing, acts_of}
use Rattle.cf_engine_host.specs.CallbackLaws.{Plays}
use Rattle.cf_engine_provider.specs.Agencies as agencies
use Rattle.cf_engine_steps.proofs.CallbacksAside.{Aside, aside_of, callback_aside}
use Rattle.cf_engine_steps.proofs.DrainParts as drains
use Rattle.cf_engine_steps.proofs.Lifting.{sees_filter}
use Rattle.cf_engine_steps.specs.States.{Own, event_begun}
use Rattle.cf_filter_events.specs.Actors.{Begins, IsActor, Reopens}
use Rattle.cf_link.specs.Linked.{IsLink}
use Rattle.cf_model.specs.Arrows.{unit}
use Rattle.cf_model.specs.Callbacks.{begin_call, call_back}
use Rattle.cf_model.specs.State.{Filter, Link, State, fresh, with_filter}
use Rattle.cf_model.proofs.TreeLaws.{kept_at_end, kept_at_stop}
use Rattle.cf_remote.specs.Told.{Told}

module _ {R : Type 0} (told : R → Told) where
  pub sees_on : (x : Syncing R) (t : State) (f : Filter) → Sees told x t → Sees told x (with_filter f t)
  sees_on x t f h = record {
    on = h.on;
    agent = sees_filter told x.engine.agent t f h.agent;
    took_done = h.took_done;
    first_clock = h.first_clock;
    volatile = h.volatile;
    next = h.next;
    stray = h.stray;
  }

  -- callbacks

  after : (x y : Syncing R) (t u : State) → Sees told x t → y.engine ≡ record x.engine { agent = y.engine.agent } → y.next ≡ x.next → aside_of u ≡ aside_of t → agencies.Sees told y.engine.agent u → Sees told y u
  after x y t u h rest next same agent = record {
    on = ap (λ (a : Aside). a.1) same ∙ h.on;
    agent = agent;
    took_done = ap (λ (o : Own R). o.took_done) rest ∙ h.took_done ∙ sym (ap (λ (a : Aside). a.2) same);
    first_clock = ap (λ (o : Own R). o.first_clock) rest ∙ h.first_clock ∙ sym (ap (λ (a : Aside). a.3) same);
    volatile = ap (λ (o : Own R). o.volatile) rest ∙ h.volatile ∙ sym (ap (λ (a : Aside). a.0) same);
    next = next ∙ h.next ∙ sym (ap (λ (a : Aside). a.4 + 1) same);
    stray = ap (λ (a : Aside). a.5) same ∙ h.stray;
  }

  plays : Plays (Answers told) (Sees told)
  plays = record {
    called = λ p x asks h. sees_on p x (record x.filter { outbox = asks }) h;
    over = λ p x h. sees_on p x (begin_call x.filter) h;
    ends = λ p q x ask acts t seen sees shows good keeps gives does none.
        let l = (drains.plays told).ends p.engine.agent q.engine.agent x ask acts t seen sees.agent shows good keeps gives.engine.agent does none in
        let kept : aside_of l.0 ≡ aside_of x = kept_at_end (λ (s : State). aside_of s ≡ aside_of x) (call_back ask x) unit l.0 ((callback_aside (aside_of x) ask).keeps x refl) l.3 in
        (l.0, l.1, after p q x l.0 sees gives.engine.rest gives.next kept l.2, l.3);
    stops = λ p q x ask acts t seen sees shows good keeps gives does failed.
        let l = (drains.plays told).stops p.engine.agent q.engine.agent x ask acts t seen sees.agent shows good keeps gives.engine.agent does failed in
        let kept : aside_of l.0 ≡ aside_of x = kept_at_stop (λ (s : State). aside_of s ≡ aside_of x) (call_back ask x) l.0 ((callback_aside (aside_of x) ask).keeps x refl) l.3 in
        (l.0, l.1, after p q x l.0 sees gives.engine.rest gives.next kept l.2, l.3);
  }

  -- between events

  holds_on : (x : Syncing R) (s t : State) → t.link ≡ s.link → t.peer_tokens ≡ s.peer_tokens → Holds told x s → Holds told x t
  holds_on x s t link tokens h = record {
    link = subst (λ (l : Link). IsLink told x.engine.agent.link l) (sym link) h.link;
    next = h.next ∙ ap (λ (n : ℕ). n + 1) (sym tokens);
  }

  pub is_actor : IsActor (Answers told) (acts_of told)
  is_actor = record {
    plays = plays;
    sees_on = sees_on;
    acting = λ x t h. record { mode = h.agent.replays; power = h.on; stray = h.stray; stands = record { held = record { link = h.agent.link; next = h.next }; volatile = h.volatile } };
    stands_on = λ x s t same h. record { held = holds_on x s t same.link same.tokens h.held; volatile = h.volatile ∙ sym same.volatile };
    stands_held = λ x s h. h.held;
    asked = λ x s h. h.link.asks;
    holds_on = holds_on;
    faulted = λ x y seen call did gives. gives.engine.agent.faults;
  }

  pub begins : (x y : Syncing R) → y ≡ record x { engine = event_begun x.engine } → Begins (acts_of told) x y
  begins x y is = subst (λ (z : Syncing R). Begins (acts_of told) x z) (sym is) (λ s mode power h. record {
    on = power;
    agent = record { replays = mode; link = h.held.link; shows_skips = refl; skips = refl };
    took_done = refl;
    first_clock = refl;
    volatile = h.volatile;
    next = h.held.next;
    stray = refl;
  })

  pub reopens : (x y : Syncing R) → y ≡ record x { engine = record x.engine { volatile = fresh } } → Reopens (acts_of told) x y
  reopens x y is = subst (λ (z : Syncing R). Reopens (acts_of told) x z) (sym is) (λ s p epoch mode h. record { held = record { link = h.link; next = h.next }; volatile = refl })
