-- An engine as the actor of the command replay, and how it stands for its part of a state.
use Rattle.std.specs.Prelude.{◌≡◌, ◌+◌, ℕ, List, None, false}
use Rattle.cf_base.specs.declared.policies.Mode.TheVariants as mode
use Rattle.cf_engine_provider.specs.Agencies as agencies
use Rattle.cf_engine_steps.specs.Callbacks as callbacks
use Rattle.cf_engine_steps.specs.States.{Own, own_to, told_of}
use Rattle.cf_filter_events.specs.Actors.{Acts}
use Rattle.cf_link.specs.Linked.{IsLink, Linked}
use Rattle.cf_model.specs.Ports.{Act}
use Rattle.cf_model.specs.State.{On, State, fresh}
use Rattle.cf_provider.specs.Sights.{Sight}
use Rattle.cf_provider.specs.declared.outcomes.Callback.{Callback}
use Rattle.cf_remote.specs.Told.{Told}

-- the engine, and the number of the next token of other devices
pub record Syncing (R : Type 0) : Type 0 where
  pub engine : Own R
  pub next : ℕ

-- on this link, nothing is known yet, and no token of other devices was used
abbrev pub new_engine : {R : Type 0} → Linked R → Syncing R
new_engine l = record { engine = record { agent = record { link = l; shows_skips = false; skips = 0 }; took_done = false; first_clock = None; volatile = fresh }; next = 1 }

-- the same with another remote
abbrev pub with_remote : {R S : Type 0} → S → Syncing R → Syncing S
with_remote remote x = record { engine = own_to remote x.engine; next = x.next }

-- while the volume is broken or off: the messages, the remote, and the tokens of other devices
pub record Holds {R : Type 0} (told : R → Told) (x : Syncing R) (s : State) : Type 0 where
  pub link : IsLink told x.engine.agent.link s.link
  pub next : x.next ≡ s.peer_tokens + 1

-- between two events while the volume is open: also what is known until it is opened again
pub record Stands {R : Type 0} (told : R → Told) (x : Syncing R) (s : State) : Type 0 where
  pub held : Holds told x s
  pub volatile : x.engine.volatile ≡ s.volatile

-- within an event: also what is known of it
pub record Sees {R : Type 0} (told : R → Told) (x : Syncing R) (s : State) : Type 0 where
  pub on : s.power ≡ On
  pub agent : agencies.Sees told x.engine.agent s
  pub took_done : x.engine.took_done ≡ s.running.took_done
  pub first_clock : x.engine.first_clock ≡ s.running.first_clock
  pub volatile : x.engine.volatile ≡ s.volatile
  pub next : x.next ≡ s.peer_tokens + 1
  pub stray : s.running.stray ≡ None

abbrev pub acts_of : {R : Type 0} → (R → Told) → Acts (Syncing R)
acts_of told = record { mode = mode.Replay; stands = Stands told; holds = Holds told; sees = Sees told; remote = λ x. told_of told x.engine }

-- it answers a callback as its engine does, and uses up no token of other devices
pub record Answers {R : Type 0} (told : R → Told) (x : Syncing R) (seen : Sight) (call : Callback) (acts : List Act) (y : Syncing R) : Type 0 where
  pub engine : callbacks.Answers told x.engine seen call acts y.engine
  pub next : y.next ≡ x.next
