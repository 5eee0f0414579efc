-- What a refusal leaves.
use Rattle.std.specs.Prelude.{Bool, true, false, [], ◌≡◌, ◌≢◌, Some}
use Rattle.cf_base.specs.declared.answers.Answer.{Answer}
use Rattle.cf_base.specs.declared.answers.Shown.{Shown}
use Rattle.cf_base.specs.declared.answers.Shown.TheVariants as shown
use Rattle.cf_base.specs.declared.codes.Code.{Code}
use Rattle.cf_base.specs.declared.codes.Code.TheVariants as code
use Rattle.cf_base.specs.declared.events.Event.{Event}
use Rattle.cf_base.specs.declared.events.Event.TheVariants as event
use Rattle.cf_model.specs.Events.{needs_volume, no_volume}
use Rattle.cf_model.specs.State.{On, State}

abbrev pub is_refused : Shown → Bool
is_refused (shown.Refused c) = true
is_refused _ = false

-- a call of an application, or an event of a provider
abbrev pub is_call : Event → Bool
is_call (event.Call c) = true
is_call (event.Provider e) = true
is_call (event.Device e) = false
is_call (event.Peer e) = false
is_call (event.Engine e) = false

-- all that a user may ask for is as before, and nothing was told
pub record IsLeft (s t : State) : Type 0 where
  pub volume : t.filter.volume ≡ s.filter.volume
  pub handles : t.filter.handles ≡ s.filter.handles
  pub waiting : t.filter.waiting ≡ s.filter.waiting
  pub policy : t.filter.policy ≡ s.filter.policy
  pub connected : t.filter.connected ≡ s.filter.connected
  pub link : t.link ≡ s.link
  pub no_lines : t.filter.notes ≡ []

-- The table of refusals. Where the volume is off or broken: nothing is changed at all. Of a call while no callback is still to be
-- called, with any other code but Device: all is left.
pub record RefusalsLeave (s : State) (e : Event) (a : Answer) (t : State) : Type 0 where
  pub first : (c : Code) → no_volume (needs_volume e) s.power ≡ Some c → t ≡ s
  pub calls : is_call e ≡ true → s.power ≡ On → s.filter.outbox ≡ [] → is_refused a.shown ≡ true → a.shown ≢ shown.Refused code.Device → IsLeft s t
