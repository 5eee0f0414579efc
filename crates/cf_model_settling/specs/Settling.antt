-- What a silent `sync` or `work` leaves, as its report tells of it.
use Rattle.std.specs.Prelude.{false, true, ◌≡◌, ◌⊎◌}
use Rattle.std.specs.List.{list_any}
use Rattle.cf_base.specs.declared.answers.Answer.{Answer}
use Rattle.cf_base.specs.declared.answers.Shown.TheVariants as shown
use Rattle.cf_base.specs.declared.events.EngineEvent.TheVariants as engine
use Rattle.cf_base.specs.declared.events.Event.{Event}
use Rattle.cf_base.specs.declared.events.Event.TheVariants as event
use Rattle.cf_model.specs.Messages.{no_number}
use Rattle.cf_model.specs.Settled.{is_settled}
use Rattle.cf_model.specs.State.{State}
use Rattle.cf_model_convergence.specs.Hearing.{is_heard}
use Rattle.cf_model_convergence.specs.Quiet.{is_accepted, is_always_populated, is_count}
use Rattle.cf_model_convergence.specs.Trees.{NoneLists}
use Rattle.cf_model_headline.specs.Reports.{Report}
use Rattle.cf_model_laws.specs.Keys.{AreKeysWithin}
use Rattle.cf_model_quiet.specs.LastPass.{ends_silent}

-- No line reports a change, an upload that was done or refused, a step that was left out, a fault, a message that was lost, or a version or bytes
-- that are gone.
abbrev pub IsSilent : Answer → Type 0
IsSilent a = list_any is_heard a.notes ≡ false

-- The link answers at once, and keys and numbers of messages are left. No list call waits, which none does where no policy of FULL population was
-- accepted so far.
pub record IsReady (before : Report) (s t : State) : Type 0 where
  pub inline : s.link.inline ≡ true
  pub keys : AreKeysWithin s.filter
  pub numbers : no_number t ≡ false
  pub lists : (is_always_populated before ≡ true) ⊎ NoneLists s

-- Each item that is neither excluded nor in use agrees with the remote then, and none is counted: so it is after a `sync` of which the last pass is silent,
-- whatever its earlier passes report. Where no policy of FULL population was accepted so far, each live item of the remote is here too, just once.
pub record SettlesIfSilent (before : Report) (s : State) (e : Event) (a : Answer) (t : State) : Type 0 where
  pub sync : e ≡ event.Engine engine.Sync → is_count a.shown ≡ true → IsSilent a → IsReady before s t → (is_settled (is_always_populated before) t ≡ true) × (a.shown ≡ shown.Count 0)
  pub quiet : e ≡ event.Engine engine.Sync → is_count a.shown ≡ true → ends_silent a.notes ≡ true → IsReady before s t → (is_settled (is_always_populated before) t ≡ true) × (a.shown ≡ shown.Count 0)
  pub work : e ≡ event.Engine engine.Work → is_accepted a.shown ≡ true → IsSilent a → IsReady before s t → is_settled (is_always_populated before) t ≡ true
