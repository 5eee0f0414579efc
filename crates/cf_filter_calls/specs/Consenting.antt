-- Consent to a dehydration, or none.
use Rattle.std.specs.Prelude.{◌≡◌, Bool, true, ℕ, List, [], ◌∷◌, Some, None}
use Rattle.cf_base.specs.declared.answers.Shown.{Shown}
use Rattle.cf_base.specs.declared.changes.Change.TheVariants as change
use Rattle.cf_base.specs.declared.codes.Code.{Code}
use Rattle.cf_base.specs.declared.codes.Code.TheVariants as code
use Rattle.cf_base.specs.declared.waits.Ask.{Ask}
use Rattle.cf_base.specs.declared.waits.Cause.{Cause}
use Rattle.cf_base.specs.declared.waits.Cause.TheVariants as cause
use Rattle.cf_model.specs.Arrows.{Arrow, then_do}
use Rattle.cf_model.specs.Changes.{changes, no_places}
use Rattle.cf_model.specs.Operations.{checked, done, in_use_beside, second_verdict}
use Rattle.cf_model.specs.Requests.{Finishes, Live, is_dehydrate, live_of}
use Rattle.cf_model.specs.Settling.{settle}
use Rattle.cf_model.specs.State.{Filter}
use Rattle.cf_filter_steps.specs.Suiting.{ReadyAll}

-- the live ask of a dehydration
pub record IsConsent (ask : Ask) (a : Live) (s : Filter) : Type 0 where
  pub live : live_of s.waiting.asks ask.key ≡ Some a
  pub same : a.ask ≡ ask
  pub kind : is_dehydrate a.ask.kind ≡ true

-- which the verdict allows
pub record MayConsent (ask : Ask) (a : Live) (s : Filter) : Type 0 where
  pub consent : IsConsent ask a s
  pub clear : second_verdict a s ≡ None

-- what uses its file, but for its own wait
abbrev pub used_beside : Live → Filter → Bool
used_beside a s = in_use_beside a.ask.item a.wait s

abbrev pub lacks_places : Filter → Bool
lacks_places s = no_places s.volume 0

-- the refusal of so many changes
abbrev pub consent_room : ℕ → Filter → List (Bool × Code)
consent_room n s = (no_places s.volume n, code.Exhausted) ∷ []

-- the ask is answered, and its wait ends so
abbrev pub finished_now : Ask → Cause → Arrow Filter Shown
finished_now ask why = then_do (settle ask.item (Finishes ask.key why)) done

abbrev pub finished_by : Ask → Cause → Arrow Filter Shown
finished_by ask why = checked (consent_room 0) (finished_now ask why)

-- the bytes leave, and then the wait ends
abbrev pub emptied_then : Ask → Arrow Filter Shown
emptied_then ask = then_do (changes (change.Emptied ask.item ask.span.start ask.span.len ∷ [])) (finished_now ask cause.Emptied)

abbrev pub consented : Ask → Arrow Filter Shown
consented ask = checked (consent_room 1) (emptied_then ask)

abbrev pub MayLeave : Ask → Filter → Type 0
MayLeave ask s = ReadyAll (change.Emptied ask.item ask.span.start ask.span.len ∷ []) s
