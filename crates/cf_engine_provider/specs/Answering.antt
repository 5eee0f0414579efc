-- By which acts the engine answers a callback.
use Rattle.std.specs.Prelude.{◌≡◌, ◌<◌, ◌^◌, List, Option, option_map}
use Rattle.cf_engine_provider.specs.Agencies.{Agency, Plays}
use Rattle.cf_base.specs.declared.ids.Key.{Key}
use Rattle.cf_base.specs.declared.spans.Span.{Span}
use Rattle.cf_base.specs.declared.waits.Ask.{Ask}
use Rattle.cf_provider.specs.Sights.{Shows, Sight, callback_of}
use Rattle.cf_provider.specs.declared.outcomes.Callback.{Callback}
use Rattle.cf_model.specs.Agents.{agent}
use Rattle.cf_model.specs.Ports.{Act}
use Rattle.cf_model.specs.Requests.{live_of}
use Rattle.cf_model.specs.State.{Filter}
use Rattle.cf_engine_queue.specs.Records.{IsKeepable}
use Rattle.cf_remote.specs.Told.{Told}

-- the numbers of a request hold where the ask begins, and how long it is
pub record IsShort (span : Span) : Type 0 where
  pub start : span.start < 2 ^ 32
  pub len : span.len < 2 ^ 32

-- What is seen as the callback begins is so of the filter, whose book its records keep.
pub record Suits (sight : Sight) (call : Callback) (f : Filter) : Type 0 where
  pub shows : Shows sight f
  pub is : call ≡ callback_of call.ask f
  pub book : IsKeepable f.volume.book

-- the live ask with the key is this
abbrev pub IsLive : Key → Option Ask → Filter → Type 0
IsLive key live f = option_map (λ a. a.ask) (live_of f.waiting.asks key) ≡ live

-- the acts are the engine's callback, from each state that the provider sees
abbrev pub Answers : {R : Type 0} → (R → Told) → Agency R → Sight → Callback → List Act → Agency R → Type 0
Answers told p sight call acts q = Plays told (Suits sight call) (agent call.ask) p acts q
