-- A mark or a keep flag of an item, and the step that follows it.
use Rattle.std.specs.Prelude.{◌≡◌, ◌⊎◌, Bool, List, [], ◌∷◌, Option, Some, None, Result, Ok, Err}
use Rattle.cf_ask_rule.specs.Plans.{Planned}
use Rattle.cf_base.specs.declared.changes.Change.{Change}
use Rattle.cf_base.specs.declared.changes.Change.TheVariants as change
use Rattle.cf_base.specs.declared.codes.Code.{Code}
use Rattle.cf_base.specs.declared.codes.Code.TheVariants as code
use Rattle.cf_base.specs.declared.codes.CallError.{CallError}
use Rattle.cf_base.specs.declared.codes.CallError.TheVariants.{OutOfMemory}
use Rattle.cf_base.specs.declared.ids.ItemId.{ItemId}
use Rattle.cf_model.specs.Arrows.{Arrow, then_do, unit}
use Rattle.cf_model.specs.Changes.{changes}
use Rattle.cf_model.specs.Placements.{asking_tests, settle_changed}
use Rattle.cf_model.specs.Requests.{Nothing}
use Rattle.cf_model.specs.State.{Filter}
use Rattle.cf_model.specs.Words.{first_of}
use Rattle.cf_filter_steps.specs.Answering.{Answers, Reads, Sense}
use Rattle.cf_filter_steps.specs.Settled.{IsStepAfter}
use Rattle.cf_filter_steps.specs.Suiting.{Suiting}

-- it marks this item, or sets its keep flag
abbrev pub IsFlag : Change → ItemId → Type 0
IsFlag (change.Mark item number) id = item ≡ id
IsFlag (change.Keep item on) id = item ≡ id
IsFlag _ id = ⊥

-- one such change, or none
abbrev pub AreFlags : ItemId → List Change → Type 0
AreFlags id [] = Unit {0}
AreFlags id (c ∷ []) = IsFlag c id
AreFlags id (c ∷ d ∷ cs) = ⊥

-- which suits the volume
pub record Flagging (id : ItemId) (cs : List Change) (s : Filter) : Type 0 where
  pub flags : AreFlags id cs
  pub suits : Suiting cs s

abbrev pub asking_refusal : ItemId → List Change → Filter → Option Code
asking_refusal id cs s = first_of (asking_tests id cs s)

-- the code of the first of two refusals
abbrev pub asking_code : Bool → Bool → Option Code
asking_code many none = first_of ((many, code.TooManyAsks) ∷ (none, code.Exhausted) ∷ [])

-- the plan is that of the step on the item after it
pub record LooksWith {X : Type 0} (S : Sense X) (id : ItemId) (cs : List Change) (p : Planned) (x : X) : Type 0 where
  pub is : (s : Filter) → S.means x s → AreFlags id cs → IsStepAfter id cs Nothing p s

-- such a change, and the plan of the step after it
pub record IsAsking (id : ItemId) (cs : List Change) (p : Planned) (s : Filter) : Type 0 where
  pub flagging : Flagging id cs s
  pub step : IsStepAfter id cs Nothing p s

-- which nothing refuses
pub record MayAsk (id : ItemId) (cs : List Change) (s : Filter) : Type 0 where
  pub flagging : Flagging id cs s
  pub free : asking_refusal id cs s ≡ None

pub record MayAskBy (id : ItemId) (cs : List Change) (p : Planned) (s : Filter) : Type 0 where
  pub asking : IsAsking id cs p s
  pub free : asking_refusal id cs s ≡ None

-- the change and the step after it
abbrev pub with_step : ItemId → List Change → Arrow Filter (Unit {0})
with_step id cs = then_do (changes cs) (settle_changed id cs)

-- Both were done; or they are refused, and nothing changed; or a step failed, or there was no memory to begin.
abbrev pub Asks : {X : Type 0} → Sense X → ItemId → List Change → X → Result (Option Code) CallError → X → Type 0
Asks S id cs old (Ok None) new = Reads S (Flagging id cs) (asking_refusal id cs) old None × Answers S (MayAsk id cs) (with_step id cs) old (Ok unit) new
Asks S id cs old (Ok (Some c)) new = Reads S (Flagging id cs) (asking_refusal id cs) old (Some c) × (new ≡ old)
Asks S id cs old (Err e) new = ((e ≡ OutOfMemory) × (new ≡ old)) ⊎ (Reads S (Flagging id cs) (asking_refusal id cs) old None × Answers S (MayAsk id cs) (with_step id cs) old (Err e) new)
