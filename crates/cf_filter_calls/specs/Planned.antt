-- Calls on an item that is there, which make the changes of a plan.
use Rattle.std.specs.Prelude.{◌≡◌, ℕ, Bool, true, false, List, Result, Ok, Err}
use Rattle.cf_base.specs.declared.answers.Shown.{Shown}
use Rattle.cf_base.specs.declared.answers.Shown.TheVariants as shown
use Rattle.cf_base.specs.declared.changes.Change.{Change}
use Rattle.cf_base.specs.declared.codes.Code.{Code}
use Rattle.cf_base.specs.declared.codes.Code.TheVariants as code
use Rattle.cf_base.specs.declared.codes.CallError.{CallError}
use Rattle.cf_base.specs.declared.codes.CallError.TheVariants as fail
use Rattle.cf_base.specs.declared.ids.ItemId.{ItemId}
use Rattle.cf_base.specs.declared.ids.Usn.{Usn}
use Rattle.cf_model.specs.Changes.{next_number, no_places}
use Rattle.cf_model.specs.Items.{Item}
use Rattle.cf_model.specs.LookUp.{Place}
use Rattle.cf_model.specs.Plans.{plan_convert, plan_keep, plan_mark, plan_unmark}
use Rattle.cf_model.specs.State.{Filter}
use Rattle.cf_filter_steps.specs.Answering.{IsAt, Sense}
use Rattle.cf_filter_steps.specs.Finding.{IsPlace}
use Rattle.cf_filter_steps.specs.Good.{IsGood}
use Rattle.cf_filter_steps.specs.Suiting.{SuitsAll}

-- what a plan makes of an item and the state
abbrev pub Plan : Type 0
Plan = Item → Filter → Result (List Change) Code

abbrev pub by_convert : List ℕ → Plan
by_convert identity i s = plan_convert i identity

abbrev pub by_unmark : Plan
by_unmark i s = plan_unmark i

abbrev pub by_mark : Usn → Plan
by_mark n i s = plan_mark i n

abbrev pub by_keep : Bool → Plan
by_keep on i s = plan_keep i on

-- The changes of the plan suit the volume.
pub record PlansSuit (id : ItemId) (plan : Plan) : Type 0 where
  pub suits : (s : Filter) (i : Item) (cs : List Change) → IsGood s → IsAt id i s → plan i s ≡ Ok cs → SuitsAll cs s.volume

-- the item is a file that stands there
abbrev pub IsFileAt : ItemId → Item → Filter → Type 0
IsFileAt id i s = IsAt id i s × (i.directory ≡ false)

-- the place is that name in the open directory with this id
pub record IsPlaceAt (parent : ItemId) (name : List ℕ) (p : Place) (s : Filter) : Type 0 where
  pub named : p.name ≡ name
  pub place : IsPlace s.volume.items parent name p.parent

-- and this number is the next
pub record IsNumberedPlaceAt (next : Usn) (parent : ItemId) (name : List ℕ) (p : Place) (s : Filter) : Type 0 where
  pub place : IsPlaceAt parent name p s
  pub next_is : next ≡ next_number s.volume
  pub left : no_places s.volume 1 ≡ false

-- and no number is left
pub record IsLastPlaceAt (parent : ItemId) (name : List ℕ) (p : Place) (s : Filter) : Type 0 where
  pub place : IsPlaceAt parent name p s
  pub none : no_places s.volume 1 ≡ true

-- a refusal as a value
abbrev pub refusal_of : CallError → Result Shown CallError
refusal_of (fail.No c) = Ok (shown.Refused c)
refusal_of fail.OutOfMemory = Err fail.OutOfMemory

-- what a plan for a new item comes to where no number is left
abbrev pub unnumbered : Result (List Change) CallError → Result Shown CallError
unnumbered (Ok cs) = Ok (shown.Refused code.Exhausted)
unnumbered (Err e) = refusal_of e

-- what a call reads of an item that is there
pub record ReadsAt {X V : Type 0} (S : Sense X) (id : ItemId) (v : Item → V) (x : X) (r : V) : Type 0 where
  pub is : (s : Filter) (i : Item) → S.means x s → IsAt id i s → r ≡ v i

abbrev pub has_entries : Item → Bool
has_entries i = i.directory

abbrev pub stands_for : Item → Bool
stands_for i = i.placeholder
