-- What a program that acts on a filter answers, and what it leaves.
use Rattle.std.specs.Prelude.{◌≡◌, Some, Result, Ok, Err}
use Rattle.cf_base.specs.declared.codes.CallError.{CallError}
use Rattle.cf_base.specs.declared.codes.CallError.TheVariants.{No, OutOfMemory}
use Rattle.cf_base.specs.declared.ids.ItemId.{ItemId}
use Rattle.cf_model.specs.Arrows.{Arrow}
use Rattle.cf_model.specs.Items.{Item, item_of}
use Rattle.cf_model.specs.State.{Filter}
use Rattle.cf_model.specs.Trees.{Does}
use Rattle.cf_filter_steps.specs.Good.{IsGood}

-- How a program stands for states of a filter. `durable` says that whatever a crash leaves now stands for a point that the
-- state may be opened at; `moved` that at each moment from the one to the other it stood for one of a state between them.
pub record Sense (X : Type 0) : Type 1 where
  pub means : X → Filter → Type 0
  -- from the one to the other a device call failed, and nothing more is answered; what was told before stands
  pub stopped : X → X → Filter → Type 0
  pub durable : X → Filter → Type 0
  pub moved : X → X → Filter → Filter → Type 0
  pub good : (x : X) (s : Filter) → means x s → IsGood s
  pub endures : (x : X) (s : Filter) → means x s → durable x s
  pub stays : (x : X) (s : Filter) → means x s → moved x x s s
  pub goes_on : (x y z : X) (s t u : Filter) → moved x y s t → moved y z t u → moved x z s u
  pub stops_on : (x y z : X) (s t u : Filter) → moved x y s t → stopped y z u → stopped x z u

-- what is left, by the result; where the device stopped it, one of its calls failed since the first
abbrev pub After : {X A : Type 0} → Sense X → X → Result A CallError → X → Filter → Type 0
After S old (Ok a) new t = S.means new t
After S old (Err (No c)) new t = S.stopped old new t
After S old (Err OutOfMemory) new t = S.durable new t

-- What stands for a state before stands for one after that the part leads to, where the state has the property.
pub record Answers {X A : Type 0} (S : Sense X) (P : Filter → Type 0) (f : Arrow Filter A) (old : X) (r : Result A CallError) (new : X) : Type 0 where
  pub leads : (s : Filter) → S.means old s → P s → (t : Filter) × Does (f s) r t × S.moved old new s t × After S old r new t

-- what a call reads of the state, where it has the property
pub record Reads {X V : Type 0} (S : Sense X) (P : Filter → Type 0) (v : Filter → V) (x : X) (r : V) : Type 0 where
  pub is : (s : Filter) → S.means x s → P s → r ≡ v s

-- every state
abbrev pub Any : Filter → Type 0
Any s = Unit {0}

-- the item stands there
abbrev pub IsAt : ItemId → Item → Filter → Type 0
IsAt id i s = item_of s.volume.items id ≡ Some i
