-- What a part of an event answers on the whole state, and what it leaves.
use Rattle.std.specs.Prelude.{◌≡◌, Result, Ok, Err}
use Rattle.cf_base.specs.declared.codes.CallError.{CallError}
use Rattle.cf_base.specs.declared.codes.CallError.TheVariants.{No, OutOfMemory}
use Rattle.cf_model.specs.Arrows.{Arrow}
use Rattle.cf_model.specs.State.{Filter, State}
use Rattle.cf_model.specs.Trees.{Does}

-- How a program stands for whole states. `durable` and `moved` are of each moment; `counted` is of where a part ends or stops.
pub record Whole (X : Type 0) : Type 1 where
  pub means : X → State → Type 0
  pub stopped : X → X → State → Type 0
  pub durable : X → State → Type 0
  pub moved : X → X → State → State → Type 0
  pub counted : X → X → State → State → Type 0
  pub endures : (x : X) (s : State) → means x s → durable x s
  pub stays : (x : X) (s : State) → means x s → moved x x s s
  pub goes_on : (x y z : X) (s t u : State) → moved x y s t → moved y z t u → moved x z s u
  pub stops_on : (x y z : X) (s t u : State) → moved x y s t → stopped y z u → stopped x z u
  pub counts_none : (x : X) (s : State) → counted x x s s
  pub counts_on : (x y z : X) (s t u : State) → counted x y s t → counted y z t u → counted x z s u

-- what is left, by the result
abbrev pub After : {X A : Type 0} → Whole X → X → Result A CallError → X → State → State → Type 0
After W old (Ok a) new s t = W.means new t × W.counted old new s t
After W old (Err (No c)) new s t = W.stopped old new t × W.counted old new s t
After W old (Err OutOfMemory) new s t = W.durable new t

-- What stands for a state before stands for one after that the part leads to, where the state has the property.
pub record Answers {X A : Type 0} (W : Whole X) (P : State → Type 0) (f : Arrow State A) (old : X) (r : Result A CallError) (new : X) : Type 0 where
  pub leads : (s : State) → W.means old s → P s → (t : State) × Does (f s) r t × W.moved old new s t × After W old r new s t

-- what a call reads of the state, where it has the property
pub record Reads {X V : Type 0} (W : Whole X) (P : State → Type 0) (v : State → V) (x : X) (r : V) : Type 0 where
  pub is : (s : State) → W.means x s → P s → r ≡ v s

-- every state
abbrev pub Any : State → Type 0
Any s = Unit {0}

-- a property of the filter
abbrev pub On : (Filter → Type 0) → State → Type 0
On P s = P s.filter
