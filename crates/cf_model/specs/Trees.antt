-- Steps that a device may cut off. What an event or a part of it does is a tree of steps over a state.
use Rattle.std.specs.Prelude.{ℕ, zero, suc, Bool, true, false, List, [], ◌∷◌, Option, Some, None, Result, Ok, Err, ◌≡◌, ◌⊎◌}
use Rattle.cf_base.specs.declared.codes.Code.TheVariants as code
use Rattle.cf_base.specs.declared.codes.CallError.{CallError}
use Rattle.cf_base.specs.declared.codes.CallError.TheVariants.{No, OutOfMemory}
use Rattle.cf_base.specs.declared.messages.Reply.{Reply}

-- what the remote does when it is asked: it replies as its rules say, it fails, or it tells any other reply
pub data Telling : Type 0 where
  AsItKeeps : Telling
  Faults : Telling
  Tells : Reply → Telling

-- Ret: it is over, with a result and the state. Step: one step; the state is the one that a stop of the device in it
-- leaves, the tree is the rest where it passes. Fork: what the rules leave open; the first way is the usual one. Asked: the
-- remote is asked; the rest follows from what it does.
pub data Tree (S A : Type 0) : Type 0 where
  Ret : A → S → Tree S A
  Step : S → Tree S A → Tree S A
  Fork : Tree S A → Tree S A → Tree S A
  Asked : (Telling → Tree S A) → Tree S A

-- the tree, and then what its result and its state lead to
abbrev pub bind : {S A B : Type 0} → Tree S A → (A → S → Tree S B) → Tree S B
bind (Ret a s) g = g a s
bind (Step s p) g = Step s (bind p g)
bind (Fork p q) g = Fork (bind p g) (bind q g)
bind (Asked k) g = Asked (λ x. bind (k x) g)

-- it may end with this result and this state
abbrev pub Ends : {S A : Type 0} → Tree S A → A → S → Type 0
Ends (Ret a s) b t = (b ≡ a) × (t ≡ s)
Ends (Step s p) b t = Ends p b t
Ends (Fork p q) b t = Ends p b t ⊎ Ends q b t
Ends (Asked k) b t = (x : Telling) × Ends (k x) b t

-- the device may stop in it and leave this state
abbrev pub Stops : {S A : Type 0} → Tree S A → S → Type 0
Stops (Ret a s) t = ⊥
Stops (Step s p) t = (t ≡ s) ⊎ Stops p t
Stops (Fork p q) t = Stops p t ⊎ Stops q t
Stops (Asked k) t = (x : Telling) × Stops (k x) t

-- What a program that does the tree answers, and the state that it leaves. Where memory ran out nothing is said.
abbrev pub Does : {S A : Type 0} → Tree S A → Result A CallError → S → Type 0
Does p (Ok a) t = Ends p a t
Does p (Err (No c)) t = (c ≡ code.Device) × Stops p t
Does p (Err OutOfMemory) t = Unit {0}

-- the same part in a larger state
abbrev pub mapped : {S T A : Type 0} → (S → T) → Tree S A → Tree T A
mapped f (Ret a s) = Ret a (f s)
mapped f (Step s p) = Step (f s) (mapped f p)
mapped f (Fork p q) = Fork (mapped f p) (mapped f q)
mapped f (Asked k) = Asked (λ x. mapped f (k x))

-- every state in the tree has the property
abbrev pub Keeps : {S A : Type 0} → (S → Type 0) → Tree S A → Type 0
Keeps P (Ret a s) = P s
Keeps P (Step s p) = P s × Keeps P p
Keeps P (Fork p q) = Keeps P p × Keeps P q
Keeps P (Asked k) = (x : Telling) → Keeps P (k x)

-- What happens of what is left open: after how many steps the device stops (none: it does not), at each fork whether the
-- second way is taken, and what the remote does at each ask. Where the forks are over the first way is taken, where the
-- tellings are over the remote keeps its rules.
pub record Choices : Type 0 where
  pub stop : Option ℕ
  pub forks : List Bool
  pub tellings : List Telling

-- no stop, everywhere the first way, and a remote that keeps its rules and never fails
abbrev pub plainly : Choices
plainly = record { stop = None; forks = []; tellings = [] }

-- the way through the tree by these choices: its result, or none where the device stops, and the state that is left
abbrev pub walk : {S A : Type 0} → Option ℕ → List Bool → List Telling → Tree S A → Option A × S
walk stop forks ts (Ret a s) = (Some a, s)
walk None forks ts (Step s p) = walk None forks ts p
walk (Some zero) forks ts (Step s p) = (None, s)
walk (Some (suc n)) forks ts (Step s p) = walk (Some n) forks ts p
walk stop [] ts (Fork p q) = walk stop [] ts p
walk stop (false ∷ forks) ts (Fork p q) = walk stop forks ts p
walk stop (true ∷ forks) ts (Fork p q) = walk stop forks ts q
walk stop forks [] (Asked k) = walk stop forks [] (k AsItKeeps)
walk stop forks (t ∷ ts) (Asked k) = walk stop forks ts (k t)

abbrev pub play : {S A : Type 0} → Choices → Tree S A → Option A × S
play c p = walk c.stop c.forks c.tellings p
