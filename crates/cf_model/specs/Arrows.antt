-- Parts of an event as arrows from a state to a tree, and the words that join them.
use Rattle.std.specs.Prelude.{Bool, true, false, List, [], ◌∷◌, Option, Some, None, Result, Ok, Err, ◌≡◌}
use Rattle.cf_base.specs.declared.codes.Code.{Code}
use Rattle.cf_base.specs.declared.codes.Code.TheVariants as code
use Rattle.cf_base.specs.declared.codes.CallError.{CallError}
use Rattle.cf_base.specs.declared.codes.CallError.TheVariants.{No, OutOfMemory}
use Rattle.cf_model.specs.Trees.{Tree, Ret, Step, Fork, bind, mapped, Does, Keeps}

abbrev pub Arrow : Type 0 → Type 0 → Type 0
Arrow S A = S → Tree S A

abbrev pub unit : Unit {0}
unit = record {}

-- nothing is done
abbrev pub ret : {S A : Type 0} → A → Arrow S A
ret a s = Ret a s

-- the first, then what its result leads to
abbrev pub seq : {S A B : Type 0} → Arrow S A → (A → Arrow S B) → Arrow S B
seq f g s = bind (f s) g

-- the first, then the second, whatever the first gave
abbrev pub then_do : {S A B : Type 0} → Arrow S A → Arrow S B → Arrow S B
then_do f g s = bind (f s) (λ _ t. g t)

-- what is read of the state leads on
abbrev pub reading : {S A X : Type 0} → (S → X) → (X → Arrow S A) → Arrow S A
reading v g s = g (v s) s

-- one step; a stop in it leaves the state as it was
abbrev pub one : {S : Type 0} → (S → S) → Arrow S (Unit {0})
one f s = Step s (Ret unit (f s))

-- one step in which a stop leaves another state
abbrev pub one_or : {S : Type 0} → (S → S) → (S → S) → Arrow S (Unit {0})
one_or stop f s = Step (stop s) (Ret unit (f s))

-- without a step: the device has no part in it
abbrev pub noted : {S : Type 0} → (S → S) → Arrow S (Unit {0})
noted f s = Ret unit (f s)

-- either; the first is the usual one
abbrev pub either : {S A : Type 0} → Arrow S A → Arrow S A → Arrow S A
either f g s = Fork (f s) (g s)

-- one of the two by a test
abbrev pub choose : {S A : Type 0} → Bool → Arrow S A → Arrow S A → Arrow S A
choose true f g = f
choose false f g = g

-- after a step that was done; else this result
abbrev pub when_ok : {S A : Type 0} → A → Arrow S A → Bool → Arrow S A
when_ok a g true = g
when_ok a g false = ret a

-- only where the test holds; it counts as done where it does not
abbrev pub only_if : {S : Type 0} → Bool → Arrow S Bool → Arrow S Bool
only_if true f = f
only_if false f = ret true

-- the second where the first was done; whether both were
abbrev pub and_then : {S : Type 0} → Arrow S Bool → Arrow S Bool → Arrow S Bool
and_then f g = seq f (when_ok false g)

-- the part of a value that is there, else this result
abbrev pub with_some : {S A X : Type 0} → A → (X → Arrow S A) → Option X → Arrow S A
with_some a f None = ret a
with_some a f (Some x) = f x

-- the refusal, which changes nothing, or the rest
abbrev pub unless : {S A : Type 0} → (Code → A) → Option Code → Arrow S A → Arrow S A
unless refused None f = f
unless refused (Some c) f = ret (refused c)

abbrev pub unless_done : {S : Type 0} → Arrow S (Unit {0}) → Option Code → Arrow S (Option Code)
unless_done f None = seq f (λ _. ret None)
unless_done f (Some c) = ret (Some c)

-- a step, or why it is refused
abbrev pub attempt : {S : Type 0} → (S → Option Code) → Arrow S (Unit {0}) → Arrow S (Option Code)
attempt why f = reading why (unless_done f)

-- each in order
abbrev pub each : {S X : Type 0} → (X → Arrow S (Unit {0})) → List X → Arrow S (Unit {0})
each f [] = ret unit
each f (x ∷ xs) = then_do (f x) (each f xs)

-- the same part in a larger state
abbrev pub lifted : {S T A : Type 0} → (T → S) → (S → T → T) → Arrow S A → Arrow T A
lifted get put f t = mapped (λ s. put s t) (f (get t))

-- What a call told, with a refusal as a value: only Device and out of memory go up.
abbrev pub is_device : Code → Bool
is_device code.Device = true
is_device _ = false

abbrev pub outcome_of : Bool → Code → Result (Option Code) CallError
outcome_of true c = Err (No c)
outcome_of false c = Ok (Some c)

abbrev pub outcome : Result (Unit {0}) CallError → Result (Option Code) CallError
outcome (Ok u) = Ok None
outcome (Err OutOfMemory) = Err OutOfMemory
outcome (Err (No c)) = outcome_of (is_device c) c

-- What stands for a state before stands for one after that the part leads to. A record, so that a search finds it whole.
pub record Answers {X S A : Type 0} (R : X → S → Type 0) (f : Arrow S A) (old : X) (r : Result A CallError) (new : X) : Type 0 where
  pub leads : (s : S) → R old s → (t : S) × Does (f s) r t × R new t

-- what a call reads of the state
pub record Tells {X S V : Type 0} (R : X → S → Type 0) (v : S → V) (x : X) (r : V) : Type 0 where
  pub is : (s : S) → R x s → r ≡ v s

-- each state that the part goes through has the property, where the state before it has it
pub record Preserves {S A : Type 0} (P : S → Type 0) (f : Arrow S A) : Type 0 where
  pub keeps : (s : S) → P s → Keeps P (f s)
