-- Callbacks of a provider on whatever does the steps of a filter.
use Rattle.std.specs.Prelude.{◌≡◌, Result, Ok, Err}
use Rattle.cf_base.specs.declared.codes.Code.TheVariants as code
use Rattle.cf_base.specs.declared.codes.CallError.{CallError}
use Rattle.cf_base.specs.declared.codes.CallError.TheVariants.{No, OutOfMemory}
use Rattle.cf_engine_host.specs.Callbacks.{Answering, CalledBack, CutBack}
use Rattle.cf_filter_steps.specs.Answering.{Sense}
use Rattle.cf_model.specs.Numbers.{most}
use Rattle.cf_model.specs.State.{Filter}

-- what is left of a state, by the result
abbrev pub DrainedTo : {X P : Type 0} → Sense X → Answering P → P → X → Filter → Result (Unit {0}) CallError → P → X → Filter → Type 0
DrainedTo S answers p x s (Ok u) q y t = CalledBack most answers p s q t × S.means y t
DrainedTo S answers p x s (Err (No c)) q y t = (c ≡ code.Device) × CutBack most answers p s q t × S.stopped x y t
DrainedTo S answers p x s (Err OutOfMemory) q y t = S.durable y t

-- All callbacks were called, or those until an operation of one met Device.
pub record DrainsBy {X P : Type 0} (S : Sense X) (answers : Answering P) (p : P) (x : X) (r : Result (Unit {0}) CallError) (q : P) (y : X) : Type 0 where
  pub leads : (s : Filter) → S.means x s → (t : Filter) × S.moved x y s t × DrainedTo S answers p x s r q y t
