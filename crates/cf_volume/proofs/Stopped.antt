-- Answers of calls that were stopped.
use Rattle.std.proofs.Common.{◌≡◌, refl, sym, ap, subst}
use Rattle.std.specs.Prelude.{Err, IfErr, IsErrAnd, Ok, OnErr, Result}
use Rattle.cf_base.specs.declared.codes.Code.{Code}
use Rattle.cf_base.specs.declared.codes.Code.TheVariants as code
use Rattle.cf_base.specs.declared.codes.CallError.{CallError}
use Rattle.cf_base.specs.declared.codes.CallError.TheVariants as fail
use Rattle.cf_volume_points.specs.declared.stops.Stop.{Stop}
use Rattle.cf_volume_points.specs.declared.stops.Stop.TheVariants.{Device, OutOfMemory}
use Rattle.cf_volume_changes.specs.Calls.{IsFullness, IsRefused, StopsOnly, fail_of}

-- a want of room is no failure of the device
pub not_device : (c : Code) → IsFullness c → c ≡ code.Device → ⊥
not_device c full is = subst IsFullness is full

-- a stop is that of the device, or no memory was left
pub failed_stop : (s : Stop) (e : CallError) → e ≡ fail_of s → StopsOnly e
failed_stop Device e is = subst StopsOnly (sym is) refl
failed_stop OutOfMemory e is = subst StopsOnly (sym is) tt

-- the error of a call is handed on
pub handed_on : {A : Type 0} → (P : CallError → Type 0) (r : Result A CallError) (e : CallError) → IsErrAnd r (λ y. y ≡ e) → P e → IfErr r P
handed_on {A} P (Ok a) e is h = tt
handed_on {A} P (Err y) e is h = subst P (sym is) h

pub refused_as : (e : CallError) (c : Code) → IsRefused e c → e ≡ fail.No c
refused_as fail.OutOfMemory c h = absurd h
refused_as (fail.No code) c h = ap fail.No h

-- what holds however a call ended, holds where it failed
pub on_err : {A E P : Type 0} → (r : Result A E) → P → OnErr r P
on_err {A} {E} {P} (Ok a) h = tt
on_err {A} {E} {P} (Err e) h = h
