-- What exits say.
use Rattle.std.proofs.Common.{◌≡◌, sym, subst, Result, Ok, Err}
use Rattle.std.specs.Prelude.{IfErr, IsErrAnd, OnErr}

pub err_if : {A E : Type 0} (P : E → Type 0) (r : Result A E) (e : E) → IsErrAnd r (λ x. x ≡ e) → P e → IfErr r P
err_if P (Ok x) e is h = absurd is
err_if P (Err x) e is h = subst P (sym is) h

pub err_on : {A E : Type 0} (P : Type 0) (r : Result A E) → P → OnErr r P
err_on P (Ok x) h = tt
err_on P (Err x) h = h
