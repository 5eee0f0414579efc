-- The exits of a `?` in a reader.
use Rattle.std.proofs.Common.{◌≡◌, sym, subst}
use Rattle.std.specs.Prelude.{Result, IfErr, Err, Ok}
use Rattle.std.specs.Result.{IsErrAnd}
use Rattle.std.proofs.lemmas.Result.{err_from_is_err_and}

pub exits : {T E : Type 0} (P : E → Type 0) (r : Result T E) (e : E) → IsErrAnd r (λ y. y ≡ e) → P e → IfErr r P
exits P r e h p = let q = err_from_is_err_and r h in rw q.1 (subst P (sym q.2) p)

pub err_weaker : {T E : Type 0} (P Q : E → Type 0) (r : Result T E) → ((e : E) → P e → Q e) → IfErr r P → IfErr r Q
err_weaker P Q (Ok x) so h = tt
err_weaker P Q (Err e) so h = so e h
