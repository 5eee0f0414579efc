-- An auxiliary record that was not put.
use Rattle.std.proofs.Common.{◌≡◌, true, ◌∙◌, subst}
use Rattle.std.specs.Prelude.{Err, Result}
use Rattle.cf_base.specs.declared.codes.Code.{Code}
use Rattle.cf_base.specs.declared.codes.Code.TheVariants.{TableFull}
use Rattle.cf_base.specs.declared.codes.CallError.{CallError}
use Rattle.cf_base.specs.declared.codes.CallError.TheVariants.{No}
use Rattle.cf_model.specs.Books.{Book}
use Rattle.cf_model.specs.Images.{table_full}
use Rattle.cf_model.specs.State.{Volume}
use Rattle.cf_volume_points.specs.Known.{Known}
use Rattle.cf_volume_changes.specs.AuxPuts.{IsAuxKept, IsAuxPut}

pub aux_refused : (v : Volume) (b : Book) (result : Result (Unit {0}) CallError) (e : CallError) (c : Code) → result ≡ Err e → e ≡ No c → IsAuxPut v b result → table_full v.items b ≡ true
aux_refused v b result e c is refused put = subst (λ (r : Result (Unit {0}) CallError). IsAuxPut v b r) (is ∙ (λ j. Err (refused j))) put

pub aux_kept : (old new : Known) (result : Result (Unit {0}) CallError) (e : CallError) (c : Code) → result ≡ Err e → e ≡ No c → IsAuxKept old result new → (c ≡ TableFull) × (new ≡ old)
aux_kept old new result e c is refused kept = subst (λ (r : Result (Unit {0}) CallError). IsAuxKept old r new) (is ∙ (λ j. Err (refused j))) kept
