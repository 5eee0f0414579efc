-- A changed report of a read that is answered in its call fails its sentence.
use Rattle.std.proofs.Common.{◌≡◌, ℕ, List, [], ◌∷◌, ◌++◌, refl, subst, arith}
use Rattle.std.specs.Prelude.{Some, codes}
use Rattle.cf_base.specs.declared.notices.Notice.{Notice}
use Rattle.cf_model.specs.Items.{item_of}
use Rattle.cf_model.specs.Logs.{items_of}
use Rattle.cf_model.specs.Missing.{span_of}
use Rattle.cf_model_headline.specs.Reads.{IsSpanOf, ReadsInCall}
use Rattle.cf_model_headline.specs.Reports.{changes_in, standing}
use Rattle.cf_model_headline_rows.specs.Changed.{file_of, read_wrongly, second, until_written, written}
use Rattle.cf_model_headline_rows.specs.Scripts.{get_f}

no_lines : (front back : List Notice) → [] ≡ front ++ back → front ≡ []
no_lines [] back e = refl
no_lines (m ∷ front) back e = let z : ◌≡◌ {A = List Notice} [] (m ∷ (front ++ back)) = e in cc

stands_so : item_of (items_of (standing until_written ++ changes_in [])) second ≡ Some (file_of written)
stands_so = refl

pub another_byte_in_call : ReadsInCall written.link.remote until_written written get_f read_wrongly → ⊥
another_byte_in_call h =
    let x = h (file_of written) (span_of 0 1) (codes "b") (refl, refl) refl in
    wrong (subst (λ (front : List Notice). IsSpanOf written.link.remote (standing until_written ++ changes_in front) second (span_of 0 1) (codes "b")) (no_lines x.0 x.1 x.2) x.3 (file_of written) stands_so refl)
  where
    wrong : ◌≡◌ {A = List ℕ} (98 ∷ []) (97 ∷ []) → ⊥
    wrong e = let z : ◌≡◌ {A = ℕ} 98 97 = cc in omega (arith, z)
