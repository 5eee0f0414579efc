-- What comparisons answer in the rows.
use Rattle.std.proofs.Common.{◌≡◌, ◌++◌, ℕ, Bool, true, false, cond, List, [], ◌∷◌, refl, sym, ap, ◌∙◌, subst}
use Rattle.std.specs.Prelude.{Option, Some, None, bytes_eq, codes}
use Rattle.std.proofs.lemmas.Cmp.{nat_list_cmp_total}
use Rattle.std.proofs.lemmas.Map.Text.{is_eq-slice_cmp}
use Rattle.std.specs.Ordering.{is_eq, ordering_reverse}
use Rattle.cf_base.specs.declared.codes.Code.{Code}
use Rattle.cf_model.specs.State.{State}
use Rattle.cf_pair_compare.specs.First.{Agree, Comes, IsFirst}
use Rattle.cf_pair_compare.specs.declared.path_rows.PathRow.{PathRow}
use Rattle.cf_pair_events.specs.declared.comparisons.Comparison.{Comparison}
use Rattle.cf_pair_events.specs.declared.comparisons.Comparison.TheVariants as comparison
use Rattle.cf_pair_traces.specs.Pairs.{Compares, ComparesBy, no_comparison, path_rows}
use Rattle.cf_pair_rows.specs.Scripts.{file_n, left_by, new_d, new_file, plain_d}

compares_by : (s t : State) (as' bs : List PathRow) (c : Comparison) → no_comparison s.power t.power ≡ None → path_rows s ≡ as' → path_rows t ≡ bs → ComparesBy None as' bs c → Compares s t c
compares_by s t as' bs c on e f h =
    subst (λ (o : Option Code). ComparesBy o (path_rows s) (path_rows t) c) (sym on)
    (subst (λ (l : List PathRow). ComparesBy None l (path_rows t) c) (sym e) (subst (λ (l : List PathRow). ComparesBy None as' l c) (sym f) h))

-- one file at both

same_file : IsFirst (file_n ∷ []) (file_n ∷ []) None
same_file q = one (bytes_eq file_n.path q) where
  one : (b : Bool) → Agree (cond b (Some file_n) None) (cond b (Some file_n) None)
  one true = (refl, refl, refl, refl)
  one false = tt

first_has : path_rows (left_by new_file).first ≡ file_n ∷ []
first_has = refl

second_has : path_rows (left_by new_file).second ≡ file_n ∷ []
second_has = refl

both_on : no_comparison (left_by new_file).first.power (left_by new_file).second.power ≡ None
both_on = refl

pub equal_then : Compares (left_by new_file).first (left_by new_file).second comparison.Equal
equal_then = compares_by (left_by new_file).first (left_by new_file).second (file_n ∷ []) (file_n ∷ []) comparison.Equal both_on first_has second_has same_file

-- and a directory at the second

directory_first : IsFirst (file_n ∷ []) (file_n ∷ plain_d ∷ []) (Some (codes "/d"))
directory_first = (λ h. h, λ q c. one (bytes_eq file_n.path q) (bytes_eq plain_d.path q) (other q c)) where
  other : (q : List ℕ) → Comes q (codes "/d") → bytes_eq (codes "/d") q ≡ false
  other q c = sym (is_eq-slice_cmp (codes "/d") q) ∙ ap is_eq (nat_list_cmp_total.antisymm (codes "/d") q ∙ ap ordering_reverse c)

  one : (b d : Bool) → d ≡ false → Agree (cond b (Some file_n) None) (cond b (Some file_n) (cond d (Some plain_d) None))
  one true d e = (refl, refl, refl, refl)
  one false true e = let bad : true ≡ false = e in absurd cc
  one false false e = tt

first_has_still : path_rows (left_by (new_file ++ new_d)).first ≡ file_n ∷ []
first_has_still = refl

second_has_more : path_rows (left_by (new_file ++ new_d)).second ≡ file_n ∷ plain_d ∷ []
second_has_more = refl

both_on_still : no_comparison (left_by (new_file ++ new_d)).first.power (left_by (new_file ++ new_d)).second.power ≡ None
both_on_still = refl

pub unequal_then : Compares (left_by (new_file ++ new_d)).first (left_by (new_file ++ new_d)).second (comparison.Unequal (codes "/d"))
unequal_then =
    compares_by (left_by (new_file ++ new_d)).first (left_by (new_file ++ new_d)).second (file_n ∷ []) (file_n ∷ plain_d ∷ []) (comparison.Unequal (codes "/d")) both_on_still first_has_still second_has_more directory_first
