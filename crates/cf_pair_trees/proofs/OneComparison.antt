-- Two lists differ first at one path.
use Rattle.std.proofs.Common.{◌≡◌, ℕ, List, refl, sym, ap, ◌∙◌}
use Rattle.std.specs.Prelude.{Some}
use Rattle.std.proofs.lemmas.Cmp.{nat_list_cmp_total}
use Rattle.std.proofs.lemmas.Map.Text.{is_eq-slice_cmp}
use Rattle.std.specs.Cmp.Lexicographic.{slice_cmp}
use Rattle.std.specs.Ordering.{is_eq, nat_cmp, ordering_reverse}
use Rattle.std.specs.declared.cmp.Ordering.{Ordering}
use Rattle.std.specs.declared.cmp.Ordering.TheVariants.{Less, Equal, Greater}
use Rattle.cf_pair_compare.specs.First.{IsFirst}
use Rattle.cf_pair_compare.specs.declared.path_rows.PathRow.{PathRow}
use Rattle.cf_pair_compare.proofs.Firsts.{equal_text}
use Rattle.cf_pair_events.specs.declared.comparisons.Comparison.{Comparison}
use Rattle.cf_pair_events.specs.declared.comparisons.Comparison.TheVariants as comparison
use Rattle.cf_pair_trees.specs.Trees.{IsComparison}

paths_once : (as' bs : List PathRow) (p q : List ℕ) → IsFirst as' bs (Some p) → IsFirst as' bs (Some q) → p ≡ q
paths_once as' bs p q x y = one (slice_cmp nat_cmp p q) refl where
  one : (o : Ordering) → slice_cmp nat_cmp p q ≡ o → p ≡ q
  one Less e = absurd (x.0 (y.1 p e))
  one Equal e = equal_text p q (sym (is_eq-slice_cmp p q) ∙ ap is_eq e)
  one Greater e = absurd (y.0 (x.1 q (nat_list_cmp_total.antisymm q p ∙ ap ordering_reverse e)))

pub comparison_once : (as' bs : List PathRow) (c d : Comparison) → IsComparison as' bs c → IsComparison as' bs d → c ≡ d
comparison_once as' bs comparison.Equal comparison.Equal x y = refl
comparison_once as' bs comparison.Equal (comparison.Unequal q) x y = absurd (y.0 (x q))
comparison_once as' bs (comparison.Unequal p) comparison.Equal x y = absurd (x.0 (y p))
comparison_once as' bs (comparison.Unequal p) (comparison.Unequal q) x y = ap (λ (path : List ℕ). comparison.Unequal path) (paths_once as' bs p q x y)
comparison_once as' bs (comparison.Refused c) d x y = absurd x
comparison_once as' bs comparison.Equal (comparison.Refused c) x y = absurd y
comparison_once as' bs (comparison.Unequal p) (comparison.Refused c) x y = absurd y
