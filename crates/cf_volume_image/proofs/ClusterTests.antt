-- Clusters that are held once.
use Rattle.std.proofs.Common.{◌≡◌, ◌≢◌, ℕ, zero, suc, ◌+◌, ◌<◌, ◌==◌, Bool, true, false, ◌&&◌, ◌||◌, not, List, [], ◌∷◌, ◌++◌, length, get_or, set, drop, replicate, refl, sym, ap, ◌∙◌, append_assoc, arith, eqb, inl, inr, ltb, get_or-set_same, get_or-set_other, length-set}
use Rattle.std.specs.Prelude.{map}
use Rattle.std.specs.List.{list_all, list_any}
use Rattle.std.proofs.lemmas.Bool.{cases_Bool, eq-eqb, eqb-true}
use Rattle.std.proofs.lemmas.Bool.Decides.{nat_tests}
use Rattle.cf_model.specs.Standing.{are_apart, clusters_of}
use Rattle.cf_table.specs.Spelling.{extent_of, row_value}
use Rattle.cf_table.specs.declared.rows.Row.{Row}
use Rattle.cf_volume_image.specs.ClusterLists.{are_free, clusters_in}
use Rattle.cf_volume_image.proofs.Loops.{drop_at}

clusters_are : (pairs : List (ℕ × ℕ)) → map (λ e. e.cluster) (map extent_of pairs) ≡ clusters_in pairs
clusters_are [] = refl
clusters_are (p ∷ ps) = ap (λ v. p.1 ∷ v) (clusters_are ps)

pub clusters_step : (rows : List Row) (i : ℕ) (r : Row) (out new all : List ℕ) → i < length rows → r ≡ get_or rows i r → new ≡ out ++ clusters_in r.extents →
    out ++ clusters_of (map row_value (drop i rows)) ≡ all → new ++ clusters_of (map row_value (drop (i + 1) rows)) ≡ all
clusters_step rows i r out new all lt is puts so =
    ap (λ (o : List ℕ). o ++ clusters_of (map row_value (drop (i + 1) rows))) puts
    ∙ append_assoc out (clusters_in r.extents) (clusters_of (map row_value (drop (i + 1) rows)))
    ∙ ap (λ (l : List ℕ). out ++ (l ++ clusters_of (map row_value (drop (i + 1) rows)))) (sym (clusters_are r.extents))
    ∙ ap (λ (l : List Row). out ++ clusters_of (map row_value l)) (sym (drop_at rows i r lt is)) ∙ so

-- what has no flag is taken
pub free_inside : (taken : List Bool) (n : ℕ) → get_or taken n true ≡ false → n < length taken
free_inside [] n h = let z : true ≡ false = h in absurd cc
free_inside (t ∷ ts) zero h = omega arith
free_inside (t ∷ ts) (suc n) h = let below : n < length ts = free_inside ts n h in omega (arith, below)

abbrev all_free : List Bool → List ℕ → Bool
all_free taken ns = list_all (λ n. not (get_or taken n true)) ns

never : (a : Bool) → (a && false) ≡ false
never true = refl
never false = refl

always : (a : Bool) → (a && true) ≡ a
always true = refl
always false = refl

-- a flag that is set takes one number
module _ (taken : List Bool) (n : ℕ) (inside : n < length taken) where
  free_then : (m : ℕ) → not (get_or (set taken n true) m true) ≡ (not (get_or taken m true) && not (eqb m n))
  free_then m = elim (cases_Bool (eqb m n)) [
    | inl hit ↦
        ap (λ (k : ℕ). not (get_or (set taken n true) k true)) (eqb-true m n hit) ∙ ap (λ b. not b) (get_or-set_same taken n true true inside)
        ∙ sym (ap (λ b. not (get_or taken m true) && not b) hit ∙ never (not (get_or taken m true)))
    | inr miss ↦
        let away : m ≢ n = λ (h : m ≡ n). let z : true ≡ false = sym (eq-eqb m n h) ∙ miss in cc in
        ap (λ b. not b) (get_or-set_other taken n m true true away) ∙ sym (ap (λ b. not (get_or taken m true) && not b) miss ∙ always (not (get_or taken m true)))
  ]

  free_after : (ns : List ℕ) → all_free (set taken n true) ns ≡ (all_free taken ns && not (list_any (λ m. m == n) ns))
  free_after [] = refl
  free_after (m ∷ ms) =
      two (not (get_or (set taken n true) m true)) (not (get_or taken m true)) (eqb m n) (all_free (set taken n true) ms) (all_free taken ms) (list_any (λ x. x == n) ms) (free_then m) (free_after ms) where
        two : (a b c d e f : Bool) → a ≡ (b && not c) → d ≡ (e && not f) → (a && d) ≡ ((b && e) && not (c || f))
        two a true true d e f h k = ap (λ v. v && d) h ∙ sym (never e)
        two a true false d e f h k = ap (λ v. v && d) h ∙ k
        two a false c d e f h k = ap (λ v. v && d) h

  pub free_rest : (ns : List ℕ) → get_or taken n true ≡ false → are_free (set taken n true) ns ≡ are_free taken (n ∷ ns)
  free_rest ns free =
      ap (λ (l : ℕ). all_free (set taken n true) ns && are_apart l ns) (length-set taken n true)
      ∙ by (get_or taken n true) (all_free (set taken n true) ns) (all_free taken ns) (list_any (λ m. m == n) ns) (ltb n (length taken)) (are_apart (length taken) ns) free (free_after ns) below where
        below : ltb n (length taken) ≡ true
        below = grind (arith, nat_tests, inside)

        by : (t a e f l r : Bool) → t ≡ false → a ≡ (e && not f) → l ≡ true → (a && r) ≡ ((not t && e) && (l && not f && r))
        by true a e f l r h k b = let z : true ≡ false = h in absurd cc
        by false a true f true r h k b = ap (λ v. v && r) k
        by false a false f l r h k b = ap (λ v. v && r) k
        by false a true f false r h k b = let z : false ≡ true = b in absurd cc

-- where one is taken they are not free
pub not_free : (taken : List Bool) (n : ℕ) (ns : List ℕ) → true ≡ get_or taken n true → false ≡ are_free taken (n ∷ ns)
not_free taken n ns h = ap (λ t. (not t && all_free taken ns) && are_apart (length taken) (n ∷ ns)) h

none_taken : (limit n : ℕ) → n < limit → get_or (replicate limit false) n true ≡ false
none_taken zero n h = absurd (omega (arith, h))
none_taken (suc l) zero h = refl
none_taken (suc l) (suc n) h = none_taken l n (omega (arith, h))

-- where no flag is set, those are free that are apart
pub free_at_first : (limit : ℕ) (taken : List Bool) (ns : List ℕ) → taken ≡ replicate limit false → are_free taken ns ≡ are_apart limit ns
free_at_first limit taken ns is = ap (λ (l : List Bool). are_free l ns) is ∙ ap (λ (n : ℕ). all_free (replicate limit false) ns && are_apart n ns) (long limit) ∙ all ns where
  long : (n : ℕ) → length (replicate n false) ≡ n
  long zero = refl
  long (suc n) = ap (λ (m : ℕ). suc m) (long n)

  by : (t l m a r : Bool) → (l ≡ true → t ≡ false) → (a && r) ≡ r → ((not t && a) && (l && m && r)) ≡ (l && m && r)
  by t false m a r h k = never (not t && a)
  by t true false a r h k = never (not t && a)
  by t true true a r h k = ap (λ v. (not v && a) && r) (h refl) ∙ k

  all : (xs : List ℕ) → (all_free (replicate limit false) xs && are_apart limit xs) ≡ are_apart limit xs
  all [] = refl
  all (x ∷ xs) = by (get_or (replicate limit false) x true) (ltb x limit) (not (list_any (λ m. m == x) xs)) (all_free (replicate limit false) xs) (are_apart limit xs)
      (λ lt. none_taken limit x (grind (arith, nat_tests, lt))) (all xs)
