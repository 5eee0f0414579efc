-- Clusters that are held once are apart, and stay so as lists change.
use Rattle.std.proofs.Common.{◌≡◌, ℕ, ◌+◌, ◌≤◌, Bool, true, false, not, ◌&&◌, ◌||◌, ◌==◌, cond, List, [], ◌∷◌, ◌++◌, length, map, refl, sym, ◌∙◌, ap, subst, arith, eqb, ltb, inl, inr}
use Rattle.std.specs.List.{list_any}
use Rattle.std.specs.Prelude.{slice_index_or}
use Rattle.std.proofs.lemmas.Bool.{eq-eqb, lt-ltb, cases_lt}
use Rattle.std.proofs.lemmas.List.Concat.{flat_map-cons}
use Rattle.std.proofs.Math.ListN.{get_or-eq_default}
use Rattle.cf_clusters.specs.Roles.{is_now}
use Rattle.cf_clusters.specs.declared.uses.Use.{Use}
use Rattle.cf_clusters.specs.declared.uses.Use.TheVariants.{Free, Held, Staged, Dropped}
use Rattle.cf_model.specs.Rows.{Extent}
use Rattle.cf_model.specs.Rows as model
use Rattle.cf_model.specs.Standing.{are_apart, clusters_of}
use Rattle.cf_volume_points.specs.Clusters.{Owns, clusters_in_rows, once, times}
use Rattle.cf_volume_points.proofs.Frames.{cluster_names, clusters_more}
use Rattle.cf_table.specs.Spelling.{row_value}
use Rattle.cf_table.specs.declared.rows.Row.{Row}

pub times-append : (k : ℕ) (xs ys : List ℕ) → times k (xs ++ ys) ≡ times k xs + times k ys
times-append k [] ys = let e : times k ys ≡ 0 + times k ys = omega arith in e
times-append k (x ∷ xs) ys = let h = times-append k xs ys in omega (arith, h)

none_any : (k : ℕ) (xs : List ℕ) → times k xs ≡ 0 → list_any (λ m. m == k) xs ≡ false
none_any k [] h = refl
none_any k (x ∷ xs) h = by (eqb x k) (times k xs) h (none_any k xs)
  where
    by : (b : Bool) (n : ℕ) → cond b 1 0 + n ≡ 0 → (n ≡ 0 → list_any (λ m. m == k) xs ≡ false) → (b || list_any (λ m. m == k) xs) ≡ false
    by true n z f = absurd (omega (arith, z))
    by false n z f = f (omega (arith, z))

same_number : (k : ℕ) → eqb k k ≡ true
same_number k = eq-eqb k k refl

pub head_once : (k : ℕ) (ks : List ℕ) → times k (k ∷ ks) ≡ 1 + times k ks
head_once k ks = ap (λ (b : Bool). cond b 1 0 + times k ks) (same_number k)

pub apart : (n : ℕ) (ks : List ℕ) → ((k : ℕ) → times k ks ≤ 1) → ((k : ℕ) → n ≤ k → times k ks ≡ 0) → are_apart n ks ≡ true
apart n [] most past = refl
apart n (k ∷ ks) most past =
    three (ltb k n) (list_any (λ m. m == k) ks) (are_apart n ks)
    (elim (cases_lt k n) [ inl low ↦ lt-ltb k n low | inr high ↦ absurd (omega (arith, head_once k ks, past k high)) ])
    (none_any k ks (omega (arith, head_once k ks, most k)))
    (apart n ks (λ j. more j (most j)) (λ j high. none j (past j high)))
  where
    three : (a b c : Bool) → a ≡ true → b ≡ false → c ≡ true → (a && not b && c) ≡ true
    three a b c p q r = grind (arith, p, q, r)

    more : (j : ℕ) → times j (k ∷ ks) ≤ 1 → times j ks ≤ 1
    more j h = omega (arith, h)

    none : (j : ℕ) → times j (k ∷ ks) ≡ 0 → times j ks ≡ 0
    none j h = omega (arith, h)

pub one_use : (u : Use) → cond (is_now u) 1 0 ≤ 1
one_use Free = omega arith
one_use Held = omega arith
one_use Staged = omega arith
one_use Dropped = omega arith

pub none_past : (uses : List Use) (k : ℕ) → length uses ≤ k → once uses k ≡ 0
none_past uses k high = let e : slice_index_or uses k Free ≡ Free = get_or-eq_default uses Free high in by (slice_index_or uses k Free) e
  where
    by : (u : Use) → u ≡ Free → ◌≡◌ {A = ℕ} (cond (is_now u) 1 0) 0
    by u e = subst (λ (w : Use). ◌≡◌ {A = ℕ} (cond (is_now w) 1 0) 0) (sym e) refl

pub owned_apart : (uses : List Use) (ks : List ℕ) → Owns uses ks → are_apart (length uses) ks ≡ true
owned_apart uses ks owns = apart (length uses) ks
    (λ k. let h = owns k in let u = one_use (slice_index_or uses k Free) in omega (arith, h, u))
    (λ k high. owns k ∙ none_past uses k high)

pub row_clusters : (rows : List Row) → clusters_of (map row_value rows) ≡ clusters_in_rows rows
row_clusters [] = refl
row_clusters (r ∷ rs) =
    flat_map-cons (λ (x : model.Row). map (λ (e : Extent). e.cluster) x.extents) (row_value r) (map row_value rs)
    ∙ (λ i. cluster_names r.extents i ++ row_clusters rs i) ∙ sym (clusters_more r rs)
