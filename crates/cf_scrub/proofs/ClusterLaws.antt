-- Clusters that are free one after the other are apart.
use Rattle.std.proofs.Common.{◌≡◌, ℕ, Bool, true, false, ◌||◌, ◌&&◌, not, List, [], ◌∷◌, ◌++◌, refl, sym, ap, subst, ◌∙◌, eqb, ltb, inl, inr}
use Rattle.std.proofs.lemmas.Bool.{cases_Bool, eq-eqb, eqb-true}
use Rattle.std.specs.Prelude.{map}
use Rattle.std.specs.List.{list_any}
use Rattle.cf_model.specs.Rows.{Extent}
use Rattle.cf_model.specs.Standing.{are_apart}
use Rattle.cf_scrub.specs.Blocks.{is_free, is_held, with_held}
use Rattle.cf_scrub.specs.States.{cluster_damages, damage, unless}
use Rattle.cf_scrub.specs.declared.damages.Damage.{Damage}
use Rattle.cf_scrub.specs.declared.damages.DamageKind.{DamageKind}
use Rattle.cf_scrub.specs.declared.damages.DamageKind.TheVariants as kind
use Rattle.cf_scrub.proofs.Bools.{both, either, is_false, left, never, not_true, right, two}

pub passed : (t : Bool) (k : DamageKind) (at : ℕ) → unless t k at ≡ [] → t ≡ true
passed true k at h = refl
passed false k at h = let z : damage k at ∷ [] ≡ [] = h in absurd cc

pub front_none : (xs ys : List Damage) → xs ++ ys ≡ [] → xs ≡ []
front_none [] ys h = refl
front_none (x ∷ xs) ys h = let z : x ∷ (xs ++ ys) ≡ [] = h in absurd cc

pub back_none : (xs ys : List Damage) → xs ++ ys ≡ [] → ys ≡ []
back_none [] ys h = h
back_none (x ∷ xs) ys h = let z : x ∷ (xs ++ ys) ≡ [] = h in absurd cc

-- each is free when those before it are held
abbrev pub all_free : ℕ → List ℕ → List ℕ → Bool
all_free clusters held [] = true
all_free clusters held (n ∷ ns) = is_free clusters held n && all_free clusters (n ∷ held) ns

pub free_from : (clusters : ℕ) (held rest : List ℕ) (es : List Extent) → cluster_damages clusters held es ≡ [] → all_free clusters (with_held held es) rest ≡ true → all_free clusters held (map (λ e. e.cluster) es ++ rest) ≡ true
free_from clusters held rest [] h k = k
free_from clusters held rest (e ∷ es) h k =
    both (is_free clusters held e.cluster) (all_free clusters (e.cluster ∷ held) (map (λ x. x.cluster) es ++ rest))
    (passed (is_free clusters held e.cluster) kind.Cluster e.cluster (front_none (unless (is_free clusters held e.cluster) kind.Cluster e.cluster) (cluster_damages clusters (e.cluster ∷ held) es) h))
    (free_from clusters (e.cluster ∷ held) rest es (back_none (unless (is_free clusters held e.cluster) kind.Cluster e.cluster) (cluster_damages clusters (e.cluster ∷ held) es) h) k)

pub free_told : (clusters : ℕ) (held rest : List ℕ) (es : List Extent) → all_free clusters held (map (λ e. e.cluster) es ++ rest) ≡ true → (cluster_damages clusters held es ≡ []) × (all_free clusters (with_held held es) rest ≡ true)
free_told clusters held rest [] h = (refl, h)
free_told clusters held rest (e ∷ es) h =
    let w = two (is_free clusters held e.cluster) (all_free clusters (e.cluster ∷ held) (map (λ x. x.cluster) es ++ rest)) h in
    let more = free_told clusters (e.cluster ∷ held) rest es w.1 in
    (ap (λ t. unless t kind.Cluster e.cluster ++ cluster_damages clusters (e.cluster ∷ held) es) w.0 ∙ more.0, more.1)

not_in : (clusters n : ℕ) (held ns : List ℕ) → all_free clusters held ns ≡ true → is_held held n ≡ true → list_any (λ m. eqb m n) ns ≡ false
not_in clusters n held [] h k = refl
not_in clusters n held (m ∷ ms) h k =
    let w = two (is_free clusters held m) (all_free clusters (m ∷ held) ms) h in
    elim (cases_Bool (eqb m n)) [
      | inl hit ↦ never (is_held held m) (subst (λ (x : ℕ). is_held held x ≡ true) (sym (eqb-true m n hit)) k) (is_false (is_held held m) (two (ltb m clusters) (not (is_held held m)) w.0).1)
      | inr miss ↦ ap (λ v. v || list_any (λ x. eqb x n) ms) miss ∙ not_in clusters n (m ∷ held) ms w.1 (right (eqb m n) (is_held held n) k)
    ]

pub apart_from : (clusters : ℕ) (held ns : List ℕ) → all_free clusters held ns ≡ true → are_apart clusters ns ≡ true
apart_from clusters held [] h = refl
apart_from clusters held (n ∷ ns) h =
    let w = two (is_free clusters held n) (all_free clusters (n ∷ held) ns) h in
    let v = two (ltb n clusters) (not (is_held held n)) w.0 in
    both (ltb n clusters && not (list_any (λ m. eqb m n) ns)) (are_apart clusters ns)
    (both (ltb n clusters) (not (list_any (λ m. eqb m n) ns)) v.0 (not_true (list_any (λ m. eqb m n) ns) (not_in clusters n (n ∷ held) ns w.1 (left (eqb n n) (is_held held n) (eq-eqb n n refl)))))
    (apart_from clusters (n ∷ held) ns w.1)

second_false : (a b : Bool) → (a || b) ≡ false → b ≡ false
second_false true b h = let z : true ≡ false = h in absurd cc
second_false false b h = h

pub apart_told : (clusters : ℕ) (held ns : List ℕ) → are_apart clusters ns ≡ true → ((n : ℕ) → is_held held n ≡ true → list_any (λ m. eqb m n) ns ≡ false) → all_free clusters held ns ≡ true
apart_told clusters held [] h k = refl
apart_told clusters held (n ∷ ns) h k =
    let w = two (ltb n clusters && not (list_any (λ m. eqb m n) ns)) (are_apart clusters ns) h in
    let v = two (ltb n clusters) (not (list_any (λ m. eqb m n) ns)) w.0 in
    both (is_free clusters held n) (all_free clusters (n ∷ held) ns)
    (both (ltb n clusters) (not (is_held held n)) v.0 (elim (cases_Bool (is_held held n)) [
      | inl hit ↦ never (eqb n n || list_any (λ m. eqb m n) ns) (left (eqb n n) (list_any (λ m. eqb m n) ns) (eq-eqb n n refl)) (k n hit)
      | inr miss ↦ not_true (is_held held n) miss
    ]))
    (apart_told clusters (n ∷ held) ns w.1 (λ x t. elim (either (eqb n x) (is_held held x) t) [
      | inl same ↦ subst (λ (y : ℕ). list_any (λ m. eqb m y) ns ≡ false) (eqb-true n x same) (is_false (list_any (λ m. eqb m n) ns) v.1)
      | inr old ↦ second_false (eqb n x) (list_any (λ m. eqb m x) ns) (k x old)
    ]))
