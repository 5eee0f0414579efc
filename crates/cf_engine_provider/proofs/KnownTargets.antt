-- What is known of local items, by the sorted targets of files and of directories.
use Rattle.std.proofs.Common.{◌≡◌, ℕ, suc, ◌≤◌, ◌<◌, ◌+◌, Bool, true, false, not, cond, List, [], ◌∷◌, ◌++◌, ◌||◌, ◌&&◌, ◌==◌, length, get_or, inl, inr, refl, sym, ◌∙◌, ap, arith}
use Rattle.std.specs.Prelude.{Result, Ok, Err, is_ok, filter, map}
use Rattle.std.specs.List.{list_all, list_any}
use Rattle.std.specs.List.Sorted.{IsBinarySearchResult, IsPermutation}
use Rattle.std.specs.Ordering.{nat_cmp}
use Rattle.std.proofs.lemmas.Bool.{cases_lt, eq-eqb, ne_eqb}
use Rattle.std.proofs.lemmas.List.Folds.{list_any-append, list_any_at}
use Rattle.std.proofs.lemmas.List.Sorted.{list_any-IsPermutation, searched}
use Rattle.cf_engine_provider.specs.Listings.{AreAlike, AreSorted, known_as, known_by, targets_in}
use Rattle.cf_base.specs.declared.ids.Rid.{Rid}
use Rattle.cf_base.specs.declared.messages.Entry.{Entry}
use Rattle.cf_model.specs.Fits.{Known, is_known, is_of_kind, same_flag}

abbrev has : ℕ → List ℕ → Bool
has n ns = list_any (λ m. m == n) ns

-- a search of a sorted list

none_among : (ns : List ℕ) (n : ℕ) → ((k : ℕ) → k < length ns → (get_or ns k 0 == n) ≡ false) → has n ns ≡ false
none_among [] n h = refl
none_among (m ∷ ms) n h = both (m == n) (has n ms) (h 0 (omega arith)) (none_among ms n (λ k small. h (suc k) (omega (arith, small)))) where
  both : (a b : Bool) → a ≡ false → b ≡ false → (a || b) ≡ false
  both false false p q = refl
  both true b p q = p
  both false true p q = q

pub found : (ns : List ℕ) (n : ℕ) (r : Result ℕ ℕ) → AreSorted ns → IsBinarySearchResult (λ m. nat_cmp m n) ns r → is_ok r ≡ has n ns
found ns n (Ok i) sorted h =
    let s = searched ns n (Ok i) h sorted in
    sym (list_any_at (λ m. m == n) ns i 0 s.0 (eq-eqb (get_or ns i 0) n s.1))
found ns n (Err i) sorted h =
    let s = searched ns n (Err i) h sorted in
    sym (none_among ns n (λ k small. by k small (s.1) (s.2))) where
      by : (k : ℕ) → k < length ns → ((j : ℕ) → j < i → get_or ns j 0 < n) → ((j : ℕ) → i ≤ j → j < length ns → n < get_or ns j 0) → (get_or ns k 0 == n) ≡ false
      by k small below above = ne_eqb (get_or ns k 0) n (λ e. elim (cases_lt k i) [
        | inl lt ↦ let b : get_or ns k 0 < n = below k lt in omega (arith, b, e)
        | inr le ↦ let a : n < get_or ns k 0 = above k le small in omega (arith, a, e)
      ])

-- items that are known by their targets

as_known : (d : Bool) (ns : List ℕ) (rid : Rid) → is_known (map (known_as d) ns) rid ≡ has rid.0 ns
as_known d [] rid = refl
as_known d (n ∷ ns) rid = ap (λ (b : Bool). (n == rid.0) || b) (as_known d ns rid)

pub known_of_targets : (fs ds : List ℕ) (rid : Rid) → is_known (known_by fs ds) rid ≡ (has rid.0 fs || has rid.0 ds)
known_of_targets fs ds rid =
    list_any-append (λ (k : Known). k.rid.0 == rid.0) (map (known_as false) fs) (map (known_as true) ds) ∙ (λ j. as_known false fs rid j || as_known true ds rid j)

all_joined : (p : Known → Bool) (ks ls : List Known) → list_all p (ks ++ ls) ≡ (list_all p ks && list_all p ls)
all_joined p [] ls = refl
all_joined p (k ∷ ks) ls = ap (λ (b : Bool). p k && b) (all_joined p ks ls) ∙ grouped (p k) (list_all p ks) (list_all p ls) where
  grouped : (a b c : Bool) → (a && (b && c)) ≡ ((a && b) && c)
  grouped true b c = refl
  grouped false b c = refl

-- of the other kind, or of the same
same_kind : (d : Bool) (ns : List ℕ) (e : Entry) → is_of_kind (map (known_as d) ns) e ≡ (same_flag d e.dir || not (has e.rid.0 ns))
same_kind d [] e = sym (or_true (same_flag d e.dir)) where
  or_true : (b : Bool) → (b || true) ≡ true
  or_true true = refl
  or_true false = refl
same_kind d (n ∷ ns) e = ap (λ (b : Bool). (not (n == e.rid.0) || same_flag d e.dir) && b) (same_kind d ns e) ∙ step (n == e.rid.0) (same_flag d e.dir) (has e.rid.0 ns) where
  step : (a f b : Bool) → ((not a || f) && (f || not b)) ≡ (f || not (a || b))
  step true true b = refl
  step true false b = refl
  step false true b = refl
  step false false b = refl

pub kind_of_targets : (fs ds : List ℕ) (e : Entry) → is_of_kind (known_by fs ds) e ≡ cond e.dir (not (has e.rid.0 fs)) (not (has e.rid.0 ds))
kind_of_targets fs ds e =
    all_joined (λ (k : Known). not (k.rid.0 == e.rid.0) || same_flag k.directory e.dir) (map (known_as false) fs) (map (known_as true) ds)
    ∙ (λ j. same_kind false fs e j && same_kind true ds e j) ∙ by e.dir (has e.rid.0 fs) (has e.rid.0 ds) where
      by : (d a b : Bool) → ((same_flag false d || not a) && (same_flag true d || not b)) ≡ cond d (not a) (not b)
      by true true b = refl
      by true false b = refl
      by false a b = refl

-- the targets of known items

split : (ks : List Known) (n : ℕ) → list_any (λ k. k.rid.0 == n) ks ≡ (has n (targets_in false ks) || has n (targets_in true ks))
split [] n = refl
split (k ∷ ks) n = ap (λ (b : Bool). (k.rid.0 == n) || b) (split ks n) ∙ one k.directory where
  one : (d : Bool) → ((k.rid.0 == n) || (has n (targets_in false ks) || has n (targets_in true ks)))
      ≡ (has n (map (λ (x : Known). x.rid.0) (cond (same_flag d false) (k ∷ filter (λ x. same_flag x.directory false) ks) (filter (λ x. same_flag x.directory false) ks)))
      || has n (map (λ (x : Known). x.rid.0) (cond (same_flag d true) (k ∷ filter (λ x. same_flag x.directory true) ks) (filter (λ x. same_flag x.directory true) ks))))
  one true = turned (k.rid.0 == n) (has n (targets_in false ks)) (has n (targets_in true ks)) where
    turned : (a b c : Bool) → (a || (b || c)) ≡ (b || (a || c))
    turned true true c = refl
    turned true false c = refl
    turned false b c = refl
  one false = grouped (k.rid.0 == n) (has n (targets_in false ks)) (has n (targets_in true ks)) where
    grouped : (a b c : Bool) → (a || (b || c)) ≡ ((a || b) || c)
    grouped true b c = refl
    grouped false b c = refl

kind_passes : (a b : Bool) → ((not a || true) && b) ≡ b
kind_passes true b = refl
kind_passes false b = refl

kind_joins : (a b : Bool) → ((not a || false) && not b) ≡ not (a || b)
kind_joins true b = refl
kind_joins false b = refl

kinds : (ks : List Known) (e : Entry) → is_of_kind ks e ≡ cond e.dir (not (has e.rid.0 (targets_in false ks))) (not (has e.rid.0 (targets_in true ks)))
kinds [] e = by e.dir where
  by : (d : Bool) → true ≡ cond d true true
  by true = refl
  by false = refl
kinds (k ∷ ks) e = ap (λ (b : Bool). (not (k.rid.0 == e.rid.0) || same_flag k.directory e.dir) && b) (kinds ks e) ∙ one k.directory e.dir where
  one : (d f : Bool) → ((not (k.rid.0 == e.rid.0) || same_flag d f) && cond f (not (has e.rid.0 (targets_in false ks))) (not (has e.rid.0 (targets_in true ks))))
      ≡ cond f (not (has e.rid.0 (map (λ (x : Known). x.rid.0) (cond (same_flag d false) (k ∷ filter (λ x. same_flag x.directory false) ks) (filter (λ x. same_flag x.directory false) ks)))))
      (not (has e.rid.0 (map (λ (x : Known). x.rid.0) (cond (same_flag d true) (k ∷ filter (λ x. same_flag x.directory true) ks) (filter (λ x. same_flag x.directory true) ks)))))
  one true true = kind_passes (k.rid.0 == e.rid.0) (not (has e.rid.0 (targets_in false ks)))
  one true false = kind_joins (k.rid.0 == e.rid.0) (has e.rid.0 (targets_in true ks))
  one false true = kind_joins (k.rid.0 == e.rid.0) (has e.rid.0 (targets_in false ks))
  one false false = kind_passes (k.rid.0 == e.rid.0) (not (has e.rid.0 (targets_in true ks)))

-- sorted targets know the same
pub alike : (ks : List Known) (fs ds : List ℕ) → IsPermutation (targets_in false ks) fs → IsPermutation (targets_in true ks) ds → AreAlike (known_by fs ds) ks
alike ks fs ds files directories = record {
  known = λ rid. known_of_targets fs ds rid ∙ (λ j. sym (moved false fs files rid.0) j || sym (moved true ds directories rid.0) j) ∙ sym (split ks rid.0);
  kind = λ e. kind_of_targets fs ds e ∙ (λ j. cond e.dir (not (sym (moved false fs files e.rid.0) j)) (not (sym (moved true ds directories e.rid.0) j))) ∙ sym (kinds ks e);
} where
  moved : (d : Bool) (ns : List ℕ) → IsPermutation (targets_in d ks) ns → (n : ℕ) → has n (targets_in d ks) ≡ has n ns
  moved d ns p n = list_any-IsPermutation (λ m. m == n) (targets_in d ks) ns p
