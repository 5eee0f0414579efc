-- Rows that stand apart, sorted by path.
use Rattle.std.proofs.Common.{◌≡◌, ℕ, suc, ◌+◌, ◌<◌, ◌≤◌, Bool, true, false, cond, List, [], ◌∷◌, length, get_or, refl, sym, ap, ◌∙◌, arith}
use Rattle.std.specs.Prelude.{Option, Some, None, bytes_eq, sum_by}
use Rattle.std.proofs.lemmas.Cmp.{nat_list_cmp_total}
use Rattle.std.proofs.lemmas.List.Elements.{All-from_recursion, recursion_from_All}
use Rattle.std.proofs.lemmas.List.MinMax.{ranks_by}
use Rattle.std.proofs.lemmas.List.Sorted.{All-permutation, IsPermutation-sym, sorted_far, sum_by-IsPermutation}
use Rattle.std.proofs.lemmas.List.Sums.{sum_by-cons}
use Rattle.std.proofs.lemmas.Map.Text.{is_eq-slice_cmp}
use Rattle.std.specs.Cmp.{IsStrictWeakOrder}
use Rattle.std.specs.Cmp.Lexicographic.{slice_cmp}
use Rattle.std.specs.List.{AllByRecursion}
use Rattle.std.specs.List.Sorted.{IsPermutation, IsSortedBy}
use Rattle.std.specs.Ordering.{is_eq, is_lt, nat_cmp, ordering_reverse}
use Rattle.std.specs.declared.cmp.Ordering.{Ordering}
use Rattle.std.specs.declared.cmp.Ordering.TheVariants.{Less, Equal, Greater}
use Rattle.cf_pair_compare.specs.First.{Comes, Rises, row_at}
use Rattle.cf_pair_compare.specs.declared.path_rows.PathRow.{PathRow}
use Rattle.cf_pair_compare.proofs.Firsts.{equal_text}
use Rattle.cf_pair_trees.specs.Trees.{AreApart, SameRows, at_path}

abbrev pub comes : PathRow → PathRow → Bool
comes a b = is_lt (slice_cmp nat_cmp a.path b.path)

pub comes_ranks : IsStrictWeakOrder comes
comes_ranks = ranks_by nat_list_cmp_total (λ (r : PathRow). r.path)

-- apart

apart_rest : (r : PathRow) (rs : List PathRow) → AreApart (r ∷ rs) → AreApart rs
apart_rest r rs h path = omega (h path, sum_by-cons (at_path path) r rs, arith)

absent : (path : List ℕ) (rs : List PathRow) → sum_by (at_path path) rs ≤ 0 → AllByRecursion (λ (s : PathRow). bytes_eq s.path path ≡ false) rs
absent path [] h = tt
absent path (r ∷ rs) h =
    let sum : sum_by (at_path path) (r ∷ rs) ≡ at_path path r + sum_by (at_path path) rs = sum_by-cons (at_path path) r rs in
    one (bytes_eq r.path path) refl (absent path rs (omega (h, sum, arith)))
  where
    one : (b : Bool) → bytes_eq r.path path ≡ b → AllByRecursion (λ (s : PathRow). bytes_eq s.path path ≡ false) rs → AllByRecursion (λ (s : PathRow). bytes_eq s.path path ≡ false) (r ∷ rs)
    one true e rest =
        let n : at_path path r ≡ 1 = ap (λ (b : Bool). cond b 1 0) e in
        absurd (omega (n, h, sum_by-cons (at_path path) r rs, arith))
    one false e rest = (e, rest)

itself : (p : List ℕ) → bytes_eq p p ≡ true
itself p = sym (is_eq-slice_cmp p p) ∙ one (slice_cmp nat_cmp p p) (nat_list_cmp_total.antisymm p p) where
  one : (o : Ordering) → o ≡ ordering_reverse o → is_eq o ≡ true
  one Equal e = refl
  one Less e = let bad : Less ≡ Greater = e in absurd cc
  one Greater e = let bad : Greater ≡ Less = e in absurd cc

apart_first : (r : PathRow) (rs : List PathRow) → AreApart (r ∷ rs) → AllByRecursion (λ (s : PathRow). bytes_eq s.path r.path ≡ false) rs
apart_first r rs h =
    let n : at_path r.path r ≡ 1 = ap (λ (b : Bool). cond b 1 0) (itself r.path) in
    absent r.path rs (omega (h r.path, sum_by-cons (at_path r.path) r rs, n, arith))

-- in order

later : (r s : PathRow) → comes s r ≡ false → bytes_eq s.path r.path ≡ false → Comes r.path s.path
later r s unless other = one (slice_cmp nat_cmp s.path r.path) refl where
  one : (o : Ordering) → slice_cmp nat_cmp s.path r.path ≡ o → Comes r.path s.path
  one Less e = let bad : true ≡ false = sym (ap is_lt e) ∙ unless in absurd cc
  one Equal e = let bad : true ≡ false = sym (ap is_eq e) ∙ is_eq-slice_cmp s.path r.path ∙ other in absurd cc
  one Greater e = nat_list_cmp_total.antisymm r.path s.path ∙ ap ordering_reverse e

all_later : (r : PathRow) (rs : List PathRow) → ((i : ℕ) → i < length rs → comes (get_or rs i r) r ≡ false) → AllByRecursion (λ (s : PathRow). bytes_eq s.path r.path ≡ false) rs
    → AllByRecursion (λ (s : PathRow). Comes r.path s.path) rs
all_later r [] far apart = tt
all_later r (s ∷ ss) far apart = (later r s (far 0 (omega arith)) apart.0, all_later r ss (λ i l. far (suc i) (omega (l, arith))) apart.1)

rises : (rs : List PathRow) → ((i j : ℕ) (d : PathRow) → i ≤ j → j < length rs → comes (get_or rs j d) (get_or rs i d) ≡ false) → AreApart rs → Rises rs
rises [] far apart = tt
rises (r ∷ rs) far apart = (
  all_later r rs (λ i l. far 0 (suc i) r (omega arith) (omega (l, arith))) (apart_first r rs apart),
  rises rs (λ i j d le l. far (suc i) (suc j) d (omega (le, arith)) (omega (l, arith))) (apart_rest r rs apart),
)

pub sorted_rises : (old new : List PathRow) → IsPermutation old new → IsSortedBy comes new → AreApart old → Rises new
sorted_rises old new perm sorted apart =
    rises new (sorted_far comes comes_ranks new sorted) (λ path. omega (apart path, sum_by-IsPermutation (at_path path) old new perm, arith))

-- look-ups

-- a row of the path is the one that is found
all_found : (path : List ℕ) (rs : List PathRow) → AreApart rs → AllByRecursion (λ (r : PathRow). bytes_eq r.path path ≡ true → row_at rs path ≡ Some r) rs
all_found path [] h = tt
all_found path (r ∷ rs) h = ((λ e. ap (λ (b : Bool). cond b (Some r) (row_at rs path)) e), past rs (all_found path rs (apart_rest r rs h)) (apart_first r rs h)) where
  past : (ss : List PathRow) → AllByRecursion (λ (s : PathRow). bytes_eq s.path path ≡ true → row_at rs path ≡ Some s) ss → AllByRecursion (λ (s : PathRow). bytes_eq s.path r.path ≡ false) ss
      → AllByRecursion (λ (s : PathRow). bytes_eq s.path path ≡ true → row_at (r ∷ rs) path ≡ Some s) ss
  past [] a b = tt
  past (s ∷ ss) a b = (
    λ e. one (bytes_eq r.path path) refl (a.0 e) (ap (λ (p : List ℕ). bytes_eq s.path p) (equal_text s.path path e)) e b.0,
    past ss a.1 b.1,
  ) where
    one : (t : Bool) → bytes_eq r.path path ≡ t → row_at rs path ≡ Some s → bytes_eq s.path s.path ≡ bytes_eq s.path path → bytes_eq s.path path ≡ true → bytes_eq s.path r.path ≡ false → row_at (r ∷ rs) path ≡ Some s
    one true e found q is other =
        let bad : true ≡ false = sym is ∙ ap (λ (p : List ℕ). bytes_eq s.path p) (sym (equal_text r.path path e)) ∙ other in absurd cc
    one false e found q is other = ap (λ (b : Bool). cond b (Some r) (row_at rs path)) e ∙ found

none_there : (path : List ℕ) (rs : List PathRow) → AllByRecursion (λ (r : PathRow). bytes_eq r.path path ≡ false) rs → row_at rs path ≡ None
none_there path [] h = refl
none_there path (r ∷ rs) h = ap (λ (b : Bool). cond b (Some r) (row_at rs path)) h.0 ∙ none_there path rs h.1

-- the first of the path is found, or there is none
looked : (path : List ℕ) (rs : List PathRow) (found : Option PathRow) → AllByRecursion (λ (r : PathRow). bytes_eq r.path path ≡ true → found ≡ Some r) rs
    → (AllByRecursion (λ (r : PathRow). bytes_eq r.path path ≡ false) rs → found ≡ None) → row_at rs path ≡ found
looked path [] found all none = sym (none tt)
looked path (r ∷ rs) found all none = one (bytes_eq r.path path) refl (λ rest. looked path rs found all.1 rest) where
  one : (b : Bool) → bytes_eq r.path path ≡ b → ((AllByRecursion (λ (s : PathRow). bytes_eq s.path path ≡ false) rs → found ≡ None) → row_at rs path ≡ found) → cond (bytes_eq r.path path) (Some r) (row_at rs path) ≡ found
  one true e go = ap (λ (b : Bool). cond b (Some r) (row_at rs path)) e ∙ sym (all.0 e)
  one false e go = ap (λ (b : Bool). cond b (Some r) (row_at rs path)) e ∙ go (λ rest. none (e, rest))

pub permuted_same : (old new : List PathRow) → IsPermutation old new → AreApart old → SameRows old new
permuted_same old new perm apart path =
    looked path new (row_at old path) (moved old new perm Found (all_found path old apart)) (λ none. none_there path old (moved new old (IsPermutation-sym old new perm) (λ (r : PathRow). bytes_eq r.path path ≡ false) none))
  where
    Found : PathRow → Type 0
    Found r = bytes_eq r.path path ≡ true → row_at old path ≡ Some r

    moved : (xs ys : List PathRow) → IsPermutation xs ys → (P : PathRow → Type 0) → AllByRecursion P xs → AllByRecursion P ys
    moved xs ys p P all = recursion_from_All P ys (All-permutation P xs ys p (All-from_recursion P xs all))
