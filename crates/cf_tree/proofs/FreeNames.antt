-- One of the first conflict names is free: there are no more items than names that are taken.
use Rattle.std.proofs.Common.{◌≡◌, ℕ, zero, suc, ◌+◌, ◌-◌, ◌^◌, ◌≤◌, ◌<◌, Bool, true, false, cond, List, [], ◌∷◌, length, refl, sym, ap, subst, ◌∙◌, arith, eqb, Some, None, Option, inl, inr}
use Rattle.std.specs.Prelude.{find, is_some, map, ◌||◌}
use Rattle.std.specs.List.{IsDistinct, list_any}
use Rattle.std.specs.Str.{bytes_eq}
use Rattle.std.proofs.lemmas.Bool.{and_parts, cases_lt, eqb-true, false_from_ne_true, or_cases, or_left, or_right}
use Rattle.std.proofs.lemmas.Cmp.{nat_list_eq_equiv}
use Rattle.std.proofs.lemmas.List.{length-map}
use Rattle.std.proofs.lemmas.Map.Keys.{IsDistinct-cons}
use Rattle.std.proofs.lemmas.Map.Made.{length-le_from_is_member}
use Rattle.std.proofs.lemmas.Slice.Eq.{bytes_eq-Decides}
use Rattle.cf_base.specs.declared.ids.ItemId.{ItemId}
use Rattle.cf_model.specs.ConflictNames.{conflict_name, first_free, with_number}
use Rattle.cf_model.specs.Items.{Item}
use Rattle.cf_model.specs.LookUp.{child_of, is_child_named}
use Rattle.cf_model.specs.Words.{same}
use Rattle.cf_table.specs.Tables.{MeansAll, id_of, is_child_row}
use Rattle.cf_table.specs.declared.rows.Row.{Row}
use Rattle.cf_tree.proofs.Alike.{BothMean, rows_by_name}
use Rattle.cf_tree.proofs.Depths.{none_equal}
use Rattle.cf_tree.proofs.NumberedNames.{numbers_apart}

-- the names of the first n numbers, the last first
abbrev first_names : List ℕ → ℕ → List (List ℕ)
first_names name zero = []
first_names name (suc n) = with_number name (suc n) ∷ first_names name n

first_length : (name : List ℕ) (n : ℕ) → length (first_names name n) ≡ n
first_length name zero = refl
first_length name (suc n) = ap suc (first_length name n)

pub record IsNumbered (name q : List ℕ) (n : ℕ) : Type 0 where
  pub number : ℕ
  pub some : 1 ≤ number
  pub few : number ≤ n
  pub is : q ≡ with_number name number

numbered : (name q : List ℕ) (n : ℕ) → list_any (bytes_eq q) (first_names name n) ≡ true → IsNumbered name q n
numbered name q zero h = let z : false ≡ true = h in absurd cc
numbered name q (suc n) h = elim (or_cases (bytes_eq q (with_number name (suc n))) (list_any (bytes_eq q) (first_names name n)) h) [
  | inl hit ↦ record { number = suc n; some = omega arith; few = omega arith; is = (bytes_eq-Decides q (with_number name (suc n))).0 hit }
  | inr more ↦ let r = numbered name q n more in record { number = r.number; some = r.some; few = omega (arith, r.few); is = r.is }
]

first_distinct : (name : List ℕ) (n : ℕ) → n < 2 ^ 32 → IsDistinct bytes_eq (first_names name n)
unfolding IsDistinct
first_distinct name zero lt = tt
first_distinct name (suc n) lt =
    IsDistinct-cons bytes_eq (with_number name (suc n)) (first_names name n)
    (none_equal bytes_eq (with_number name (suc n)) (first_names name n) (false_from_ne_true _ (λ h. let r = numbered name (with_number name (suc n)) n h in
    let e = numbers_apart name (suc n) r.number lt (omega (arith, r.few)) r.is in omega (arith, r.few, e))))
    (first_distinct name n (omega arith))

-- a name that is taken is that of an item

pub same_is : (xs ys : List ℕ) → same xs ys ≡ true → xs ≡ ys
same_is [] [] h = refl
same_is [] (y ∷ ys) h = let z : false ≡ true = h in absurd cc
same_is (x ∷ xs) [] h = let z : false ≡ true = h in absurd cc
same_is (x ∷ xs) (y ∷ ys) h = let p = and_parts (eqb x y) (same xs ys) h in let e : x ≡ y = eqb-true x y p.0 in let f = same_is xs ys p.1 in λ k. e k ∷ f k

name_listed : (parent : ItemId) (q : List ℕ) (items : List Item) → is_some (child_of items parent q) ≡ true → list_any (bytes_eq q) (map (λ i. i.name) items) ≡ true
name_listed parent q [] h = let z : false ≡ true = h in absurd cc
name_listed parent q (x ∷ xs) h = two (is_child_named parent q x) refl (λ k. name_listed parent q xs k) h where
  two : (b : Bool) → is_child_named parent q x ≡ b → (is_some (child_of xs parent q) ≡ true → list_any (bytes_eq q) (map (λ i. i.name) xs) ≡ true) → is_some (cond b (Some x) (child_of xs parent q)) ≡ true →
      (bytes_eq q x.name || list_any (bytes_eq q) (map (λ i. i.name) xs)) ≡ true
  two true e rest k = or_left _ _ ((bytes_eq-Decides q x.name).1 (sym (same_is x.name q (and_parts (eqb x.parent.0 parent.0) (same x.name q) e).1)))
  two false e rest k = or_right _ _ (rest k)

pub few_taken : (items : List Item) (parent : ItemId) (name : List ℕ) (n : ℕ) → n < 2 ^ 32 → ((k : ℕ) → 1 ≤ k → k ≤ n → is_some (child_of items parent (with_number name k)) ≡ true) → n ≤ length items
few_taken items parent name n lt taken =
    let le : length (first_names name n) ≤ length (map (λ i. i.name) items) =
    length-le_from_is_member nat_list_eq_equiv (first_names name n) (map (λ i. i.name) items) (first_distinct name n lt)
    (λ q h. let r = numbered name q n h in subst (λ v. list_any (bytes_eq v) (map (λ i. i.name) items) ≡ true) (sym r.is) (name_listed parent (with_number name r.number) items (taken r.number r.some r.few))) in
    omega (arith, first_length name n, length-map items (λ i. i.name))

-- the search ends at the first free name

abbrev goes_on : ℕ → List Item → ItemId → List ℕ → ℕ → Option Item → List ℕ
goes_on fuel items parent name n o = elim o as (λ _. List ℕ) [ None ↦ with_number name n | Some i ↦ first_free fuel items parent name (n + 1) ]

taken_on : (fuel : ℕ) (items : List Item) (parent : ItemId) (name : List ℕ) (n : ℕ) (o : Option Item) → is_some o ≡ true → goes_on fuel items parent name n o ≡ first_free fuel items parent name (n + 1)
taken_on fuel items parent name n None h = let z : false ≡ true = h in absurd cc
taken_on fuel items parent name n (Some i) h = refl

free_found : (fuel : ℕ) (items : List Item) (parent : ItemId) (name : List ℕ) (from n : ℕ) → from ≤ n → n ≤ from + fuel → ((k : ℕ) → from ≤ k → k < n → is_some (child_of items parent (with_number name k)) ≡ true) → child_of items parent (with_number name n) ≡ None →
    first_free fuel items parent name from ≡ with_number name n
free_found zero items parent name from n le more taken free = let e : from ≡ n = omega arith in ap (with_number name) e
free_found (suc fuel) items parent name from n le more taken free = elim (cases_lt from n) [
  | inl lt ↦ taken_on fuel items parent name from (child_of items parent (with_number name from)) (taken from (omega arith) lt)
      ∙ free_found fuel items parent name (from + 1) n (omega arith) (omega arith) (λ k a b. taken k (omega arith) b) free
  | inr ge ↦ let e : from ≡ n = omega arith in
      ap (goes_on fuel items parent name from) (ap (λ k. child_of items parent (with_number name k)) e ∙ free) ∙ ap (with_number name) e
]

pub some_id : (o : Option Row) → is_some (id_of o) ≡ is_some o
some_id None = refl
some_id (Some r) = refl

some_alike : (o : Option Row) (p : Option Item) → BothMean o p → is_some o ≡ is_some p
some_alike None None h = refl
some_alike None (Some i) h = absurd h
some_alike (Some r) None h = absurd h
some_alike (Some r) (Some i) h = refl

none_of : (p : Option Item) → is_some p ≡ false → p ≡ None
none_of None h = refl
none_of (Some i) h = let z : true ≡ false = h in absurd cc

pub conflict_is : (rows : List Row) (items : List Item) (parent : ItemId) (name : List ℕ) (n : ℕ) → MeansAll rows items → 1 ≤ n → n < 2 ^ 32 → ((k : ℕ) → 1 ≤ k → k < n → is_some (find (is_child_row parent (with_number name k)) rows) ≡ true) →
    is_some (find (is_child_row parent (with_number name n)) rows) ≡ false → with_number name n ≡ conflict_name items parent name
conflict_is rows items parent name n m some lt taken free =
    let alike : (k : ℕ) → is_some (find (is_child_row parent (with_number name k)) rows) ≡ is_some (child_of items parent (with_number name k)) =
    λ k. some_alike _ _ (rows_by_name rows items parent (with_number name k) m) in
    let before : (k : ℕ) → 1 ≤ k → k < n → is_some (child_of items parent (with_number name k)) ≡ true = λ k a b. sym (alike k) ∙ taken k a b in
    let few : n - 1 ≤ length items = few_taken items parent name (n - 1) (omega arith) (λ k a b. before k a (omega arith)) in
    sym (free_found (length items) items parent name 1 n some (omega arith) before (none_of _ (sym (alike n) ∙ free)))
