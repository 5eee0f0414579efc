-- What stands in order by item, and is told of the rows of items, is what the rows say.
use Rattle.std.proofs.Common.{◌≡◌, ◌≤◌, ◌<◌, ◌+◌, ℕ, Bool, true, false, cond, eqb, List, [], ◌∷◌, Some, None, refl, sym, ◌∙◌, ap, subst, arith}
use Rattle.std.specs.Prelude.{find, ◌==◌}
use Rattle.std.proofs.lemmas.Bool.{eq-eqb, eqb-false, eqb-true, ne_eqb, true≢false}
use Rattle.cf_base.specs.declared.ids.ItemId.{ItemId}
use Rattle.cf_filter_machine.specs.Keeping.{IsRisingBy}
use Rattle.cf_model.specs.Items.{Item, item_of}
use Rattle.cf_model.specs.Words.{part}
use Rattle.cf_filter_steps.specs.Good.{Every}
use Rattle.cf_tree.specs.Trees.{RiseFrom}

same_id : (a b : ItemId) → a.0 ≡ b.0 → a ≡ b
same_id a b h = ap (λ (n : ℕ). record { 0 = n }) h

abbrev IsThere : List Item → ItemId → Type 0
IsThere items id = item_of items id ≡ None → ⊥

-- an item that is there has an id from low on
there_low : (low : ℕ) (items : List Item) (id : ItemId) → RiseFrom low items → IsThere items id → low ≤ id.0
there_low low [] id rise there = absurd (there refl)
there_low low (i ∷ is) id rise there = by (eqb i.id.0 id.0) refl (λ later. there_low (i.id.0 + 1) is id rise.1 later)
  where
    by : (b : Bool) → eqb i.id.0 id.0 ≡ b → (IsThere is id → i.id.0 + 1 ≤ id.0) → low ≤ id.0
    by true e rest = let same = eqb-true i.id.0 id.0 e in let le = rise.0 in omega (arith, same, le)
    by false e rest =
        let later : i.id.0 + 1 ≤ id.0 = rest (λ none. there (ap (λ (b : Bool). cond b (Some i) (item_of is id)) e ∙ none)) in
        let le = rise.0 in omega (arith, later, le)

-- and is among the later ones, unless it is the first
there_later : (i : Item) (is : List Item) (id : ItemId) → (i.id.0 ≡ id.0 → ⊥) → IsThere (i ∷ is) id → IsThere is id
there_later i is id other there none = there (ap (λ (b : Bool). cond b (Some i) (item_of is id)) (ne_eqb i.id.0 id.0 other) ∙ none)

module _ {R A V : Type 0} (key : A → ItemId) (val : A → V) (none : V) (is_none : V → Bool) (make : ItemId → V → A) (row_id : R → ItemId) (get : R → V) where
  abbrev Good : A → Type 0
  Good a = is_none (val a) ≡ false

  abbrev Rises : List A → Type 0
  Rises xs = IsRisingBy (λ a. (key a).0) Good xs

  abbrev look : List A → ItemId → V
  look xs id = part val none (find (λ a. (key a).0 == id.0) xs)

  -- each row is of its item, and tells what stands of it
  abbrev pub Tell : List A → List R → List Item → Type 0
  Tell xs [] [] = Unit {0}
  Tell xs [] (i ∷ is) = ⊥
  Tell xs (r ∷ rs) [] = ⊥
  Tell xs (r ∷ rs) (i ∷ is) = (row_id r ≡ i.id) × (get r ≡ look xs i.id) × Tell xs rs is

  abbrev pub told : List R → List A
  told [] = []
  told (r ∷ rs) = cond (is_none (get r)) (told rs) (make (row_id r) (get r) ∷ told rs)

  none_before : (id : ItemId) (xs : List A) → Every (λ x. id.0 < (key x).0) xs → find (λ a. (key a).0 == id.0) xs ≡ None
  none_before id [] h = refl
  none_before id (x ∷ xs) h =
      let lt = h.0 in ap (λ (b : Bool). cond b (Some x) (find (λ a. (key a).0 == id.0) xs)) (ne_eqb (key x).0 id.0 (λ e. omega (arith, e, lt))) ∙ none_before id xs h.1

  -- of later items tells what is left
  tell_left : (x : A) (xs : List A) (low : ℕ) (rows : List R) (items : List Item) → (key x).0 < low → RiseFrom low items → Tell (x ∷ xs) rows items → Tell xs rows items
  tell_left x xs low [] [] lt rise h = record {}
  tell_left x xs low [] (i ∷ is) lt rise h = absurd h
  tell_left x xs low (r ∷ rs) [] lt rise h = absurd h
  tell_left x xs low (r ∷ rs) (i ∷ is) lt rise h =
      let le = rise.0 in (
        h.0,
        h.1 ∙ ap (λ (b : Bool). part val none (cond b (Some x) (find (λ a. (key a).0 == i.id.0) xs))) (ne_eqb (key x).0 i.id.0 (λ e. omega (arith, e, lt, le))),
        tell_left x xs (i.id.0 + 1) rs is (omega (arith, lt, le)) rise.1 h.2,
      )

  from_lower : (n m : ℕ) (xs : List A) → m < n → Every (λ y. n < (key y).0) xs → Every (λ y. m < (key y).0) xs
  from_lower n m [] lt h = record {}
  from_lower n m (x ∷ xs) lt h = (let k = h.0 in omega (arith, lt, k), from_lower n m xs lt h.1)

  all_later : (i : Item) (is : List Item) (xs : List A) → Every (λ y. i.id.0 < (key y).0) xs → Every (λ y. IsThere (i ∷ is) (key y)) xs → Every (λ y. IsThere is (key y)) xs
  all_later i is [] lt h = record {}
  all_later i is (x ∷ xs) lt h = (let k = lt.0 in there_later i is (key x) (λ e. omega (arith, e, k)) h.0, all_later i is xs lt.1 h.1)

  module _ (again : (a : A) → make (key a) (val a) ≡ a) (empty : is_none none ≡ true) where
    no_more : (rs : List R) (r : R) (v : V) → get r ≡ v → is_none v ≡ true → told (r ∷ rs) ≡ told rs
    no_more rs r v is e = ap (λ (b : Bool). cond b (told rs) (make (row_id r) (get r) ∷ told rs)) (ap is_none is ∙ e)

    one_more : (rs : List R) (r : R) (x : A) → row_id r ≡ key x → get r ≡ val x → Good x → told (r ∷ rs) ≡ x ∷ told rs
    one_more rs r x id is good =
        ap (λ (b : Bool). cond b (told rs) (make (row_id r) (get r) ∷ told rs)) (ap is_none is ∙ good)
        ∙ ap (λ (k : ItemId). make k (get r) ∷ told rs) id ∙ ap (λ (v : V). make (key x) v ∷ told rs) is ∙ ap (λ (a : A). a ∷ told rs) (again x)

    told_again : (rows : List R) (items : List Item) (xs : List A) (low : ℕ) → Tell xs rows items → RiseFrom low items → Rises xs → Every (λ y. IsThere items (key y)) xs → told rows ≡ xs
    told_again [] [] [] low h rise order there = refl
    told_again [] [] (x ∷ xs) low h rise order there = absurd (there.0 refl)
    told_again [] (i ∷ is) xs low h rise order there = absurd h
    told_again (r ∷ rs) [] xs low h rise order there = absurd h
    told_again (r ∷ rs) (i ∷ is) [] low h rise order there = no_more rs r none h.1 empty ∙ told_again rs is [] (i.id.0 + 1) h.2 rise.1 (record {}) (record {})
    told_again (r ∷ rs) (i ∷ is) (x ∷ xs) low h rise order there = by (eqb (key x).0 i.id.0) refl (λ ys tell up known. told_again rs is ys (i.id.0 + 1) tell rise.1 up known)
      where
        shows : (b : Bool) → eqb (key x).0 i.id.0 ≡ b → get r ≡ part val none (cond b (Some x) (find (λ a. (key a).0 == i.id.0) xs))
        shows b e = h.1 ∙ ap (λ (c : Bool). part val none (cond c (Some x) (find (λ a. (key a).0 == i.id.0) xs))) e

        by : (b : Bool) → eqb (key x).0 i.id.0 ≡ b → ((ys : List A) → Tell ys rs is → Rises ys → Every (λ y. IsThere is (key y)) ys → told rs ≡ ys) → told (r ∷ rs) ≡ x ∷ xs
        by true e rest =
            let same : (key x).0 ≡ i.id.0 = eqb-true (key x).0 i.id.0 e in
            let after : Every (λ y. i.id.0 < (key y).0) xs = subst (λ (n : ℕ). Every (λ y. n < (key y).0) xs) same order.1 in
            one_more rs r x (h.0 ∙ same_id i.id (key x) (sym same)) (shows true e) order.0
            ∙ ap (λ (l : List A). x ∷ l)
            (rest xs (tell_left x xs (i.id.0 + 1) rs is (omega (arith, same)) rise.1 h.2) order.2 (all_later i is xs after there.1))
        by false e rest =
            let other = eqb-false (key x).0 i.id.0 e in
            let later : IsThere is (key x) = there_later i is (key x) (λ q. other (sym q)) there.0 in
            let first : i.id.0 + 1 ≤ (key x).0 = there_low (i.id.0 + 1) is (key x) rise.1 later in
            let lt : i.id.0 < (key x).0 = omega (arith, first) in
            let after : Every (λ y. i.id.0 < (key y).0) xs = from_lower (key x).0 i.id.0 xs lt order.1 in
            no_more rs r none (shows false e ∙ ap (part val none) (none_before i.id xs after)) empty
            ∙ rest (x ∷ xs) h.2 order (later, all_later i is xs after there.1)

    -- each is found by its own key

    own_later : (x : A) (xs ys : List A) → Every (λ y. (key x).0 < (key y).0) ys → Every (λ y. look xs (key y) ≡ val y) ys → Every (λ y. look (x ∷ xs) (key y) ≡ val y) ys
    own_later x xs [] lt h = record {}
    own_later x xs (y ∷ ys) lt h =
        let k = lt.0 in
        (ap (λ (b : Bool). part val none (cond b (Some x) (find (λ a. (key a).0 == (key y).0) xs))) (ne_eqb (key x).0 (key y).0 (λ e. omega (arith, e, k))) ∙ h.0, own_later x xs ys lt.1 h.1)

    own_all : (xs : List A) → Rises xs → Every (λ y. look xs (key y) ≡ val y) xs
    own_all [] h = record {}
    own_all (x ∷ xs) h =
        (ap (λ (b : Bool). part val none (cond b (Some x) (find (λ a. (key a).0 == (key x).0) xs))) (eq-eqb (key x).0 (key x).0 refl), own_later x xs xs h.1 (own_all xs h.2))

    all_there : (items : List Item) (all xs : List A) → ((id : ItemId) → item_of items id ≡ None → look all id ≡ none) → Rises xs → Every (λ y. look all (key y) ≡ val y) xs → Every (λ y. IsThere items (key y)) xs
    all_there items all [] known order own = record {}
    all_there items all (x ∷ xs) known order own =
        (λ e. true≢false (sym (ap is_none (sym own.0 ∙ known (key x) e) ∙ empty) ∙ order.0), all_there items all xs known order.2 own.1)

    pub told_is : (rows : List R) (items : List Item) (xs : List A) → Tell xs rows items → RiseFrom 1 items → Rises xs → ((id : ItemId) → item_of items id ≡ None → look xs id ≡ none) → told rows ≡ xs
    told_is rows items xs tell rise order known = told_again rows items xs 1 tell rise order (all_there items xs xs known order (own_all xs order))
