-- What is found in a list that has changed.
use Rattle.std.proofs.Common.{◌≡◌, ℕ, suc, ◌+◌, ◌≤◌, ◌<◌, Bool, true, false, cond, not, List, [], ◌∷◌, ◌++◌, refl, sym, ap, subst, ◌∙◌, arith, eqb, Some, None, Option}
use Rattle.std.specs.Prelude.{All, filter, find, map}
use Rattle.std.proofs.lemmas.Bool.{cond-true, cond-false, eqb-true, ne_eqb}
use Rattle.cf_base.specs.declared.ids.ItemId.{ItemId}
use Rattle.cf_model.specs.Effects.{changed}
use Rattle.cf_model.specs.Items.{Item, item_of}
use Rattle.cf_model.specs.Words.{greatest, says}
use Rattle.cf_tree.specs.Trees.{RiseFrom}
use Rattle.cf_tree.proofs.Walks.{found_passes}

-- more items

pub find_before : (f : Item → Bool) (xs ys : List Item) (i : Item) → find f xs ≡ Some i → find f (xs ++ ys) ≡ Some i
find_before f [] ys i e = let z : ◌≡◌ {A = Option Item} None (Some i) = e in absurd cc
find_before f (x ∷ xs) ys i e = two (f x) e (λ k. find_before f xs ys i k) where
  two : (b : Bool) → cond b (Some x) (find f xs) ≡ Some i → (find f xs ≡ Some i → find f (xs ++ ys) ≡ Some i) → cond b (Some x) (find f (xs ++ ys)) ≡ Some i
  two true k rest = k
  two false k rest = rest k

pub find_past : (f : Item → Bool) (xs ys : List Item) → find f xs ≡ None → find f (xs ++ ys) ≡ find f ys
find_past f [] ys e = refl
find_past f (x ∷ xs) ys e = two (f x) e (λ k. find_past f xs ys k) where
  two : (b : Bool) → cond b (Some x) (find f xs) ≡ None → (find f xs ≡ None → find f (xs ++ ys) ≡ find f ys) → cond b (Some x) (find f (xs ++ ys)) ≡ find f ys
  two true k rest = let z : ◌≡◌ {A = Option Item} (Some x) None = k in absurd cc
  two false k rest = rest k

pub new_rises : (low : ℕ) (xs : List Item) (new : Item) → RiseFrom low xs → All (λ i. i.id.0 < new.id.0) xs → low ≤ new.id.0 → RiseFrom low (xs ++ new ∷ [])
new_rises low [] new r last le = (le, tt)
new_rises low (x ∷ xs) new r last le = (r.0, new_rises (x.id.0 + 1) xs new r.1 (λ k d lt. last (suc k) d (omega arith)) (let lt = last 0 x (omega arith) in omega arith))

pub new_id : (xs : List Item) (id : ItemId) → All (λ i. i.id.0 < id.0) xs → item_of xs id ≡ None
new_id [] id last = refl
new_id (x ∷ xs) id last = cond-false (eqb x.id.0 id.0) _ _ (ne_eqb x.id.0 id.0 (λ e. let lt = last 0 x (omega arith) in omega arith)) ∙ new_id xs id (λ k d lt. last (suc k) d (omega arith))

-- fewer items

pub find_kept : (f g : Item → Bool) (xs : List Item) (i : Item) → find f xs ≡ Some i → g i ≡ true → find f (filter g xs) ≡ Some i
find_kept f g [] i e h = let z : ◌≡◌ {A = Option Item} None (Some i) = e in absurd cc
find_kept f g (x ∷ xs) i e h = four (f x) (g x) refl refl e (λ k. find_kept f g xs i k h) where
  four : (b c : Bool) → f x ≡ b → g x ≡ c → cond b (Some x) (find f xs) ≡ Some i → (find f xs ≡ Some i → find f (filter g xs) ≡ Some i) → find f (cond c (x ∷ filter g xs) (filter g xs)) ≡ Some i
  four true true p q k rest = cond-true (f x) _ _ p ∙ k
  four true false p q k rest = let same : x ≡ i = cc in let z : false ≡ true = sym q ∙ ap g same ∙ h in absurd cc
  four false true p q k rest = cond-false (f x) _ _ p ∙ rest k
  four false false p q k rest = rest k

pub filter_passes : (f g : Item → Bool) (xs : List Item) (i : Item) → find f (filter g xs) ≡ Some i → g i ≡ true
filter_passes f g [] i e = let z : ◌≡◌ {A = Option Item} None (Some i) = e in absurd cc
filter_passes f g (x ∷ xs) i e = two (g x) refl e (λ k. filter_passes f g xs i k) where
  inner : (b : Bool) → g x ≡ true → cond b (Some x) (find f (filter g xs)) ≡ Some i → (find f (filter g xs) ≡ Some i → g i ≡ true) → g i ≡ true
  inner true h k rest = let same : x ≡ i = cc in ap g (sym same) ∙ h
  inner false h k rest = rest k

  two : (c : Bool) → g x ≡ c → find f (cond c (x ∷ filter g xs) (filter g xs)) ≡ Some i → (find f (filter g xs) ≡ Some i → g i ≡ true) → g i ≡ true
  two true h k rest = inner (f x) h k rest
  two false h k rest = rest k

abbrev pub is_not : ItemId → Item → Bool
is_not id i = not (eqb i.id.0 id.0)

pub was_there : (xs : List Item) (id key : ItemId) (i : Item) → item_of (filter (is_not key) xs) id ≡ Some i → item_of xs id ≡ Some i
was_there [] id key i e = e
was_there (x ∷ xs) id key i e = four (eqb x.id.0 key.0) (eqb x.id.0 id.0) refl refl e (λ k. was_there xs id key i k) where
  four : (c b : Bool) → eqb x.id.0 key.0 ≡ c → eqb x.id.0 id.0 ≡ b → item_of (cond (not c) (x ∷ filter (is_not key) xs) (filter (is_not key) xs)) id ≡ Some i → (item_of (filter (is_not key) xs) id ≡ Some i → item_of xs id ≡ Some i) → cond b (Some x) (item_of xs id) ≡ Some i
  four false true p q k rest = sym (cond-true (eqb x.id.0 id.0) _ _ q) ∙ k
  four false false p q k rest = rest (sym (cond-false (eqb x.id.0 id.0) _ _ q) ∙ k)
  four true false p q k rest = rest k
  four true true p q k rest =
      let own : i.id.0 ≡ id.0 = eqb-true i.id.0 id.0 (found_passes (λ j. eqb j.id.0 id.0) xs i (rest k)) in
      let gone : is_not key i ≡ true = filter_passes (λ j. eqb j.id.0 id.0) (is_not key) xs i k in
      let same : eqb i.id.0 key.0 ≡ true = ap (λ n. eqb n key.0) (own ∙ sym (eqb-true x.id.0 id.0 q)) ∙ p in
      let z : false ≡ true = ap not (sym same) ∙ gone in absurd cc

rises_from : (low high : ℕ) (xs : List Item) → low ≤ high → RiseFrom high xs → RiseFrom low xs
rises_from low high [] le r = tt
rises_from low high (x ∷ xs) le r = (omega (arith, r.0), r.1)

pub fewer_rise : (g : Item → Bool) (low : ℕ) (xs : List Item) → RiseFrom low xs → RiseFrom low (filter g xs)
fewer_rise g low [] r = tt
fewer_rise g low (x ∷ xs) r = two (g x) (fewer_rise g (x.id.0 + 1) xs r.1) where
  two : (b : Bool) → RiseFrom (x.id.0 + 1) (filter g xs) → RiseFrom low (cond b (x ∷ filter g xs) (filter g xs))
  two true rest = (r.0, rest)
  two false rest = rises_from low (x.id.0 + 1) (filter g xs) (omega (arith, r.0)) rest

pub none_pass : (f g : Item → Bool) (xs : List Item) (i : Item) → filter g xs ≡ [] → find f xs ≡ Some i → g i ≡ false
none_pass f g [] i e h = let z : ◌≡◌ {A = Option Item} None (Some i) = h in absurd cc
none_pass f g (x ∷ xs) i e h = four (g x) (f x) refl e h (λ p q. none_pass f g xs i p q) where
  four : (c b : Bool) → g x ≡ c → cond c (x ∷ filter g xs) (filter g xs) ≡ [] → cond b (Some x) (find f xs) ≡ Some i → (filter g xs ≡ [] → find f xs ≡ Some i → g i ≡ false) → g i ≡ false
  four true b p k l rest = let z : x ∷ filter g xs ≡ [] = k in absurd cc
  four false true p k l rest = let same : x ≡ i = cc in ap g (sym same) ∙ p
  four false false p k l rest = rest k l

-- one item changed

pub changed_rise : (key : ItemId) (f : Item → Item) → ((i : Item) → (f i).id.0 ≡ i.id.0) → (low : ℕ) (xs : List Item) → RiseFrom low xs → RiseFrom low (changed key f xs)
changed_rise key f own low [] r = tt
changed_rise key f own low (x ∷ xs) r = two (eqb x.id.0 key.0) (changed_rise key f own (x.id.0 + 1) xs r.1) where
  two : (b : Bool) → RiseFrom (x.id.0 + 1) (changed key f xs) → RiseFrom low (cond b (f x) x ∷ changed key f xs)
  two true rest = (omega (arith, r.0, own x), subst (λ n. RiseFrom (n + 1) (changed key f xs)) (sym (own x)) rest)
  two false rest = (r.0, rest)

-- a place that only the changed item may have
pub find_changed : (h : Item → Bool) (key : ItemId) (f : Item → Item) (xs : List Item) (i : Item) → item_of xs key ≡ Some i → h (f i) ≡ true → says (is_not key) (find h xs) ≡ false → find h (changed key f xs) ≡ Some (f i)
find_changed h key f [] i e t none = let z : ◌≡◌ {A = Option Item} None (Some i) = e in absurd cc
find_changed h key f (x ∷ xs) i e t none = four (eqb x.id.0 key.0) (h x) refl refl e none (λ p q. find_changed h key f xs i p t q) where
  four : (b c : Bool) → eqb x.id.0 key.0 ≡ b → h x ≡ c → cond b (Some x) (item_of xs key) ≡ Some i → says (is_not key) (cond c (Some x) (find h xs)) ≡ false → (item_of xs key ≡ Some i → says (is_not key) (find h xs) ≡ false → find h (changed key f xs) ≡ Some (f i)) →
      find h (cond b (f x) x ∷ changed key f xs) ≡ Some (f i)
  four true c p q k l rest = let same : x ≡ i = cc in cond-true (h (f x)) _ _ (ap (λ v. h (f v)) same ∙ t) ∙ ap (λ v. Some (f v)) same
  four false true p q k l rest = let z : true ≡ false = ap not (sym p) ∙ l in absurd cc
  four false false p q k l rest = cond-false (h x) _ _ q ∙ rest k l

-- a place that the changed item does not get
pub find_unchanged : (h : Item → Bool) (key : ItemId) (f : Item → Item) (xs : List Item) (j : Item) → ((i : Item) → h (f i) ≡ false) → find h xs ≡ Some j → (eqb j.id.0 key.0) ≡ false → find h (changed key f xs) ≡ Some j
find_unchanged h key f [] j never e other = e
find_unchanged h key f (x ∷ xs) j never e other = four (eqb x.id.0 key.0) (h x) refl refl e (λ k. find_unchanged h key f xs j never k other) where
  four : (b c : Bool) → eqb x.id.0 key.0 ≡ b → h x ≡ c → cond c (Some x) (find h xs) ≡ Some j → (find h xs ≡ Some j → find h (changed key f xs) ≡ Some j) → find h (cond b (f x) x ∷ changed key f xs) ≡ Some j
  four true true p q k rest = let same : x ≡ j = cc in let z : false ≡ true = sym other ∙ ap (λ v. eqb v.id.0 key.0) (sym same) ∙ p in absurd cc
  four true false p q k rest = cond-false (h (f x)) _ _ (never x) ∙ rest k
  four false true p q k rest = cond-true (h x) _ _ q ∙ k
  four false false p q k rest = cond-false (h x) _ _ q ∙ rest k

-- an item by its id
pub one_changed : (key id : ItemId) (f : Item → Item) → ((i : Item) → (f i).id ≡ i.id) → (xs : List Item) (i : Item) → item_of xs id ≡ Some i → item_of (changed key f xs) id ≡ Some (cond (eqb i.id.0 key.0) (f i) i)
one_changed key id f own [] i e = let z : ◌≡◌ {A = Option Item} None (Some i) = e in absurd cc
one_changed key id f own (x ∷ xs) i e = two (eqb x.id.0 id.0) refl e (λ k. one_changed key id f own xs i k) where
  same_id : (b : Bool) → (cond b (f x) x).id ≡ x.id
  same_id true = own x
  same_id false = refl

  two : (c : Bool) → eqb x.id.0 id.0 ≡ c → cond c (Some x) (item_of xs id) ≡ Some i → (item_of xs id ≡ Some i → item_of (changed key f xs) id ≡ Some (cond (eqb i.id.0 key.0) (f i) i)) →
      item_of (cond (eqb x.id.0 key.0) (f x) x ∷ changed key f xs) id ≡ Some (cond (eqb i.id.0 key.0) (f i) i)
  two true p k rest = let same : x ≡ i = cc in
      cond-true (eqb (cond (eqb x.id.0 key.0) (f x) x).id.0 id.0) _ _ (ap (λ v. eqb v.0 id.0) (same_id (eqb x.id.0 key.0)) ∙ p) ∙ ap (λ v. Some (cond (eqb v.id.0 key.0) (f v) v)) same
  two false p k rest = cond-false (eqb (cond (eqb x.id.0 key.0) (f x) x).id.0 id.0) _ _ (ap (λ v. eqb v.0 id.0) (same_id (eqb x.id.0 key.0)) ∙ p) ∙ rest k

pub none_changed : (key id : ItemId) (f : Item → Item) → ((i : Item) → (f i).id ≡ i.id) → (xs : List Item) → item_of xs id ≡ None → item_of (changed key f xs) id ≡ None
none_changed key id f own [] e = e
none_changed key id f own (x ∷ xs) e = two (eqb x.id.0 id.0) refl e (λ k. none_changed key id f own xs k) where
  same_id : (b : Bool) → (cond b (f x) x).id ≡ x.id
  same_id true = own x
  same_id false = refl

  two : (c : Bool) → eqb x.id.0 id.0 ≡ c → cond c (Some x) (item_of xs id) ≡ None → (item_of xs id ≡ None → item_of (changed key f xs) id ≡ None) → item_of (cond (eqb x.id.0 key.0) (f x) x ∷ changed key f xs) id ≡ None
  two true p k rest = let z : ◌≡◌ {A = Option Item} (Some x) None = k in absurd cc
  two false p k rest = cond-false (eqb (cond (eqb x.id.0 key.0) (f x) x).id.0 id.0) _ _ (ap (λ v. eqb v.0 id.0) (same_id (eqb x.id.0 key.0)) ∙ p) ∙ rest k

-- the greatest of a list

pub at_most_greatest : (f : Item → ℕ) (p q : Item → Bool) (xs : List Item) (i : Item) → find q xs ≡ Some i → p i ≡ true → f i ≤ greatest (map f (filter p xs))
at_most_greatest f p q [] i e h = let z : ◌≡◌ {A = Option Item} None (Some i) = e in absurd cc
at_most_greatest f p q (x ∷ xs) i e h = four (q x) (p x) refl e (λ k. at_most_greatest f p q xs i k h) where
  four : (b c : Bool) → p x ≡ c → cond b (Some x) (find q xs) ≡ Some i → (find q xs ≡ Some i → f i ≤ greatest (map f (filter p xs))) → f i ≤ greatest (map f (cond c (x ∷ filter p xs) (filter p xs)))
  four true true r k rest = let same : x ≡ i = cc in omega (arith, ap f same)
  four true false r k rest = let same : x ≡ i = cc in let z : false ≡ true = sym r ∙ ap p same ∙ h in absurd cc
  four false true r k rest = omega (arith, rest k)
  four false false r k rest = rest k
