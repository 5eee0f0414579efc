-- The index of waits or asks, and what changes of them make of it.
use Rattle.std.proofs.Common.{◌≡◌, ℕ, ◌+◌, ◌<◌, Bool, true, false, ◌&&◌, ◌||◌, not, cond, Some, None, List, [], ◌∷◌, ◌++◌, length, refl, sym, ap, subst, ◌∙◌, arith, eqb}
use Rattle.std.specs.Prelude.{filter, find, map}
use Rattle.std.specs.List.{AllByRecursion, list_any}
use Rattle.std.specs.Ordering.{is_eq, is_lt, nat_cmp, ordering_then}
use Rattle.std.specs.declared.cmp.Ordering.{Ordering}
use Rattle.std.specs.declared.cmp.Ordering.TheVariants.{Less, Equal, Greater}
use Rattle.std.proofs.lemmas.Bool.{cond-true, cond-false}
use Rattle.std.proofs.lemmas.Bool.Decides.{nat_tests}
use Rattle.std.proofs.lemmas.Cmp.{ranked, tied_itself}
use Rattle.cf_ask_rule.proofs.Filters.{all_filter, filter_same}
use Rattle.cf_base.specs.declared.ids.ItemId.{ItemId}
use Rattle.cf_base.specs.declared.ids.Key.{Key}
use Rattle.cf_model.specs.Numbers.{same_key}
use Rattle.cf_model.specs.Words.{put_in, says, sorted}
use Rattle.cf_waits.proofs.InIndex.{compared_total}
use Rattle.cf_lists.proofs.Ordered as ordered
use Rattle.cf_waits.proofs.Rises.{all_above, below_differs, rises_filter, same_number}
use Rattle.cf_lists.specs.Ordered.{AllAfter, InOrder}
use Rattle.cf_waits.specs.Books.{at_number, compared, found_of, index_of, is_entry_on, stands_before, with_found, without_entry}
use Rattle.cf_waits.specs.Rising.{IsRising, RisesTo}
use Rattle.cf_waits.specs.declared.entries.Entry.{Entry}

second_equal : (a b : Ordering) → ordering_then a b ≡ Equal → b ≡ Equal
second_equal Less b h = let z : Less ≡ Equal = h in cc
second_equal Equal b h = h
second_equal Greater b h = let z : Greater ≡ Equal = h in cc

-- one entry has one number
one_number : (e f : Entry) → compared e f ≡ Equal → e.number ≡ f.number
one_number e f h = ranked e.number f.number Equal (sym (second_equal (nat_cmp e.item.0 f.item.0) (nat_cmp e.number f.number) h))

not_eq : (o : Ordering) → (o ≡ Equal → ⊥) → is_eq o ≡ false
not_eq Less h = refl
not_eq Equal h = absurd (h refl)
not_eq Greater h = refl

itself : (n : ℕ) → eqb n n ≡ true
itself n = grind (arith, nat_tests)

map_push : {A B : Type 0} (f : A → B) (xs : List A) (x : A) → map f (xs ++ x ∷ []) ≡ map f xs ++ f x ∷ []
map_push f [] x = refl
map_push f (y ∷ ys) x = ap (λ l. f y ∷ l) (map_push f ys x)

filter_map : {A B : Type 0} (f : A → B) (p : B → Bool) (xs : List A) → filter p (map f xs) ≡ map f (filter (λ x. p (f x)) xs)
filter_map f p [] = refl
filter_map f p (x ∷ xs) = one (p (f x)) (filter_map f p xs) where
  one : (b : Bool) → filter p (map f xs) ≡ map f (filter (λ y. p (f y)) xs) → cond b (f x ∷ filter p (map f xs)) (filter p (map f xs)) ≡ map f (cond b (x ∷ filter (λ y. p (f y)) xs) (filter (λ y. p (f y)) xs))
  one true h = ap (λ l. f x ∷ l) h
  one false h = h

module _ {A : Type 0} (entry : A → Entry) (key : A → Key) (tie : (x : A) → (entry x).number ≡ (key x).number) where
  other_number : (x y : A) → ((key x).number ≡ (key y).number → ⊥) → compared (entry x) (entry y) ≡ Equal → ⊥
  other_number x y h e = h (sym (tie x) ∙ one_number (entry x) (entry y) e ∙ tie y)

  apart_above : (x : A) (xs : List A) → AllByRecursion (λ (y : A). (key x).number < (key y).number) xs → ordered.Apart compared compared_total (entry x) (map entry xs)
  apart_above x [] h = tt
  apart_above x (y ∷ ys) h = ((λ e. other_number x y (λ q. let l : (key x).number < (key y).number = h.0 in omega arith) e), apart_above x ys h.1)

  all_apart : (epoch low high : ℕ) (xs : List A) → RisesTo key epoch low high xs → ordered.AllApart compared compared_total (map entry xs)
  all_apart epoch low high [] h = tt
  all_apart epoch low high (x ∷ xs) h = (apart_above x xs (all_above key epoch (key x).number high xs h.2), all_apart epoch (key x).number high xs h.2)

  pub index_in_order : (xs : List A) → IsRising key xs → InOrder stands_before (index_of entry xs)
  index_in_order xs r = ordered.sorted_in_order compared compared_total (map entry xs) (all_apart r.0 0 r.1 xs r.2)

  -- one that comes

  below_last : (epoch low high : ℕ) (xs : List A) (x : A) → RisesTo key epoch low high (xs ++ x ∷ []) → (low < (key x).number) × ordered.Apart compared compared_total (entry x) (map entry xs)
  below_last epoch low high [] x h = (h.1, tt)
  below_last epoch low high (y ∷ ys) x h =
      let more : ((key y).number < (key x).number) × ordered.Apart compared compared_total (entry x) (map entry ys) = below_last epoch (key y).number high ys x h.2 in
      let first : low < (key y).number = h.1 in
      let next : (key y).number < (key x).number = more.0 in
      (omega arith, ((λ e. other_number x y (λ q. omega arith) e), more.1))

  pub index_pushed : (xs : List A) (x : A) → IsRising key (xs ++ x ∷ []) → put_in stands_before (entry x) (index_of entry xs) ≡ index_of entry (xs ++ x ∷ [])
  index_pushed xs x r = sym (ap (λ l. sorted stands_before l) (map_push entry xs x) ∙ ordered.sorted_push compared compared_total (entry x) (map entry xs) (below_last r.0 0 r.1 xs x r.2).1)

  -- one that goes

  found_above : (n : ℕ) (k : Key) (xs : List A) (x : A) → AllByRecursion (λ (y : A). n < (key y).number) xs → find (λ y. same_key k (key y)) xs ≡ Some x → n < (key x).number
  found_above n k [] x h f = let z : None ≡ Some x = f in cc
  found_above n k (y ∷ ys) x h f = one (same_key k (key y)) f (found_above n k ys x h.1) where
    one : (b : Bool) → cond b (Some y) (find (λ z. same_key k (key z)) ys) ≡ Some x → (find (λ z. same_key k (key z)) ys ≡ Some x → n < (key x).number) → n < (key x).number
    one true e g = let q : y ≡ x = cc in subst (λ (v : A). n < (key v).number) q h.0
    one false e g = g e

  -- an entry is that of the one found exactly where the key is
  told_apart : (epoch low high : ℕ) (k : Key) (xs : List A) (x : A) → RisesTo key epoch low high xs → find (λ y. same_key k (key y)) xs ≡ Some x
      → AllByRecursion (λ (y : A). not (is_eq (compared (entry y) (entry x))) ≡ not (same_key k (key y))) xs
  told_apart epoch low high k [] x r f = tt
  told_apart epoch low high k (y ∷ ys) x r f = one (same_key k (key y)) refl f (told_apart epoch (key y).number high k ys x r.2) where
    above : AllByRecursion (λ (z : A). (key y).number < (key z).number) ys
    above = all_above key epoch (key y).number high ys r.2

    rest : same_key k (key y) ≡ true → (zs : List A) → AllByRecursion (λ (z : A). (key y).number < (key z).number) zs → AllByRecursion (λ (z : A). not (is_eq (compared (entry z) (entry y))) ≡ not (same_key k (key z))) zs
    rest e [] g = tt
    rest e (z ∷ zs) g =
        let l : (key y).number < (key z).number = g.0 in
        let n : k.number ≡ (key y).number = same_number k (key y) e in
        (ap not (not_eq (compared (entry z) (entry y)) (other_number z y (λ q. omega arith)) ∙ sym (below_differs k (key z) (omega arith))), rest e zs g.1)

    one : (b : Bool) → same_key k (key y) ≡ b → cond b (Some y) (find (λ z. same_key k (key z)) ys) ≡ Some x
        → (find (λ z. same_key k (key z)) ys ≡ Some x → AllByRecursion (λ (z : A). not (is_eq (compared (entry z) (entry x))) ≡ not (same_key k (key z))) ys)
        → AllByRecursion (λ (z : A). not (is_eq (compared (entry z) (entry x))) ≡ not (same_key k (key z))) (y ∷ ys)
    one true e g h =
        let q : y ≡ x = cc in
        subst (λ (v : A). AllByRecursion (λ (z : A). not (is_eq (compared (entry z) (entry v))) ≡ not (same_key k (key z))) (y ∷ ys)) q
        (ap not (ap is_eq (tied_itself compared_total (entry y)) ∙ sym e), rest e ys above)
    one false e g h =
        let l : (key y).number < (key x).number = found_above (key y).number k ys x above g in
        (ap not (not_eq (compared (entry y) (entry x)) (other_number y x (λ q. omega arith)) ∙ sym e), h g)

  pub index_removed : (k : Key) (xs : List A) (x : A) → IsRising key xs → find (λ y. same_key k (key y)) xs ≡ Some x → without_entry (entry x) (index_of entry xs) ≡ index_of entry (filter (λ y. not (same_key k (key y))) xs)
  index_removed k xs x r f =
      ordered.filter_sorted compared compared_total (λ e. not (is_eq (compared e (entry x)))) (map entry xs) (all_apart r.0 0 r.1 xs r.2)
      ∙ ap (λ l. sorted stands_before l)
      (filter_map entry (λ e. not (is_eq (compared e (entry x)))) xs
      ∙ ap (λ l. map entry l) (filter_same (λ y. not (is_eq (compared (entry y) (entry x)))) (λ y. not (same_key k (key y))) xs (told_apart r.0 0 r.1 k xs x r.2 f)))

  -- those on an item

  abbrev is_of : ItemId → A → Bool
  is_of item x = eqb (entry x).item.0 item.0

  goes_before : (m n i j k : ℕ) → eqb m k ≡ true → eqb n k ≡ true → i < j → is_lt (ordering_then (nat_cmp m n) (nat_cmp i j)) ≡ true
  goes_before m n i j k g h l = grind (arith, nat_tests)

  all_later : (item : ItemId) (x : A) (xs : List A) → is_of item x ≡ true → AllByRecursion (λ (y : A). (key x).number < (key y).number) xs → AllAfter stands_before (entry x) (map entry (filter (is_of item) xs))
  all_later item x [] e h = tt
  all_later item x (y ∷ ys) e h = one (is_of item y) refl (all_later item x ys e h.1) where
    one : (b : Bool) → is_of item y ≡ b → AllAfter stands_before (entry x) (map entry (filter (is_of item) ys)) → AllAfter stands_before (entry x) (map entry (cond b (y ∷ filter (is_of item) ys) (filter (is_of item) ys)))
    one true f g =
        let l : (key x).number < (key y).number = h.0 in
        let p : (entry x).number ≡ (key x).number = tie x in
        let q : (entry y).number ≡ (key y).number = tie y in
        (goes_before (entry x).item.0 (entry y).item.0 (entry x).number (entry y).number item.0 e f (omega arith), g)
    one false f g = g

  on_in_order : (epoch low high : ℕ) (item : ItemId) (xs : List A) → RisesTo key epoch low high xs → InOrder stands_before (map entry (filter (is_of item) xs))
  on_in_order epoch low high item [] r = tt
  on_in_order epoch low high item (x ∷ xs) r = one (is_of item x) refl (on_in_order epoch (key x).number high item xs r.2) where
    one : (b : Bool) → is_of item x ≡ b → InOrder stands_before (map entry (filter (is_of item) xs)) → InOrder stands_before (map entry (cond b (x ∷ filter (is_of item) xs) (filter (is_of item) xs)))
    one true e g = (all_later item x xs e (all_above key epoch (key x).number high xs r.2), g)
    one false e g = g

  pub index_on : (item : ItemId) (xs : List A) → IsRising key xs → filter (is_entry_on item) (index_of entry xs) ≡ map entry (filter (is_of item) xs)
  index_on item xs r =
      ordered.filter_sorted compared compared_total (is_entry_on item) (map entry xs) (all_apart r.0 0 r.1 xs r.2)
      ∙ ap (λ l. sorted stands_before l) (filter_map entry (is_entry_on item) xs)
      ∙ ordered.sorted_already compared compared_total (map entry (filter (is_of item) xs)) (on_in_order r.0 0 r.1 item xs r.2)

  -- by their numbers

  under : (m n : ℕ) → m < n → eqb m n ≡ false
  under m n l = grind (arith, nat_tests)

  all_at : (epoch low high : ℕ) (xs : List A) → RisesTo key epoch low high xs → AllByRecursion (λ (x : A). at_number key (key x).number xs ≡ Some x) xs
  all_at epoch low high [] r = tt
  all_at epoch low high (x ∷ xs) r = (cond-true (eqb (key x).number (key x).number) _ _ (itself (key x).number), lift xs (all_above key epoch (key x).number high xs r.2) (all_at epoch (key x).number high xs r.2)) where
    lift : (ys : List A) → AllByRecursion (λ (y : A). (key x).number < (key y).number) ys → AllByRecursion (λ (y : A). at_number key (key y).number xs ≡ Some y) ys → AllByRecursion (λ (y : A). at_number key (key y).number (x ∷ xs) ≡ Some y) ys
    lift [] g h = tt
    lift (y ∷ ys) g h = (cond-false (eqb (key x).number (key y).number) _ _ (under (key x).number (key y).number g.0) ∙ h.0, lift ys g.1 h.1)

  found_each : (xs ys : List A) → AllByRecursion (λ (y : A). at_number key (key y).number xs ≡ Some y) ys → found_of key xs (map entry ys) ≡ ys
  found_each xs [] h = refl
  found_each xs (y ∷ ys) h =
      ap (λ o. with_found o (found_of key xs (map entry ys))) (ap (λ n. at_number key n xs) (tie y) ∙ h.0) ∙ ap (λ l. y ∷ l) (found_each xs ys h.1)

  pub found_on : (p : A → Bool) (xs : List A) → IsRising key xs → found_of key xs (map entry (filter p xs)) ≡ filter p xs
  found_on p xs r = found_each xs (filter p xs) (all_filter (λ (x : A). at_number key (key x).number xs ≡ Some x) p xs (all_at r.0 0 r.1 xs r.2))

  any_each : (f : A → Bool) (xs ys : List A) → AllByRecursion (λ (y : A). at_number key (key y).number xs ≡ Some y) ys → list_any (λ e. says f (at_number key e.number xs)) (map entry ys) ≡ list_any f ys
  any_each f xs [] h = refl
  any_each f xs (y ∷ ys) h =
      ap (λ o. says f o || list_any (λ e. says f (at_number key e.number xs)) (map entry ys)) (ap (λ n. at_number key n xs) (tie y) ∙ h.0) ∙ ap (λ b. f y || b) (any_each f xs ys h.1)

  any_within : (f p : A → Bool) (xs : List A) → list_any f (filter p xs) ≡ list_any (λ x. p x && f x) xs
  any_within f p [] = refl
  any_within f p (x ∷ xs) = one (p x) (any_within f p xs) where
    one : (b : Bool) → list_any f (filter p xs) ≡ list_any (λ y. p y && f y) xs → list_any f (cond b (x ∷ filter p xs) (filter p xs)) ≡ ((b && f x) || list_any (λ y. p y && f y) xs)
    one true h = ap (λ b. f x || b) h
    one false h = h

  pub any_on : (f p : A → Bool) (xs : List A) → IsRising key xs → list_any (λ e. says f (at_number key e.number xs)) (map entry (filter p xs)) ≡ list_any (λ x. p x && f x) xs
  any_on f p xs r = any_each f xs (filter p xs) (all_filter (λ (x : A). at_number key (key x).number xs ≡ Some x) p xs (all_at r.0 0 r.1 xs r.2)) ∙ any_within f p xs

  -- counts

  pub count_pushed : (p : A → Bool) (xs : List A) (x : A) → length (filter p (xs ++ x ∷ [])) ≡ length (filter p xs) + cond (p x) 1 0
  count_pushed p [] x = one (p x) where
    one : (b : Bool) → length (cond b (x ∷ []) []) ≡ 0 + cond b 1 0
    one true = refl
    one false = refl
  count_pushed p (y ∷ ys) x = one (p y) (count_pushed p ys x) where
    one : (b : Bool) → length (filter p (ys ++ x ∷ [])) ≡ length (filter p ys) + cond (p x) 1 0 → length (cond b (y ∷ filter p (ys ++ x ∷ [])) (filter p (ys ++ x ∷ []))) ≡ length (cond b (y ∷ filter p ys) (filter p ys)) + cond (p x) 1 0
    one true h = let e : length (filter p (ys ++ x ∷ [])) ≡ length (filter p ys) + cond (p x) 1 0 = h in omega arith
    one false h = h

  none_dropped : (k : Key) (xs : List A) → AllByRecursion (λ (y : A). k.number < (key y).number) xs → filter (λ y. not (same_key k (key y))) xs ≡ xs
  none_dropped k [] h = refl
  none_dropped k (x ∷ xs) h = cond-true (not (same_key k (key x))) _ _ (ap not (below_differs k (key x) h.0)) ∙ ap (λ l. x ∷ l) (none_dropped k xs h.1)

  count_from : (p : A → Bool) (epoch low high : ℕ) (k : Key) (xs : List A) (x : A) → RisesTo key epoch low high xs → find (λ y. same_key k (key y)) xs ≡ Some x → length (filter p (filter (λ y. not (same_key k (key y))) xs)) + cond (p x) 1 0 ≡ length (filter p xs)
  count_from p epoch low high k [] x r f = let z : None ≡ Some x = f in cc
  count_from p epoch low high k (y ∷ ys) x r f = one (same_key k (key y)) refl f (count_from p epoch (key y).number high k ys x r.2) where
    above : same_key k (key y) ≡ true → AllByRecursion (λ (z : A). k.number < (key z).number) ys
    above e = subst (λ (n : ℕ). AllByRecursion (λ (z : A). n < (key z).number) ys) (sym (same_number k (key y) e)) (all_above key epoch (key y).number high ys r.2)

    more : (b : Bool) (us vs : List A) (n : ℕ) → length us + n ≡ length vs → length (cond b (y ∷ us) us) + n ≡ length (cond b (y ∷ vs) vs)
    more true us vs n h = omega arith
    more false us vs n h = h

    last : (b : Bool) (us : List A) → length us + cond b 1 0 ≡ length (cond b (y ∷ us) us)
    last true us = omega arith
    last false us = omega arith

    one : (b : Bool) → same_key k (key y) ≡ b → cond b (Some y) (find (λ z. same_key k (key z)) ys) ≡ Some x
        → (find (λ z. same_key k (key z)) ys ≡ Some x → length (filter p (filter (λ z. not (same_key k (key z))) ys)) + cond (p x) 1 0 ≡ length (filter p ys))
        → length (filter p (cond (not b) (y ∷ filter (λ z. not (same_key k (key z))) ys) (filter (λ z. not (same_key k (key z))) ys))) + cond (p x) 1 0 ≡ length (cond (p y) (y ∷ filter p ys) (filter p ys))
    one true e g h =
        let q : y ≡ x = cc in
        ap (λ (l : List A). length (filter p l) + cond (p x) 1 0) (none_dropped k ys (above e)) ∙ ap (λ (v : A). length (filter p ys) + cond (p v) 1 0) (sym q) ∙ last (p y) (filter p ys)
    one false e g h = more (p y) (filter p (filter (λ z. not (same_key k (key z))) ys)) (filter p ys) (cond (p x) 1 0) (h g)

  pub count_removed : (p : A → Bool) (k : Key) (xs : List A) (x : A) → IsRising key xs → find (λ y. same_key k (key y)) xs ≡ Some x → length (filter p (filter (λ y. not (same_key k (key y))) xs)) + cond (p x) 1 0 ≡ length (filter p xs)
  count_removed p k xs x r f = count_from p r.0 0 r.1 k xs x r.2 f

  pub rising_left : (p : A → Bool) (xs : List A) → IsRising key xs → IsRising key (filter p xs)
  rising_left p xs r = (r.0, r.1, rises_filter key r.0 0 r.1 p xs r.2)
