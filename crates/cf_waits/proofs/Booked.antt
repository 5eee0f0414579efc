-- Waits or asks with their index: what is asked of them, and what changes of them keep.
use Rattle.std.proofs.Common.{◌≡◌, ℕ, suc, ◌+◌, ◌-◌, ◌≤◌, Bool, true, false, ◌&&◌, ◌||◌, not, cond, Option, Some, None, Result, Ok, is_ok, List, [], ◌∷◌, ◌++◌, length, refl, sym, ap, subst, ◌∙◌, arith, eqb}
use Rattle.std.specs.Prelude.{filter, find, map}
use Rattle.std.specs.List.{list_any}
use Rattle.std.proofs.lemmas.Bool.Decides.{nat_tests}
use Rattle.std.proofs.lemmas.List.Sums.{count_by-le-length, length-filter}
use Rattle.cf_base.specs.declared.ids.ItemId.{ItemId}
use Rattle.cf_base.specs.declared.ids.Key.{Key}
use Rattle.cf_model.specs.Missing.{Wait}
use Rattle.cf_model.specs.Numbers.{same_key}
use Rattle.cf_model.specs.Words.{put_in, says}
use Rattle.cf_waits.proofs.Indexed as indexed
use Rattle.cf_lists.specs.Ordered.{InOrder}
use Rattle.cf_waits.specs.Books.{HoldsWaits, at_number, found_of, index_of, is_entry_on, is_plain_wait, stands_before, wait_entry, without_entry}
use Rattle.cf_waits.specs.Lines.{InLine}
use Rattle.cf_waits.specs.Rising.{IsRising, wait_key}
use Rattle.cf_waits.specs.declared.entries.Entry.{Entry}

module _ {A : Type 0} (entry : A → Entry) (key : A → Key) (tie : (x : A) → (entry x).number ≡ (key x).number) where
  abbrev is_of : ItemId → A → Bool
  is_of item x = eqb (entry x).item.0 item.0

  pub in_order : (xs : List A) (es ys : List Entry) → IsRising key xs → es ≡ index_of entry xs → ys ≡ es → InOrder stands_before ys
  in_order xs es ys r e f = subst (λ (l : List Entry). InOrder stands_before l) (sym (f ∙ e)) (indexed.index_in_order entry key tie xs r)

  pub entries_are : (item : ItemId) (xs : List A) (es ys zs : List Entry) → IsRising key xs → es ≡ index_of entry xs → ys ≡ es → zs ≡ filter (is_entry_on item) ys → zs ≡ map entry (filter (is_of item) xs)
  entries_are item xs es ys zs r e f g = g ∙ ap (λ l. filter (is_entry_on item) l) (f ∙ e) ∙ indexed.index_on entry key tie item xs r

  pub none_goes : (k : Key) (xs : List A) → find (λ y. same_key k (key y)) xs ≡ None → filter (λ y. not (same_key k (key y))) xs ≡ xs
  none_goes k [] h = refl
  none_goes k (x ∷ xs) h = one (same_key k (key x)) refl h (none_goes k xs) where
    one : (b : Bool) → same_key k (key x) ≡ b → cond b (Some x) (find (λ y. same_key k (key y)) xs) ≡ None → (find (λ y. same_key k (key y)) xs ≡ None → filter (λ y. not (same_key k (key y))) xs ≡ xs)
        → cond (not b) (x ∷ filter (λ y. not (same_key k (key y))) xs) (filter (λ y. not (same_key k (key y))) xs) ≡ x ∷ xs
    one true e g f = let z : Some x ≡ None = g in cc
    one false e g f = ap (λ l. x ∷ l) (f g)

  positive : (n : ℕ) → not (eqb (suc n) 0) ≡ true
  positive n = grind (arith, nat_tests)

  pub some_of : (p : A → Bool) (xs : List A) → not (eqb (length (map entry (filter p xs))) 0) ≡ list_any p xs
  some_of p [] = refl
  some_of p (x ∷ xs) = one (p x) (some_of p xs) where
    one : (b : Bool) → not (eqb (length (map entry (filter p xs))) 0) ≡ list_any p xs → not (eqb (length (map entry (cond b (x ∷ filter p xs) (filter p xs)))) 0) ≡ (b || list_any p xs)
    one true h = positive (length (map entry (filter p xs)))
    one false h = h

  pub any_is : (f : A → Bool) (item : ItemId) (xs ys vs : List A) (es zs us : List Entry) (b : Bool) → IsRising key xs → es ≡ index_of entry xs → ys ≡ xs → zs ≡ es → us ≡ filter (is_entry_on item) zs → xs ≡ vs
      → b ≡ list_any (λ e. says f (at_number key e.number ys)) us → b ≡ list_any (λ x. is_of item x && f x) vs
  any_is f item xs ys vs es zs us b r e g h k v is =
      is ∙ ap (λ (l : List A). list_any (λ e. says f (at_number key e.number l)) us) g ∙ ap (λ l. list_any (λ e. says f (at_number key e.number xs)) l) (entries_are item xs es zs us r e h k)
      ∙ indexed.any_on entry key tie f (is_of item) xs r ∙ ap (λ (l : List A). list_any (λ x. is_of item x && f x) l) v

  pub found_are : (item : ItemId) (xs ys vs : List A) (es zs us : List Entry) → IsRising key xs → es ≡ index_of entry xs → ys ≡ xs → zs ≡ es → us ≡ filter (is_entry_on item) zs → xs ≡ vs → found_of key ys us ≡ filter (is_of item) vs
  found_are item xs ys vs es zs us r e g h k v =
      ap (λ (l : List A). found_of key l us) g ∙ ap (λ l. found_of key xs l) (entries_are item xs es zs us r e h k) ∙ indexed.found_on entry key tie (is_of item) xs r ∙ ap (λ (l : List A). filter (is_of item) l) v

pub few : {A : Type 0} (p : A → Bool) (xs : List A) → length (filter p xs) ≤ length xs
few p xs = omega (arith, length-filter p xs, count_by-le-length p xs)

pub push_done : {A E : Type 0} (r : Result (Unit {0}) E) (u : Unit {0}) (xs ys zs : List A) → r ≡ Ok u → xs ≡ cond (is_ok r) ys zs → xs ≡ ys
push_done r u xs ys zs h e = e ∙ ap (λ (s : Result (Unit {0}) _). cond (is_ok s) ys zs) h

-- waits

wait_tie : (w : Wait) → (wait_entry w).number ≡ (wait_key w).number
wait_tie w = refl

pub waits_pushed : (xs new : List Wait) (es put : List Entry) (n m : ℕ) (line next : Option ℕ) (w : Wait) (e : Entry) → HoldsWaits xs es n line → IsRising wait_key (xs ++ w ∷ []) → new ≡ xs ++ w ∷ [] → e ≡ wait_entry w → put ≡ put_in stands_before e es → m ≡ cond (is_plain_wait w) 1 0
    → ((ws : List Wait) → InLine line ws → InLine next (ws ++ w ∷ [])) → HoldsWaits new put (n + m) next
waits_pushed xs new es put n m line next w e h r is same puts more on = record {
  rising = subst (λ (l : List Wait). IsRising wait_key l) (sym is) r;
  index = puts ∙ ap (λ x. put_in stands_before x es) same ∙ ap (λ l. put_in stands_before (wait_entry w) l) h.index ∙ indexed.index_pushed wait_entry wait_key wait_tie xs w r ∙ ap (λ (l : List Wait). index_of wait_entry l) (sym is);
  count =
      let sum : length (filter is_plain_wait (xs ++ w ∷ [])) ≡ length (filter is_plain_wait xs) + cond (is_plain_wait w) 1 0 = indexed.count_pushed wait_entry wait_key wait_tie is_plain_wait xs w in
      let before : n ≡ length (filter is_plain_wait xs) = h.count in
      let all : n + m ≡ length (filter is_plain_wait (xs ++ w ∷ [])) = omega (arith, more) in
      all ∙ ap (λ (l : List Wait). length (filter is_plain_wait l)) (sym is);
  in_line = subst (λ (l : List Wait). InLine next l) (sym is) (on xs h.in_line);
}

pub waits_removed : (k : Key) (xs new : List Wait) (es left : List Entry) (n m : ℕ) (line next : Option ℕ) (w : Wait) (e : Entry) → HoldsWaits xs es n line → find (λ y. same_key k y.id.0) xs ≡ Some w → new ≡ filter (λ y. not (same_key k y.id.0)) xs → e ≡ wait_entry w → left ≡ without_entry e es
    → m ≡ cond (is_plain_wait w) 1 0 → ((p : Wait → Bool) (ws : List Wait) → InLine line ws → new ≡ filter p ws → InLine next new) → HoldsWaits new left (n - m) next
waits_removed k xs new es left n m line next w e h f is same goes less on = record {
  rising = subst (λ (l : List Wait). IsRising wait_key l) (sym is) (indexed.rising_left wait_entry wait_key wait_tie (λ y. not (same_key k y.id.0)) xs h.rising);
  index = goes ∙ ap (λ x. without_entry x es) same ∙ ap (λ l. without_entry (wait_entry w) l) h.index ∙ indexed.index_removed wait_entry wait_key wait_tie k xs w h.rising f ∙ ap (λ (l : List Wait). index_of wait_entry l) (sym is);
  count =
      let sum : length (filter is_plain_wait (filter (λ y. not (same_key k y.id.0)) xs)) + cond (is_plain_wait w) 1 0 ≡ length (filter is_plain_wait xs) = indexed.count_removed wait_entry wait_key wait_tie is_plain_wait k xs w h.rising f in
      let before : n ≡ length (filter is_plain_wait xs) = h.count in
      let all : n - m ≡ length (filter is_plain_wait (filter (λ y. not (same_key k y.id.0)) xs)) = omega (arith, less) in
      all ∙ ap (λ (l : List Wait). length (filter is_plain_wait l)) (sym is);
  in_line = on (λ y. not (same_key k y.id.0)) xs h.in_line is;
}

pub waits_fewer : (k : Key) (xs : List Wait) (es : List Entry) (n m : ℕ) (line : Option ℕ) (w : Wait) → HoldsWaits xs es n line → find (λ y. same_key k y.id.0) xs ≡ Some w → m ≡ cond (is_plain_wait w) 1 0 → m ≤ n
waits_fewer k xs es n m line w h f less =
    let sum : length (filter is_plain_wait (filter (λ y. not (same_key k y.id.0)) xs)) + cond (is_plain_wait w) 1 0 ≡ length (filter is_plain_wait xs) = indexed.count_removed wait_entry wait_key wait_tie is_plain_wait k xs w h.rising f in
    let before : n ≡ length (filter is_plain_wait xs) = h.count in
    omega (arith, less)

pub waits_kept : (k : Key) (xs new : List Wait) (es : List Entry) (n : ℕ) (line : Option ℕ) → HoldsWaits xs es n line → find (λ y. same_key k y.id.0) xs ≡ None → new ≡ filter (λ y. not (same_key k y.id.0)) xs → HoldsWaits new es n line
waits_kept k xs new es n line h f is = subst (λ (l : List Wait). HoldsWaits l es n line) (sym (is ∙ none_goes wait_entry wait_key wait_tie k xs f)) h

pub waits_fit : (xs new : List Wait) (es : List Entry) (n m : ℕ) (line : Option ℕ) (w : Wait) → HoldsWaits xs es n line → new ≡ xs ++ w ∷ [] → m ≡ cond (is_plain_wait w) 1 0 → n + m ≤ length new
waits_fit xs new es n m line w h is more =
    let sum : length (filter is_plain_wait (xs ++ w ∷ [])) ≡ length (filter is_plain_wait xs) + cond (is_plain_wait w) 1 0 = indexed.count_pushed wait_entry wait_key wait_tie is_plain_wait xs w in
    let before : n ≡ length (filter is_plain_wait xs) = h.count in
    let most : length (filter is_plain_wait (xs ++ w ∷ [])) ≤ length (xs ++ w ∷ []) = few is_plain_wait (xs ++ w ∷ []) in
    let same : length new ≡ length (xs ++ w ∷ []) = ap length is in
    omega (arith, more)
