-- The entry of a name among the children of a directory, which are in order of name.
use Rattle.std.proofs.Common.{◌≡◌, inl, inr, ℕ, Bool, true, false, List, [], ◌∷◌, map, refl, sym, ap, ◌∙◌, subst, ◌==◌, ◌&&◌}
use Rattle.std.specs.Prelude.{Option, Some, None, filter, get_or, option_map}
use Rattle.std.specs.List.{list_all, list_any}
use Rattle.std.specs.Cmp.Lexicographic.{slice_cmp}
use Rattle.std.specs.Ordering.{is_eq, nat_cmp, ordering_reverse}
use Rattle.std.proofs.lemmas.Bool.{and_from, and_parts, eqb-true, false_from_ne_true}
use Rattle.std.proofs.lemmas.Cmp.{nat_list_cmp_total}
use Rattle.cf_base.specs.declared.ids.Rid.{Rid}
use Rattle.cf_base.specs.declared.messages.Entry.{Entry}
use Rattle.cf_model.specs.Fits.{are_distinct, are_named_apart}
use Rattle.cf_model.specs.Growth.{CountsFrom}
use Rattle.cf_model.specs.Peers.{named}
use Rattle.cf_model.specs.Store.{Stored, entry_told}
use Rattle.cf_model.specs.Words.{comes_before, same, sorted}
use Rattle.cf_remote.specs.Listable.{AreApart}
use Rattle.cf_remote.specs.Order.{Has, IsAt, IsFound, IsGap, IsIndex, against, children}
use Rattle.cf_remote.proofs.Listings.{Ascends, In, before_in, before_is, before_itself, has_told, listing_is, lt_from, told_ascends, told_has}
use Rattle.cf_remote.proofs.Members.{filter_has, has_filter, has_get, same_item}
use Rattle.cf_remote.proofs.Placing.{filter_rises}
use Rattle.cf_remote.proofs.Taken.{eq_from, none_at, same_names, same_place}

-- tests over entries

pub entries_none : (p : Entry → Bool) (es : List Entry) → ((e : Entry) → In es e → p e ≡ false) → list_any p es ≡ false
entries_none p [] h = refl
entries_none p (e ∷ es) h = rw (h e (inl refl)) (entries_none p es (λ f k. h f (inr k)))

pub entries_all : (p : Entry → Bool) (es : List Entry) → ((e : Entry) → In es e → p e ≡ true) → list_all p es ≡ true
entries_all p [] h = refl
entries_all p (e ∷ es) h = rw (h e (inl refl)) (entries_all p es (λ f k. h f (inr k)))

-- names

same_is : (xs ys : List ℕ) → same xs ys ≡ true → xs ≡ ys
same_is [] [] e = refl
same_is [] (y ∷ ys) e = cc
same_is (x ∷ xs) [] e = cc
same_is (x ∷ xs) (y ∷ ys) e = let h = and_parts (x == y) (same xs ys) e in λ i. eqb-true x y h.0 i ∷ same_is xs ys h.1 i

before_unlike : (xs ys : List ℕ) → comes_before xs ys ≡ true → same ys xs ≡ false
before_unlike xs ys h = sym (same_names ys xs) ∙ ap is_eq (nat_list_cmp_total.antisymm ys xs ∙ ap ordering_reverse (lt_from (slice_cmp nat_cmp xs ys) (before_is xs ys ∙ h)))

unlike_before : (xs ys : List ℕ) → comes_before xs ys ≡ true → same xs ys ≡ false
unlike_before xs ys h = sym (same_names xs ys) ∙ ap is_eq (lt_from (slice_cmp nat_cmp xs ys) (before_is xs ys ∙ h))

-- entries in order of name

names_apart : (es : List Entry) → Ascends es → are_named_apart es ≡ true
names_apart [] h = refl
names_apart (e ∷ es) h = rw (entries_none (λ f. same f.name e.name) es (λ f k. before_unlike e.name f.name (before_in e f es h.0 k))) (names_apart es h.1)

named_one : (name : List ℕ) (es : List Entry) → Ascends es → (e : Entry) → In es e → same e.name name ≡ true → named name es ≡ Some e
named_one name [] h e k s = absurd k
named_one name (f ∷ fs) h e (inl i) s = rw (ap (λ (x : Entry). same x.name name) (sym i) ∙ s) (ap (λ (x : Entry). Some x) (sym i))
named_one name (f ∷ fs) h e (inr k) s =
    let other : same f.name name ≡ false = ap (same f.name) (sym (same_is e.name name s)) ∙ unlike_before f.name e.name (before_in f e fs h.0 k) in
    rw other (named_one name fs h.1 e k s)

named_none : (name : List ℕ) (es : List Entry) → ((e : Entry) → In es e → same e.name name ≡ false) → named name es ≡ None
named_none name [] h = refl
named_none name (f ∷ fs) h = rw (h f (inl refl)) (named_none name fs (λ e k. h e (inr k)))

module _ (items ordered : List Stored) (counted : CountsFrom 1 items) (there : (s : Stored) → Has ordered s → Has items s) where
  distinct : (ss : List Stored) → ((s : Stored) → Has ss s → Has ordered s) → Ascends (map entry_told ss) → are_distinct (map entry_told ss) ≡ true
  distinct [] k h = refl
  distinct (s ∷ ss) k h = rw (entries_none (λ f. f.rid.0 == s.rid.0) (map entry_told ss) (λ f l. false_from_ne_true (f.rid.0 == s.rid.0) (twice f l)))
      (distinct ss (λ t l. k t (inr l)) h.1) where
        twice : (f : Entry) → In (map entry_told ss) f → (f.rid.0 == s.rid.0) ≡ true → ⊥
        twice f l e =
            let t = has_told ss f l in
            let rids : t.0.rid.0 ≡ s.rid.0 = ap (λ (x : Entry). x.rid.0) (sym t.2) ∙ eqb-true f.rid.0 s.rid.0 e in
            let one : t.0 ≡ s = same_item 1 items counted t.0 s (there t.0 (k t.0 (inr t.1))) (there s (k s (inl refl))) (λ i. record { 0 = rids i }) in
            let less : comes_before s.name f.name ≡ true = before_in (entry_told s) f (map entry_told ss) h.0 l in
            before_itself s.name (subst (λ (n : List ℕ). comes_before s.name n ≡ true) (ap (λ (x : Entry). x.name) t.2 ∙ ap (λ (x : Stored). x.name) one) less)

-- the children of a directory

module _ (items : List Stored) (index : List Rid) (ordered : List Stored) (is : IsIndex items index ordered) (rid : Rid) where
  abbrev listed : List Entry
  listed = sorted (λ e f. comes_before e.name f.name) (map entry_told (filter (λ s. s.live && (s.parent.0 == rid.0)) items))

  abbrev told : List Entry
  told = map entry_told (children rid ordered)

  told_is : told ≡ listed
  told_is = listing_is items ordered is.counted is.order rid

  child_has : (s : Stored) → Has (children rid ordered) s → Has ordered s × ((s.parent.0 == rid.0) ≡ true)
  child_has s h = filter_has (λ x. x.parent.0 == rid.0) ordered s h

  ascends : Ascends told
  ascends = told_ascends rid (children rid ordered) (filter_rises (λ x. x.parent.0 == rid.0) ordered is.order.rises) (λ s h. eqb-true s.parent.0 rid.0 (child_has s h).1)

  pub children_apart : AreApart listed
  children_apart = subst AreApart told_is (record {
    rids = distinct items ordered is.counted (λ s h. (is.order.stands s h).0) (children rid ordered) (λ s h. (child_has s h).0) ascends;
    names = names_apart told ascends;
  })

  child_at : (name : List ℕ) (i : ℕ) (s : Stored) → IsAt rid name ordered i → ((d : Stored) → get_or ordered i d ≡ s) → Some (entry_told s) ≡ named name listed
  child_at name i s at it =
      let has : Has ordered s = subst (Has ordered) (it s) (has_get ordered i s at.in_range) in
      let place = and_parts (s.parent.0 == rid.0) (same s.name name) (sym (same_place rid name s) ∙ ap is_eq (ap (against rid name) (sym (it s)) ∙ at.at s)) in
      sym (named_one name told ascends (entry_told s) (told_has (children rid ordered) s (has_filter (λ x. x.parent.0 == rid.0) ordered s has place.0)) place.1)
      ∙ ap (named name) told_is

  child_gap : (name : List ℕ) (i : ℕ) → IsGap rid name ordered i → None ≡ named name listed
  child_gap name i gap = sym (named_none name told (λ e h. false_from_ne_true (same e.name name) (there e h))) ∙ ap (named name) told_is where
    there : (e : Entry) → In told e → same e.name name ≡ true → ⊥
    there e h k =
        let s = has_told (children rid ordered) e h in
        let c = child_has s.0 s.1 in
        none_at rid name ordered i s.0 gap c.0
        (eq_from (against rid name s.0) (same_place rid name s.0 ∙ and_from (s.0.parent.0 == rid.0) (same s.0.name name) c.1 (ap (λ (x : Entry). same x.name name) (sym s.2) ∙ k)))

  pub child_found : (name : List ℕ) (o : Option Stored) → IsFound rid name ordered o → option_map entry_told o ≡ named name listed
  child_found name None f = child_gap name f.0 f.1
  child_found name (Some s) f = child_at name f.0 s f.1 f.2
