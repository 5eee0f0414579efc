-- Which items of the index come before a place, and which stands there.
use Rattle.std.proofs.Common.{◌≡◌, ◌⊎◌, inl, inr, ℕ, suc, Bool, true, false, cond, List, [], ◌∷◌, length, get_or, refl, sym, ap, subst, ◌∙◌, arith}
use Rattle.std.specs.Prelude.{Option, Some, None}
use Rattle.std.specs.List.{AllByRecursion}
use Rattle.std.specs.declared.cmp.Ordering.{Ordering}
use Rattle.std.specs.declared.cmp.Ordering.TheVariants.{Less, Equal, Greater}
use Rattle.std.specs.Ordering.{is_eq, is_lt, ordering_reverse}
use Rattle.std.proofs.lemmas.Cmp.{alike_right}
use Rattle.cf_base.specs.declared.ids.Rid.{Rid}
use Rattle.cf_collections.specs.Split.{IsSplit, NonePass, behind, front}
use Rattle.cf_model.specs.Store.{Stored, stored_at}
use Rattle.cf_remote.specs.Order.{Has, IsAt, IsFound, IsGap, IsIndex, IsPart, PlaceIn, Rises, against, comes, comes_first, is_before, rids_of}
use Rattle.cf_remote.proofs.Members.{stored_has}
use Rattle.cf_remote.proofs.Placing.{comes_total}

pub part_of : (items : List Stored) (index : List Rid) (ordered : List Stored) → IsIndex items index ordered → IsPart items index ordered
part_of items index ordered is = record { counted = is.counted; rises = is.order.rises; stands = λ s h. (is.order.stands s h).0; rids = is.rids }

-- items in order

module _ (parent : Rid) (name : List ℕ) where
  -- an item at the place
  abbrev there : Stored
  there = record { rid = parent; parent = parent; name = name; directory = false; live = false; versions = []; least = 0; changed = 0 }

  abbrev pub lower : Stored → Bool
  lower s = is_lt (against parent name s)

  after_equal : (s t : Stored) → against parent name s ≡ Equal → comes s t ≡ Less → against parent name t ≡ Greater
  after_equal s t e l = sym (alike_right comes_total s there t e) ∙ comes_total.antisymm t s ∙ ap ordering_reverse l

  after_greater : (s t : Stored) → against parent name s ≡ Greater → comes s t ≡ Less → against parent name t ≡ Greater
  after_greater s t g l =
      let back : comes there s ≡ Less = comes_total.antisymm there s ∙ ap ordering_reverse g in
      comes_total.antisymm t there ∙ ap ordering_reverse (comes_total.trans there s t back l)

  all_after : (s : Stored) → ((t : Stored) → comes s t ≡ Less → against parent name t ≡ Greater) → (ss : List Stored) → AllByRecursion (λ t. comes s t ≡ Less) ss → AllByRecursion (λ t. against parent name t ≡ Greater) ss
  all_after s f [] h = tt
  all_after s f (t ∷ ts) h = (f t h.0, all_after s f ts h.1)

  pub not_lower : (s t : Stored) → lower s ≡ false → comes s t ≡ Less → lower t ≡ false
  not_lower s t h l = by (against parent name s) refl h where
    by : (o : Ordering) → against parent name s ≡ o → is_lt o ≡ false → lower t ≡ false
    by Less e h = let z : true ≡ false = h in cc
    by Equal e h = ap is_lt (after_equal s t e l)
    by Greater e h = ap is_lt (after_greater s t e l)

  -- which item is the first that does not come before the place: the one that is there, or where none is, the next one

  abbrev IsFirst : List Stored → List Stored → ℕ → Type 0
  IsFirst ordered [] n = IsGap parent name ordered n
  IsFirst ordered (s ∷ ss) n = (is_eq (against parent name s) ≡ true → IsAt parent name ordered n × ((d : Stored) → get_or ordered n d ≡ s)) × (is_eq (against parent name s) ≡ false → IsGap parent name ordered n)

  gap_later : (s : Stored) (ss : List Stored) (n : ℕ) → against parent name s ≡ Less → IsGap parent name ss n → IsGap parent name (s ∷ ss) (suc n)
  gap_later s ss n e g = record { in_range = omega (arith, g.in_range); before = (e, g.before); after = g.after }

  at_later : (s : Stored) (ss : List Stored) (n : ℕ) → against parent name s ≡ Less → IsAt parent name ss n → IsAt parent name (s ∷ ss) (suc n)
  at_later s ss n e a = record { in_range = omega (arith, a.in_range); at = a.at; before = (e, a.before); after = a.after }

  later : (s : Stored) (ss l : List Stored) (n : ℕ) → against parent name s ≡ Less → IsFirst ss l n → IsFirst (s ∷ ss) l (suc n)
  later s ss [] n e g = gap_later s ss n e g
  later s ss (t ∷ ts) n e f = ((λ q. (at_later s ss n e (f.0 q).0, (f.0 q).1)), (λ q. gap_later s ss n e (f.1 q)))

  first_is : (ordered : List Stored) → Rises ordered → IsFirst ordered (behind lower ordered) (length (front lower ordered))
  first_is [] h = record { in_range = omega arith; before = tt; after = tt }
  first_is (s ∷ ss) h = by (against parent name s) refl (first_is ss h.1) where
    by : (o : Ordering) → against parent name s ≡ o → IsFirst ss (behind lower ss) (length (front lower ss)) → IsFirst (s ∷ ss) (cond (is_lt o) (behind lower ss) (s ∷ ss)) (length (cond (is_lt o) (s ∷ front lower ss) []))
    by Less e f = later s ss (behind lower ss) (length (front lower ss)) e f
    by Equal e f = (
      (λ q. (record { in_range = omega arith; at = λ d. e; before = tt; after = all_after s (λ t l. after_equal s t e l) ss h.0 }, λ d. refl)),
      (λ q. absurd (let z : true ≡ false = ap is_eq (sym e) ∙ q in cc)),
    )
    by Greater e f = (
      (λ q. absurd (let z : false ≡ true = ap is_eq (sym e) ∙ q in cc)),
      (λ q. record { in_range = omega arith; before = tt; after = (e, all_after s (λ t l. after_greater s t e l) ss h.0) }),
    )

-- the rids of items in order

module _ (items : List Stored) (index : List Rid) (ordered : List Stored) (is : IsPart items index ordered) (parent : Rid) (name : List ℕ) (kept : Bool) where
  abbrev at : PlaceIn
  at = record { items = items; parent = parent; name = name; kept_before = kept }

  abbrev pub place_in : ℕ
  place_in = length (front (is_before at) index)

  pub before_is : (s : Stored) → Has ordered s → is_before at s.rid ≡ lower parent name s
  before_is s h = ap (comes_first parent name kept) (stored_has 1 items is.counted s (is.stands s h))

  behind_rids : (ss : List Stored) → ((s : Stored) → Has ss s → is_before at s.rid ≡ lower parent name s) → behind (is_before at) (rids_of ss) ≡ rids_of (behind (lower parent name) ss)
  behind_rids [] h = refl
  behind_rids (s ∷ ss) h = (λ i. cond (h s (inl refl) i) (behind_rids ss (λ t k. h t (inr k)) i) (s.rid ∷ rids_of ss)) ∙ by (lower parent name s) where
    by : (b : Bool) → cond b (rids_of (behind (lower parent name) ss)) (s.rid ∷ rids_of ss) ≡ rids_of (cond b (behind (lower parent name) ss) (s ∷ ss))
    by true = refl
    by false = refl

  front_len : (ss : List Stored) → ((s : Stored) → Has ss s → is_before at s.rid ≡ lower parent name s) → length (front (is_before at) (rids_of ss)) ≡ length (front (lower parent name) ss)
  front_len [] h = refl
  front_len (s ∷ ss) h = (λ i. length (cond (h s (inl refl) i) (s.rid ∷ front (is_before at) (rids_of ss)) [])) ∙ by (lower parent name s) (front_len ss (λ t k. h t (inr k))) where
    by : (b : Bool) → length (front (is_before at) (rids_of ss)) ≡ length (front (lower parent name) ss) → length (cond b (s.rid ∷ front (is_before at) (rids_of ss)) []) ≡ length (cond b (s ∷ front (lower parent name) ss) [])
    by true e = ap suc e
    by false e = refl

  none_rids : (s : Stored) (ss : List Stored) → lower parent name s ≡ false → AllByRecursion (λ t. comes s t ≡ Less) ss → ((t : Stored) → Has ss t → is_before at t.rid ≡ lower parent name t) → NonePass (is_before at) (rids_of ss)
  none_rids s [] e l h = tt
  none_rids s (t ∷ ts) e l h = (h t (inl refl) ∙ not_lower parent name s t e l.0, none_rids s ts e l.1 (λ u k. h u (inr k)))

  split_rids : (ss : List Stored) → Rises ss → ((s : Stored) → Has ss s → is_before at s.rid ≡ lower parent name s) → IsSplit (is_before at) (rids_of ss)
  split_rids [] r h = tt
  split_rids (s ∷ ss) r h = ((λ e. none_rids s ss (sym (h s (inl refl)) ∙ e) r.0 (λ t k. h t (inr k))), split_rids ss r.1 (λ t k. h t (inr k)))

  pub split : IsSplit (is_before at) index
  split = subst (λ (rs : List Rid). IsSplit (is_before at) rs) (sym is.rids) (split_rids ordered is.rises before_is)

  behind_index : behind (is_before at) index ≡ rids_of (behind (lower parent name) ordered)
  behind_index = ap (behind (is_before at)) is.rids ∙ behind_rids ordered before_is

  place_is : place_in ≡ length (front (lower parent name) ordered)
  place_is = ap (λ (rs : List Rid). length (front (is_before at) rs)) is.rids ∙ front_len ordered before_is

  first : IsFirst parent name ordered (behind (lower parent name) ordered) place_in
  first = subst (IsFirst parent name ordered (behind (lower parent name) ordered)) (sym place_is) (first_is parent name ordered is.rises)

  -- what the first rid that does not come before the place tells

  behind_has : (ss : List Stored) (s : Stored) → Has (behind (lower parent name) ss) s → Has ss s
  behind_has [] s h = h
  behind_has (t ∷ ts) s h = by (lower parent name t) (behind_has ts s) h where
    by : (b : Bool) → (Has (behind (lower parent name) ts) s → Has ts s) → Has (cond b (behind (lower parent name) ts) (t ∷ ts)) s → Has (t ∷ ts) s
    by true more h = inr (more h)
    by false more h = h

  abbrev pub Tells : Stored → Type 0
  Tells s = (is_eq (against parent name s) ≡ true → IsFound parent name ordered (Some s)) × (is_eq (against parent name s) ≡ false → IsFound parent name ordered None)

  pub first_some : (r : Rid) (rs : List Rid) (s : Stored) → behind (is_before at) index ≡ r ∷ rs → Some s ≡ stored_at items r → Tells s
  first_some r rs s e h = by (behind (lower parent name) ordered) (sym behind_index ∙ e) (λ t k. behind_has ordered t k) first where
    by : (l : List Stored) → rids_of l ≡ r ∷ rs → ((t : Stored) → Has l t → Has ordered t) → IsFirst parent name ordered l place_in → Tells s
    by [] i k f = let z : ◌≡◌ {A = List Rid} [] (r ∷ rs) = i in cc
    by (t ∷ ts) i k f =
        let rid : t.rid ≡ r = (let z : ◌≡◌ {A = List Rid} (t.rid ∷ rids_of ts) (r ∷ rs) = i in cc) in
        let there : stored_at items t.rid ≡ Some t = stored_has 1 items is.counted t (is.stands t (k t (inl refl))) in
        let some : Some t ≡ Some s = sym there ∙ ap (stored_at items) rid ∙ sym h in
        let same : t ≡ s = cc in
        subst Tells same ((λ q. (place_in, (f.0 q).0, (f.0 q).1)), (λ q. (place_in, f.1 q)))

  -- it is that of an item
  pub first_there : (r : Rid) (rs : List Rid) → behind (is_before at) index ≡ r ∷ rs → None ≡ stored_at items r → ⊥
  first_there r rs e h = by (behind (lower parent name) ordered) (sym behind_index ∙ e) (λ t k. behind_has ordered t k) where
    by : (l : List Stored) → rids_of l ≡ r ∷ rs → ((t : Stored) → Has l t → Has ordered t) → ⊥
    by [] i k = let z : ◌≡◌ {A = List Rid} [] (r ∷ rs) = i in cc
    by (t ∷ ts) i k =
        let rid : t.rid ≡ r = (let z : ◌≡◌ {A = List Rid} (t.rid ∷ rids_of ts) (r ∷ rs) = i in cc) in
        let some : ◌≡◌ {A = Option Stored} (Some t) None = sym (stored_has 1 items is.counted t (is.stands t (k t (inl refl)))) ∙ ap (stored_at items) rid ∙ sym h in
        cc

  pub first_none : behind (is_before at) index ≡ [] → IsFound parent name ordered None
  first_none e = by (behind (lower parent name) ordered) (sym behind_index ∙ e) first where
    by : (l : List Stored) → rids_of l ≡ [] → IsFirst parent name ordered l place_in → IsFound parent name ordered None
    by [] i f = (place_in, f)
    by (t ∷ ts) i f = let z : ◌≡◌ {A = List Rid} (t.rid ∷ rids_of ts) [] = i in cc

  -- an item is there, or none

  pub at_or_gap : IsAt parent name ordered place_in ⊎ IsGap parent name ordered place_in
  at_or_gap = by (behind (lower parent name) ordered) first where
    here : (s : Stored) (b : Bool) → is_eq (against parent name s) ≡ b → (ss : List Stored) → IsFirst parent name ordered (s ∷ ss) place_in → IsAt parent name ordered place_in ⊎ IsGap parent name ordered place_in
    here s true e ss f = inl (f.0 e).0
    here s false e ss f = inr (f.1 e)

    by : (l : List Stored) → IsFirst parent name ordered l place_in → IsAt parent name ordered place_in ⊎ IsGap parent name ordered place_in
    by [] f = inr f
    by (s ∷ ss) f = here s (is_eq (against parent name s)) refl ss f
