-- The children of a directory in the index.
use Rattle.std.proofs.Common.{◌≡◌, ℕ, ◌+◌, ◌<◌, ◌≤◌, Bool, true, false, cond, List, [], ◌∷◌, ◌++◌, append-nil, append_assoc, inl, inr, length, not, refl, sym, ap, subst, ◌∙◌, arith, ◌==◌, ◌&&◌}
use Rattle.std.specs.Prelude.{Option, Some, None, filter}
use Rattle.std.specs.List.{AllByRecursion, filter_map, list_any}
use lib.Dec.{eqb}
use Rattle.std.specs.Cmp.Lexicographic.{slice_cmp}
use Rattle.std.specs.declared.cmp.Ordering.{Ordering}
use Rattle.std.specs.declared.cmp.Ordering.TheVariants.{Less, Equal, Greater}
use Rattle.std.specs.Ordering.{MatchOrdering, is_lt, nat_cmp, ordering_then}
use Rattle.std.proofs.lemmas.Bool.{cond-true, cond-false, eq-eqb, ne_eqb}
use Rattle.std.proofs.lemmas.Cmp.{ranked}
use Rattle.cf_base.specs.declared.ids.Rid.{Rid}
use Rattle.cf_base.specs.declared.messages.Entry.{Entry}
use Rattle.cf_collections.specs.Split.{IsSplit, NonePass, behind}
use Rattle.cf_model.specs.Store.{Stored, entry_told, stored_at}
use Rattle.cf_model.specs.Words.{says}
use Rattle.cf_remote.specs.Order.{Has, IsIndex, Rises, against, children, comes, is_before, is_inside, place, rids_of, told_at}
use Rattle.cf_remote.proofs.Listings.{any_child, lt_from}
use Rattle.cf_remote.proofs.Members.{stored_has}
use Rattle.cf_remote.proofs.Places.{before_is, lower, not_lower, part_of}

-- no name comes before the empty one
less_parent : (n p : ℕ) (name : List ℕ) → ordering_then (nat_cmp n p) (slice_cmp nat_cmp name []) ≡ Less → n < p
less_parent n p name e = one (nat_cmp n p) name (ranked n p (nat_cmp n p) refl) e where
  one : (o : Ordering) (name : List ℕ) → MatchOrdering o (n < p) (n ≡ p) (p < n) → ordering_then o (slice_cmp nat_cmp name []) ≡ Less → n < p
  one Less name h e = h
  one Equal [] h e = cc
  one Equal (x ∷ xs) h e = cc
  one Greater name h e = cc

not_less_parent : (n p : ℕ) (name : List ℕ) (o : Ordering) → ordering_then (nat_cmp n p) (slice_cmp nat_cmp name []) ≡ o → (o ≡ Less → ⊥) → p ≤ n
not_less_parent n p name o e k = one (nat_cmp n p) (ranked n p (nat_cmp n p) refl) e where
  one : (q : Ordering) → MatchOrdering q (n < p) (n ≡ p) (p < n) → ordering_then q (slice_cmp nat_cmp name []) ≡ o → p ≤ n
  one Less h e = absurd (k (sym e))
  one Equal h e = omega arith
  one Greater h e = omega arith

not_above : (s t : Stored) → comes s t ≡ Less → s.parent.0 ≤ t.parent.0
not_above s t e = one (nat_cmp s.parent.0 t.parent.0) (ranked s.parent.0 t.parent.0 (nat_cmp s.parent.0 t.parent.0) refl) e where
  one : (o : Ordering) → MatchOrdering o (s.parent.0 < t.parent.0) (s.parent.0 ≡ t.parent.0) (t.parent.0 < s.parent.0) → ordering_then o (slice_cmp nat_cmp s.name t.name) ≡ Less → s.parent.0 ≤ t.parent.0
  one Less h e = omega arith
  one Equal h e = omega arith
  one Greater h e = cc

-- what comes before a directory is outside, and so is what comes after what is behind it and outside

lower_outside : (d : Rid) (s : Stored) → lower d [] s ≡ true → (s.parent.0 == d.0) ≡ false
lower_outside d s h =
    let less : s.parent.0 < d.0 = less_parent s.parent.0 d.0 s.name (lt_from (against d [] s) h) in
    ne_eqb s.parent.0 d.0 (λ (e : s.parent.0 ≡ d.0). omega (arith, less))

later_outside : (d : Rid) (s t : Stored) → lower d [] s ≡ false → (s.parent.0 == d.0) ≡ false → comes s t ≡ Less → (t.parent.0 == d.0) ≡ false
later_outside d s t h o l =
    let low : d.0 ≤ s.parent.0 = not_less_parent s.parent.0 d.0 s.name (against d [] s) refl (λ e. let z : true ≡ false = ap is_lt (sym e) ∙ h in cc) in
    let up : s.parent.0 ≤ t.parent.0 = not_above s t l in
    ne_eqb t.parent.0 d.0 (λ (e : t.parent.0 ≡ d.0). unlike s.parent.0 d.0 o (omega (arith, low, up, e))) where
      unlike : (m n : ℕ) → (m == n) ≡ false → m ≡ n → ⊥
      unlike m n f e = let z : true ≡ false = sym (eq-eqb m n e) ∙ f in cc

-- a list of which none passes
pub filter_none : {T : Type 0} (p : T → Bool) (xs : List T) → NonePass p xs → filter p xs ≡ []
filter_none p [] n = refl
filter_none p (x ∷ xs) n = cond-false (p x) (x ∷ filter p xs) (filter p xs) n.0 ∙ filter_none p xs n.1

-- the children

module _ (items : List Stored) (index : List Rid) (ordered : List Stored) (is : IsIndex items index ordered) (d : Rid) where
  abbrev inside : Rid → Bool
  inside = is_inside items d

  abbrev before : Rid → Bool
  before = is_before (place items d [])

  inside_is : (s : Stored) → Has ordered s → inside s.rid ≡ (s.parent.0 == d.0)
  inside_is s h = ap (says (λ t. t.parent.0 == d.0)) (stored_has 1 items is.counted s (is.order.stands s h).0)

  lower_is : (s : Stored) → Has ordered s → before s.rid ≡ lower d [] s
  lower_is s h = before_is items index ordered (part_of items index ordered is) d [] false s h

  filter_rids : (ss : List Stored) → ((s : Stored) → Has ss s → Has ordered s) → filter inside (rids_of ss) ≡ rids_of (children d ss)
  filter_rids [] h = refl
  filter_rids (s ∷ ss) h = (λ i. cond (inside_is s (h s (inl refl)) i) (s.rid ∷ filter inside (rids_of ss)) (filter inside (rids_of ss))) ∙ by (s.parent.0 == d.0) (filter_rids ss (λ t k. h t (inr k))) where
    by : (b : Bool) → filter inside (rids_of ss) ≡ rids_of (children d ss) → cond b (s.rid ∷ filter inside (rids_of ss)) (filter inside (rids_of ss)) ≡ rids_of (cond b (s ∷ children d ss) (children d ss))
    by true more = ap (λ (rs : List Rid). s.rid ∷ rs) more
    by false more = more

  pub rids_inside : filter inside index ≡ rids_of (children d ordered)
  rids_inside = ap (filter inside) is.rids ∙ filter_rids ordered (λ s h. h)

  -- those from the place of the directory on

  filter_behind : (ss : List Stored) → ((s : Stored) → Has ss s → Has ordered s) → filter inside (behind before (rids_of ss)) ≡ filter inside (rids_of ss)
  filter_behind [] h = refl
  filter_behind (s ∷ ss) h = by (before s.rid) refl (filter_behind ss (λ t k. h t (inr k))) where
    by : (b : Bool) → before s.rid ≡ b → filter inside (behind before (rids_of ss)) ≡ filter inside (rids_of ss) → filter inside (cond b (behind before (rids_of ss)) (s.rid ∷ rids_of ss)) ≡ filter inside (s.rid ∷ rids_of ss)
    by true e more =
        let out : inside s.rid ≡ false = inside_is s (h s (inl refl)) ∙ lower_outside d s (sym (lower_is s (h s (inl refl))) ∙ e) in
        more ∙ sym (cond-false (inside s.rid) (s.rid ∷ filter inside (rids_of ss)) (filter inside (rids_of ss)) out)
    by false e more = refl

  pub behind_inside : filter inside (behind before index) ≡ filter inside index
  behind_inside = subst (λ (rs : List Rid). filter inside (behind before rs) ≡ filter inside rs) (sym is.rids) (filter_behind ordered (λ s h. h))

  none_inside : (s : Stored) (ss : List Stored) → lower d [] s ≡ false → (s.parent.0 == d.0) ≡ false → AllByRecursion (λ t. comes s t ≡ Less) ss → ((t : Stored) → Has ss t → Has ordered t) → NonePass inside (rids_of ss)
  none_inside s [] l o r h = tt
  none_inside s (t ∷ ts) l o r h = (inside_is t (h t (inl refl)) ∙ later_outside d s t l o r.0, none_inside s ts l o r.1 (λ u k. h u (inr k)))

  not_lower_all : (s : Stored) (ss : List Stored) → lower d [] s ≡ false → AllByRecursion (λ t. comes s t ≡ Less) ss → AllByRecursion (λ t. lower d [] t ≡ false) ss
  not_lower_all s [] l r = tt
  not_lower_all s (t ∷ ts) l r = (not_lower d [] s t l r.0, not_lower_all s ts l r.1)

  split_from : (ss : List Stored) → Rises ss → AllByRecursion (λ t. lower d [] t ≡ false) ss → ((t : Stored) → Has ss t → Has ordered t) → IsSplit inside (rids_of ss)
  split_from [] r l h = tt
  split_from (s ∷ ss) r l h = (
    (λ e. none_inside s ss l.0 (sym (inside_is s (h s (inl refl))) ∙ e) r.0 (λ t k. h t (inr k))),
    split_from ss r.1 l.1 (λ t k. h t (inr k)),
  )

  split_behind : (ss : List Stored) → Rises ss → ((s : Stored) → Has ss s → Has ordered s) → IsSplit inside (behind before (rids_of ss))
  split_behind [] r h = tt
  split_behind (s ∷ ss) r h = by (before s.rid) refl (split_behind ss r.1 (λ t k. h t (inr k))) where
    by : (b : Bool) → before s.rid ≡ b → IsSplit inside (behind before (rids_of ss)) → IsSplit inside (cond b (behind before (rids_of ss)) (s.rid ∷ rids_of ss))
    by true e more = more
    by false e more =
        let here : lower d [] s ≡ false = sym (lower_is s (h s (inl refl))) ∙ e in
        split_from (s ∷ ss) r (here, not_lower_all s ss here r.0) h

  pub split_inside : IsSplit inside (behind before index)
  split_inside = subst (λ (rs : List Rid). IsSplit inside (behind before rs)) (sym is.rids) (split_behind ordered is.order.rises (λ s h. h))

  -- whether there is one

  abbrev has_one : Bool
  has_one = list_any (λ s. s.live && (s.parent.0 == d.0)) items

  any_is : has_one ≡ not (eqb (length (filter inside index)) 0)
  any_is = any_child items index ordered d (filter inside index) is rids_inside

  pub some_child : (r : Rid) (rs : List Rid) → behind before index ≡ r ∷ rs → inside r ≡ has_one
  some_child r rs e = by (inside r) refl ∙ sym (any_is ∙ ap (λ (l : List Rid). not (eqb (length l) 0)) (sym behind_inside ∙ ap (filter inside) e)) where
    by : (b : Bool) → inside r ≡ b → inside r ≡ not (eqb (length (filter inside (r ∷ rs))) 0)
    by true h = h ∙ sym (ap (λ (l : List Rid). not (eqb (length l) 0)) (cond-true (inside r) (r ∷ filter inside rs) (filter inside rs) h)
        ∙ ap not (ne_eqb (length (r ∷ filter inside rs)) 0 (λ (z : length (r ∷ filter inside rs) ≡ 0). absurd (omega (arith, z)))))
    by false h = h ∙ sym (ap (λ (l : List Rid). not (eqb (length l) 0)) (filter_none inside (r ∷ rs) (h, (subst (IsSplit inside) e split_inside).0 h)))

  pub none_child : behind before index ≡ [] → false ≡ has_one
  none_child e = sym (any_is ∙ ap (λ (l : List Rid). not (eqb (length l) 0)) (sym behind_inside ∙ ap (filter inside) e))

-- whether one is inside

module _ (p : Stored → Bool) where
  one_of : (s t : Stored) (b : Bool) → p t ≡ b → Some s ≡ cond b (Some t) None → (b ≡ true) × (Some s ≡ Some t)
  one_of s t true e h = (refl, h)
  one_of s t false e h = cc

  pub some_inside : (o : Option Stored) (s : Stored) → Some s ≡ cond (says p o) o None → (says p o ≡ true) × (Some s ≡ o)
  some_inside None s h = cc
  some_inside (Some t) s h = one_of s t (p t) refl h

  pub none_inside_is : (o : Option Stored) → None ≡ cond (says p o) o None → says p o ≡ false
  none_inside_is None h = refl
  none_inside_is (Some t) h = by (p t) h where
    by : (b : Bool) → None ≡ cond b (Some t) None → b ≡ false
    by true h = cc
    by false h = refl

-- one more of them, and none any more

module _ (items : List Stored) (d : Rid) (done : List Entry) (r : Rid) (rs : List Rid) where
  pub told_more : (s : Stored) → Some s ≡ cond (is_inside items d r) (stored_at items r) None
      → (done ++ entry_told s ∷ []) ++ filter_map (told_at items) (filter (is_inside items d) rs) ≡ done ++ filter_map (told_at items) (filter (is_inside items d) (r ∷ rs))
  told_more s h =
      let both = some_inside (λ t. t.parent.0 == d.0) (stored_at items r) s h in
      append_assoc done (entry_told s ∷ []) (filter_map (told_at items) (filter (is_inside items d) rs))
      ∙ ap (λ (l : List Entry). done ++ l) (sym (ap (filter_map (told_at items)) (cond-true (is_inside items d r) (r ∷ filter (is_inside items d) rs) (filter (is_inside items d) rs) both.0) ∙ rw (← both.1) refl))

  pub told_all : None ≡ cond (is_inside items d r) (stored_at items r) None → IsSplit (is_inside items d) (r ∷ rs) → done ≡ done ++ filter_map (told_at items) (filter (is_inside items d) (r ∷ rs))
  told_all h s =
      let out : is_inside items d r ≡ false = none_inside_is (λ t. t.parent.0 == d.0) (stored_at items r) h in
      sym (ap (λ (l : List Rid). done ++ filter_map (told_at items) l) (filter_none (is_inside items d) (r ∷ rs) (out, s.0 out)) ∙ append-nil done)
