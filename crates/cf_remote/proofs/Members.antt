-- What lists of items have, and what holds of each.
use Rattle.std.proofs.Common.{◌≡◌, ◌⊎◌, inl, inr, ℕ, zero, suc, ◌+◌, ◌<◌, Bool, true, false, cond, List, [], ◌∷◌, ◌++◌, length, map, get_or, refl, sym, ap, ◌∙◌, subst, arith, ◌==◌, ◌||◌, ◌≤◌}
use Rattle.std.specs.Prelude.{Some, filter}
use Rattle.std.specs.List.{AllByRecursion, list_any}
use Rattle.std.proofs.lemmas.Bool.{eq-eqb, ne_eqb, eqb-true}
use Rattle.cf_base.specs.declared.ids.Rid.{Rid}
use Rattle.cf_model.specs.Growth.{CountsFrom}
use Rattle.cf_model.specs.Store.{Stored, stored_at}
use Rattle.cf_remote.specs.Order.{Has}

pub all_has : (P : Stored → Type 0) (ss : List Stored) → AllByRecursion P ss → (s : Stored) → Has ss s → P s
all_has P [] h s k = absurd k
all_has P (t ∷ ts) h s (inl e) = subst P (sym e) h.0
all_has P (t ∷ ts) h s (inr k) = all_has P ts h.1 s k

pub all_from : (P : Stored → Type 0) (ss : List Stored) → ((s : Stored) → Has ss s → P s) → AllByRecursion P ss
all_from P [] h = tt
all_from P (t ∷ ts) h = (h t (inl refl), all_from P ts (λ s k. h s (inr k)))

pub has_map : (f : Stored → Stored) (ss : List Stored) (s : Stored) → Has ss s → Has (map f ss) (f s)
has_map f [] s k = absurd k
has_map f (t ∷ ts) s (inl e) = inl (ap f e)
has_map f (t ∷ ts) s (inr k) = inr (has_map f ts s k)

pub map_has : (f : Stored → Stored) (ss : List Stored) (s : Stored) → Has (map f ss) s → (t : Stored) × Has ss t × (s ≡ f t)
map_has f [] s k = absurd k
map_has f (t ∷ ts) s (inl e) = (t, inl refl, e)
map_has f (t ∷ ts) s (inr k) = let h = map_has f ts s k in (h.0, inr h.1, h.2)

pub has_filter : (p : Stored → Bool) (ss : List Stored) (s : Stored) → Has ss s → p s ≡ true → Has (filter p ss) s
has_filter p [] s k e = absurd k
has_filter p (t ∷ ts) s (inl i) e = rw (ap p (sym i) ∙ e) (inl i)
has_filter p (t ∷ ts) s (inr k) e = one (p t) (has_filter p ts s k e) where
  one : (b : Bool) → Has (filter p ts) s → Has (cond b (t ∷ filter p ts) (filter p ts)) s
  one true h = inr h
  one false h = h

pub filter_has : (p : Stored → Bool) (ss : List Stored) (s : Stored) → Has (filter p ss) s → Has ss s × (p s ≡ true)
filter_has p [] s k = absurd k
filter_has p (t ∷ ts) s h = one (p t) refl (filter_has p ts s) h where
  one : (b : Bool) → p t ≡ b → (Has (filter p ts) s → Has ts s × (p s ≡ true)) → Has (cond b (t ∷ filter p ts) (filter p ts)) s → Has (t ∷ ts) s × (p s ≡ true)
  one true e rest (inl i) = (inl i, ap p i ∙ e)
  one true e rest (inr k) = (inr (rest k).0, (rest k).1)
  one false e rest k = (inr (rest k).0, (rest k).1)

pub has_more : (ss : List Stored) (t s : Stored) → Has ss s → Has (ss ++ t ∷ []) s
has_more [] t s k = absurd k
has_more (r ∷ rs) t s (inl e) = inl e
has_more (r ∷ rs) t s (inr k) = inr (has_more rs t s k)

pub has_last : (ss : List Stored) (t : Stored) → Has (ss ++ t ∷ []) t
has_last [] t = inl refl
has_last (r ∷ rs) t = inr (has_last rs t)

pub more_has : (ss : List Stored) (t s : Stored) → Has (ss ++ t ∷ []) s → Has ss s ⊎ (s ≡ t)
more_has [] t s (inl e) = inr e
more_has [] t s (inr k) = absurd k
more_has (r ∷ rs) t s (inl e) = inl (inl e)
more_has (r ∷ rs) t s (inr k) = elim (more_has rs t s k) [ inl h ↦ inl (inr h) | inr e ↦ inr e ]

-- items by place
pub has_get : (ss : List Stored) (k : ℕ) (d : Stored) → k < length ss → Has ss (get_or ss k d)
has_get [] k d lt = absurd (omega arith)
has_get (s ∷ ss) zero d lt = inl refl
has_get (s ∷ ss) (suc k) d lt = inr (has_get ss k d (omega arith))

-- tests over a list

pub any_from : (p : Stored → Bool) (ss : List Stored) (s : Stored) → Has ss s → p s ≡ true → list_any p ss ≡ true
any_from p [] s k e = absurd k
any_from p (t ∷ ts) s (inl i) e = rw (ap p (sym i) ∙ e) refl
any_from p (t ∷ ts) s (inr k) e = one (p t) (any_from p ts s k e) where
  one : (b : Bool) → list_any p ts ≡ true → (b || list_any p ts) ≡ true
  one true h = refl
  one false h = h

pub any_none : (p : Stored → Bool) (ss : List Stored) → ((s : Stored) → Has ss s → p s ≡ false) → list_any p ss ≡ false
any_none p [] h = refl
any_none p (t ∷ ts) h = rw (h t (inl refl)) (any_none p ts (λ s k. h s (inr k)))

-- items by rid

pub from_low : (n : ℕ) (ss : List Stored) → CountsFrom n ss → (s : Stored) → Has ss s → n ≤ s.rid.0
from_low n [] h s k = absurd k
from_low n (t ∷ ts) h s (inl e) = omega (arith, ap (λ (x : Stored). x.rid.0) e, h.0)
from_low n (t ∷ ts) h s (inr k) = omega (arith, from_low (n + 1) ts h.1 s k)

pub stored_has : (n : ℕ) (ss : List Stored) → CountsFrom n ss → (s : Stored) → Has ss s → stored_at ss s.rid ≡ Some s
stored_has n [] h s k = absurd k
stored_has n (t ∷ ts) h s (inl e) = rw (eq-eqb t.rid.0 s.rid.0 (ap (λ (x : Stored). x.rid.0) (sym e))) (ap Some (sym e))
stored_has n (t ∷ ts) h s (inr k) = rw (ne_eqb t.rid.0 s.rid.0 (λ e. absurd (omega (arith, e, h.0, from_low (n + 1) ts h.1 s k)))) (stored_has (n + 1) ts h.1 s k)

pub has_stored : (ss : List Stored) (rid : Rid) (s : Stored) → stored_at ss rid ≡ Some s → Has ss s × (s.rid.0 ≡ rid.0)
has_stored [] rid s e = cc
has_stored (t ∷ ts) rid s e = one (t.rid.0 == rid.0) refl (has_stored ts rid s) e where
  one : (b : Bool) → (t.rid.0 == rid.0) ≡ b → (stored_at ts rid ≡ Some s → Has ts s × (s.rid.0 ≡ rid.0)) → cond b (Some t) (stored_at ts rid) ≡ Some s → Has (t ∷ ts) s × (s.rid.0 ≡ rid.0)
  one true k rest e = let i : t ≡ s = cc in (inl (sym i), ap (λ (x : Stored). x.rid.0) (sym i) ∙ eqb-true t.rid.0 rid.0 k)
  one false k rest e = (inr (rest e).0, (rest e).1)

-- two items with one rid are one item
pub same_item : (n : ℕ) (ss : List Stored) → CountsFrom n ss → (s t : Stored) → Has ss s → Has ss t → s.rid ≡ t.rid → s ≡ t
same_item n ss h s t hs ht e =
    let i : Some s ≡ Some t = sym (stored_has n ss h s hs) ∙ ap (stored_at ss) e ∙ stored_has n ss h t ht in cc
