-- Items in order of parent and name: one more, some left out, others changed but for their places.
use Rattle.std.proofs.Common.{◌≡◌, ◌⊎◌, inl, inr, ℕ, zero, suc, ◌≤◌, Bool, true, false, cond, List, [], ◌∷◌, length, map, take, drop, refl, ap, ◌∙◌, arith}
use Rattle.std.specs.Prelude.{filter}
use Rattle.std.specs.List.{AllByRecursion, insert}
use Rattle.std.specs.Cmp.{IsTotalOrder}
use Rattle.std.specs.declared.cmp.Ordering.{Ordering}
use Rattle.std.specs.declared.cmp.Ordering.TheVariants.{Less, Equal, Greater}
use Rattle.std.specs.Ordering.{is_lt, ordering_reverse}
use Rattle.std.proofs.lemmas.Cmp.{nat_cmp_total, nat_list_cmp_total, on_total, then_total}
use Rattle.cf_base.specs.declared.ids.Rid.{Rid}
use Rattle.cf_model.specs.Store.{Stored}
use Rattle.cf_remote.specs.Order.{Has, Rises, comes, placed, rids_of}

pub comes_total : IsTotalOrder comes
comes_total = then_total (on_total (λ s. s.parent.0) nat_cmp_total) (on_total (λ s. s.name) nat_list_cmp_total)

all_weaker : (P Q : Stored → Type 0) (ss : List Stored) → ((s : Stored) → P s → Q s) → AllByRecursion P ss → AllByRecursion Q ss
all_weaker P Q [] f h = tt
all_weaker P Q (s ∷ ss) f h = (f s h.0, all_weaker P Q ss f h.1)

all_placed : (P : Stored → Type 0) (t : Stored) (ss : List Stored) → P t → AllByRecursion P ss → AllByRecursion P (placed t ss)
all_placed P t [] p h = (p, tt)
all_placed P t (s ∷ ss) p h = one (is_lt (comes s t)) (all_placed P t ss p h.1) where
  one : (b : Bool) → AllByRecursion P (placed t ss) → AllByRecursion P (cond b (s ∷ placed t ss) (t ∷ s ∷ ss))
  one true k = (h.0, k)
  one false k = (p, h)

all_filter : (P : Stored → Type 0) (p : Stored → Bool) (ss : List Stored) → AllByRecursion P ss → AllByRecursion P (filter p ss)
all_filter P p [] h = tt
all_filter P p (s ∷ ss) h = one (p s) (all_filter P p ss h.1) where
  one : (b : Bool) → AllByRecursion P (filter p ss) → AllByRecursion P (cond b (s ∷ filter p ss) (filter p ss))
  one true k = (h.0, k)
  one false k = k

-- no two are at one place
pub placed_rises : (t : Stored) (ss : List Stored) → Rises ss → AllByRecursion (λ s. comes s t ≡ Equal → ⊥) ss → Rises (placed t ss)
placed_rises t [] h apart = (tt, tt)
placed_rises t (s ∷ ss) h apart = one (comes s t) refl (placed_rises t ss h.1 apart.1) where
  one : (o : Ordering) → comes s t ≡ o → Rises (placed t ss) → Rises (cond (is_lt o) (s ∷ placed t ss) (t ∷ s ∷ ss))
  one Less e k = (all_placed (λ x. comes s x ≡ Less) t ss e h.0, k)
  one Equal e k = absurd (apart.0 e)
  one Greater e k =
      let back : comes t s ≡ Less = comes_total.antisymm t s ∙ ap ordering_reverse e in
      ((back, all_weaker (λ x. comes s x ≡ Less) (λ x. comes t x ≡ Less) ss (λ x l. comes_total.trans t s x back l) h.0), h)

pub filter_rises : (p : Stored → Bool) (ss : List Stored) → Rises ss → Rises (filter p ss)
filter_rises p [] h = tt
filter_rises p (s ∷ ss) h = one (p s) (filter_rises p ss h.1) where
  one : (b : Bool) → Rises (filter p ss) → Rises (cond b (s ∷ filter p ss) (filter p ss))
  one true k = (all_filter (λ x. comes s x ≡ Less) p ss h.0, k)
  one false k = k

-- a change that keeps parent and name
pub record KeepsPlace (f : Stored → Stored) : Type 0 where
  pub parent : (s : Stored) → (f s).parent ≡ s.parent
  pub name : (s : Stored) → (f s).name ≡ s.name
  pub rid : (s : Stored) → (f s).rid ≡ s.rid
  pub live : (s : Stored) → (f s).live ≡ s.live

comes_kept : (f : Stored → Stored) → KeepsPlace f → (s t : Stored) → comes (f s) (f t) ≡ comes s t
comes_kept f k s t = rw (k.parent s, k.parent t, k.name s, k.name t) refl

all_map : (P : Stored → Type 0) (f : Stored → Stored) (ss : List Stored) → AllByRecursion (λ s. P (f s)) ss → AllByRecursion P (map f ss)
all_map P f [] h = tt
all_map P f (s ∷ ss) h = (h.0, all_map P f ss h.1)

pub map_rises : (f : Stored → Stored) → KeepsPlace f → (ss : List Stored) → Rises ss → Rises (map f ss)
map_rises f k [] h = tt
map_rises f k (s ∷ ss) h = (all_map (λ x. comes (f s) x ≡ Less) f ss (all_weaker _ (λ x. comes (f s) (f x) ≡ Less) ss (λ x l. comes_kept f k s x ∙ l) h.0), map_rises f k ss h.1)

-- what is placed and what was there
pub placed_has : (t : Stored) (ss : List Stored) (s : Stored) → Has (placed t ss) s → Has ss s ⊎ (s ≡ t)
placed_has t [] s (inl e) = inr e
placed_has t [] s (inr k) = absurd k
placed_has t (r ∷ rs) s h = one (is_lt (comes r t)) (placed_has t rs s) h where
  one : (b : Bool) → (Has (placed t rs) s → Has rs s ⊎ (s ≡ t)) → Has (cond b (r ∷ placed t rs) (t ∷ r ∷ rs)) s → Has (r ∷ rs) s ⊎ (s ≡ t)
  one true rest (inl e) = inl (inl e)
  one true rest (inr k) = elim (rest k) [ inl i ↦ inl (inr i) | inr e ↦ inr e ]
  one false rest (inl e) = inr e
  one false rest (inr k) = inl k

pub has_placed : (t : Stored) (ss : List Stored) (s : Stored) → Has ss s → Has (placed t ss) s
has_placed t [] s k = absurd k
has_placed t (r ∷ rs) s h = one (is_lt (comes r t)) (has_placed t rs s) h where
  one : (b : Bool) → (Has rs s → Has (placed t rs) s) → Has (r ∷ rs) s → Has (cond b (r ∷ placed t rs) (t ∷ r ∷ rs)) s
  one true rest (inl e) = inl e
  one true rest (inr k) = inr (rest k)
  one false rest k = inr k

pub has_new : (t : Stored) (ss : List Stored) → Has (placed t ss) t
has_new t [] = inl refl
has_new t (r ∷ rs) = one (is_lt (comes r t)) (has_new t rs) where
  one : (b : Bool) → Has (placed t rs) t → Has (cond b (r ∷ placed t rs) (t ∷ r ∷ rs)) t
  one true k = inr k
  one false k = inl refl

-- where the place is that of a binary search
pub inserted : (t : Stored) (ss : List Stored) (i : ℕ) → i ≤ length ss → AllByRecursion (λ s. comes s t ≡ Less) (take i ss) → AllByRecursion (λ s. comes s t ≡ Greater) (drop i ss)
    → insert (rids_of ss) i t.rid ≡ rids_of (placed t ss)
inserted t [] zero le before after = refl
inserted t [] (suc i) le before after = absurd (omega arith)
inserted t (s ∷ ss) zero le before after = rw after.0 refl
inserted t (s ∷ ss) (suc i) le before after = rw before.0 (ap (λ (rs : List Rid). s.rid ∷ rs) (inserted t ss i (omega arith) before.1 after))
