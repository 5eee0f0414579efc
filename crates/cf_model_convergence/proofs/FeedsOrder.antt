-- A feed of a tidy remote reports parents before their children.
use Rattle.std.proofs.Common.{◌≡◌, ◌⊎◌, ◌<◌, ◌≤◌, ◌+◌, ℕ, zero, suc, Bool, true, false, List, [], ◌∷◌, ◌++◌, refl, sym, ◌∙◌, ap, subst, inl, inr, arith, length, map, eq-eqb}
use Rattle.std.specs.Prelude.{Some, None, cond, filter, not, nat_lt, ◌&&◌, ◌==◌}
use Rattle.std.specs.List.{flat_map}
use Rattle.std.proofs.lemmas.Bool.{eqb-true}
use Rattle.std.proofs.lemmas.Bool.Decides.{nat_tests}
use Rattle.cf_base.specs.declared.ids.Rid.{Rid}
use Rattle.cf_base.specs.declared.limits.TheConstants.{MOST_PATH_NAMES}
use Rattle.cf_model.specs.Store.{Held, Stored, depth_of, entry_told, feed_of, stored_at}
use Rattle.cf_model.specs.Words.{counting}
use Rattle.cf_model_laws.specs.Invariant.{All, Among}
use Rattle.cf_model_laws.proofs.FoundItems.{both}
use Rattle.cf_model_laws.proofs.Gathered.{all_found, all_passed, all_weaker}
use Rattle.cf_model_laws.proofs.RightItems.{no_way}
use Rattle.cf_model_laws.proofs.SoundSettles.{left_true, not_true}
use Rattle.cf_model_convergence.specs.Feeds.{AreParentsFirst, HasParent}
use Rattle.cf_model_convergence.specs.Tidy.{IsLower, IsReached, IsTidy, Reaches}
use Rattle.cf_model_convergence.proofs.FeedsTold.{Tells, among_filter, among_map, depth_is, live_at, seen, tells_seen, told, was_changed}
use Rattle.cf_model_convergence.proofs.Lines.{few, line_length, one_some, unlike}
use Rattle.cf_model_convergence.proofs.TidyItems.{found_rid, said}

among_found : (items : List Stored) (rid : Rid) (p : Stored) → stored_at items rid ≡ Some p → Among p items
among_found [] rid p e = absurd (w e) where
  w : None ≡ Some p → ⊥
  w z = cc
among_found (s ∷ items) rid p e = by (s.rid.0 == rid.0) e (among_found items rid p) where
  by : (b : Bool) → cond b (Some s) (stored_at items rid) ≡ Some p → (stored_at items rid ≡ Some p → Among p items) → Among p (s ∷ items)
  by true e k = inl (same e) where
    same : Some s ≡ Some p → s ≡ p
    same z = cc
  by false e k = inr (k e)

-- the items before, with these in front, the last first
onto : List Stored → List Stored → List Stored
onto [] before = before
onto (s ∷ ss) before = onto ss (s ∷ before)

onto_old : (ss before : List Stored) (p : Stored) → Among p before → Among p (onto ss before)
unfolding onto
onto_old [] before p a = a
onto_old (s ∷ ss) before p a = onto_old ss (s ∷ before) p (inr a)

onto_new : (ss before : List Stored) (p : Stored) → Among p ss → Among p (onto ss before)
unfolding onto
onto_new [] before p a = absurd a
onto_new (s ∷ ss) before p (inl e) = onto_old ss (s ∷ before) p (inl e)
onto_new (s ∷ ss) before p (inr a) = onto_new ss (s ∷ before) p a

module _ (held : Held) (h : IsTidy held) (after : ℕ) where
  abbrev HasUp : List Stored → Stored → Type 0
  HasUp before s = (s.parent.0 ≡ 1) ⊎ ((p : Stored) × (stored_at held.items s.parent ≡ Some p) × (p.changed ≤ after)) ⊎ ((p : Stored) × (stored_at held.items s.parent ≡ Some p) × Among p before)

  abbrev First : List Stored → List Stored → Type 0
  First before [] = Unit {0}
  First before (s ∷ ss) = (s.live ≡ true → HasUp before s) × First (s ∷ before) ss

  one_more : (before : List Stored) (x s : Stored) → HasUp before s → HasUp (x ∷ before) s
  one_more before x s (inl e) = inl e
  one_more before x s (inr (inl k)) = inr (inl k)
  one_more before x s (inr (inr k)) = inr (inr (k.0, k.1, inr k.2))

  first_all : (ss before : List Stored) → All (λ s. s.live ≡ true → HasUp before s) ss → First before ss
  first_all [] before k = tt
  first_all (s ∷ ss) before k = (k.0, first_all ss (s ∷ before) (all_weaker (λ t. t.live ≡ true → HasUp before t) (λ t. t.live ≡ true → HasUp (s ∷ before) t) (λ t g live. one_more before s t (g live)) ss k.1))

  first_append : (ss ts before : List Stored) → First before ss → First (onto ss before) ts → First before (ss ++ ts)
  unfolding onto
  first_append [] ts before k g = g
  first_append (s ∷ ss) ts before k g = (k.0, first_append ss ts (s ∷ before) k.1 g)

  -- all that stand higher were told before
  abbrev Full : ℕ → List Stored → Type 0
  Full low before = (p : Stored) → Among p (seen held h after) → p.live ≡ true → depth_of held p.rid < low → Among p before

  -- the parent of an item is one step nearer to the root
  parent_depth : (s : Stored) → IsLower s → s.live ≡ true → stored_at held.items s.rid ≡ Some s → IsReached held.items s → depth_of held s.rid ≡ suc (depth_of held s.parent)
  parent_depth s low live found r = let x = r live in by x.0 x.2 where
    by : (n : ℕ) → Reaches held.items n s.rid → depth_of held s.rid ≡ suc (depth_of held s.parent)
    by zero k = absurd (low k)
    by (suc n) k =
        let up : Reaches held.items n s.parent = subst (λ (t : Stored). Reaches held.items n t.parent) (one_some (stored_at held.items s.rid) k.1 s k.2 found) k.3 in
        line_length held.items (suc n) (length held.items) s.rid k (few held.items (suc n) s.rid h.counted k) ∙ ap (λ (m : ℕ). suc m) (sym (line_length held.items n (length held.items) s.parent up (few held.items n s.parent h.counted up)))

  reached : (s : Stored) → stored_at held.items s.rid ≡ Some s → IsReached held.items s
  reached s found = (all_found (IsReached held.items) (λ t. t.rid.0 == s.rid.0) held.items s found h.reached).0

  has_up : (low : ℕ) (before : List Stored) → Full low before → (s : Stored) → (s.live ≡ true) → depth_of held s.rid ≡ low → Tells held h after s → HasUp before s
  has_up low before full s live at k = by (s.parent.0 == 1) refl where
    up : (p : Stored) × (stored_at held.items s.parent ≡ Some p) × ((p.live && p.directory) ≡ true)
    up = said (λ p. p.live && p.directory) (stored_at held.items s.parent) (k.1.under k.2 live)

    nearer : depth_of held s.rid ≡ suc (depth_of held s.parent)
    nearer = parent_depth s k.2 live k.0 (reached s k.0)

    less : (a b c : ℕ) → a ≡ suc b → a ≡ c → b < c
    less a b c e f = omega (arith, e, f)

    early : (n : ℕ) → nat_lt after n ≡ false → n ≤ after
    early n e = grind (arith, nat_tests, e)

    by_time : (b : Bool) → nat_lt after up.0.changed ≡ b → ((s.parent.0 ≡ 1) → ⊥) → HasUp before s
    by_time false e low1 = inr (inl (up.0, up.1, early up.0.changed e))
    by_time true e low1 =
        let same : up.0.rid.0 ≡ s.parent.0 = found_rid held.items s.parent up.0 up.1 in
        inr (inr (
          up.0,
          up.1,
          full up.0 (among_filter (was_changed held h after) up.0 held.items (both (nat_lt after up.0.changed) (not (up.0.rid.0 == 1)) e (ap (λ (b : Bool). not b) (unlike up.0.rid.0 1 (λ z. low1 (sym same ∙ z))))) (among_found held.items s.parent up.0 up.1))
              (left_true up.0.live up.0.directory up.2) (subst (λ (n : ℕ). depth_of held (record { 0 = n }) < low) (sym same) (less (depth_of held s.rid) (depth_of held s.parent) low nearer at)),
        ))

    by : (b : Bool) → (s.parent.0 == 1) ≡ b → HasUp before s
    by true e = inl (eqb-true s.parent.0 1 e)
    by false e = by_time (nat_lt after up.0.changed) refl (λ z. no_way (sym e ∙ eq-eqb s.parent.0 1 z))

  one_level : (low : ℕ) (before : List Stored) → Full low before → First before (live_at held h after low)
  one_level low before full = first_all (live_at held h after low) before (all_passed (Tells held h after) (λ s. s.live ≡ true → HasUp before s) (λ s. s.live && (depth_of held s.rid == low)) (λ s e k live. has_up low before full s live (eqb-true (depth_of held s.rid) low (right s.live (depth_of held s.rid == low) e)) k) (seen held h after) (tells_seen held h after)) where
    right : (a b : Bool) → (a && b) ≡ true → b ≡ true
    right true b e = e
    right false b e = no_way e

  next_full : (low : ℕ) (before : List Stored) → Full low before → Full (low + 1) (onto (live_at held h after low) before)
  next_full low before full p a live d = by (depth_of held p.rid == low) refl where
    smaller : (n : ℕ) → n < low + 1 → ((n ≡ low) → ⊥) → n < low
    smaller n k e = omega (arith, k, e)

    by : (b : Bool) → (depth_of held p.rid == low) ≡ b → Among p (onto (live_at held h after low) before)
    by true e = onto_new (live_at held h after low) before p (among_filter (λ s. s.live && (depth_of held s.rid == low)) p (seen held h after) (both p.live (depth_of held p.rid == low) live e) a)
    by false e = onto_old (live_at held h after low) before p (full p a live (smaller (depth_of held p.rid) d (λ z. no_way (sym e ∙ eq-eqb (depth_of held p.rid) low z))))

  levels : (n low : ℕ) (before : List Stored) → Full low before → First before (flat_map (live_at held h after) (counting low n))
  levels zero low before full = tt
  levels (suc n) low before full = first_append (live_at held h after low) (flat_map (live_at held h after) (counting (low + 1) n)) before (one_level low before full) (levels n (low + 1) (onto (live_at held h after low) before) (next_full low before full))

  none_above : Full 1 []
  none_above p a live d = by (among_tells (seen held h after) (tells_seen held h after) a) where
    among_tells : (ss : List Stored) → All (Tells held h after) ss → Among p ss → Tells held h after p
    among_tells [] k m = absurd m
    among_tells (s ∷ ss) k (inl e) = subst (Tells held h after) e k.0
    among_tells (s ∷ ss) k (inr m) = among_tells ss k.1 m

    no : (n : ℕ) → n < 1 → 1 ≤ n → ⊥
    no n k l = omega (arith, k, l)

    by : Tells held h after p → Among p []
    by k = no (depth_of held p.rid) d (depth_is held h after p k.2 live (reached p k.0)).0

  first_told : First [] (told held h after)
  first_told = first_append (flat_map (live_at held h after) (counting 1 MOST_PATH_NAMES)) (filter (λ s. not s.live) (seen held h after)) [] (levels MOST_PATH_NAMES 1 [] none_above)
      (first_all (filter (λ s. not s.live) (seen held h after)) (onto (flat_map (live_at held h after) (counting 1 MOST_PATH_NAMES)) []) (all_passed (Tells held h after) (λ s. s.live ≡ true → HasUp (onto (flat_map (live_at held h after) (counting 1 MOST_PATH_NAMES)) []) s) (λ s. not s.live) (λ s e k live. no_way (sym (not_true s.live e) ∙ live)) (seen held h after) (tells_seen held h after)))

  entries_first : (ss before : List Stored) → First before ss → AreParentsFirst held after (map entry_told before) (map entry_told ss)
  entries_first [] before k = tt
  entries_first (s ∷ ss) before k = ((λ live. by (k.0 live)), entries_first ss (s ∷ before) k.1) where
    by : HasUp before s → HasParent held after (map entry_told before) (entry_told s)
    by (inl e) = inl e
    by (inr (inl g)) = inr (inl g)
    by (inr (inr g)) = inr (inr (g.0, g.1, among_map entry_told g.0 before g.2))

pub parents_first : (held : Held) (after : ℕ) → IsTidy held → AreParentsFirst held after [] (feed_of held after)
parents_first held after h = entries_first held h after (told held h after) [] (first_told held h after)
