-- A feed that is taken in: what is known of the items' targets is right.
use Rattle.std.proofs.Common.{◌≡◌, ◌⊎◌, ◌<◌, ◌≤◌, ℕ, Bool, true, false, List, [], ◌∷◌, refl, sym, ◌∙◌, ap, subst, inl, inr, arith}
use Rattle.std.specs.Prelude.{Option, Some, None, cond, find, nat_lt, ◌==◌, ◌&&◌}
use Rattle.std.proofs.lemmas.Bool.{eqb-true}
use Rattle.std.proofs.lemmas.Bool.Decides.{nat_tests}
use Rattle.cf_base.specs.declared.ids.ItemId.{ItemId}
use Rattle.cf_base.specs.declared.ids.Rid.{Rid}
use Rattle.cf_base.specs.declared.messages.Entry.{Entry}
use Rattle.cf_model.specs.Changes.{next_number}
use Rattle.cf_model.specs.Dehydration.{in_use as is_used}
use Rattle.cf_model.specs.Identities.{by_target, has_target, target_of}
use Rattle.cf_model.specs.Items.{Item, is_all_here, item_of}
use Rattle.cf_model.specs.LookUp.{item_line}
use Rattle.cf_model.specs.Skips.{in_use}
use Rattle.cf_model.specs.State.{Filter, State, book_now, items_now}
use Rattle.cf_model.specs.Store.{Held, Stored, entry_told, feed_of, stored_at}
use Rattle.cf_model_laws.specs.Invariant.{All, HasBase, Invariant, IsRight, Among}
use Rattle.cf_model_laws.specs.Premises.{IsFair}
use Rattle.cf_model_laws.proofs.AimedTargets.{unaimed_unfound}
use Rattle.cf_model_laws.proofs.FoundItems.{found_again}
use Rattle.cf_model_laws.proofs.Gathered.{all_any, all_found, all_weaker}
use Rattle.cf_model_laws.proofs.RightItems.{no_way}
use Rattle.cf_model_laws.proofs.SoundSettles.{right_true, same_item}
use Rattle.cf_model_convergence.specs.Agreeing.{IsAgreed}
use Rattle.cf_model_convergence.specs.Feeds.{TellsNow}
use Rattle.cf_model_convergence.specs.Lasting.{IsTargetedWell}
use Rattle.cf_model_convergence.specs.Matching.{IsBelow}
use Rattle.cf_model_convergence.specs.Ready.{IsReady}
use Rattle.cf_model_convergence.specs.Resting.{AreTargetsApart, IsKnown, IsTargetOf, IsTargetRight}
use Rattle.cf_model_convergence.specs.Settles.{IsFed}
use Rattle.cf_model_convergence.specs.Telling.{AreWhole, IsToUpload}
use Rattle.cf_model_convergence.specs.Tidy.{IsLower, IsTidy}
use Rattle.cf_model_convergence.specs.Turns.{IsLeftBy, IsOfNone}
use Rattle.cf_model_convergence.proofs.FeedsTold.{all_among, tells_all, tells_now}
use Rattle.cf_model_convergence.proofs.Lines.{one_some, same_rid}
use Rattle.cf_model_convergence.proofs.ReadyRests.{nothing}
use Rattle.cf_model_convergence.proofs.RightTargets.{aimed_right}
use Rattle.cf_model_convergence.proofs.TakenKnown.{taken_known}
use Rattle.cf_model_convergence.proofs.TidyItems.{found_rid}
use Rattle.std.specs.List.{list_any}
use Rattle.cf_model.specs.Requests.{is_hydrate_wait}
use Rattle.cf_model.specs.Pushes.{is_hydrating}

-- one item has the target

pub find_among : {A : Type 0} (f : A → Bool) (xs : List A) (y : A) → find f xs ≡ Some y → Among y xs
find_among f [] y e = cc
find_among f (x ∷ xs) y e = by (f x) e (find_among f xs y) where
  by : (b : Bool) → cond b (Some x) (find f xs) ≡ Some y → (find f xs ≡ Some y → Among y xs) → Among y (x ∷ xs)
  by true z g = inl (one z) where
    one : Some x ≡ Some y → x ≡ y
    one z = cc
  by false z g = inr (g z)

one_target : (items : List Item) → AreTargetsApart items → (i j : Item) → Among i items → Among j items → (target_of i).0 ≡ (target_of j).0 → ((target_of i).0 ≡ 0 → ⊥) → i ≡ j
one_target [] h i j a b e some = absurd a
one_target (x ∷ xs) h i j (inl a) (inl b) e some = sym a ∙ b
one_target (x ∷ xs) h i j (inl a) (inr b) e some =
    absurd (some (subst (λ (y : Item). (target_of y).0 ≡ 0) a (all_among (λ k. (target_of x).0 ≡ (target_of k).0 → (target_of x).0 ≡ 0) xs j b h.0 (ap (λ (y : Item). (target_of y).0) a ∙ e))))
one_target (x ∷ xs) h i j (inr a) (inl b) e some =
    absurd (some (e ∙ subst (λ (y : Item). (target_of y).0 ≡ 0) b (all_among (λ k. (target_of x).0 ≡ (target_of k).0 → (target_of x).0 ≡ 0) xs i a h.0 (ap (λ (y : Item). (target_of y).0) b ∙ sym e))))
one_target (x ∷ xs) h i j (inr a) (inr b) e some = one_target xs h.1 i j a b e some

found_target : (items : List Item) (rid : Rid) (i : Item) → AreTargetsApart items → item_of items i.id ≡ Some i → (target_of i).0 ≡ rid.0 → (rid.0 ≡ 0 → ⊥) → by_target items rid ≡ Some i
found_target items rid i apart found aims some = by (by_target items rid) refl where
  by : (o : Option Item) → by_target items rid ≡ o → o ≡ Some i
  by None f = absurd (some ((all_found (λ x. (target_of x).0 ≡ rid.0 → rid.0 ≡ 0) (λ x. x.id.0 == i.id.0) items i found (unaimed_unfound items rid f)).0 aims))
  by (Some j) f =
      let target : (target_of j).0 ≡ rid.0 = eqb-true (target_of j).0 rid.0 (right_true (nat_lt 0 rid.0) ((target_of j).0 == rid.0) (all_found (λ x. Unit {0}) (λ x. has_target x rid) items j f (all_any (λ x. Unit {0}) (λ x. tt) items)).1) in
      ap (λ (x : Item). Some x)
      (one_target items apart j i (find_among (λ x. has_target x rid) items j f) (find_among (λ x. x.id.0 == i.id.0) items i found) (target ∙ sym aims) (λ z. some (sym target ∙ z)))

pub early_or_late : (a c : ℕ) → (c ≤ a) ⊎ (a < c)
early_or_late a c = by (nat_lt a c) refl where
  less : nat_lt a c ≡ true → a < c
  less q = grind (arith, nat_tests, q)

  more : nat_lt a c ≡ false → c ≤ a
  more q = grind (arith, nat_tests, q)

  by : (b : Bool) → nat_lt a c ≡ b → (c ≤ a) ⊎ (a < c)
  by true q = inr (less q)
  by false q = inl (more q)

-- a feed is taken in

module _ (s : State) (h : Invariant s) (fair : IsFair s.link) (none : (book_now s).entries ≡ []) (agreed : IsAgreed s) (m : State) (fed : IsFed s m) where
  abbrev held : Held
  held = s.link.remote

  abbrev after : ℕ
  after = (book_now s).cursor

  abbrev listed : List Entry
  listed = feed_of held after

  never_both : {A : Type 0} (a b : ℕ) → a < b → b ≤ a → A
  never_both a b x y = absurd (omega (arith, x, y))

  same_items : (i j : Item) → ◌≡◌ {A = Option Item} (Some i) (Some j) → i ≡ j
  same_items i j z = cc

  right : (i : Item) → IsBelow s i → IsRight held (next_number s.filter.volume) i
  right i below = (all_found (IsRight held (next_number s.filter.volume)) (λ j. j.id.0 == i.id.0) (items_now s) i below.0 (h.1 fair).now.right).0

  -- the target of an item below the root is right, and is not the remote's root
  aimed : (i : Item) (r : Stored) → IsBelow s i → IsTargetOf s i r → IsTargetRight i r × ((target_of i).0 ≡ 1 → ⊥)
  aimed i r below target = by (aimed_right held i (right i below).aimed below.1) where
    by : IsTargetedWell held i → IsTargetRight i r × ((target_of i).0 ≡ 1 → ⊥)
    by (inl z) = absurd (nothing held.items 1 agreed.tidy.counted (target_of i) r z target (low 1)) where
      low : (n : ℕ) → n ≤ n
      low n = omega arith
    by (inr k) = (subst (IsTargetRight i) (one_some (stored_at held.items (target_of i)) k.0 r k.1 target) k.2, k.3)

  -- an item that the cursor has passed is that of no entry
  of_none : (i : Item) (r : Stored) → IsBelow s i → IsTargetOf s i r → r.changed ≤ after → IsOfNone listed (items_now s) i.id
  of_none i r below target early e mem j f = by (j.id.0 == i.id.0) refl where
    by : (b : Bool) → (j.id.0 == i.id.0) ≡ b → b ≡ false
    by false q = refl
    by true q =
        let found : item_of (items_now s) j.id ≡ Some j = found_again (λ x. has_target x e.rid) 0 s.filter.volume.next_item.0 (items_now s) j (h.1 fair).now.order f in
        let same : j ≡ i = same_items j i (sym found ∙ ap (λ (x : ItemId). item_of (items_now s) x) (same_item j.id i.id (eqb-true j.id.0 i.id.0 q)) ∙ below.0) in
        let aims : (target_of j).0 ≡ e.rid.0 = eqb-true (target_of j).0 e.rid.0 (right_true (nat_lt 0 e.rid.0) ((target_of j).0 == e.rid.0) (all_found (λ x. Unit {0}) (λ x. has_target x e.rid) (items_now s) j f (all_any (λ x. Unit {0}) (λ x. tt) (items_now s))).1) in
        let told : TellsNow held after e = all_among (TellsNow held after) listed e mem (tells_now held after agreed.tidy) in
        let one : r ≡ told.0 = one_some (stored_at held.items e.rid) r told.0 (subst (λ (x : Rid). stored_at held.items x ≡ Some r) (same_rid (target_of i) e.rid (ap (λ (x : Item). (target_of x).0) (sym same) ∙ aims)) target) told.1 in
        never_both after r.changed (subst (λ (x : Stored). after < x.changed) (sym one) told.4) early

  -- what was known stays so
  known_still : (i : Item) (r : Stored) → IsBelow s i → IsTargetOf s i r → r.changed ≤ after → IsKnown (book_now m) i r
  known_still i r below target early =
      let x : IsKnown (book_now s) i r = agreed.passed i r below target early in
      record { live = x.live; version = x.version; seen = λ p at. x.seen p (sym (fed.others i.id (of_none i r below target early)) ∙ at) }

  -- and what was told is known now
  known_now : (i : Item) (r : Stored) → IsBelow s i → IsTargetOf s i r → after < r.changed → (fed.postponed ≡ true → in_use s i.id ≡ true → ⊥) → IsKnown (book_now m) i r
  known_now i r below target late unused = by (all_among (λ e. IsLeftBy fed.postponed e s m) listed (entry_told r) mem fed.entries) where
    rid : r.rid.0 ≡ (target_of i).0
    rid = found_rid held.items (target_of i) r target

    right_one : IsTargetRight i r × ((target_of i).0 ≡ 1 → ⊥)
    right_one = aimed i r below target

    mem : Among (entry_told r) listed
    mem = (all_found (λ x. IsLower x → after < x.changed → Among (entry_told x) listed) (λ x. x.rid.0 == (target_of i).0) held.items r target (tells_all held after agreed.tidy).each).0 (λ z. right_one.1 (sym rid ∙ z)) late

    low : (n : ℕ) → n ≤ n
    low n = omega arith

    found : by_target (items_now s) r.rid ≡ Some i
    found = found_target (items_now s) r.rid i agreed.alone below.0 (sym rid) (λ z. nothing held.items 1 agreed.tidy.counted (target_of i) r (sym rid ∙ z) target (low 1))

    never : ◌≡◌ {A = Option Item} None (Some i) → IsKnown (book_now m) i r
    never z = cc

    by : IsLeftBy fed.postponed (entry_told r) s m → IsKnown (book_now m) i r
    by (inl k) = absurd (unused k.0 (subst (λ (x : Item). in_use s x.id ≡ true) (same_items k.1 i (sym k.2 ∙ found)) k.3))
    by (inr (inl k)) = never (sym k.0 ∙ found)
    by (inr (inr k)) =
        let same : k.1 ≡ i = same_items k.1 i (sym k.2 ∙ found) in
        subst (λ (x : Item). IsTargetRight x r → IsKnown (book_now m) x r) same
        (λ fits. taken_known held (entry_told r) k.1 r s m (subst (λ (x : Rid). stored_at held.items x ≡ Some r) (sym (same_rid r.rid (target_of i) rid)) target) refl k.0 fits
        (subst (λ (x : Item). HasBase held x.identity) (sym same) (right i below).based) k.3) right_one.0

  alike : items_now m ≡ items_now s
  alike = ap (λ (f : Filter). f.volume.items) fed.filter

  used : (id : ItemId) → in_use m id ≡ in_use s id
  used id = ap (λ (f : Filter). is_used id f) fed.filter

  below_then : (i : Item) → IsBelow m i → IsBelow s i
  below_then i b = (subst (λ (is : List Item). item_of is i.id ≡ Some i) alike b.0, b.1)

  target_then : (i : Item) (r : Stored) → IsTargetOf m i r → IsTargetOf s i r
  target_then i r t = subst (λ (x : Held). stored_at x.items (target_of i) ≡ Some r) fed.remote t

  pub fed_ready : IsReady m
  fed_ready = record {
    tidy = subst IsTidy (sym fed.remote) agreed.tidy;
    tree = λ i b. subst (λ (is : List Item). (p : Item) × (item_of is i.parent ≡ Some p) × (item_line is i.id ≡ i.id.0 ∷ item_line is p.id)) (sym alike) (agreed.tree i (below_then i b));
    passed = λ i r b t early. passed i r (below_then i b) (target_then i r t) early (early_or_late after r.changed);
    ahead = λ i r b idle t late. ahead i r (below_then i b) (target_then i r t) (sym (used i.id) ∙ idle) (early_or_late after r.changed);
    idle = λ i p b up. used p.id ∙ agreed.idle i p (below_then i b) (subst (λ (is : List Item). item_of is i.parent ≡ Some p) alike up);
    none = ap (λ (f : Filter). f.volume.book.entries) fed.filter ∙ none;
    items_free = fed.items_free;
    tombstones_free = fed.tombstones_free;
  }
    where
      passed : (i : Item) (r : Stored) → IsBelow s i → IsTargetOf s i r → r.changed ≤ (book_now m).cursor → (r.changed ≤ after) ⊎ (after < r.changed) → IsKnown (book_now m) i r
      passed i r below target early (inl z) = known_still i r below target z
      passed i r below target early (inr z) = known_now i r below target z (λ p busy. by fed.cursor p) where
        by : ((book_now m).cursor ≡ after) ⊎ ((fed.postponed ≡ false) × ((book_now m).cursor ≡ held.clock)) → fed.postponed ≡ true → ⊥
        by (inl e) p = never_both after r.changed z (subst (λ (n : ℕ). r.changed ≤ n) e early)
        by (inr e) p = no_way (sym e.0 ∙ p)

      ahead : (i : Item) (r : Stored) → IsBelow s i → IsTargetOf s i r → in_use s i.id ≡ false → (r.changed ≤ after) ⊎ (after < r.changed) → IsKnown (book_now m) i r
      ahead i r below target idle (inl z) = known_still i r below target z
      ahead i r below target idle (inr z) = known_now i r below target z (λ p busy. no_way (sym idle ∙ busy))

  waited : (id : ItemId) → is_hydrating id m ≡ is_hydrating id s
  waited id = ap (λ (f : Filter). list_any (λ w. is_hydrate_wait w.kind && (w.item.0 == id.0)) f.waiting.waits) fed.filter

  pub fed_whole : AreWhole s → AreWhole m
  fed_whole whole = subst (All (λ i. i.directory ≡ false → IsToUpload i → (is_all_here i ≡ true) ⊎ (is_hydrating i.id m ≡ true))) (sym alike)
      (all_weaker (λ i. i.directory ≡ false → IsToUpload i → (is_all_here i ≡ true) ⊎ (is_hydrating i.id s ≡ true)) (λ i. i.directory ≡ false → IsToUpload i → (is_all_here i ≡ true) ⊎ (is_hydrating i.id m ≡ true))
      (λ i k file needed. subst (λ (b : Bool). (is_all_here i ≡ true) ⊎ (b ≡ true)) (sym (waited i.id)) (k file needed)) (items_now s) whole)
