-- A turn of a live entry whose parent is here leaves its item here, or postpones it, or a step is left out.
use Rattle.std.proofs.Common.{◌≡◌, ◌⊎◌, ◌<◌, ◌≤◌, ◌∷◌, ℕ, Bool, true, false, List, [], refl, sym, ◌∙◌, ap, subst, inl, inr, arith, max, zero, suc, eq-eqb}
use Rattle.std.specs.Prelude.{Option, Some, None, cond, find, nat_lt, not, ◌&&◌, ◌==◌}
use Rattle.std.proofs.lemmas.Bool.{eqb-true}
use Rattle.std.proofs.lemmas.Bool.Decides.{nat_tests}
use Rattle.cf_base.specs.declared.changes.Change.TheVariants as change
use Rattle.cf_base.specs.declared.ids.ItemId.{ItemId}
use Rattle.cf_base.specs.declared.ids.Rid.{Rid}
use Rattle.cf_base.specs.declared.items.Kind.TheVariants as kind
use Rattle.cf_base.specs.declared.messages.Entry.{Entry}
use Rattle.cf_base.specs.declared.policies.Policy.{Policy}
use Rattle.cf_model.specs.Arrows.{Arrow, and_then, choose, only_if}
use Rattle.cf_model.specs.Changes.{next_number}
use Rattle.cf_model.specs.ConflictNames.{conflict_name}
use Rattle.cf_model.specs.Effects.{changed, converted, is_directory, made, rebased}
use Rattle.cf_model.specs.Feeds.{adopt, changed_steps, changed_unless, copy_off, free_parent, is_adoptable, is_newer, is_parent, is_seen_so, is_under, kind_of_entry, known, make_after, make_entry, make_of, move_entry, move_in, name_in_root, new_over, parent_here, seen_entry, stands_in, take_entry, take_over, take_turn, taken, turn, turn_by, unknown}
use Rattle.cf_model.specs.Identities.{by_target, entry_identity, has_target, no_identity, target_of}
use Rattle.cf_model.specs.Items.{Item, is_dirty, item_of, pin_of}
use Rattle.cf_model.specs.Logs.{next_by}
use Rattle.cf_model.specs.LookUp.{child_of, is_child_named}
use Rattle.cf_model.specs.Numbers.{no_item, no_usn, root_id, root_rid}
use Rattle.cf_model.specs.Plans.{is_full_population, placeholder_dir}
use Rattle.cf_model.specs.Skips.{in_use, try_change, try_clear_name, try_mark_now, try_seen}
use Rattle.cf_model.specs.State.{State, items_now}
use Rattle.cf_model.specs.Trees.{Ends}
use Rattle.cf_model.specs.Words.{says}
use Rattle.cf_model_laws.specs.Invariant.{All, Among, target_in}
use Rattle.cf_model_laws.proofs.AimedTargets.{below_root}
use Rattle.cf_model_laws.proofs.Gathered.{all_found, all_in}
use Rattle.cf_model_laws.proofs.RightItems.{no_way}
use Rattle.cf_model_laws.proofs.SkipsGuarded.{Led}
use Rattle.cf_model_laws.proofs.SoundSettles.{left_true, right_true}
use Rattle.cf_model_convergence.proofs.FeedsTold.{all_among, among_right}
use Rattle.cf_model_agreement.proofs.PlainEntries.{IsPlainEntry, target_told}
use Rattle.cf_model_agreement.proofs.TurnSteps.{Leaves, change_leaves, clear_leaves, ends_bind, leaves_if, leaves_now, leaves_then, mark_leaves, seen_leaves, skips}
use Rattle.cf_model_populated.specs.Populated.{IsPopulated}
use Rattle.cf_model_arrivals.specs.Kept.{IsKept}
use Rattle.cf_model_arrivals.proofs.KeptItems.{among_changed, kept_copied, kept_marked, kept_moved, kept_taken}

-- what is found, and what is there

pub find_some : {A : Type 0} (f : A → Bool) (xs : List A) (x : A) → Among x xs → f x ≡ true → (y : A) × (find f xs ≡ Some y)
find_some f [] x m q = absurd m
find_some {A} f (y ∷ xs) x m q = by (f y) refl m (λ k. find_some f xs x k q) where
  by : (b : Bool) → f y ≡ b → (y ≡ x) ⊎ Among x xs → (Among x xs → (z : A) × (find f xs ≡ Some z)) → (z : A) × (cond b (Some y) (find f xs) ≡ Some z)
  by true z m k = (y, refl)
  by false z (inl e) k = no_way (sym z ∙ ap f e ∙ q)
  by false z (inr a) k = k a

-- a target that is some is had
pub had : (i : Item) (rid : Rid) → (rid.0 ≡ 0 → ⊥) → (target_of i).0 ≡ rid.0 → has_target i rid ≡ true
had i rid some same = both (nat_lt 0 rid.0) ((target_of i).0 == rid.0) (positive rid.0 some) (eq-eqb (target_of i).0 rid.0 same) where
  both : (a b : Bool) → a ≡ true → b ≡ true → (a && b) ≡ true
  both true b p q = q
  both false b p q = p

  positive : (n : ℕ) → (n ≡ 0 → ⊥) → nat_lt 0 n ≡ true
  positive zero none = absurd (none refl)
  positive (suc n) none = less n where
    less : (n : ℕ) → nat_lt 0 (suc n) ≡ true
    less n = grind (arith, nat_tests)

-- where the parent is a directory that is here, it is found
pub parent_found : (s : State) (e : Entry) → (e.parent.0 ≡ 0 → ⊥) → All IsPopulated (items_now s) → IsKept (items_now s) e.parent.0 true → (p : Item) × (parent_here s e ≡ Some p)
parent_found s e some full h = find_some (is_parent e) (items_now s) h.0 h.1 (three (has_target h.0 e.parent) h.0.directory h.0.populated (had h.0 e.parent some h.2) h.3 (all_among IsPopulated (items_now s) h.0 h.1 full h.3)) where
  three : (a b c : Bool) → a ≡ true → b ≡ true → c ≡ true → (a && b && c) ≡ true
  three true true c p q r = r
  three true false c p q r = q
  three false b c p q r = p

entry_kind_is : (p : Policy) (e : Entry) → is_directory (kind_of_entry p e) ≡ e.dir
entry_kind_is p e = by e.dir where
  by : (d : Bool) → is_directory (cond d (placeholder_dir p) kind.PlaceholderFile) ≡ d
  by false = refl
  by true = two (is_full_population p.population) where
    two : (b : Bool) → is_directory (cond b kind.UnpopulatedDir kind.PlaceholderDir) ≡ true
    two true = refl
    two false = refl

module _ (e : Entry) (plain : IsPlainEntry e) where
  abbrev pub Here : State → Type 0
  Here t = IsKept (items_now t) e.rid.0 e.dir

  -- the path and the mark leave it here
  see_kept : (n : ℕ) (id : ItemId) (s : State) → n ≤ skips s → Here s → Leaves n Here (and_then (try_seen (seen_entry id e)) (try_mark_now id) s)
  see_kept n id s few h =
      leaves_then n Here Here (try_seen (seen_entry id e)) (try_mark_now id) s (seen_leaves n Here (seen_entry id e) s few (λ q. h) (λ q. h))
      (λ t few k. mark_leaves n Here id t few k (λ m u led. subst (λ (is : List Item). IsKept is e.rid.0 e.dir) (sym led.after.items) (kept_marked e.rid.0 e.dir (items_now t) id m (next_number t.filter.volume) k)))

  moved_here : (s t : State) (id to : ItemId) (called : List ℕ) → Led (change.Move id to called) s t → Here s → Here t
  moved_here s t id to called led h = subst (λ (is : List Item). IsKept is e.rid.0 e.dir) (sym led.after.items) (kept_moved e.rid.0 e.dir (items_now s) id to called (next_number s.filter.volume) h)

  -- New

  abbrev Room : State → Type 0
  Room t = 2 ≤ t.filter.volume.next_item.0

  after_kept : (n : ℕ) (p : Item) (s : State) → n ≤ skips s → Room s → Leaves n Here (make_after e p s)
  after_kept n p s few room =
      let id : ItemId = s.filter.volume.next_item in
      leaves_then n Here Here (try_change (make_of s e p)) (and_then (try_seen (seen_entry id e)) (try_mark_now id)) s
      (change_leaves n Here (make_of s e p) s few (λ t led. subst (λ (is : List Item). IsKept is e.rid.0 e.dir) (sym led.after.items) (new, among_right new (items_now s) (new ∷ []) (inl refl), ap (λ (r : Rid). r.0) (below_root id.0 (target_in (entry_identity e)) room) ∙ target_told e plain, entry_kind_is s.filter.policy e)))
      (λ t few k. see_kept n id t few k) where
        new : Item
        new = made s.filter.volume.next_item p.id e.name (kind_of_entry s.filter.policy e) (cond e.dir 0 e.len) (entry_identity e) (pin_of (items_now s) p.id) (next_number s.filter.volume)

  make_kept : (n : ℕ) (p : Item) (s : State) → n ≤ skips s → Room s → Leaves n Here (make_entry e p s)
  make_kept n p s few room =
      leaves_then n Room Here (try_clear_name p.id e.name no_item) (make_after e p) s
      (clear_leaves n Room p.id e.name no_item s few room (λ id to called t led. more s.filter.volume.next_item.0 (next_by (change.Move id to called)) t.filter.volume.next_item.0 led.after.next room)) (λ t few k. after_kept n p t few k) where
        more : (a b c : ℕ) → c ≡ max a b → 2 ≤ a → 2 ≤ c
        more a b c q h = omega (arith, q, h)

  -- a directory with no target that becomes the entry's
  module _ (id : ItemId) (lower : id.0 ≡ 1 → ⊥) where
    abbrev Dir : State → Type 0
    Dir t = (j : Item) × Among j (items_now t) × (j.id.0 ≡ id.0) × (j.directory ≡ true)

    same_id : (a b : ℕ) → a ≡ b → (a == b) ≡ true
    same_id a b q = eq-eqb a b q

    converted_dir : (s t : State) → Led (change.Convert id no_identity) s t → Dir s → Dir t
    converted_dir s t led h = subst (λ (is : List Item). (j : Item) × Among j is × (j.id.0 ≡ id.0) × (j.directory ≡ true)) (sym led.after.items) (by (h.0.id.0 == id.0) refl) where
      f : Item → Item
      f = converted no_identity (next_number s.filter.volume)

      by : (b : Bool) → (h.0.id.0 == id.0) ≡ b → (j : Item) × Among j (changed id f (items_now s)) × (j.id.0 ≡ id.0) × (j.directory ≡ true)
      by true q = (f h.0, subst (λ (c : Bool). Among (cond c (f h.0) h.0) (changed id f (items_now s))) q (among_changed id f (items_now s) h.0 h.1), h.2, h.3)
      by false q = no_way (sym q ∙ same_id h.0.id.0 id.0 h.2)

    rebased_here : e.dir ≡ true → (s t : State) → Led (change.Rebase id (entry_identity e) 0 no_usn) s t → Dir s → Here t
    rebased_here dir s t led h = subst (λ (is : List Item). IsKept is e.rid.0 e.dir) (sym led.after.items) (by (h.0.id.0 == id.0) refl) where
      f : Item → Item
      f = rebased (entry_identity e) 0 no_usn

      target : (b : Bool) → (h.0.id.0 == 1) ≡ b → (cond b root_rid (target_in (entry_identity e))).0 ≡ e.rid.0
      target true q = absurd (lower (sym h.2 ∙ eqb-true h.0.id.0 1 q))
      target false q = target_told e plain

      by : (b : Bool) → (h.0.id.0 == id.0) ≡ b → IsKept (changed id f (items_now s)) e.rid.0 e.dir
      by true q = (f h.0, subst (λ (c : Bool). Among (cond c (f h.0) h.0) (changed id f (items_now s))) q (among_changed id f (items_now s) h.0 h.1), target (h.0.id.0 == 1) refl, h.3 ∙ sym dir)
      by false q = no_way (sym q ∙ same_id h.0.id.0 id.0 h.2)

  adopt_kept : (n : ℕ) (i : Item) (s : State) → n ≤ skips s → Among i (items_now s) → is_adoptable e i ≡ true → Leaves n Here (adopt e i s)
  adopt_kept n i s few among q =
      leaves_then n (Dir i.id lower) Here (only_if (not i.placeholder) (try_change (change.Convert i.id no_identity))) rest s
      (leaves_if n (Dir i.id lower) (not i.placeholder) (try_change (change.Convert i.id no_identity)) s few (λ z. change_leaves n (Dir i.id lower) (change.Convert i.id no_identity) s few (λ t led. converted_dir i.id lower s t led first)) (λ z. first))
      (λ t few k. leaves_then n Here Here (try_change (change.Rebase i.id (entry_identity e) 0 no_usn)) (and_then (try_seen (seen_entry i.id e)) (try_mark_now i.id)) t (change_leaves n Here (change.Rebase i.id (entry_identity e) 0 no_usn) t few (λ u led. rebased_here i.id lower dirs.0 t u led k)) (λ u few k. see_kept n i.id u few k)) where
        rest : Arrow State Bool
        rest = and_then (try_change (change.Rebase i.id (entry_identity e) 0 no_usn)) (and_then (try_seen (seen_entry i.id e)) (try_mark_now i.id))

        dirs : (e.dir ≡ true) × (i.directory ≡ true)
        dirs = let a = left_true (e.dir && i.directory) ((target_of i).0 == 0) q in (left_true e.dir i.directory a, right_true e.dir i.directory a)

        lower : i.id.0 ≡ 1 → ⊥
        lower z = top (i.id.0 == 1) (same_one i.id.0 z) (eqb-true (target_of i).0 0 (right_true (e.dir && i.directory) ((target_of i).0 == 0) q)) where
          same_one : (a : ℕ) → a ≡ 1 → (a == 1) ≡ true
          same_one a y = eq-eqb a 1 y

          top : (b : Bool) → b ≡ true → (cond b root_rid (target_in i.identity)).0 ≡ 0 → ⊥
          top true y w = cc
          top false y w = no_way y

        first : Dir i.id lower s
        first = (i, among, refl, dirs.1)

  over_kept : (n : ℕ) (p : Item) (o : Option Item) (s : State) → n ≤ skips s → Room s → child_of (items_now s) p.id e.name ≡ o → Leaves n Here (new_over e p o s)
  over_kept n p None s few room f = make_kept n p s few room
  over_kept n p (Some i) s few room f = by (is_adoptable e i) refl where
    by : (b : Bool) → is_adoptable e i ≡ b → Leaves n Here (choose b (adopt e i) (make_entry e p) s)
    by true q = adopt_kept n i s few (all_found (λ x. Among x (items_now s)) (is_child_named p.id e.name) (items_now s) i f (all_in (items_now s))).0 q
    by false q = make_kept n p s few room

  -- Changed

  module _ (i : Item) where
    move_kept : (n : ℕ) (p : Item) (s : State) → n ≤ skips s → Here s → Leaves n Here (move_entry e i p s)
    move_kept n p s few h =
        leaves_then n Here Here (try_clear_name p.id e.name i.id) (and_then (free_parent i p) (and_then (move_in e i p) (try_seen (seen_entry i.id e)))) s (clear_leaves n Here p.id e.name i.id s few h (λ id to called t led. moved_here s t id to called led h))
        (λ t few k. leaves_then n Here Here (free_parent i p) (and_then (move_in e i p) (try_seen (seen_entry i.id e))) t
        (leaves_if n Here (is_under (items_now t) p.id i.id) (try_change (change.Move p.id root_id (name_in_root (items_now t) p))) t few (λ q. change_leaves n Here (change.Move p.id root_id (name_in_root (items_now t) p)) t few (λ u led. moved_here t u p.id root_id (name_in_root (items_now t) p) led k)) (λ q. k))
        (λ u few k. leaves_then n Here Here (move_in e i p) (try_seen (seen_entry i.id e)) u
        (leaves_if n Here (not (says (stands_in p e.name) (item_of (items_now u) i.id))) (try_change (change.Move i.id p.id e.name)) u few (λ q. change_leaves n Here (change.Move i.id p.id e.name) u few (λ v led. moved_here u v i.id p.id e.name led k)) (λ q. k))
        (λ v few k. seen_leaves n Here (seen_entry i.id e) v few (λ q. k) (λ q. k))))

    over_taken : (n : ℕ) (o : Option Item) (s : State) → n ≤ skips s → Here s → Leaves n Here (take_over e o s)
    over_taken n None s few h = leaves_now n Here s few h
    over_taken n (Some k) s few h =
        leaves_if n Here (is_newer k e) (and_then (only_if (is_dirty k) (copy_off k)) (try_change (change.Take k.id (entry_identity e) e.len))) s few
        (λ q. leaves_then n Here Here (only_if (is_dirty k) (copy_off k)) (try_change (change.Take k.id (entry_identity e) e.len)) s
        (leaves_if n Here (is_dirty k) (copy_off k) s few
        (λ d. change_leaves n Here (change.Copy s.filter.volume.next_item k.id k.parent (conflict_name (items_now s) k.parent k.name)) s few
        (λ t led. subst (λ (is : List Item). IsKept is e.rid.0 e.dir) (sym led.after.items) (kept_copied e.rid.0 e.dir (items_now s) s.filter.volume.next_item k.id k.parent (conflict_name (items_now s) k.parent k.name) (next_number s.filter.volume) h))) (λ d. h))
        (λ t few g. change_leaves n Here (change.Take k.id (entry_identity e) e.len) t few
        (λ u led. subst (λ (is : List Item). IsKept is e.rid.0 e.dir) (sym led.after.items) (kept_taken e.rid.0 e.dir (items_now t) k.id (entry_identity e) e.len (next_number t.filter.volume) (target_told e plain) g)))) (λ q. h)

    changed_kept : (n : ℕ) (p : Item) (s : State) → n ≤ skips s → Here s → Leaves n Here (changed_steps e i p s)
    changed_kept n p s few h =
        leaves_then n Here Here (only_if (not (is_seen_so s i e)) (move_entry e i p)) (and_then (take_entry e i.id) (try_mark_now i.id)) s (leaves_if n Here (not (is_seen_so s i e)) (move_entry e i p) s few (λ q. move_kept n p s few h) (λ q. h))
        (λ t few k. leaves_then n Here Here (take_entry e i.id) (try_mark_now i.id) t (over_taken n (item_of (items_now t) i.id) t few k)
        (λ u few g. mark_leaves n Here i.id u few g (λ m v led. subst (λ (is : List Item). IsKept is e.rid.0 e.dir) (sym led.after.items) (kept_marked e.rid.0 e.dir (items_now u) i.id m (next_number u.filter.volume) g))))

  -- the turn

  abbrev pub TurnLeft : ℕ → Bool → State → Type 0
  TurnLeft n postponed t = (n ≤ skips t) × ((postponed ≡ true) ⊎ (n < skips t) ⊎ Here t)

  turn_leaves : (n : ℕ) (f : Arrow State Bool) (s : State) → Leaves n Here (f s) → (b : Bool) (t : State) → Ends (turn f s) b t → TurnLeft n b t
  turn_leaves n f s h b t ends = let k = ends_bind (f s) taken b t ends in subst (TurnLeft n b) (sym k.3.1) (by k.0 k.1 (h k.0 k.1 k.2)) where
    by : (d : Bool) (m : State) → (n ≤ skips m) × (d ≡ true → Here m) × (d ≡ false → n < skips m) → TurnLeft n b m
    by true m z = (z.0, inr (inr (z.1 refl)))
    by false m z = (z.0, inr (inl (z.2 refl)))

  -- the item of an entry that is found is of its kind
  pub turn_kept : (n : ℕ) (s : State) → Room s → ((i : Item) → by_target (items_now s) e.rid ≡ Some i → i.directory ≡ e.dir) → e.live ≡ true → (p : Item) → parent_here s e ≡ Some p → n ≤ skips s → (b : Bool) (t : State) → Ends (take_turn e s) b t → TurnLeft n b t
  turn_kept n s room kinds live p up few b t ends = by (by_target (items_now s) e.rid) (parent_here s e) refl up ends where
    changed_left : (i : Item) → Here s → (used : Bool) → Ends (changed_unless e i p used s) b t → TurnLeft n b t
    changed_left i h true z = subst (TurnLeft n b) (sym z.1) (few, inl z.0)
    changed_left i h false z = turn_leaves n (changed_steps e i p) s (changed_kept i n p s few h) b t z

    unknown_left : (d : Bool) → d ≡ true → Ends (unknown d e (Some p) s) b t → TurnLeft n b t
    unknown_left true q z = turn_leaves n (λ y. new_over e p (child_of (items_now y) p.id e.name) y) s (over_kept n p (child_of (items_now s) p.id e.name) s few room refl) b t z
    unknown_left false q z = no_way q

    known_left : (i : Item) → Here s → (d : Bool) → d ≡ true → Ends (known d e i (Some p) s) b t → TurnLeft n b t
    known_left i h true q z = changed_left i h (is_newer i e && in_use s i.id) z
    known_left i h false q z = no_way q

    by : (o q : Option Item) → by_target (items_now s) e.rid ≡ o → q ≡ Some p → Ends (turn_by e o q s) b t → TurnLeft n b t
    by None q f u z = unknown_left e.live live (subst (λ (x : Option Item). Ends (turn_by e None x s) b t) u z)
    by (Some i) q f u z =
        let k = all_found (λ x. Among x (items_now s)) (λ x. has_target x e.rid) (items_now s) i f (all_in (items_now s)) in
        known_left i (i, k.0, eqb-true (target_of i).0 e.rid.0 (right_true (nat_lt 0 e.rid.0) ((target_of i).0 == e.rid.0) k.1), kinds i f) e.live live (subst (λ (x : Option Item). Ends (turn_by e (Some i) x s) b t) u z)
