-- A turn of an entry does all of it, or postpones it, or a step is left out.
use Rattle.std.proofs.Common.{◌≡◌, ◌⊎◌, ◌<◌, ◌≤◌, ℕ, zero, suc, Bool, true, false, List, [], ◌∷◌, refl, sym, ◌∙◌, ap, subst, inl, inr, arith, eq-eqb, take}
use Rattle.std.specs.Prelude.{Option, Some, None, cond, is_some, not, nat_lt, ◌&&◌, ◌==◌}
use Rattle.std.proofs.lemmas.Bool.{eqb-true}
use Rattle.std.proofs.lemmas.Bool.Decides.{nat_tests}
use Rattle.cf_base.specs.declared.changes.Change.{Change}
use Rattle.cf_base.specs.declared.changes.Change.TheVariants as change
use Rattle.cf_base.specs.declared.ids.ItemId.{ItemId}
use Rattle.cf_base.specs.declared.ids.Usn.{Usn}
use Rattle.cf_base.specs.declared.items.SeenPath.{SeenPath}
use Rattle.cf_base.specs.declared.messages.Entry.{Entry}
use Rattle.cf_model.specs.Arrows.{Arrow, and_then, choose, only_if}
use Rattle.cf_model.specs.Books.{Book, seen_of, with_seen}
use Rattle.cf_model.specs.Changes.{next_number}
use Rattle.cf_model.specs.ConflictNames.{conflict_name}
use Rattle.cf_model.specs.Effects.{effect, made, rebased, took, untargeted}
use Rattle.cf_model.specs.Feeds.{adopt, changed_steps, changed_unless, copy_off, free_parent, gone, gone_unless, is_adoptable, is_newer, is_path_of, is_removable, is_seen_so, is_under, kind_of_entry, known, make_after, make_entry, make_of, move_entry, move_in, name_in_root, new_over, parent_here, remove_or_untarget, seen_entry, stands_in, take_entry, take_over, take_turn, taken, turn, turn_by, unknown}
use Rattle.cf_model.specs.Identities.{base_version, by_target, entry_identity, has_target, no_identity, target_of}
use Rattle.cf_model.specs.Items.{Item, base_of, is_dirty, item_of, pin_of}
use Rattle.cf_model.specs.LookUp.{child_of}
use Rattle.cf_model.specs.Numbers.{no_item, no_usn, root_id, root_rid}
use Rattle.cf_model.specs.Skips.{in_use, try_change, try_clear_name, try_mark_now, try_seen}
use Rattle.cf_model.specs.Soundness.{Each}
use Rattle.cf_model.specs.State.{State, book_now, items_now}
use Rattle.cf_model.specs.Trees.{Ends}
use Rattle.cf_model.specs.Words.{number_of, same, says}
use Rattle.cf_model_laws.specs.Invariant.{All, InOrder, target_in}
use Rattle.cf_model_laws.proofs.AimedTargets.{unaimed_unfound}
use Rattle.cf_model_laws.proofs.FoundItems.{found_again, found_id}
use Rattle.cf_model_laws.proofs.Gathered.{all_append, all_both, all_found, all_passed, all_weaker}
use Rattle.cf_model_laws.proofs.MoveChanges.{Alike, alike_moved}
use Rattle.cf_model_laws.proofs.PushRepliesGuarded.{each_at}
use Rattle.cf_model_laws.proofs.RightItems.{no_way}
use Rattle.cf_model_laws.proofs.SeenPaths.{seen_put}
use Rattle.cf_model_laws.proofs.SkipsGuarded.{Led}
use Rattle.cf_model_laws.proofs.SoundSettles.{each_found, left_true, not_false, not_true, right_true, same_item}
use Rattle.cf_model_convergence.specs.Resting.{AreTargetsApart}
use Rattle.cf_model_convergence.proofs.TakenKnown.{same_is}
use Rattle.cf_model_agreement.specs.Turned.{AreTurnedTo, IsTurnedTo}
use Rattle.cf_model_convergence.specs.Passed.{NamesAs}
use Rattle.cf_model_convergence.proofs.EffectItems.{all_made, effect_all}
use Rattle.cf_model_agreement.proofs.TurnSteps.{Leaves, change_leaves, clear_leaves, ends_bind, leaves_if, leaves_now, leaves_then, leaves_weaker, mark_leaves, seen_leaves, skips}
use Rattle.cf_model_agreement.proofs.PlainEntries.{IsPlainEntry, version_in_it}

module _ (e : Entry) (plain : IsPlainEntry e) where
  -- The entry's item has this id alone.
  abbrev Only : ItemId → Item → Type 0
  Only id j = (j.id.0 ≡ 1 → ⊥) → (target_of j).0 ≡ e.rid.0 → j.id.0 ≡ id.0

  -- and its version is not older
  abbrev Own : ItemId → Item → Type 0
  Own id j = (j.id.0 ≡ 1 → ⊥) → (target_of j).0 ≡ e.rid.0 → (j.id.0 ≡ id.0) × (j.directory ≡ false → e.version.0 ≤ (base_version j).0)

  abbrev Other : Item → Type 0
  Other j = (j.id.0 ≡ 1 → ⊥) → (target_of j).0 ≡ e.rid.0 → ⊥

  below_free : (b : Bool) (i : Item) → (i.id.0 == 1) ≡ b → (i.id.0 ≡ 1 → ⊥) → number_of (take 8 i.identity) ≡ 0 → (cond b root_rid (target_in i.identity)).0 ≡ e.rid.0 → ⊥
  below_free true i q below none t = below (eqb-true i.id.0 1 q)
  below_free false i q below none t = plain.some (sym t ∙ none)

  other_free : (i : Item) → number_of (take 8 i.identity) ≡ 0 → Other i
  other_free i none below t = below_free (i.id.0 == 1) i refl below none t

  target_alike : (i j : Item) → i.id ≡ j.id → i.identity ≡ j.identity → (target_of i).0 ≡ (target_of j).0
  target_alike i j id identity = ap (λ (y : ItemId). (target_of (record i { id = y })).0) id ∙ ap (λ (y : List ℕ). (target_of (record i { id = j.id; identity = y })).0) identity

  other_alike : (i j : Item) → i.id ≡ j.id → i.directory ≡ j.directory → i.identity ≡ j.identity → Other i → Other j
  other_alike i j id kind identity k below t = k (λ z. below (sym (ap (λ (y : ItemId). y.0) id) ∙ z)) (target_alike i j id identity ∙ t)

  only_alike : (at : ItemId) (i j : Item) → i.id ≡ j.id → i.directory ≡ j.directory → i.identity ≡ j.identity → Only at i → Only at j
  only_alike at i j id kind identity k below t = sym (ap (λ (y : ItemId). y.0) id) ∙ k (λ z. below (sym (ap (λ (y : ItemId). y.0) id) ∙ z)) (target_alike i j id identity ∙ t)

  own_alike : (at : ItemId) (i j : Item) → i.id ≡ j.id → i.directory ≡ j.directory → i.identity ≡ j.identity → Own at i → Own at j
  own_alike at i j id kind identity k below t =
      let z = k (λ z. below (sym (ap (λ (y : ItemId). y.0) id) ∙ z)) (target_alike i j id identity ∙ t) in
      (sym (ap (λ (y : ItemId). y.0) id) ∙ z.0, λ file. subst (λ (n : ℕ). e.version.0 ≤ n) (ap (λ (y : List ℕ). (base_version (record i { identity = y })).0) identity) (z.1 (kind ∙ file)))

  only_effect : (at : ItemId) (items : List Item) (c : Change) (n : Usn) → NamesAs (Only at) items c n → All (Only at) items → All (Only at) (effect items c n)
  only_effect at items c n fit h = effect_all (Only at) (only_alike at) (λ i none below t. absurd (other_free i none below t)) items c n fit h

  own_effect : (at : ItemId) (items : List Item) (c : Change) (n : Usn) → NamesAs (Own at) items c n → All (Own at) items → All (Own at) (effect items c n)
  own_effect at items c n fit h = effect_all (Own at) (own_alike at) (λ i none below t. absurd (other_free i none below t)) items c n fit h

  other_effect : (items : List Item) (c : Change) (n : Usn) → NamesAs Other items c n → All Other items → All Other (effect items c n)
  other_effect items c n fit h = effect_all Other other_alike other_free items c n fit h

  -- the path that is seen of the item is the entry's, or the item is not here
  abbrev PathAt : Book → ItemId → Type 0
  PathAt b id = (p : SeenPath) → seen_of b id ≡ Some p → (p.parent.0 ≡ e.parent.0) × (p.name ≡ e.name)

  abbrev Gone : ItemId → List Item → Type 0
  Gone id items = All (λ j. j.id.0 ≡ id.0 → ⊥) items

  abbrev Seen : ItemId → State → Type 0
  Seen id t = PathAt (book_now t) id ⊎ Gone id (items_now t)

  abbrev Done : ItemId → State → Type 0
  Done id t = All (Own id) (items_now t) × Seen id t

  -- all of the entry is done
  done_turned : (id : ItemId) (t : State) → e.live ≡ true → Done id t → AreTurnedTo e t
  done_turned id t live h = by h.1 where
    by : Seen id t → AreTurnedTo e t
    by (inl path) = all_weaker (Own id) (IsTurnedTo e (book_now t)) (λ j k below target. let z = k below target in (live, z.1, λ p f. path p (subst (λ (x : ItemId). seen_of (book_now t) x ≡ Some p) (same_item j.id id z.0) f))) (items_now t) h.0
    by (inr gone) = all_both (Own id) (λ j. j.id.0 ≡ id.0 → ⊥) (IsTurnedTo e (book_now t)) (λ j k none below target. absurd (none (k below target).0)) (items_now t) h.0 gone

  none_turned : (t : State) → All Other (items_now t) → AreTurnedTo e t
  none_turned t h = all_weaker Other (IsTurnedTo e (book_now t)) (λ j k below target. absurd (k below target)) (items_now t) h

  -- items with ids that no item has
  not_found : (items : List Item) (id : ItemId) → item_of items id ≡ None → Gone id items
  not_found [] id f = tt
  not_found (i ∷ is) id f = by (i.id.0 == id.0) refl f (not_found is id) where
    clash : (x : Item) → ◌≡◌ {A = Option Item} (Some x) None → ⊥
    clash x z = cc

    apart : (n m : ℕ) → (n == m) ≡ false → n ≡ m → ⊥
    apart n m z y = no_way (sym z ∙ subst (λ (k : ℕ). (n == k) ≡ true) y (eq-eqb n n refl))

    by : (b : Bool) → (i.id.0 == id.0) ≡ b → cond b (Some i) (item_of is id) ≡ None → (item_of is id ≡ None → Gone id is) → Gone id (i ∷ is)
    by true q z g = absurd (clash i z)
    by false q z g = (apart i.id.0 id.0 q, g z)

  gone_if : (items : List Item) (id : ItemId) → is_some (item_of items id) ≡ false → Gone id items
  gone_if items id q = by (item_of items id) refl q where
    by : (o : Option Item) → item_of items id ≡ o → is_some o ≡ false → Gone id items
    by None f z = not_found items id f
    by (Some i) f z = no_way (sym z)

  -- a path that comes to be seen
  path_put : (id : ItemId) (b : Book) → PathAt (with_seen (seen_entry id e) b) id
  path_put id b p f = let z : seen_entry id e ≡ p = inner (sym (seen_put (seen_entry id e) b) ∙ f) in (ap (λ (q : SeenPath). q.parent.0) (sym z), ap (λ (q : SeenPath). q.name) (sym z)) where
    inner : (◌≡◌ {A = Option SeenPath} (Some (seen_entry id e)) (Some p)) → seen_entry id e ≡ p
    inner z = cc

  -- a mark leaves it so
  marked : (id : ItemId) (t u : State) (m : Usn) → Led (change.Mark id m) t u → Done id t → Done id u
  marked id t u m led h = (
    subst (All (Own id)) (sym led.after.items) (own_effect id (items_now t) (change.Mark id m) (next_number t.filter.volume) tt h.0),
    after h.1,
  ) where
    after : Seen id t → Seen id u
    after (inl path) = inl (subst (λ (b : Book). PathAt b id) (sym led.after.book) path)
    after (inr none) = inr (subst (Gone id) (sym led.after.items) (all_made id _ (λ j. j.id.0 ≡ id.0 → ⊥) (λ j. j.id.0 ≡ id.0 → ⊥) (λ j own k. k) (λ j other k. k) (items_now t) none))

  -- the path and the mark, once the item has the entry's target
  see_leaves : (n : ℕ) (id : ItemId) (s : State) → n ≤ skips s → All (Own id) (items_now s) → Leaves n (Done id) (and_then (try_seen (seen_entry id e)) (try_mark_now id) s)
  see_leaves n id s few own =
      leaves_then n (Done id) (Done id) (try_seen (seen_entry id e)) (try_mark_now id) s
      (seen_leaves n (Done id) (seen_entry id e) s few (λ q. (own, inl (path_put id (book_now s)))) (λ q. (own, inr (gone_if (items_now s) id q))))
      (λ t few h. mark_leaves n (Done id) id t few h (λ m u led. marked id t u m led h))

  -- some item is the entry's
  abbrev Whole : State → Type 0
  Whole t = (id : ItemId) × Done id t

  abbrev AllOther : State → Type 0
  AllOther t = All Other (items_now t)

  -- New

  after_leaves : (n : ℕ) (p : Item) (s : State) → n ≤ skips s → AllOther s → Leaves n Whole (make_after e p s)
  after_leaves n p s few h =
      let id : ItemId = s.filter.volume.next_item in
      leaves_then n (λ t. All (Own id) (items_now t)) Whole (try_change (make_of s e p)) (and_then (try_seen (seen_entry id e)) (try_mark_now id)) s
      (change_leaves n (λ t. All (Own id) (items_now t)) (make_of s e p) s few (λ t led. subst (All (Own id)) (sym led.after.items)
      (all_append (Own id) (items_now s) (made id p.id e.name (kind_of_entry s.filter.policy e) (cond e.dir 0 e.len) (entry_identity e) (pin_of (items_now s) p.id) (next_number s.filter.volume) ∷ [])
      (all_weaker Other (Own id) (λ j k below t. absurd (k below t)) (items_now s) h) ((λ below t. (refl, λ file. (version_in_it e plain))), tt))))
      (λ t few own. leaves_weaker n (Done id) Whole (λ u k. (id, k)) (and_then (try_seen (seen_entry id e)) (try_mark_now id) t) (see_leaves n id t few own))

  make_leaves : (n : ℕ) (p : Item) (s : State) → n ≤ skips s → AllOther s → Leaves n Whole (make_entry e p s)
  make_leaves n p s few h =
      leaves_then n AllOther Whole (try_clear_name p.id e.name no_item) (make_after e p) s
      (clear_leaves n AllOther p.id e.name no_item s few h (λ id to called t led. subst (All Other) (sym led.after.items) (other_effect (items_now s) (change.Move id to called) (next_number s.filter.volume) tt h)))
      (λ t few k. after_leaves n p t few k)

  adopt_leaves : (n : ℕ) (i : Item) (s : State) → n ≤ skips s → AllOther s → Leaves n Whole (adopt e i s)
  adopt_leaves n i s few h =
      leaves_then n AllOther Whole (only_if (not i.placeholder) (try_change (change.Convert i.id no_identity))) rest s
      (leaves_if n AllOther (not i.placeholder) (try_change (change.Convert i.id no_identity)) s few
      (λ q. change_leaves n AllOther (change.Convert i.id no_identity) s few (λ t led. subst (All Other) (sym led.after.items) (other_effect (items_now s) (change.Convert i.id no_identity) (next_number s.filter.volume) refl h))) (λ q. h))
      (λ t few k. rest_leaves t few k) where
        rest : Arrow State Bool
        rest = and_then (try_change (change.Rebase i.id (entry_identity e) 0 no_usn)) (and_then (try_seen (seen_entry i.id e)) (try_mark_now i.id))

        rest_leaves : (t : State) → n ≤ skips t → AllOther t → Leaves n Whole (rest t)
        rest_leaves t few k =
            leaves_then n (λ u. All (Own i.id) (items_now u)) Whole (try_change (change.Rebase i.id (entry_identity e) 0 no_usn)) (and_then (try_seen (seen_entry i.id e)) (try_mark_now i.id)) t
            (change_leaves n (λ u. All (Own i.id) (items_now u)) (change.Rebase i.id (entry_identity e) 0 no_usn) t few (λ u led. subst (All (Own i.id)) (sym led.after.items)
            (all_made i.id (rebased (entry_identity e) 0 no_usn) Other (Own i.id) (λ j own _ below z. (own, λ file. (version_in_it e plain))) (λ j other g below z. absurd (g below z)) (items_now t) k)))
            (λ u few own. leaves_weaker n (Done i.id) Whole (λ v k. (i.id, k)) (and_then (try_seen (seen_entry i.id e)) (try_mark_now i.id) u) (see_leaves n i.id u few own))

  over_leaves : (n : ℕ) (p : Item) (o : Option Item) (s : State) → n ≤ skips s → AllOther s → Leaves n Whole (new_over e p o s)
  over_leaves n p None s few h = make_leaves n p s few h
  over_leaves n p (Some i) s few h = by (is_adoptable e i) where
    by : (b : Bool) → Leaves n Whole (choose b (adopt e i) (make_entry e p) s)
    by true = adopt_leaves n i s few h
    by false = make_leaves n p s few h

  -- Gone

  apart_ids : (n m : ℕ) → (n == m) ≡ false → n ≡ m → ⊥
  apart_ids n m z y = no_way (sym z ∙ subst (λ (k : ℕ). (n == k) ≡ true) y (eq-eqb n n refl))

  removed : (i : Item) (s t : State) → Led (change.Remove i.id) s t → All (Only i.id) (items_now s) → AllOther t
  removed i s t led h = subst (All Other) (sym led.after.items) (all_passed (Only i.id) Other (λ j. not (j.id.0 == i.id.0)) (λ j q k below z. apart_ids j.id.0 i.id.0 (not_true (j.id.0 == i.id.0) q) (k below z)) (items_now s) h)

  untargeted_all : (i : Item) (s t : State) → Led (change.Rebase i.id (untargeted i.identity) (base_of i) no_usn) s t → All (Only i.id) (items_now s) → AllOther t
  untargeted_all i s t led h =
      subst (All Other) (sym led.after.items)
      (all_made i.id (rebased (untargeted i.identity) (base_of i) no_usn) (Only i.id) Other (λ j own k. other_free (rebased (untargeted i.identity) (base_of i) no_usn j) refl) (λ j other k below z. apart_ids j.id.0 i.id.0 other (k below z)) (items_now s) h)

  gone_leaves : (n : ℕ) (i : Item) (b : Bool) (s : State) → n ≤ skips s → All (Only i.id) (items_now s) → Leaves n AllOther (remove_or_untarget i b s)
  gone_leaves n i true s few h = change_leaves n AllOther (change.Remove i.id) s few (λ t led. removed i s t led h)
  gone_leaves n i false s few h =
      leaves_then n (λ t. All (Only i.id) (items_now t)) AllOther (only_if i.in_sync (try_change (change.Clear i.id))) (try_change (change.Rebase i.id (untargeted i.identity) (base_of i) no_usn)) s
      (leaves_if n (λ t. All (Only i.id) (items_now t)) i.in_sync (try_change (change.Clear i.id)) s few
      (λ q. change_leaves n (λ t. All (Only i.id) (items_now t)) (change.Clear i.id) s few (λ t led. subst (All (Only i.id)) (sym led.after.items) (only_effect i.id (items_now s) (change.Clear i.id) (next_number s.filter.volume) tt h))) (λ q. h))
      (λ t few k. change_leaves n AllOther (change.Rebase i.id (untargeted i.identity) (base_of i) no_usn) t few (λ u led. untargeted_all i t u led k))

  -- Changed

  module _ (i : Item) where
    -- moves leave the item alike
    abbrev Moving : State → Type 0
    Moving t = All (Only i.id) (items_now t) × Each i.id (Alike i) (items_now t)

    abbrev Moved : State → Type 0
    Moved t = Moving t × Seen i.id t

    moving : (s t : State) (id to : ItemId) (called : List ℕ) → Led (change.Move id to called) s t → Moving s → Moving t
    moving s t id to called led h = (
      subst (All (Only i.id)) (sym led.after.items) (only_effect i.id (items_now s) (change.Move id to called) (next_number s.filter.volume) tt h.0),
      subst (Each i.id (Alike i)) (sym led.after.items) (alike_moved i i.id (change.Move id to called) (next_number s.filter.volume) (items_now s) tt h.1),
    )

    move_leaves : (n : ℕ) (p : Item) (s : State) → n ≤ skips s → Moving s → Leaves n Moved (move_entry e i p s)
    move_leaves n p s few h =
        leaves_then n Moving Moved (try_clear_name p.id e.name i.id) (and_then (free_parent i p) (and_then (move_in e i p) (try_seen (seen_entry i.id e)))) s
        (clear_leaves n Moving p.id e.name i.id s few h (λ id to called t led. moving s t id to called led h))
        (λ t few k. leaves_then n Moving Moved (free_parent i p) (and_then (move_in e i p) (try_seen (seen_entry i.id e))) t
        (leaves_if n Moving (is_under (items_now t) p.id i.id) (try_change (change.Move p.id root_id (name_in_root (items_now t) p))) t few (λ q. change_leaves n Moving (change.Move p.id root_id (name_in_root (items_now t) p)) t few (λ u led. moving t u p.id root_id (name_in_root (items_now t) p) led k)) (λ q. k))
        (λ u few k. leaves_then n Moving Moved (move_in e i p) (try_seen (seen_entry i.id e)) u
        (leaves_if n Moving (not (says (stands_in p e.name) (item_of (items_now u) i.id))) (try_change (change.Move i.id p.id e.name)) u few (λ q. change_leaves n Moving (change.Move i.id p.id e.name) u few (λ v led. moving u v i.id p.id e.name led k)) (λ q. k))
        (λ v few k. seen_leaves n Moved (seen_entry i.id e) v few (λ q. (k, inl (path_put i.id (book_now v)))) (λ q. (k, inr (gone_if (items_now v) i.id q))))))

    not_newer : (k : Item) → is_newer k e ≡ false → k.directory ≡ false → e.version.0 ≤ (base_version k).0
    not_newer k q file = by k.directory q file where
      low : (a b : ℕ) → nat_lt a b ≡ false → b ≤ a
      low a b z = grind (arith, nat_tests, z)

      by : (d : Bool) → (not d && nat_lt (base_version k).0 e.version.0) ≡ false → d ≡ false → e.version.0 ≤ (base_version k).0
      by true z y = no_way (sym y)
      by false z y = low (base_version k).0 e.version.0 z

    -- an item that is not newer has all of the entry's version
    kept_own : (k : Item) (t : State) → item_of (items_now t) i.id ≡ Some k → is_newer k e ≡ false → Moving t → All (Own i.id) (items_now t)
    kept_own k t f q h = own (items_now t) h.0 h.1 where
      alike : Alike i k
      alike = each_at i.id (Alike i) (items_now t) k f h.1

      one : (j : Item) → Alike i j → j.directory ≡ false → e.version.0 ≤ (base_version j).0
      one j a file = subst (λ (n : ℕ). e.version.0 ≤ n) (alike.0 ∙ sym a.0) (not_newer k q (alike.1 ∙ sym a.1 ∙ file))

      own : (items : List Item) → All (Only i.id) items → Each i.id (Alike i) items → All (Own i.id) items
      own [] a b = tt
      own (j ∷ js) a b = ((λ below z. let same : j.id.0 ≡ i.id.0 = a.0 below z in (same, one j (b.0 (eq-eqb j.id.0 i.id.0 same)))), own js a.1 b.1)

    taken_own : (k : Item) (s t : State) → k.id.0 ≡ i.id.0 → Led (change.Take k.id (entry_identity e) e.len) s t → All (Only i.id) (items_now s) → All (Own i.id) (items_now t)
    taken_own k s t same led h =
        subst (All (Own i.id)) (sym led.after.items)
        (all_made k.id (took (entry_identity e) e.len (next_number s.filter.volume)) (Only i.id) (Own i.id) (λ j own g below z. (own ∙ same, λ file. (version_in_it e plain))) (λ j other g below z. absurd (apart_ids j.id.0 k.id.0 other (g below z ∙ sym same))) (items_now s) h)

    take_leaves : (n : ℕ) (s : State) → n ≤ skips s → Moved s → Leaves n (Done i.id) (take_entry e i.id s)
    take_leaves n s few h = by (item_of (items_now s) i.id) refl where
      none_own : (j : Item) → (j.id.0 ≡ i.id.0 → ⊥) × Only i.id j → Own i.id j
      none_own j k below z = absurd (k.0 (k.1 below z))

      path : (k : Item) → item_of (items_now s) i.id ≡ Some k → Seen i.id s → PathAt (book_now s) i.id
      path k f (inl z) = z
      path k f (inr gone) = absurd ((all_found (λ j. j.id.0 ≡ i.id.0 → ⊥) (λ j. j.id.0 == i.id.0) (items_now s) k f gone).0 (found_id i.id (items_now s) k f))

      by : (o : Option Item) → item_of (items_now s) i.id ≡ o → Leaves n (Done i.id) (take_over e o s)
      by None f =
          let gone : Gone i.id (items_now s) = not_found (items_now s) i.id f in
          leaves_now n (Done i.id) s few (all_both (λ j. j.id.0 ≡ i.id.0 → ⊥) (Only i.id) (Own i.id) (λ j a b below z. absurd (a (b below z))) (items_now s) gone h.0.0, inr gone)
      by (Some k) f =
          leaves_if n (Done i.id) (is_newer k e) (and_then (only_if (is_dirty k) (copy_off k)) (try_change (change.Take k.id (entry_identity e) e.len))) s few
          (λ q. leaves_then n (λ t. All (Only i.id) (items_now t) × PathAt (book_now t) i.id) (Done i.id) (only_if (is_dirty k) (copy_off k)) (try_change (change.Take k.id (entry_identity e) e.len)) s
          (leaves_if n (λ t. All (Only i.id) (items_now t) × PathAt (book_now t) i.id) (is_dirty k) (copy_off k) s few
          (λ d. change_leaves n (λ t. All (Only i.id) (items_now t) × PathAt (book_now t) i.id) (change.Copy s.filter.volume.next_item k.id k.parent (conflict_name (items_now s) k.parent k.name)) s few
          (λ t led. (
            subst (All (Only i.id)) (sym led.after.items) (only_effect i.id (items_now s) (change.Copy s.filter.volume.next_item k.id k.parent (conflict_name (items_now s) k.parent k.name)) (next_number s.filter.volume) tt h.0.0),
            subst (λ (b : Book). PathAt b i.id) (sym led.after.book) (path k f h.1),
          )))
          (λ d. (h.0.0, path k f h.1)))
          (λ t few g. change_leaves n (Done i.id) (change.Take k.id (entry_identity e) e.len) t few
          (λ u led. (taken_own k t u (found_id i.id (items_now s) k f) led g.0, inl (subst (λ (b : Book). PathAt b i.id) (sym led.after.book) g.1)))))
          (λ q. (kept_own k s f q h.0, h.1))

    -- the path is seen already
    path_now : (s : State) → is_seen_so s i e ≡ true → PathAt (book_now s) i.id
    path_now s q p f = path (subst (λ (o : Option SeenPath). says (is_path_of e) o ≡ true) f q) where
      path : ((p.parent.0 == e.parent.0) && same p.name e.name) ≡ true → (p.parent.0 ≡ e.parent.0) × (p.name ≡ e.name)
      path z = (eqb-true p.parent.0 e.parent.0 (left_true (p.parent.0 == e.parent.0) (same p.name e.name) z), same_is p.name e.name (right_true (p.parent.0 == e.parent.0) (same p.name e.name) z))

    changed_leaves : (n : ℕ) (p : Item) (s : State) → n ≤ skips s → Moving s → Leaves n (Done i.id) (changed_steps e i p s)
    changed_leaves n p s few h =
        leaves_then n Moved (Done i.id) (only_if (not (is_seen_so s i e)) (move_entry e i p)) (and_then (take_entry e i.id) (try_mark_now i.id)) s
        (leaves_if n Moved (not (is_seen_so s i e)) (move_entry e i p) s few (λ q. move_leaves n p s few h) (λ q. (h, inl (path_now s (not_false (is_seen_so s i e) q)))))
        (λ t few k. leaves_then n (Done i.id) (Done i.id) (take_entry e i.id) (try_mark_now i.id) t (take_leaves n t few k) (λ u few g. mark_leaves n (Done i.id) i.id u few g (λ m v led. marked i.id u v m led g)))

  -- the turn

  -- the item of an entry that is found is its only one
  only_found : (items : List Item) (i : Item) → AreTargetsApart items → by_target items e.rid ≡ Some i → All (Only i.id) items
  only_found [] i apart f = tt
  only_found (j ∷ js) i apart f = by (has_target j e.rid) refl f (only_found js i apart.1) where
    clash : ◌≡◌ {A = Option Item} (Some j) (Some i) → j ≡ i
    clash z = cc

    hit : has_target j e.rid ≡ true → (target_of j).0 ≡ e.rid.0
    hit q = eqb-true (target_of j).0 e.rid.0 (right_true (nat_lt 0 e.rid.0) ((target_of j).0 == e.rid.0) q)

    miss : has_target j e.rid ≡ false → (target_of j).0 ≡ e.rid.0 → ⊥
    miss q z = no_way (sym q ∙ found (nat_lt 0 e.rid.0) (positive e.rid.0 plain.some) ((target_of j).0 == e.rid.0) (eq-eqb (target_of j).0 e.rid.0 z)) where
      positive : (n : ℕ) → (n ≡ 0 → ⊥) → nat_lt 0 n ≡ true
      positive zero some = absurd (some refl)
      positive (suc n) some = less n where
        less : (n : ℕ) → nat_lt 0 (suc n) ≡ true
        less n = grind (arith, nat_tests)

      found : (a : Bool) → a ≡ true → (b : Bool) → b ≡ true → (a && b) ≡ true
      found true p true q = refl
      found true p false q = q
      found false p b q = p

    by : (b : Bool) → has_target j e.rid ≡ b → cond b (Some j) (by_target js e.rid) ≡ Some i → (by_target js e.rid ≡ Some i → All (Only i.id) js) → All (Only i.id) (j ∷ js)
    by true q z g =
        let same : j ≡ i = clash z in (
          (λ below t. ap (λ (x : Item). x.id.0) same),
          all_weaker (λ k. (target_of j).0 ≡ (target_of k).0 → (target_of j).0 ≡ 0) (Only i.id) (λ k apart below t. absurd (plain.some (sym (hit q) ∙ apart (hit q ∙ sym t)))) js apart.0,
        )
    by false q z g = ((λ below t. absurd (miss q t)), g z)

  none_found : (items : List Item) → by_target items e.rid ≡ None → All Other items
  none_found items f = all_weaker (λ i. (target_of i).0 ≡ e.rid.0 → e.rid.0 ≡ 0) Other (λ i k below t. plain.some (k t)) items (unaimed_unfound items e.rid f)

  -- what a turn leaves
  abbrev pub TurnLeft : ℕ → Bool → State → Type 0
  TurnLeft n postponed t = (n ≤ skips t) × ((postponed ≡ true) ⊎ (n < skips t) ⊎ AreTurnedTo e t)

  turn_leaves : (n : ℕ) (H : State → Type 0) (f : Arrow State Bool) (s : State) → ((t : State) → H t → AreTurnedTo e t) → Leaves n H (f s) → (b : Bool) (t : State) → Ends (turn f s) b t → TurnLeft n b t
  turn_leaves n H f s to h b t ends = let k = ends_bind (f s) taken b t ends in subst (TurnLeft n b) (sym k.3.1) (by k.0 (h k.0 k.1 k.2)) where
    by : {m : State} (d : Bool) → (n ≤ skips m) × (d ≡ true → H m) × (d ≡ false → n < skips m) → TurnLeft n b m
    by true z = (z.0, inr (inr (to _ (z.1 refl))))
    by false z = (z.0, inr (inl (z.2 refl)))

  stays : (n : ℕ) (b : Bool) (s t : State) (x : Bool) → n ≤ skips s → (b ≡ x) × (t ≡ s) → (x ≡ true) ⊎ AreTurnedTo e s → TurnLeft n b t
  stays n b s t x few z h = subst (TurnLeft n b) (sym z.1) (few, by h) where
    by : (x ≡ true) ⊎ AreTurnedTo e s → (b ≡ true) ⊎ (n < skips s) ⊎ AreTurnedTo e s
    by (inl k) = inl (z.0 ∙ k)
    by (inr k) = inr (inr k)

  pub turn_left : (n : ℕ) (s : State) (next : ℕ) → InOrder 0 next (items_now s) → AreTargetsApart (items_now s) → n ≤ skips s → (b : Bool) (t : State) → Ends (take_turn e s) b t → TurnLeft n b t
  turn_left n s next order apart few b t ends = by (by_target (items_now s) e.rid) (parent_here s e) refl ends where
    gone_left : (i : Item) → All (Only i.id) (items_now s) → (used : Bool) → Ends (gone_unless i used s) b t → TurnLeft n b t
    gone_left i only true z = stays n b s t true few z (inl refl)
    gone_left i only false z = turn_leaves n AllOther (λ y. remove_or_untarget i (is_removable y i) y) s (λ u k. none_turned u k) (gone_leaves n i (is_removable s i) s few only) b t z

    changed_left : (i p : Item) → e.live ≡ true → Moving i s → (used : Bool) → Ends (changed_unless e i p used s) b t → TurnLeft n b t
    changed_left i p live moving true z = stays n b s t true few z (inl refl)
    changed_left i p live moving false z = turn_leaves n (Done i.id) (changed_steps e i p) s (λ u k. done_turned i.id u live k) (changed_leaves i n p s few moving) b t z

    unknown_left : (live : Bool) → e.live ≡ live → (p : Option Item) → AllOther s → Ends (unknown live e p s) b t → TurnLeft n b t
    unknown_left true live (Some p) none z = turn_leaves n Whole (λ y. new_over e p (child_of (items_now y) p.id e.name) y) s (λ u k. done_turned k.0 u live k.1) (over_leaves n p (child_of (items_now s) p.id e.name) s few none) b t z
    unknown_left true live None none z = stays n b s t false few z (inr (none_turned s none))
    unknown_left false live p none z = stays n b s t false few z (inr (none_turned s none))

    known_left : (live : Bool) → e.live ≡ live → (i : Item) (p : Option Item) → by_target (items_now s) e.rid ≡ Some i → Ends (known live e i p s) b t → TurnLeft n b t
    known_left true live i (Some p) f z =
        changed_left i p live (only_found (items_now s) i apart f, each_found i.id (Alike i) 0 next (items_now s) i order (found_again (λ j. has_target j e.rid) 0 next (items_now s) i order f) (refl, refl, refl, refl)) (is_newer i e && in_use s i.id) z
    known_left true live i None f z = gone_left i (only_found (items_now s) i apart f) (in_use s i.id) z
    known_left false live i p f z = gone_left i (only_found (items_now s) i apart f) (in_use s i.id) z

    by : (o p : Option Item) → by_target (items_now s) e.rid ≡ o → Ends (turn_by e o p s) b t → TurnLeft n b t
    by None p f z = unknown_left e.live refl p (none_found (items_now s) f) z
    by (Some i) p f z = known_left e.live refl i p f z
