-- A local write stands in the list of an item or of a copy, or it went into a version of the remote with its byte.
use Rattle.std.proofs.Common.{◌≡◌, ◌⊎◌, ℕ, Bool, true, false, List, [], ◌∷◌, ◌++◌, refl, sym, ◌∙◌, ap, subst, inl, inr, eq-eqb}
use Rattle.std.specs.Prelude.{Option, Some, None, cond, not, ◌||◌, ◌&&◌, ◌==◌}
use Rattle.std.specs.List.{list_any}
use Rattle.std.proofs.lemmas.Bool.{eqb-true}
use Rattle.cf_base.specs.declared.changes.Change.{Change}
use Rattle.cf_base.specs.declared.changes.Change.TheVariants as change
use Rattle.cf_base.specs.declared.ids.ItemId.{ItemId}
use Rattle.cf_base.specs.declared.ids.Usn.{Usn}
use Rattle.cf_model.specs.Contents.{base_named}
use Rattle.cf_model.specs.Effects.{changed, converted, copied, copies, effect, got, kept, left_out, marked, moved, pinned, populated, rebased, sized, took, unmarked, validated_in, without, wrote}
use Rattle.cf_model.specs.Identities.{base_bytes}
use Rattle.cf_model.specs.Items.{Item, item_of, pin_of}
use Rattle.cf_model.specs.Kept.{dropped_by, has_id, lists, lists_at, made_with, with_copy}
use Rattle.cf_model.specs.Logs.{items_of}
use Rattle.cf_model.specs.Numbers.{above, same_usn}
use Rattle.cf_model.specs.Overlay.{Written}
use Rattle.cf_model.specs.Soundness.{Each}
use Rattle.cf_model.specs.Store.{Held}
use Rattle.cf_model.specs.Words.{passes_at, says, when}
use Rattle.cf_model.proofs.GivenLaws.{others_changed, others_left}
use Rattle.cf_model_laws.specs.Fitting.{IsCopied}
use Rattle.cf_model_laws.specs.History.{HasMet, IsMarkable, IsRebasable}
use Rattle.cf_model_laws.specs.Invariant.{All}
use Rattle.cf_model_laws.proofs.HeldLocals.{lists_stays, taken_in}
use Rattle.cf_model_laws.proofs.KeptLocals.{Sparing, all_at, any_after}
use Rattle.cf_model_laws.proofs.LocalSteps.{HasLister, HoldsAt, HoldsIn, at_other, found_first, found_second, passes_lister}
use Rattle.cf_model_laws.proofs.PushRepliesGuarded.{each_at}
use Rattle.cf_model_laws.proofs.RightItems.{no_way}
use Rattle.cf_model_laws.proofs.SoundSettles.{any_longer, same_item}
use Rattle.cf_model_laws.proofs.SparedBytes.{is_byte, told_at}

-- what was found lists the write
pub found_lists : (n : Usn) (items : List Item) (h : ItemId) → lists_at items h n ≡ true → (i : Item) × (item_of items h ≡ Some i) × (lists n i.writes ≡ true)
found_lists n items h e = by (item_of items h) refl e where
  by : (o : Option Item) → item_of items h ≡ o → says (λ i. lists n i.writes) o ≡ true → (i : Item) × (item_of items h ≡ Some i) × (lists n i.writes ≡ true)
  by None q z = no_way z
  by (Some i) q z = (i, q, z)

pub lists_found : (n : Usn) (items : List Item) (h : ItemId) (i : Item) → item_of items h ≡ Some i → lists n i.writes ≡ true → lists_at items h n ≡ true
lists_found n items h i e k = ap (λ (o : Option Item). says (λ x. lists n x.writes) o) e ∙ k

module _ (r : Held) (n : Usn) (p b : ℕ) where
  -- a change of an item by which no write is dropped
  plainly : (items : List Item) (item : ItemId) (f : Item → Item) → ((i : Item) → (f i).id ≡ i.id) → ((i : Item) → lists n i.writes ≡ true → lists n (f i).writes ≡ true) → (ids : List ItemId) → HasLister r n p b items ids → HasLister r n p b (changed item f items) ids
  plainly items item f keeps still ids h = passes_lister r n p b items item f keeps (λ i e k. still i k) ids h

  -- one more item
  added : (items more : List Item) (ids : List ItemId) (first : List ItemId) → HasLister r n p b items ids → HasLister r n p b (items ++ more) (first ++ ids)
  added items more ids first (h, among, i, found, listed) = (h, any_after (λ x. x.0 == h.0) first ids among, i, found_first items more h i found, listed)

  none_listed : (ws : List Written) → ws ≡ [] → lists n ws ≡ true → ⊥
  none_listed ws e k = no_way (sym (ap (lists n) e) ∙ k)

  abbrev pub Listed : List Item → List ItemId → Change → List Item → List ItemId → Type 0
  Listed items ids c new more = HasLister r n p b new more ⊎ (list_any (made_with r p b) (dropped_by items ids n c) ≡ true)

  -- a Rebase that takes the write in names a version with the byte
  rebase_takes : (items : List Item) (item : ItemId) (identity : List ℕ) (len : ℕ) (at : Usn) (ids : List ItemId) → Each item (IsRebasable r identity len at) items → All (HoldsAt r n p b items) ids → HasLister r n p b items ids
      → Listed items ids (change.Rebase item identity len at) (changed item (rebased identity len at) items) ids
  rebase_takes items item identity len at ids met held (h, among, i, found, listed) = by (item.0 == h.0) refl (above n at) refl where
    there : (item.0 == h.0) ≡ true → item_of items item ≡ Some i
    there q = subst (λ (x : ItemId). item_of items x ≡ Some i) (at_other r n p b item h q) found

    taken : (item.0 == h.0) ≡ true → above n at ≡ false → made_with r p b identity ≡ true
    taken q a =
        let holds : HoldsIn r n p b i = all_at (HoldsAt r n p b items) ids h among held i found listed in
        let g = each_at item (IsRebasable r identity len at) items i (there q) met holds.file in
        told_at b (base_named r identity) p (subst (λ (xs : List ℕ). passes_at (is_byte b) xs p ≡ true) (sym g.2) (taken_in n p b (base_bytes r i) i.directory i.held i.writes at a g.4 holds))

    dropped : (item.0 == h.0) ≡ true → above n at ≡ false → list_any (made_with r p b) (when (has_id ids item && lists_at items item n && not (above n at)) (identity ∷ [])) ≡ true
    dropped q a =
        rw (subst (λ (x : ItemId). has_id ids x ≡ true) (at_other r n p b item h q) among) (rw (lists_found n items item i (there q) listed) (rw a (ap (λ (c : Bool). c || false) (taken q a))))

    by : (c : Bool) → (item.0 == h.0) ≡ c → (d : Bool) → above n at ≡ d → Listed items ids (change.Rebase item identity len at) (changed item (rebased identity len at) items) ids
    by c q true a = inl (passes_lister r n p b items item (rebased identity len at) (λ j. refl) (λ j e k. lists_stays n at j.writes k a) ids (h, among, i, found, listed))
    by true q false a = inr (dropped q a)
    by false q false a = inl (h, among, i, others_changed (rebased identity len at) item h items (λ j. refl) q ∙ found, listed)

  -- a Take meets a file without local writes, or stands behind the copy, which lists the write too
  take_lists : (items : List Item) (front : List (Usn × Change)) (item : ItemId) (f : Item → Item) (ids : List ItemId) → ((i : Item) → (f i).id ≡ i.id) → Each item (λ i. i.writes ≡ []) items ⊎ IsCopied front item
      → (IsCopied front item → has_id ids item ≡ true → lists_at items item n ≡ true → (new : ItemId) × (has_id ids new ≡ true) × (lists_at items new n ≡ true) × (new.0 ≡ item.0 → ⊥)) → HasLister r n p b items ids → HasLister r n p b (changed item f items) ids
  take_lists items front item f ids keeps met copied (h, among, i, found, listed) = by (item.0 == h.0) refl met where
    there : (item.0 == h.0) ≡ true → item_of items item ≡ Some i
    there q = subst (λ (x : ItemId). item_of items x ≡ Some i) (at_other r n p b item h q) found

    apart : (new : ItemId) → (new.0 ≡ item.0 → ⊥) → (item.0 == new.0) ≡ false
    apart new k = one (item.0 == new.0) refl where
      one : (c : Bool) → (item.0 == new.0) ≡ c → c ≡ false
      one true q = absurd (k (sym (eqb-true item.0 new.0 q)))
      one false q = refl

    other : (new : ItemId) × (has_id ids new ≡ true) × (lists_at items new n ≡ true) × (new.0 ≡ item.0 → ⊥) → HasLister r n p b (changed item f items) ids
    other (new, in_ids, lists_it, differs) =
        let g = found_lists n items new lists_it in
        (new, in_ids, g.0, others_changed f item new items keeps (apart new differs) ∙ g.1, g.2)

    by : (c : Bool) → (item.0 == h.0) ≡ c → Each item (λ i. i.writes ≡ []) items ⊎ IsCopied front item → HasLister r n p b (changed item f items) ids
    by true q (inl k) = absurd (none_listed i.writes (each_at item (λ j. j.writes ≡ []) items i (there q) k) listed)
    by true q (inr k) = other (copied k (subst (λ (x : ItemId). has_id ids x ≡ true) (at_other r n p b item h q) among) (lists_found n items item i (there q) listed))
    by false q k = (h, among, i, others_changed f item h items keeps q ∙ found, listed)

  removal_lists : (items : List Item) (item : ItemId) (ids : List ItemId) → All (Sparing r n p b items (change.Remove item)) ids → HasLister r n p b items ids → HasLister r n p b (without item items) ids
  removal_lists items item ids spares (h, among, i, found, listed) = by (item.0 == h.0) refl where
    by : (c : Bool) → (item.0 == h.0) ≡ c → HasLister r n p b (without item items) ids
    by true q = no_way (sym (all_at (Sparing r n p b items (change.Remove item)) ids h among spares (lists_found n items h i found listed)) ∙ q)
    by false q = (h, among, i, others_left item h items q ∙ found, listed)

  mark_lists : (items : List Item) (item : ItemId) (number : Usn) (ids : List ItemId) → Each item (IsMarkable r number) items → HasLister r n p b items ids → HasLister r n p b (changed item marked items) ids
  mark_lists items item number ids met h = passes_lister r n p b items item marked (λ i. refl) (λ i e k. absurd (none_listed i.writes (each_at item (IsMarkable r number) items i e met).1 k)) ids h

  -- what each change makes of it
  pub lister_step : (items : List Item) (ids : List ItemId) (front : List (Usn × Change)) (m : Usn) (c : Change) → items_of front ≡ items → HasMet r front m c
      → ((item : ItemId) → IsCopied front item → has_id ids item ≡ true → lists_at items item n ≡ true → (new : ItemId) × (has_id ids new ≡ true) × (lists_at items new n ≡ true) × (new.0 ≡ item.0 → ⊥))
      → All (HoldsAt r n p b items) ids → All (Sparing r n p b items c) ids → HasLister r n p b items ids → Listed items ids c (effect items c m) (with_copy c ids)
  lister_step items ids front m (change.Make item parent name k size identity) is met copied held spares h = inl (added items _ ids [] h)
  lister_step items ids front m (change.Remove item) is met copied held spares h = inl (removal_lists items item ids spares h)
  lister_step items ids front m (change.Move item parent name) is met copied held spares h = inl (plainly items item (moved parent name (pin_of items parent) m) (λ i. refl) (λ i k. k) ids h)
  lister_step items ids front m (change.Write item at bytes) is met copied held spares h = inl (plainly items item (wrote at bytes m) (λ i. refl) (λ i k. any_longer (λ w. same_usn w.number n) i.writes _ k) ids h)
  lister_step items ids front m (change.Size item size) is met copied held spares h = inl (plainly items item (sized size m) (λ i. refl) (λ i k. any_longer (λ w. same_usn w.number n) i.writes _ k) ids h)
  lister_step items ids front m (change.Filled item start bytes) is met copied held spares h = inl (plainly items item (got start bytes) (λ i. refl) (λ i k. k) ids h)
  lister_step items ids front m (change.Validated item start len) is met copied held spares h = inl (plainly items item (validated_in start len) (λ i. refl) (λ i k. k) ids h)
  lister_step items ids front m (change.Emptied item start len) is met copied held spares h = inl (plainly items item (left_out start len) (λ i. refl) (λ i k. k) ids h)
  lister_step items ids front m (change.SetPin item pin) is met copied held spares h = inl (plainly items item (pinned pin) (λ i. refl) (λ i k. k) ids h)
  lister_step items ids front m (change.Mark item number) is met copied held spares h = inl (mark_lists items item number ids (subst (λ (is : List Item). Each item (IsMarkable r number) is) is met) h)
  lister_step items ids front m (change.Clear item) is met copied held spares h = inl (plainly items item unmarked (λ i. refl) (λ i k. k) ids h)
  lister_step items ids front m (change.Convert item identity) is met copied held spares h = inl (plainly items item (converted identity m) (λ i. refl) (λ i k. k) ids h)
  lister_step items ids front m (change.Revert item) is met copied held spares h = elim met as (λ _. Listed items ids (change.Revert item) (effect items (change.Revert item) m) ids) [ ]
  lister_step items ids front m (change.Rebase item identity len at) is met copied held spares h = rebase_takes items item identity len at ids (subst (λ (is : List Item). Each item (IsRebasable r identity len at) is) is met) held h
  lister_step items ids front m (change.Take item identity size) is met copied held spares h =
      inl (take_lists items front item (took identity size m) ids (λ i. refl) (subst (λ (is : List Item). Each item (λ i. i.writes ≡ []) is ⊎ IsCopied front item) is met) (copied item) h)
  lister_step items ids front m (change.Copy item from parent name) is met copied held spares h = inl (added items (copies item parent name (pin_of items parent) m (item_of items from)) ids (when (has_id ids from) (item ∷ [])) h)
  lister_step items ids front m (change.Populated item) is met copied held spares h = inl (plainly items item populated (λ i. refl) (λ i k. k) ids h)
  lister_step items ids front m (change.Keep item on) is met copied held spares h = inl (plainly items item (kept on) (λ i. refl) (λ i k. k) ids h)

  -- behind a copy of an item that lists the write the copy lists it
  abbrev pub CopyLists : List Item → List ItemId → Usn → ItemId → Change → Type 0
  CopyLists items ids m item c =
      has_id (with_copy c ids) item ≡ true → lists_at (effect items c m) item n ≡ true → (new : ItemId) × (has_id (with_copy c ids) new ≡ true) × (lists_at (effect items c m) new n ≡ true) × (new.0 ≡ item.0 → ⊥)

  copy_lists : (items : List Item) (ids : List ItemId) (m : Usn) (item new parent : ItemId) (name : List ℕ) → item_of items new ≡ None → CopyLists items ids m item (change.Copy new item parent name)
  copy_lists items ids m item new parent name none among listed = by (item_of items item) refl (has_id ids item) refl among listed where
    differ : (i : Item) → item_of items item ≡ Some i → new.0 ≡ item.0 → ⊥
    differ i e z = other (sym none ∙ subst (λ (x : ItemId). item_of items x ≡ Some i) (sym (same_item new item z)) e) where
      other : ◌≡◌ {A = Option Item} None (Some i) → ⊥
      other e = cc

    by : (o : Option Item) → item_of items item ≡ o → (c : Bool) → has_id ids item ≡ c → has_id (when c (new ∷ []) ++ ids) item ≡ true → lists_at (items ++ copies new parent name (pin_of items parent) m o) item n ≡ true
        → (k : ItemId) × (has_id (when c (new ∷ []) ++ ids) k ≡ true) × (lists_at (items ++ copies new parent name (pin_of items parent) m o) k n ≡ true) × (k.0 ≡ item.0 → ⊥)
    by None e c q a l = no_way (sym (ap (λ (o : Option Item). says (λ i. lists n i.writes) o) (found_second items [] item e)) ∙ l)
    by (Some i) e false q a l = no_way (sym q ∙ a)
    by (Some i) e true q a l =
        let x : Item = copied new parent name (pin_of items parent) m i in
        let at : item_of (items ++ x ∷ []) item ≡ Some i = found_first items (x ∷ []) item i e in
        let was : lists n i.writes ≡ true = sym (ap (λ (o : Option Item). says (λ y. lists n y.writes) o) at) ∙ l in
        let here : item_of (items ++ x ∷ []) new ≡ Some x = found_second items (x ∷ []) new none ∙ ap (λ (c : Bool). cond c (Some x) None) (eq-eqb new.0 new.0 refl) in
        (new, ap (λ (c : Bool). c || has_id ids new) (eq-eqb new.0 new.0 refl), lists_found n (items ++ x ∷ []) new x here (any_longer (λ w. same_usn w.number n) i.writes _ was), differ i e)

  pub copied_step : (items : List Item) (ids : List ItemId) (front : List (Usn × Change)) (m : Usn) (c : Change) (item new parent : ItemId) (name : List ℕ) → c ≡ change.Copy new item parent name → items_of front ≡ items → HasMet r front m c → CopyLists items ids m item c
  copied_step items ids front m c item new parent name e is met =
      subst (CopyLists items ids m item) (sym e) (copy_lists items ids m item new parent name (subst (λ (is : List Item). item_of is new ≡ None) is (subst (HasMet r front m) e met).1))
