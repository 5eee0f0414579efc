-- Numbers are of one item each, in every state of a run.
use Rattle.std.proofs.Common.{◌≡◌, ◌⊎◌, ◌+◌, ℕ, Bool, true, false, List, [], ◌∷◌, refl, sym, ◌∙◌, ap, subst, inl, inr, arith}
use Rattle.std.proofs.lemmas.Bool.Decides.{nat_tests}
use Rattle.std.specs.Prelude.{Option, Some, ◌==◌}
use Rattle.std.proofs.lemmas.Bool.{eqb-true}
use Rattle.cf_base.specs.declared.changes.Change.{Change}
use Rattle.cf_base.specs.declared.changes.Change.TheVariants as change
use Rattle.cf_base.specs.declared.ids.ItemId.{ItemId}
use Rattle.cf_base.specs.declared.ids.Usn.{Usn}
use Rattle.cf_model.specs.Books.{Book, book_after, with_seen, with_tombstone, without_entry}
use Rattle.cf_model.specs.Calls.{tombstone_for}
use Rattle.cf_model.specs.Changes.{next_number, put_with_book}
use Rattle.cf_model.specs.Effects.{effect, without}
use Rattle.cf_model.specs.Identities.{target_of}
use Rattle.cf_model.specs.Items.{Item, item_of}
use Rattle.cf_model.specs.Logs.{items_of}
use Rattle.cf_model.specs.Numbers.{above, root_id, usn_after}
use Rattle.cf_model.specs.Points.{with_room_point}
use Rattle.cf_model.specs.PushReplies.{entry_seen}
use Rattle.cf_model.specs.Restarts.{epoch_after}
use Rattle.cf_model.specs.State.{Filter, Link, State, Volume, book_now, items_now}
use Rattle.cf_model.specs.Store.{remote_step}
use Rattle.std.specs.Prelude.{take}
use Rattle.cf_model_laws.specs.Fitting.{IsLeaf}
use Rattle.cf_model_laws.specs.Invariant.{All, IsRight, IsSound}
use Rattle.cf_model_laws.specs.Premises.{IsFair}
use Rattle.cf_model_laws.specs.Seats.{IsBelowRoot}
use Rattle.cf_model_laws.proofs.Gathered.{all_found, all_weaker}
use Rattle.cf_model_laws.proofs.Guarded.{Buries, IsRecordBy}
use Rattle.cf_model_laws.proofs.RemoteGrowth.{step_grows}
use Rattle.cf_model_laws.proofs.RightItems.{above_self, no_way}
use Rattle.cf_model_laws.proofs.SoundChanges.{KeepsEntries, next_above}
use Rattle.cf_model_laws.proofs.SoundStates.{small_before}
use Rattle.cf_model_convergence.specs.Lasting.{AtPoint, LastsIn}
use Rattle.cf_model_convergence.specs.Trees.{AreTrees}
use Rattle.cf_model_convergence.proofs.LastingGuarded.{begun_lasts, opened_lasts, point_lasts, put_lasts}
use Rattle.cf_model_convergence.proofs.PlacedItems.{IsPlacedIn, placed_bare, placed_trees}
use Rattle.cf_model_arrivals.specs.Numbered.{AreNumbered, Claims, HasNumbers}
use Rattle.cf_model_arrivals.proofs.AccountedChanges.{same_tombstones}
use Rattle.cf_model_arrivals.proofs.NumberItems.{among_of_filter, comes}
use Rattle.cf_model_arrivals.proofs.NumbersGuarded.{after_change, buried_new, entered, kind_for, lasting_later}
use Rattle.cf_model_arrivals.proofs.NumbersKept.{Part, claims_part, numbered_book, numbered_buried, numbered_grown, numbered_items, part_same}
use Rattle.cf_model_arrivals.proofs.VolumesGuarded.{InVolume, IsRoomOf, OverVolumes}

-- a change in the volume, or in it with a point for want of room
put_numbers : (l : Link) (tokens : ℕ) (f : Book → Book) (c : Change) (x : Filter) (v : Volume) → IsRoomOf x.volume v → (IsFair l → IsSound l tokens x) → IsFair l
    → AreNumbered (usn_after x.volume.epoch (x.volume.place + 1)) l.remote (effect x.volume.items c (next_number x.volume)) (f (book_after c x.volume.book))
    → LastsIn (AreNumbered (next_number x.volume)) l.remote x.volume → LastsIn (AreNumbered (next_number (put_with_book f c v))) l.remote (put_with_book f c v)
put_numbers l tokens f c x v is sound fair after h = by is where
  later : LastsIn (AreNumbered (usn_after x.volume.epoch (x.volume.place + 1))) l.remote x.volume
  later = lasting_later (next_number x.volume) (usn_after x.volume.epoch (x.volume.place + 1)) l.remote x.volume (next_above x.volume.epoch x.volume.place) h

  by : IsRoomOf x.volume v → LastsIn (AreNumbered (next_number (put_with_book f c v))) l.remote (put_with_book f c v)
  by (inl e) =
      subst (λ (w : Volume). LastsIn (AreNumbered (next_number (put_with_book f c w))) l.remote (put_with_book f c w)) (sym e)
      (put_lasts (AreNumbered (usn_after x.volume.epoch (x.volume.place + 1))) l tokens f c x x.volume (inl refl) sound (λ z. after) (λ z. later) fair)
  by (inr e) =
      subst (λ (w : Volume). LastsIn (AreNumbered (next_number (put_with_book f c w))) l.remote (put_with_book f c w)) (sym e)
      (put_lasts (AreNumbered (usn_after x.volume.epoch (x.volume.place + 1))) l tokens f c x (with_room_point x.volume) (inr refl) sound (λ z. after) (λ z. later) fair)

-- an item that is removed is not the root
not_root : (items : List Item) (item : ItemId) (i : Item) → AreTrees items → item_of items item ≡ Some i → IsBelowRoot items item → i.id.0 ≡ 1 → ⊥
not_root items item i trees found below top = by below where
  same_id : i.id.0 ≡ item.0
  same_id = eqb-true i.id.0 item.0 (all_found (λ j. Unit {0}) (λ j. j.id.0 == item.0) items i found (nothing items)).1 where
    nothing : (is : List Item) → All (λ j. Unit {0}) is
    nothing [] = tt
    nothing (j ∷ js) = (tt, nothing js)

  is_root : item ≡ root_id
  is_root = λ k. record { 0 = (sym same_id ∙ top) k }

  one_item : (a b : Item) → ◌≡◌ {A = Option Item} (Some a) (Some b) → a ≡ b
  one_item a b e = cc

  by : IsBelowRoot items item → ⊥
  by (inl k) = k (sym same_id ∙ top)
  by (inr (j, at, up)) =
      let same : j ≡ trees.top.0 = one_item j trees.top.0 (sym at ∙ ap (λ (id : ItemId). item_of items id) is_root ∙ trees.top.1) in
      let zero : j.parent.0 ≡ 0 = ap (λ (y : Item). y.parent.0) same ∙ trees.top.3 in omega (arith, up, zero)

-- a removal that may leave a tombstone
after_removal : (s : State) (f : Book → Book) (item : ItemId) → IsLeaf (items_now s) item × Buries f item s.filter → AreTrees (items_now s) → KeepsEntries f → IsSound s.link s.volatile.tokens s.filter → AreNumbered (next_number s.filter.volume) s.link.remote (items_now s) (book_now s)
    → AreNumbered (usn_after s.filter.volume.epoch (s.filter.volume.place + 1)) s.link.remote (without item (items_now s)) (f (book_after (change.Remove item) (book_now s)))
after_removal s f item leaf trees keeps sound h = by leaf.1.2 where
  N : Usn
  N = next_number s.filter.volume

  M : Usn
  M = usn_after s.filter.volume.epoch (s.filter.volume.place + 1)

  D : Book
  D = book_after (change.Remove item) (book_now s)

  less : AreNumbered M s.link.remote (without item (items_now s)) D
  less =
      numbered_items N M s.link.remote (items_now s) (without item (items_now s)) D (next_above s.filter.volume.epoch s.filter.volume.place) item.0 (comes (items_now s) (change.Remove item) N)
      (λ e m new k i among same. k i (among_of_filter _ i (items_now s) among) same)
      (numbered_book N s.link.remote (items_now s) (book_now s) D (λ t m. m) (λ e m. m) h)

  free : (o : Bool × ℕ) → Claims (without item (items_now s)) D N o → ⊥
  free o x = no_way (sym (above_self N) ∙ h.early N o (claims_part (items_now s) (without item (items_now s)) (book_now s) D (λ t m. m) (λ e m. m) (λ i m. (i, among_of_filter _ i (items_now s) m, refl, refl)) N o x))

  i : Item
  i = leaf.1.0

  by : (((target_of i).0 ≡ 0) × ((b : Book) → f b ≡ b)) ⊎ ((b : Book) → f b ≡ with_tombstone (tombstone_for i N) b) → AreNumbered M s.link.remote (without item (items_now s)) (f D)
  by (inl z) = subst (AreNumbered M s.link.remote (without item (items_now s))) (sym (z.1 D)) less
  by (inr z) =
      subst (AreNumbered M s.link.remote (without item (items_now s))) (sym (z D))
      (numbered_buried M s.link.remote (without item (items_now s)) D (tombstone_for i N) free (next_above s.filter.volume.epoch s.filter.volume.place)
      (kind_for s.link.remote N i (not_root (items_now s) item i trees leaf.1.1 leaf.0.1) (all_found (IsRight s.link.remote N) (λ j. j.id.0 == item.0) (items_now s) i leaf.1.1 sound.now.right).0.aimed) less)

-- records

recorded : (f : Book → Book) (s : State) → KeepsEntries f → (fair : IsFair s.link) → IsRecordBy (λ t. IsPlacedIn t × InVolume HasNumbers t) f s → AreNumbered (next_number s.filter.volume) s.link.remote (items_now s) (book_now s)
    → AreNumbered (next_number s.filter.volume) s.link.remote (items_now s) (f (book_now s))
recorded f s keeps fair known h = by known where
  B : Book
  B = book_now s

  fewer : Part (f B).tombstones B.tombstones → AreNumbered (next_number s.filter.volume) s.link.remote (items_now s) (f B)
  fewer part = numbered_book (next_number s.filter.volume) s.link.remote (items_now s) B (f B) part (part_same (f B).entries B.entries (keeps B)) h

  same : (d : Book) → f B ≡ d → Part d.tombstones B.tombstones → AreNumbered (next_number s.filter.volume) s.link.remote (items_now s) (f B)
  same d is part = fewer (λ t m. part t (part_same (f B).tombstones d.tombstones (ap (λ (b : Book). b.tombstones) is) t m))

  by : IsRecordBy (λ t. IsPlacedIn t × InVolume HasNumbers t) f s → AreNumbered (next_number s.filter.volume) s.link.remote (items_now s) (f B)
  by (inl (seen, cursor, inl z)) = fewer (part_same (f B).tombstones B.tombstones (z B))
  by (inl (seen, cursor, inr (inl (e, taken, new, gone, rid, version, done, is)))) =
      subst (AreNumbered (next_number s.filter.volume) s.link.remote (items_now s)) (sym (is B))
      (buried_new s fair (λ t. IsPlacedIn t × InVolume HasNumbers t) (λ t k z. (k.0.0.0.1 z, (k.1 z).0)) e taken new rid version gone done h)
  by (inl (seen, cursor, inr (inr (number, is, shut, why)))) = same _ (is B) (λ t m. among_of_filter _ t B.tombstones m)
  by (inr (inl z)) = same _ (z.1 B) (λ t m. m)
  by (inr (inr (inl z))) = same _ (z.0 B) (λ t m. m)
  by (inr (inr (inr (clock, is, fed)))) = same _ (is B) (λ t m. m)

epoch_later : (e p k : ℕ) → above (usn_after (e + 1 + k) 0) (usn_after e p) ≡ true
epoch_later e p k = grind (arith, nat_tests)

pub numbers : OverVolumes HasNumbers IsPlacedIn
numbers = record {
  changes = λ s f c x v is keeps seen fit known sound p h fair. put_numbers s.link s.volatile.tokens f c x v is sound fair
      (after_change s.link s.volatile.tokens f c x keeps ((known fair).3 (book_after c x.volume.book) ∙ same_tombstones c x.volume.book) (fit fair) (sound fair) (h fair).0) (h fair);
  begins = λ s x sound h fair. begun_lasts (AreNumbered (next_number x.volume)) s.link s.volatile.tokens x sound h fair;
  sures = λ s x sound h fair. ((h fair).0, (point_lasts (AreNumbered (next_number x.volume)) s.link.remote true x.volume (sound fair).of_log.0 (h fair).0, tt));
  rooms = λ s x sound h fair. ((h fair).0, (point_lasts (AreNumbered (next_number x.volume)) s.link.remote false x.volume (sound fair).of_log.0 (h fair).0, (h fair).1));
  removes = λ s f item v is keeps seen cursor leaf p h fair. put_numbers s.link s.volatile.tokens f (change.Remove item) s.filter v is p.0.0.1 fair
      (after_removal s f item (leaf fair) (placed_trees s p fair) keeps (p.0.0.1 fair) (h fair).0) (h fair);
  alike = λ s v b same h fair. (numbered_book (next_number v) s.link.remote v.items v.book b (part_same b.tombstones v.book.tombstones same.tombstones) (part_same b.entries v.book.entries same.entries) (h fair).0, (h fair).1);
  records = λ f s keeps known p h fair. (recorded f s keeps fair (known fair) (h fair).0, (h fair).1);
  sees = λ e s is p h fair. (numbered_book (next_number s.filter.volume) s.link.remote (items_now s) (book_now s) (with_seen (entry_seen e) (without_entry e.token (book_now s))) (λ t m. m) (λ d m. among_of_filter _ d (book_now s).entries m) (h fair).0, (h fair).1);
  leaves = λ token s p h fair. (numbered_book (next_number s.filter.volume) s.link.remote (items_now s) (book_now s) (without_entry token (book_now s)) (λ t m. m) (λ d m. among_of_filter _ d (book_now s).entries m) (h fair).0, (h fair).1);
  enters = λ e s well p h fair. (entered s e (p.0.0.1 fair) (placed_bare s p fair) (well fair).0 (well fair).2 (h fair).0, (h fair).1);
  asked = λ s q well p h fair.
      let before : IsFair s.link = (fair.0, small_before s.link.remote q fair.1) in
      let grow = (step_grows s.link.remote q).kinds in (
        numbered_grown (next_number s.filter.volume) s.link.remote (remote_step s.link.remote q).1 (items_now s) (book_now s) grow (h before).0,
        all_weaker (AtPoint (AreNumbered (next_number s.filter.volume)) s.link.remote s.filter.volume.log) (AtPoint (AreNumbered (next_number s.filter.volume)) (remote_step s.link.remote q).1 s.filter.volume.log)
            (λ a z. (z.0, numbered_grown (next_number s.filter.volume) s.link.remote (remote_step s.link.remote q).1 (items_of (take a.count s.filter.volume.log)) a.book grow z.1)) s.filter.volume.points (h before).1,
      );
  told = λ l n o v never fair. absurd (never fair);
  posts = λ f s kept now p h fair. h fair;
  counts = λ l n o v asks h. h;
  inlines = λ l n o v inline h. h;
  shuts = λ l n o v h. h;
  draws = λ s p h. h;
  opens = λ p skipped s is kept h fair. opened_lasts (AreNumbered (usn_after (epoch_after skipped s) 0)) p skipped s is
      (λ z. lasting_later (next_number s.filter.volume) (usn_after (epoch_after skipped s) 0) s.link.remote s.filter.volume (epoch_later s.filter.volume.epoch s.filter.volume.place skipped) (h z)) fair;
}
