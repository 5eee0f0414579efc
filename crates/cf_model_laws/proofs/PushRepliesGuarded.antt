-- What the parts of `PushReplies` keep in `replay`, each by what its own parts keep.
use Rattle.cf_model_laws.proofs.TombstonesGuarded.{DoneIn, IsShut, back_open, bury_new_at, done_removal_at, end_and_close_keeps, lost_place_at, row_open, shut_frame}
use Rattle.std.specs.Prelude.{Bool, true, false, Option, Some, None, is_some, filter, not, cond, find, ◌==◌}
use Rattle.cf_base.specs.declared.codes.Code.{Code}
use Rattle.cf_base.specs.declared.codes.Code.TheVariants as code
use Rattle.cf_base.specs.declared.ids.Rid.{Rid}
use Rattle.cf_base.specs.declared.ids.Version.{Version}
use Rattle.cf_base.specs.declared.messages.Why.{Why}
use Rattle.cf_base.specs.declared.messages.Why.TheVariants as why
use Rattle.cf_model.specs.Arrows.{Arrow, and_then, only_if, reading, seq, Preserves}
use Rattle.cf_model.specs.Books.{Action, MakeDir, MoveItem, PutFile, QueueEntry, RemoveItem, with_seen, without_entry, entry_of}
use Rattle.cf_model.specs.Items.{Item, item_of, size_of}
use Rattle.cf_model.specs.Skips.{do_change, in_book, in_volatile, is_there, skip, to_conflict, try_book, try_mark, try_seen, why_no_record, with_volatile, with_book}
use Rattle.cf_model.specs.State.{State, book_now, items_now, Volatile, Link}
use Rattle.cf_model_laws.proofs.StepsGuarded as skips_keep
use Rattle.cf_model.specs.PushReplies.{by_why, done_by, done_move, done_upload, done_upload_on, entry_seen, held_and_closed, is_new_entry, is_removal, item_of_entry, move_away, name_taken, name_taken_again, name_taken_by, not_empty, not_empty_by, not_in_row, nothing_further, rebase, rebase_of, rebase_unless, see_and_mark, take_done, take_refused, take_void, taken_from_row, was_name_taken, was_not_empty, whatever, why_no_rebase, with_done, with_taken_name, is_new_by, round_closed}
use Rattle.cf_model_laws.proofs.Guarded.{Guarded, KeepsPlaced, IsMovedBy}
use Rattle.cf_model.proofs.ArrowLaws.{keeps_noted, keeps_reading, keeps_then}
use Rattle.std.proofs.Common.{◌≡◌, ◌⊎◌, ◌<◌, ℕ, List, [], ◌∷◌, refl, sym, ◌∙◌, ap, subst, inl, inr, arith, Bool, true, false}
use Rattle.std.specs.List.{list_all}
use Rattle.cf_base.specs.declared.ids.ItemId.{ItemId}
use Rattle.cf_model.specs.Contents.{base_named, up_to}
use Rattle.cf_model.specs.Identities.{base_bytes, identity_for, identity_of, target_of}
use Rattle.cf_model.specs.Numbers.{same_key, no_rid, no_version, root_rid}
use Rattle.cf_model.specs.Soundness.{Each}
use Rattle.cf_model.specs.Store.{bytes_of, Held}
use Rattle.cf_model.specs.Trees.{Keeps}
use Rattle.cf_model.proofs.TreeLaws.{keeps_bind}
use Rattle.cf_model_laws.specs.Fitting.{Fits, NamesWell, NoEntry, NoMove, AimsFree, AimsAlone, IsUnaimed}
use Rattle.cf_model_laws.specs.Invariant.{All, AreApart, EntryFits, FitsBy, InOrder, IsSound, PutFits, put_bytes, DidBy, IsAskedFor, IsOfKind, IsUnmade, target_in, NamesTarget}
use Rattle.cf_model_laws.specs.Premises.{IsFair, IsSmall}
use Rattle.cf_model_laws.proofs.EntryLaws.{dir_well, file_well, made_named, made_read, small_rid, target_read}
use Rattle.cf_model_laws.proofs.FeedFrames.{Feeding, feeding}
use Rattle.cf_model_laws.proofs.FoundItems.{found_id}
use Rattle.cf_model_laws.proofs.Gathered.{all_found, each_weaker, each_any}
use Rattle.cf_model_laws.proofs.Plainly.{keeps_led}
use Rattle.cf_model_laws.proofs.RightItems.{no_way}
use Rattle.cf_model_laws.proofs.SeenPaths.{led_unnamed}
use Rattle.cf_model_laws.proofs.SkipsGuarded.{Led, Skipping, and_then_keeps, both_frames, do_led, keeps_first, no_move, only_if_at, tried_at, try_mark_at, try_seen_at, change_by, heard_skipping}
use Rattle.cf_model_laws.proofs.SoundSettles.{each_found, same_item}
use Rattle.cf_model_laws.proofs.MadeUploads.{done_unmade, done_named}
use Rattle.cf_model.specs.Growth.{IsCounted}
use Rattle.cf_model_laws.proofs.AimedTargets.{unaimed_made}
use Rattle.cf_model_laws.specs.Taken.{Heard, IsNamedBy, IsSeenBy, Known, LosesBy, LosesTold, Nothing, Since}
use Rattle.cf_model_laws.proofs.FitItems.{each_made}
use Rattle.cf_base.specs.declared.messages.Entry.{Entry}
use Rattle.std.proofs.lemmas.Bool.{eqb-true}
use Rattle.cf_model.specs.Effects.{effect, rebased}
use Rattle.cf_model.specs.Changes.{next_number}

pub each_at : (id : ItemId) (P : Item → Type 0) (items : List Item) (i : Item) → item_of items id ≡ Some i → Each id P items → P i
each_at id P [] i e h = cc
each_at id P (j ∷ js) i e h = by (j.id.0 == id.0) refl e (each_at id P js i) where
  by : (b : Bool) → (j.id.0 == id.0) ≡ b → cond b (Some j) (item_of js id) ≡ Some i → (item_of js id ≡ Some i → Each id P js → P i) → P i
  by true q e g = let z : j ≡ i = cc in subst P z (h.0 q)
  by false q e g = g e h.1

pub found_positive : (id : ItemId) (low next : ℕ) (items : List Item) (i : Item) → InOrder low next items → item_of items id ≡ Some i → low < i.id.0
found_positive id low next [] i h e = cc
found_positive id low next (j ∷ js) i h e = by (j.id.0 == id.0) e (found_positive id j.id.0 next js i h.1) where
  by : (b : Bool) → cond b (Some j) (item_of js id) ≡ Some i → (item_of js id ≡ Some i → j.id.0 < i.id.0) → low < i.id.0
  by true e g = let z : j ≡ i = cc in subst (λ (x : Item). low < x.id.0) z h.0
  by false e g = let z : j.id.0 < i.id.0 = g e in let y : low < j.id.0 = h.0 in omega (arith, z, y)

-- once its entry is gone, no other is about the item
pub apart_rest : (p : QueueEntry → Bool) (id : ℕ) (es : List QueueEntry) (e : QueueEntry) → e.item.0 ≡ id → (id ≡ 0 → ⊥) → find p es ≡ Some e → AreApart es → All (λ f. f.item.0 ≡ id → ⊥) (filter (λ f. not (p f)) es)
apart_rest p id [] e is some f h = cc
apart_rest p id (q ∷ es) e is some f h = by (p q) f (apart_rest p id es e is some) where
  others : (es : List QueueEntry) → All (λ g. g.item.0 ≡ q.item.0 → q.item.0 ≡ 0) es → q.item.0 ≡ id → All (λ g. g.item.0 ≡ id → ⊥) (filter (λ g. not (p g)) es)
  others [] k z = tt
  others (g ∷ es) k z = one (p g) (others es k.1 z) where
    one : (b : Bool) → All (λ g. g.item.0 ≡ id → ⊥) (filter (λ g. not (p g)) es) → All (λ g. g.item.0 ≡ id → ⊥) (cond (not b) (g ∷ filter (λ g. not (p g)) es) (filter (λ g. not (p g)) es))
    one true r = r
    one false r = (λ y. some (sym z ∙ k.0 (y ∙ sym z)), r)

  member : (es : List QueueEntry) → find p es ≡ Some e → All (λ g. g.item.0 ≡ q.item.0 → q.item.0 ≡ 0) es → q.item.0 ≡ id → ⊥
  member es f k z =
      let g : (e.item.0 ≡ q.item.0 → q.item.0 ≡ 0) × (p e ≡ true) = all_found (λ g. g.item.0 ≡ q.item.0 → q.item.0 ≡ 0) p es e f k in
      some (sym z ∙ g.0 (is ∙ sym z))

  by : (b : Bool) → cond b (Some q) (find p es) ≡ Some e → (find p es ≡ Some e → AreApart es → All (λ g. g.item.0 ≡ id → ⊥) (filter (λ g. not (p g)) es))
      → All (λ g. g.item.0 ≡ id → ⊥) (cond (not b) (q ∷ filter (λ g. not (p g)) es) (filter (λ g. not (p g)) es))
  by true f g = let z : q ≡ e = cc in others es h.0 (ap (λ (x : QueueEntry). x.item.0) z ∙ is)
  by false f g = (member es f h.0, g f h.1)

-- once an upload is taken, its item may be marked

abbrev Marking : (State → Type 0) → State → State → Type 0
Marking P s t = P t × (Feeding s.link s.filter (book_now s).entries t × IsShut t)

marking : (P : State → Type 0) → Guarded P → (s : State) → Skipping (Since P s.link true (book_now s).cursor) (IsNamedBy (Since P s.link true (book_now s).cursor) (Since P s.link true (book_now s).cursor)) (Marking P s)
marking P closed s = heard_skipping P (λ t. Feeding s.link s.filter (book_now s).entries t × IsShut t) (Since P s.link true (book_now s).cursor) closed (both_frames (Feeding s.link s.filter (book_now s).entries) IsShut (feeding s.link s.filter (book_now s).entries) shut_frame)
    (λ t j k e on. subst (λ (n : ℕ). Since P t.link true n e) (sym k.0.cursor) (subst (λ (l : Link). Since P l true (book_now s).cursor e) (sym k.0.link) on)) (λ t k. k.1)

mark_after : (P : State → Type 0) → Guarded P → (e : QueueEntry) (f : Arrow State Bool) (s : State) → (IsFair s.link → (e.item.0 ≡ 0 → ⊥) → NoEntry (book_now s).entries e.item) → (Marking P s s → Keeps (Marking P s) (f s)) → IsShut s → P s
    → Keeps P (seq (and_then f (try_mark e.item e.number)) whatever s)
mark_after P closed e f s alone k shut h =
    keeps_first P (λ t. Feeding s.link s.filter (book_now s).entries t × IsShut t) (seq (and_then f (try_mark e.item e.number)) whatever s)
    (keeps_bind (Marking P s) (and_then f (try_mark e.item e.number) s) whatever
    (and_then_keeps (Marking P s) f (try_mark e.item e.number) s (k (h, (record { link = refl; waiting = refl; handles = refl; entries = refl; cursor = refl }, shut)))
    (λ t j. try_mark_at (IsNamedBy (Since P s.link true (book_now s).cursor) (Since P s.link true (book_now s).cursor)) (Marking P s) (marking P closed s) e.item e.number t tt (λ fair i found. unmoved t j fair i found) j))
    (λ b t j. j)) where
      zero_not : (n m : ℕ) → 0 < n → n ≡ m → m ≡ 0 → ⊥
      zero_not n m a b c = omega (arith, a, b, c)

      unmoved : (t : State) → Marking P s t → IsFair t.link → (i : Item) → item_of (items_now t) e.item ≡ Some i → NoMove (book_now t).entries e.item
      unmoved t j fair i found =
          subst (λ (es : List QueueEntry). NoMove es e.item) (sym j.1.0.entries)
          (no_move (book_now s).entries e.item (alone (subst IsFair j.1.0.link fair)
          (λ z. zero_not i.id.0 e.item.0 (found_positive e.item 0 t.filter.volume.next_item.0 (items_now t) i ((closed.on_filter t j.0).sound t.filter j.0 fair).now.order found) (found_id e.item (items_now t) i found) z)))

-- a new item's path comes to be seen after another change than a Mark
see_and_mark_at : (P : State → Type 0) → Guarded P → (e : QueueEntry) (s : State) → (IsFair s.link → (e.item.0 ≡ 0 → ⊥) → NoEntry (book_now s).entries e.item) → KeepsPlaced (with_seen (entry_seen e)) s → (IsFair s.link → IsSeenBy (Since P s.link true (book_now s).cursor) (items_now s) (entry_seen e)) → IsShut s → P s → Keeps P (see_and_mark e s)
see_and_mark_at P closed e s alone placed told shut h =
    mark_after P closed e (only_if (is_new_entry e) (try_seen (entry_seen e))) s alone
    (λ q. only_if_at (Marking P s) (is_new_entry e) (try_seen (entry_seen e)) s q (λ _. try_seen_at (IsNamedBy (Since P s.link true (book_now s).cursor) (Since P s.link true (book_now s).cursor)) (Marking P s) (marking P closed s) (entry_seen e) s (λ fair. placed) told q)) shut h

-- once its entry is gone, none is about its item
alone_after : (s : State) (e : QueueEntry) → entry_of (book_now s) e.token ≡ Some e → IsSound s.link s.volatile.tokens s.filter → (e.item.0 ≡ 0 → ⊥) → NoEntry (without_entry e.token (book_now s)).entries e.item
alone_after s e live sound some = apart_rest (λ f. same_key f.token.0 e.token.0) e.item.0 (book_now s).entries e refl some live sound.now.apart

-- the identity that a Done gives names well
put_well : (s : State) (e : QueueEntry) (rid : Rid) (version : Version) (i : Item) → IsFair s.link → bytes_of s.link.remote rid version ≡ Some (put_bytes (base_bytes s.link.remote i) e.number i.writes) → i.directory ≡ false → i.placeholder ≡ true → IsOfKind s.link.remote rid false → (rid.0 ≡ 1 → ⊥)
    → NamesWell s.link.remote i.directory i.placeholder (identity_for i.directory rid version) × (base_named s.link.remote (identity_for i.directory rid version) ≡ put_bytes (base_bytes s.link.remote i) e.number i.writes)
put_well s e rid version i fair made file placed kind low =
    subst (λ (d : Bool). NamesWell s.link.remote d i.placeholder (identity_for d rid version) × (base_named s.link.remote (identity_for d rid version) ≡ put_bytes (base_bytes s.link.remote i) e.number i.writes)) (sym file) (
      subst (λ (p : Bool). NamesWell s.link.remote false p (identity_of rid rid version)) (sym placed) (file_well s.link.remote rid version (fair.1.1 rid version (put_bytes (base_bytes s.link.remote i) e.number i.writes) made).0 kind low (inr (put_bytes (base_bytes s.link.remote i) e.number i.writes, made_read s.link.remote rid rid version (put_bytes (base_bytes s.link.remote i) e.number i.writes) fair.1 made))),
      made_named s.link.remote rid rid version (put_bytes (base_bytes s.link.remote i) e.number i.writes) fair.1 made,
    )

abbrev pub DoneFits : State → QueueEntry → Rid → Version → Item → Type 0
DoneFits s e rid version i =
    NamesWell s.link.remote i.directory i.placeholder (identity_for i.directory rid version)
    × (i.directory ≡ false → ((list_all is_some i.held ≡ true) ⊎ (up_to e.number i.writes ≡ [])) × (base_named s.link.remote (identity_for i.directory rid version) ≡ put_bytes (base_bytes s.link.remote i) e.number i.writes))

done_one : (a : Action) (s : State) (e : QueueEntry) (rid : Rid) (version : Version) (i : Item) → (a ≡ PutFile) ⊎ (a ≡ MakeDir) → (rid.0 ≡ 1 → ⊥) → IsFair s.link → IsSound s.link s.volatile.tokens s.filter → DoneIn s e rid version → item_of (items_now s) e.item ≡ Some i
    → FitsBy a s.link.remote s.link.messages (items_now s) e → DidBy a s.link.remote.items e.rid rid → DoneFits s e rid version i
done_one PutFile s e rid version i is low fair sound done found fit did =
    let p : PutFits s.link.remote s.link.messages e i = each_at e.item (PutFits s.link.remote s.link.messages e) (items_now s) i found fit in
    let w = put_well s e rid version i fair (p.recorded rid version done.1) p.file p.placed did.0 low in
    (w.0, λ file. (p.here, w.1))
done_one MakeDir s e rid version i is low fair sound done found fit did =
    let dir : i.directory ≡ true = each_at e.item (λ i. i.directory ≡ true) (items_now s) i found fit in
    (subst (λ (d : Bool). NamesWell s.link.remote d i.placeholder (identity_for d rid version)) (sym dir) (dir_well s.link.remote rid i.placeholder (small_rid s.link.remote rid true sound.counted fair.1 did) did low), λ file. no_way (sym file ∙ dir))
done_one MoveItem s e rid version i is low fair sound done found fit did = elim is as (λ _. DoneFits s e rid version i) [ inl z ↦ cc | inr z ↦ cc ]
done_one RemoveItem s e rid version i is low fair sound done found fit did = elim is as (λ _. DoneFits s e rid version i) [ inl z ↦ cc | inr z ↦ cc ]

-- What a Done gives aims at nothing that was made for another upload, and at no other item's target; the item is new, or keeps its target.
abbrev pub DoneAims : State → QueueEntry → Rid → Version → Item → Type 0
DoneAims s e rid version i =
    AimsFree s.link.remote (without_entry e.token (book_now s)).entries (identity_for i.directory rid version) × AimsAlone (without_entry e.token (book_now s)).entries (items_now s) i.id (identity_for i.directory rid version)
    × ((is_new_entry e ≡ true) ⊎ Each i.id (λ j. (target_of j).0 ≡ (target_in (identity_for i.directory rid version)).0) (items_now s))

pub rebase_at : (P : State → Type 0) → Guarded P → (e : QueueEntry) (rid : Rid) (version : Version) (i : Item) (s : State) → (IsFair s.link → DoneFits s e rid version i × DoneIn s e rid version × (item_of (items_now s) e.item ≡ Some i))
    → (IsFair s.link → DoneAims s e rid version i) → ((d : Entry) → d.rid ≡ rid → Heard true s d) → (IsFair s.link → (target_in (identity_for i.directory rid version)).0 ≡ rid.0) → P s
    → Keeps P (rebase e (rebase_of e rid version i) s)
rebase_at P closed e rid version i s fits free heard aims h = by (why_no_rebase e (rebase_of e rid version i) s) where
  fit : IsFair s.link → Fits s.link.remote (with_volatile (taken_from_row e) (with_book (without_entry e.token) (with_done s))).filter (rebase_of e rid version i)
  fit fair =
      let sound : IsSound s.link s.volatile.tokens s.filter = (closed.on_filter s h).sound s.filter h fair in
      let found : item_of (items_now s) e.item ≡ Some i = (fits fair).2 in
      let same : i.id.0 ≡ e.item.0 = found_id e.item (items_now s) i found in
      let again : item_of (items_now s) i.id ≡ Some i = subst (λ (x : ItemId). item_of (items_now s) x ≡ Some i) (sym (same_item i.id e.item same)) found in (
        (
          each_found i.id (λ j. NamesWell s.link.remote j.directory j.placeholder (identity_for i.directory rid version)) 0 s.filter.volume.next_item.0 (items_now s) i sound.now.order again (fits fair).0.0,
          inr (
            apart_rest (λ f. same_key f.token.0 e.token.0) i.id.0 (book_now s).entries e (sym same) (λ z. absurd (zero_not i.id.0 (found_positive e.item 0 s.filter.volume.next_item.0 (items_now s) i sound.now.order found) z)) (fits fair).1.0 sound.now.apart,
            each_found i.id (λ j. j.directory ≡ false → ((list_all is_some j.held ≡ true) ⊎ (up_to e.number j.writes ≡ [])) × (base_named s.link.remote (identity_for i.directory rid version) ≡ put_bytes (base_bytes s.link.remote j) e.number j.writes))
                0 s.filter.volume.next_item.0 (items_now s) i sound.now.order again (fits fair).0.1,
          ),
        ),
        ((free fair).0, (free fair).1),
      ) where
        zero_not : (n : ℕ) → 0 < n → n ≡ 0 → ⊥
        zero_not n h e = omega (arith, h, e)

  taken : State
  taken = with_volatile (taken_from_row e) (with_book (without_entry e.token) (with_done s))

  -- the item has no target yet, or keeps it
  loses : IsFair s.link → LosesBy (Known P taken) (book_now taken).cursor (items_now s) (rebase_of e rid version i)
  loses fair = one (free fair).2 where
    one : (is_new_entry e ≡ true) ⊎ Each i.id (λ j. (target_of j).0 ≡ (target_in (identity_for i.directory rid version)).0) (items_now s) → LosesBy (Known P taken) (book_now taken).cursor (items_now s) (rebase_of e rid version i)
    one (inl new) = inr (row_open e (round_closed s.volatile), inr (s, h, e, (fits fair).1.0, new, refl, refl, i.id, found_id e.item (items_now s) i (fits fair).2, identity_for i.directory rid version, size_of i, e.number, refl))
    one (inr same) = inl (each_weaker i.id (λ j. (target_of j).0 ≡ (target_in (identity_for i.directory rid version)).0) (λ j. ((target_of j).0 ≡ (target_in (identity_for i.directory rid version)).0) ⊎ LosesTold Nothing j) (λ j z. inl z) (items_now s) same)

  -- what the Done tells
  entry : Entry
  entry = record { rid = rid; parent = e.parent; name = e.name; dir = i.directory; live = true; version = version; len = 0; changed = 0 }

  rebased_aim : (b : Bool) (k : Item) → (k.id.0 == 1) ≡ b → (k.id.0 ≡ 1 → ⊥) → (cond b root_rid (target_in (identity_for i.directory rid version))).0 ≡ (target_in (identity_for i.directory rid version)).0
  rebased_aim true k q below = absurd (below (eqb-true k.id.0 1 q))
  rebased_aim false k q below = refl

  seen_told : (t : State) → Led (rebase_of e rid version i) (with_volatile (taken_from_row e) (with_book (without_entry e.token) (with_done s))) t → IsFair t.link → IsSeenBy (Since P t.link true (book_now t).cursor) (items_now t) (entry_seen e)
  seen_told t led fair =
      let fair_s : IsFair s.link = subst IsFair led.link fair in (
        entry,
        (s, h, heard entry refl, led.link, led.after.cursor (λ b. refl)),
        subst (Each e.item (λ k. (k.id.0 ≡ 1 → ⊥) → (target_of k).0 ≡ rid.0)) (sym led.after.items)
            (subst (λ (x : ItemId). Each x (λ k. (k.id.0 ≡ 1 → ⊥) → (target_of k).0 ≡ rid.0) (effect (items_now s) (rebase_of e rid version i) (next_number s.filter.volume))) (same_item i.id e.item (found_id e.item (items_now s) i (fits fair_s).2))
            (each_made i.id (rebased (identity_for i.directory rid version) (size_of i) e.number) (λ k. Unit {0}) (λ k. (k.id.0 ≡ 1 → ⊥) → (target_of k).0 ≡ rid.0) (λ k _ below. rebased_aim (k.id.0 == 1) k refl below ∙ aims fair_s) (items_now s) (each_any i.id (λ k. Unit {0}) (λ k. tt) (items_now s)))),
        refl,
        refl,
      )

  by : (o : Option Code) → Keeps P (rebase_unless e (rebase_of e rid version i) o s)
  by (Some c) = (skips_keep.skip_keeps P closed c).keeps s h
  by None =
      let one : P (with_done s) = closed.keeps_with_done s h in
      let two : P (with_volatile (taken_from_row e) (with_book (without_entry e.token) (with_done s))) = closed.keeps_volatile_taken_from_row e (with_book (without_entry e.token) (with_done s)) (closed.leaves e.token (with_done s) one) in (
        one,
        keeps_led P (λ u t. Led (rebase_of e rid version i) (with_volatile (taken_from_row e) (with_book (without_entry e.token) (with_done s))) t) (do_change (rebase_of e rid version i) (with_volatile (taken_from_row e) (with_book (without_entry e.token) (with_done s)))) (λ _ t. see_and_mark e t)
            (change_by P closed (rebase_of e rid version i) (with_volatile (taken_from_row e) (with_book (without_entry e.token) (with_done s))) (inr (entry, (s, h, heard entry refl, refl, refl), refl)) (λ id k. k) (λ fair. (fit fair, loses fair)) two)
            (do_led (rebase_of e rid version i) (with_volatile (taken_from_row e) (with_book (without_entry e.token) (with_done s))))
            (λ u t j led. see_and_mark_at P closed e t
            (λ fair some. let fair_s : IsFair s.link = subst IsFair led.link fair in
            subst (λ (es : List QueueEntry). NoEntry es e.item) (sym (led.after.entries (λ b. refl))) (alone_after s e (fits fair_s).1.0 ((closed.on_filter s h).sound s.filter h fair_s) some))
            (λ item m. absurd (led_unnamed (rebase_of e rid version i) (with_volatile (taken_from_row e) (with_book (without_entry e.token) (with_done s))) t (λ z. z) led item m)) (seen_told t led) (ap (λ (v : Volatile). v.round_open) led.volatile ∙ row_open e (round_closed s.volatile)) j),
      )

did_small : (a : Action) (r : Held) (asked rid : Rid) → (a ≡ PutFile) ⊎ (a ≡ MakeDir) → IsCounted r → IsSmall r → DidBy a r.items asked rid → rid.0 < 18446744073709551616
did_small PutFile r asked rid is counted small did = small_rid r rid false counted small did.0
did_small MakeDir r asked rid is counted small did = small_rid r rid true counted small did
did_small MoveItem r asked rid is counted small did = elim is as (λ _. rid.0 < 18446744073709551616) [ inl z ↦ cc | inr z ↦ cc ]
did_small RemoveItem r asked rid is counted small did = elim is as (λ _. rid.0 < 18446744073709551616) [ inl z ↦ cc | inr z ↦ cc ]

-- what a Done gives aims at nothing that was made for another upload, and at no target of another item
done_aims : (s : State) (e : QueueEntry) (rid : Rid) (version : Version) (i : Item) → (e.action ≡ PutFile) ⊎ (e.action ≡ MakeDir) → IsFair s.link → IsSound s.link s.volatile.tokens s.filter → DoneIn s e rid version → item_of (items_now s) e.item ≡ Some i → DoneAims s e rid version i
done_aims s e rid version i is fair sound done found = (inr (subst (λ (x : Rid). IsUnmade s.link.remote (without_entry e.token (book_now s)).entries x) (sym (read i.directory)) free), (by (is_new_entry e) refl).0, (by (is_new_entry e) refl).1) where
  did : DidBy e.action s.link.remote.items e.rid rid
  did = (all_found (IsAskedFor s.link.remote s.link.messages) (λ q. same_key q.token.0 e.token.0) (book_now s).entries e done.0 sound.now.asked).0.did rid version done.1

  free : IsUnmade s.link.remote (without_entry e.token (book_now s)).entries rid
  free = done_unmade s.link.remote e.token (book_now s).entries e (items_now s) rid version done.0 done.1 is did sound.now.made

  small : rid.0 < 18446744073709551616
  small = did_small e.action s.link.remote e.rid rid is sound.counted fair.1 did

  read : (d : Bool) → ◌≡◌ {A = Rid} (target_in (identity_for d rid version)) rid
  read true = target_read rid no_rid no_version small
  read false = target_read rid rid version small

  same : ◌≡◌ {A = ItemId} i.id e.item
  same = same_item i.id e.item (found_id e.item (items_now s) i found)

  zero_not : (n : ℕ) → 0 < n → n ≡ 0 → ⊥
  zero_not n h e = omega (arith, h, e)

  old : (a : Action) → e.action ≡ a → (a ≡ PutFile) ⊎ (a ≡ MakeDir) → is_new_entry e ≡ false → e.action ≡ PutFile
  old PutFile q k new = q
  old MakeDir q k new = no_way (sym new ∙ ap (λ (a : Action). is_new_by a e.rid) q)
  old MoveItem q k new = elim k as (λ _. e.action ≡ PutFile) [ inl z ↦ cc | inr z ↦ cc ]
  old RemoveItem q k new = elim k as (λ _. e.action ≡ PutFile) [ inl z ↦ cc | inr z ↦ cc ]

  other : (a : Action) → a ≡ PutFile → a ≡ MakeDir → ⊥
  other a p q = let z : ◌≡◌ {A = Action} PutFile MakeDir = sym p ∙ q in cc

  named : e.action ≡ PutFile → Each i.id (λ j. (target_of j).0 ≡ e.rid.0) (items_now s)
  named put = subst (λ (x : ItemId). Each x (λ j. (target_of j).0 ≡ e.rid.0) (items_now s)) (sym same)
      ((all_found (NamesTarget (items_now s)) (λ q. same_key q.token.0 e.token.0) (book_now s).entries e done.0 sound.now.targets).0 (other e.action put))

  Stays : Type 0
  Stays = Each i.id (λ j. (target_of j).0 ≡ (target_in (identity_for i.directory rid version)).0) (items_now s)

  by : (b : Bool) → is_new_entry e ≡ b → AimsAlone (without_entry e.token (book_now s)).entries (items_now s) i.id (identity_for i.directory rid version) × ((is_new_entry e ≡ true) ⊎ Stays)
  by true new = (
    inr (
      apart_rest (λ f. same_key f.token.0 e.token.0) i.id.0 (book_now s).entries e (ap (λ (x : ItemId). x.0) (sym same)) (λ z. absurd (zero_not i.id.0 (found_positive e.item 0 s.filter.volume.next_item.0 (items_now s) i sound.now.order found) z)) done.0 sound.now.apart,
      subst (λ (x : Rid). IsUnaimed (items_now s) x) (sym (read i.directory)) (unaimed_made s.link.remote (items_now s) (λ f. same_key f.token.0 e.token.0) (book_now s).entries e rid done.0 (new, (version, done.1)) sound.now.made),
    ),
    inl new,
  )
  by false new =
      let put : e.action ≡ PutFile = old e.action refl is new in
      let stays : Stays = each_weaker i.id (λ j. (target_of j).0 ≡ e.rid.0) (λ j. (target_of j).0 ≡ (target_in (identity_for i.directory rid version)).0)
      (λ j z. z ∙ ap (λ (x : Rid). x.0) (sym (done_named s.link.remote e rid put new did)) ∙ ap (λ (x : Rid). x.0) (sym (read i.directory))) (items_now s) (named put) in (inl stays, inr stays)

done_target : (s : State) (e : QueueEntry) (rid : Rid) (version : Version) (d : Bool) → (e.action ≡ PutFile) ⊎ (e.action ≡ MakeDir) → IsFair s.link → IsSound s.link s.volatile.tokens s.filter → DoneIn s e rid version → (target_in (identity_for d rid version)).0 ≡ rid.0
done_target s e rid version d is fair sound done = read d where
  small : rid.0 < 18446744073709551616
  small = did_small e.action s.link.remote e.rid rid is sound.counted fair.1 ((all_found (IsAskedFor s.link.remote s.link.messages) (λ q. same_key q.token.0 e.token.0) (book_now s).entries e done.0 sound.now.asked).0.did rid version done.1)

  read : (d : Bool) → (target_in (identity_for d rid version)).0 ≡ rid.0
  read true = ap (λ (r : Rid). r.0) (target_read rid no_rid no_version small)
  read false = ap (λ (r : Rid). r.0) (target_read rid rid version small)

upload_done_at : (P : State → Type 0) → Guarded P → (e : QueueEntry) (rid : Rid) (version : Version) (s : State) → (e.action ≡ PutFile) ⊎ (e.action ≡ MakeDir) → ((d : Entry) → d.rid ≡ rid → Heard true s d) → (IsFair s.link → DoneIn s e rid version) → P s → Keeps P (done_upload e rid version s)
upload_done_at P closed e rid version s is heard done h = by (item_of (items_now s) e.item) refl where
  by : (o : Option Item) → item_of (items_now s) e.item ≡ o → Keeps P (done_upload_on e rid version o s)
  by None f = bury_new_at P closed e s h rid version f done
  by (Some i) f =
      rebase_at P closed e rid version i s
      (λ fair. let sound : IsSound s.link s.volatile.tokens s.filter = (closed.on_filter s h).sound s.filter h fair in
      (done_one e.action s e rid version i is ((done fair).2 is) fair sound (done fair) f (all_found (EntryFits s.link.remote s.link.messages (items_now s)) (λ q. same_key q.token.0 e.token.0) (book_now s).entries e (done fair).0 sound.now.fit).0 ((all_found (IsAskedFor s.link.remote s.link.messages) (λ q. same_key q.token.0 e.token.0) (book_now s).entries e (done fair).0 sound.now.asked).0.did rid version (done fair).1), done fair, f))
      (λ fair. let sound : IsSound s.link s.volatile.tokens s.filter = (closed.on_filter s h).sound s.filter h fair in
      done_aims s e rid version i is fair sound (done fair) f) heard
      (λ fair. done_target s e rid version i.directory is fair ((closed.on_filter s h).sound s.filter h fair) (done fair)) h

-- the path of a Move that was done comes to be seen
done_move_at : (P : State → Type 0) → Guarded P → (e : QueueEntry) (s : State) → e.action ≡ MoveItem → (IsFair s.link → entry_of (book_now s) e.token ≡ Some e) → (IsFair s.link → IsMovedBy P e s) → P s → Keeps P (done_move e s)
done_move_at P closed e s is live told h = (one, mark_after P closed e (try_seen (entry_seen e)) taken (λ fair some. alone_after s e (live fair) ((closed.on_filter s h).sound s.filter h fair) some) (λ q. sees (is_there e.item taken) q) (row_open e (round_closed s.volatile)) two) where
  taken : State
  taken = with_volatile (taken_from_row e) (with_book (without_entry e.token) (with_done s))

  one : P (with_done s)
  one = closed.keeps_with_done s h

  two : P taken
  two = closed.keeps_volatile_taken_from_row e (with_book (without_entry e.token) (with_done s)) (closed.leaves e.token (with_done s) one)

  sees : (b : Bool) → Marking P taken taken → Keeps (Marking P taken) (only_if b (try_book (with_seen (entry_seen e))) taken)
  sees b q =
      only_if_at (Marking P taken) b (try_book (with_seen (entry_seen e))) taken q
      (λ _. tried_at (IsNamedBy (Since P taken.link true (book_now taken).cursor) (Since P taken.link true (book_now taken).cursor)) (Marking P taken) (marking P closed taken) (why_no_record (with_seen (entry_seen e))) (in_book (with_seen (entry_seen e))) taken q
      (q, (closed.moved e (with_done s) is live told one, (record { link = refl; waiting = refl; handles = refl; entries = refl; cursor = refl }, row_open e (round_closed s.volatile)))))

pub take_void_keeps : (P : State → Type 0) → Guarded P → (x1 : QueueEntry) → Preserves P (take_void x1)
take_void_keeps P closed e = end_and_close_keeps P closed e

move_away_at : (P : State → Type 0) → Guarded P → (e : QueueEntry) (s : State) → P s → Keeps P (reading (item_of_entry e) move_away s)
move_away_at P closed e s h = by (item_of (items_now s) e.item) refl where
  by : (o : Option Item) → item_of (items_now s) e.item ≡ o → Keeps P (move_away o s)
  by None q = h
  by (Some i) q =
      keeps_bind P (to_conflict i s) whatever
      (skips_keep.to_conflict_at P closed i s (λ fair. subst (λ (x : ItemId). item_of (items_now s) x ≡ Some i) (sym (same_item i.id e.item (found_id e.item (items_now s) i q))) q) h) (λ a t j. j)

pub name_taken_again_keeps : (P : State → Type 0) → Guarded P → (x1 : QueueEntry) → Preserves P (name_taken_again x1)
name_taken_again_keeps P closed e = keeps_then P (in_volatile (not_in_row e)) (reading (item_of_entry e) move_away) (keeps_noted P (with_volatile (not_in_row e)) (closed.keeps_volatile_not_in_row e)) (record { keeps = move_away_at P closed e })

pub name_taken_by_keeps : (P : State → Type 0) → Guarded P → (x1 : QueueEntry) → (x2 : Bool) → Preserves P (name_taken_by x1 x2)
name_taken_by_keeps P closed e true = name_taken_again_keeps P closed e
name_taken_by_keeps P closed e false = keeps_noted P (with_volatile (with_taken_name e.item)) (closed.keeps_volatile_with_taken_name e.item)

not_empty_by_at : (P : State → Type 0) → Guarded P → (e : QueueEntry) (b : Bool) (s : State) → IsShut s → P s → Keeps P (not_empty_by e b s)
not_empty_by_at P closed e true s shut h = lost_place_at P closed e s shut h
not_empty_by_at P closed e false s shut h = closed.keeps_volatile_with_not_empty e.number s h

pub nothing_further_keeps : (P : State → Type 0) → Guarded P → (x1 : QueueEntry) → Preserves P (nothing_further x1)
nothing_further_keeps P closed e = keeps_noted P (with_volatile (not_in_row e)) (closed.keeps_volatile_not_in_row e)

pub name_taken_keeps : (P : State → Type 0) → Guarded P → (x1 : Bool) → (x2 : QueueEntry) → Preserves P (name_taken x1 x2)
name_taken_keeps P closed true e = nothing_further_keeps P closed e
name_taken_keeps P closed false e = keeps_reading P (was_name_taken e.item) (name_taken_by e) (name_taken_by_keeps P closed e)

not_empty_at : (P : State → Type 0) → Guarded P → (removal : Bool) (e : QueueEntry) (s : State) → IsShut s → P s → Keeps P (not_empty removal e s)
not_empty_at P closed true e s shut h = not_empty_by_at P closed e (was_not_empty e.number s) s shut h
not_empty_at P closed false e s shut h = (nothing_further_keeps P closed e).keeps s h

by_why_at : (P : State → Type 0) → Guarded P → (w : Why) (e : QueueEntry) (s : State) → IsShut s → P s → Keeps P (by_why w e s)
by_why_at P closed why.Conflict e s shut h = lost_place_at P closed e s shut h
by_why_at P closed why.NotThere e s shut h = lost_place_at P closed e s shut h
by_why_at P closed why.NameTaken e s shut h = (name_taken_keeps P closed (is_removal e) e).keeps s h
by_why_at P closed why.NotEmpty e s shut h = not_empty_at P closed (is_removal e) e s shut h
by_why_at P closed why.Quota e s shut h = (keeps_then P (nothing_further e) (skip code.Quota) (nothing_further_keeps P closed e) (skips_keep.skip_keeps P closed code.Quota)).keeps s h
by_why_at P closed why.Loop e s shut h = (nothing_further_keeps P closed e).keeps s h
by_why_at P closed why.BadName e s shut h = (nothing_further_keeps P closed e).keeps s h
by_why_at P closed why.TooDeep e s shut h = (nothing_further_keeps P closed e).keeps s h
by_why_at P closed why.TooLarge e s shut h = (nothing_further_keeps P closed e).keeps s h

pub take_refused_keeps : (P : State → Type 0) → Guarded P → (x1 : QueueEntry) → (x2 : Why) → Preserves P (take_refused x1 x2)
take_refused_keeps P closed e w = record {
  keeps = λ s h. (h, by_why_at P closed w e (with_volatile (held_and_closed e) (with_book (without_entry e.token) s)) (back_open e (round_closed s.volatile)) (closed.keeps_volatile_held_and_closed e (with_book (without_entry e.token) s) (closed.leaves e.token s h)));
}

pub take_done_at : (P : State → Type 0) → Guarded P → (e : QueueEntry) (rid : Rid) (version : Version) (s : State) → ((d : Entry) → d.rid ≡ rid → Heard true s d) → (IsFair s.link → DoneIn s e rid version) → P s → Keeps P (take_done e rid version s)
take_done_at P closed e rid version s heard done h = by e.action refl where
  moved : e.action ≡ MoveItem → IsFair s.link → IsMovedBy P e s
  moved q fair =
      let entry : Entry = record { rid = rid; parent = e.parent; name = e.name; dir = true; live = true; version = version; len = 0; changed = 0 } in
      let sound : IsSound s.link s.volatile.tokens s.filter = (closed.on_filter s h).sound s.filter h fair in
      let did : DidBy e.action s.link.remote.items e.rid rid = (all_found (IsAskedFor s.link.remote s.link.messages) (λ f. same_key f.token.0 e.token.0) (book_now s).entries e (done fair).0 sound.now.asked).0.did rid version (done fair).1 in
      (entry, (s, h, heard entry refl, refl, refl), (subst (λ (a : Action). DidBy a s.link.remote.items e.rid rid) q did).0)

  by : (a : Action) → e.action ≡ a → Keeps P (done_by a e rid version s)
  by PutFile q = upload_done_at P closed e rid version s (inl q) heard done h
  by MakeDir q = upload_done_at P closed e rid version s (inr q) heard done h
  by MoveItem q = done_move_at P closed e s q (λ fair. (done fair).0) (λ fair. moved q fair) h
  by RemoveItem q = done_removal_at P closed e rid version s q done h
