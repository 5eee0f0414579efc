-- Numbers are of one item each, over the steps of the machine.
use Rattle.cf_model.specs.Words.{is_empty}
use Rattle.cf_model.specs.Overlay.{Written}
use Rattle.std.proofs.Common.{◌≡◌, ◌⊎◌, ◌<◌, ◌+◌, ℕ, Bool, true, false, List, [], ◌∷◌, refl, sym, ◌∙◌, ap, subst, inl, inr, arith, eq-eqb}
use Rattle.std.specs.Prelude.{Option, Some, None, cond, not, ◌==◌}
use Rattle.std.proofs.lemmas.Bool.{eqb-true}
use Rattle.cf_base.specs.declared.changes.Change.{Change}
use Rattle.cf_base.specs.declared.ids.Rid.{Rid}
use Rattle.cf_base.specs.declared.ids.Usn.{Usn}
use Rattle.cf_base.specs.declared.ids.Version.{Version}
use Rattle.cf_model.specs.Books.{Action, Book, MakeDir, MoveItem, PutFile, QueueEntry, RemoveItem, book_after, with_entry, with_tombstone, without_entry}
use Rattle.cf_model.specs.Calls.{tombstone_for}
use Rattle.cf_model.specs.Changes.{next_number}
use Rattle.cf_model.specs.Effects.{effect}
use Rattle.cf_model.specs.Identities.{base_version, target_of}
use Rattle.cf_model.specs.Items.{Item, is_dirty, item_of}
use Rattle.cf_model.specs.Numbers.{above, no_version, same_key, usn_after, root_rid}
use Rattle.cf_model.specs.PushReplies.{is_new_by, is_new_entry, tombstone_left, version_made}
use Rattle.cf_model.specs.State.{Filter, Link, State, Volume, book_now, items_now}
use Rattle.cf_model.specs.Store.{Held, RecordedDone, recorded_at}
use Rattle.cf_model_laws.specs.Fitting.{Fits}
use Rattle.cf_model_laws.specs.Invariant.{All, Among, DidBy, IsAimed, IsAskedFor, IsEntryOf, IsSound, target_in, InOrder}
use Rattle.cf_model_laws.specs.Premises.{IsFair}
use Rattle.cf_model_laws.proofs.Gathered.{all_found, all_in, all_weaker}
use Rattle.cf_model_laws.proofs.Guarded.{EnteredIn, EntersThere, IsDoneAt, IsTakenBy}
use Rattle.cf_model_laws.proofs.RightItems.{no_way}
use Rattle.cf_model_laws.proofs.SoundChanges.{KeepsEntries, next_above, same_entries}
use Rattle.cf_model_laws.proofs.SoundSettles.{each_found}
use Rattle.cf_model_convergence.specs.Lasting.{AtPoint, LastsIn}
use Rattle.cf_model_convergence.proofs.FeedsTold.{all_among}
use Rattle.cf_model_arrivals.specs.Buried.{IsOfKindBuried}
use Rattle.cf_model_arrivals.specs.Numbered.{AreFresh, AreNumbered, Claims}
use Rattle.cf_model_arrivals.proofs.KeptItems.{each_among}
use Rattle.cf_model_arrivals.proofs.NumberItems.{among_of_filter, comes, fresh_effect, id_of}
use Rattle.cf_model_arrivals.proofs.NumbersKept.{apart_one, numbered_book, numbered_buried, numbered_entered, numbered_items, numbered_later, part_same, passed, of_item, of_remote}
use Rattle.cf_model_arrivals.proofs.TurnKept.{find_some}

some_none : {A : Type 0} (x : A) → ◌≡◌ {A = Option A} (Some x) None → ⊥
some_none x e = cc

-- the moment and each point, later
pub lasting_later : (next later : Usn) (r : Held) (v : Volume) → above later next ≡ true → LastsIn (AreNumbered next) r v → LastsIn (AreNumbered later) r v
lasting_later next later r v up h = (
  numbered_later next later r v.items v.book up h.0,
  all_weaker (AtPoint (AreNumbered next) r v.log) (AtPoint (AreNumbered later) r v.log) (λ p z. (z.0, numbered_later next later r _ p.book up z.1)) v.points h.1,
)

-- a change

pub after_change : (l : Link) (tokens : ℕ) (f : Book → Book) (c : Change) (x : Filter) → KeepsEntries f → (f (book_after c x.volume.book)).tombstones ≡ x.volume.book.tombstones → Fits l.remote x c → IsSound l tokens x → AreNumbered (next_number x.volume) l.remote x.volume.items x.volume.book
    → AreNumbered (usn_after x.volume.epoch (x.volume.place + 1)) l.remote (effect x.volume.items c (next_number x.volume)) (f (book_after c x.volume.book))
after_change l tokens f c x keeps same fit sound h =
    numbered_items N (usn_after x.volume.epoch (x.volume.place + 1)) l.remote x.volume.items (effect x.volume.items c N) D (next_above x.volume.epoch x.volume.place) (id_of c) (comes x.volume.items c N) fresh
    (numbered_book N l.remote x.volume.items B D (part_same D.tombstones B.tombstones same) (part_same D.entries B.entries entries) h) where
      N : Usn
      N = next_number x.volume

      B : Book
      B = x.volume.book

      D : Book
      D = f (book_after c x.volume.book)

      entries : D.entries ≡ B.entries
      entries = keeps (book_after c B) ∙ same_entries c B

      fresh : (e : QueueEntry) → Among e D.entries → is_new_entry e ≡ true → AreFresh x.volume.items e.item.0 → AreFresh (effect x.volume.items c N) e.item.0
      fresh e m new k =
          let among : Among e B.entries = part_same D.entries B.entries entries e m in
          fresh_effect l.remote x c N e.item.0 ((all_among (IsEntryOf N x.volume.next_item.0 x.volume.epoch tokens) B.entries e among sound.now.given).item)
          (λ item none same. all_among (λ d. d.item.0 ≡ item.0 → ⊥) B.entries e among none (sym same)) fit k

-- a removal that leaves a tombstone

bare_version : (d : Bool) (v : Version) → d ≡ true → (cond d no_version v).0 ≡ 0
bare_version true v e = refl
bare_version false v e = no_way e

pub kind_for : (r : Held) (n : Usn) (i : Item) → (i.id.0 ≡ 1 → ⊥) → IsAimed r i.directory i.identity → IsOfKindBuried r (tombstone_for i n)
kind_for r n i below h = subst (λ (b : Bool). IsOfKindBuried r (record { number = n; rid = cond b root_rid (target_in i.identity); version = cond i.directory no_version (base_version i) })) (sym (not_top (i.id.0 == 1) refl)) (low h) where
  not_top : (b : Bool) → (i.id.0 == 1) ≡ b → (i.id.0 == 1) ≡ false
  not_top true q = absurd (below (eqb-true i.id.0 1 q))
  not_top false q = q

  low : IsAimed r i.directory i.identity → IsOfKindBuried r (record { number = n; rid = target_in i.identity; version = cond i.directory no_version (base_version i) })
  low (inl z) = inl z
  low (inr k) = inr (k.0.0, k.0.1, λ d. bare_version i.directory (base_version i) (sym k.0.2 ∙ d))

-- what an upload of a new item leaves is of its kind
kind_left : (r : Held) (e : QueueEntry) (rid : Rid) (version : Version) (a : Action) → e.action ≡ a → is_new_by a e.rid ≡ true → DidBy a r.items e.rid rid → IsOfKindBuried r (record { number = e.number; rid = rid; version = version_made a version })
kind_left r e rid version PutFile is new did = inr (did.0.0, did.0.1, λ d. no_way (sym did.0.2 ∙ d))
kind_left r e rid version MakeDir is new did = inr (did.0, did.1, λ d. refl)
kind_left r e rid version MoveItem is new did = no_way new
kind_left r e rid version RemoveItem is new did = no_way new

-- ids are above 0
all_positive : (items : List Item) (low next : ℕ) → InOrder low next items → (i : Item) → Among i items → low < i.id.0
all_positive [] low next h i m = absurd m
all_positive (j ∷ js) low next h i (inl e) = subst (λ (y : Item). low < y.id.0) e h.0
all_positive (j ∷ js) low next h i (inr m) = less low j.id.0 i.id.0 h.0 (all_positive js j.id.0 next h.1 i m) where
  less : (a b c : ℕ) → a < b → b < c → a < c
  less a b c x y = omega (arith, x, y)

positive : (n : ℕ) → 0 < n → n ≡ 0 → ⊥
positive n k z = omega (arith, k, z)

module _ (s : State) where
  abbrev N : Usn
  N = next_number s.filter.volume

  abbrev R : Held
  R = s.link.remote

  pub entered : (e : QueueEntry) → IsSound s.link s.volatile.tokens s.filter → All (λ i. i.directory ≡ true → (i.held ≡ []) × (i.writes ≡ [])) (items_now s) → EnteredIn s e → EntersThere s e → AreNumbered N R (items_now s) (book_now s) → AreNumbered N R (items_now s) (with_entry e (book_now s))
  entered e sound bare well there h = numbered_entered N R (items_now s) (book_now s) e gone new free h where
    gone : e.action ≡ RemoveItem → Claims (items_now s) (book_now s) e.number (true, e.rid.0)
    gone a = let z = there.0 a in inl (z.0, z.1, z.2, ap (λ (n : ℕ). of_remote n) (sym z.3))

    found : is_new_entry e ≡ true → (i : Item) × Among i (items_now s) × (i.id.0 ≡ e.item.0) × (i.number ≡ e.number) × (((target_of i).0 ≡ 0) ⊎ ((i.directory ≡ true) × (is_dirty i ≡ true)))
    found q =
        let z = there.1 q in
        let m = all_found (λ j. Among j (items_now s)) (λ j. j.id.0 == e.item.0) (items_now s) z.0 z.1 (all_in (items_now s)) in
        (z.0, m.0, eqb-true z.0.id.0 e.item.0 m.1, z.2, z.3)

    new : is_new_entry e ≡ true → Claims (items_now s) (book_now s) e.number (false, e.item.0)
    new q = let z = found q in inr (inr (inr (z.0, z.1, z.3, ap (λ (n : ℕ). of_item n) (sym z.2))))

    clean : (i : Item) → i.writes ≡ [] → is_dirty i ≡ true → ⊥
    clean i none dirty = no_way (sym (ap (λ (ws : List Written). not (is_empty ws)) none) ∙ dirty)

    some : (i : Item) → Among i (items_now s) → i.id.0 ≡ e.item.0 → e.item.0 ≡ 0 → ⊥
    some i m same zero = positive i.id.0 (all_positive (items_now s) 0 s.filter.volume.next_item.0 sound.now.order i m) (same ∙ zero)

    no_target : (i : Item) → Among i (items_now s) → ((target_of i).0 ≡ 0) ⊎ ((i.directory ≡ true) × (is_dirty i ≡ true)) → (target_of i).0 ≡ 0
    no_target i m (inl z) = z
    no_target i m (inr z) = absurd (clean i (all_among (λ j. j.directory ≡ true → (j.held ≡ []) × (j.writes ≡ [])) (items_now s) i m bare z.0).1 z.1)

    free : is_new_entry e ≡ true → (e.item.0 ≡ 0 → ⊥) × AreFresh (items_now s) e.item.0
    free q = let z = found q in (some z.0 z.1 z.2, λ j m same. each_among e.item (λ y. (target_of y).0 ≡ 0) (items_now s) j (each_found e.item (λ y. (target_of y).0 ≡ 0) 0 s.filter.volume.next_item.0 (items_now s) z.0 sound.now.order (there.1 q).1 (no_target z.0 z.1 z.4)) m (eq-eqb j.id.0 e.item.0 same))

  -- an upload that was taken had a number of its own

  module _ (fair : IsFair s.link) (In : State → Type 0) (numbers : (t : State) → In t → IsFair t.link → IsSound t.link t.volatile.tokens t.filter × AreNumbered (next_number t.filter.volume) t.link.remote (items_now t) (book_now t)) (e : QueueEntry) (taken : IsTakenBy In e s) (new : is_new_entry e ≡ true) where
    abbrev T : State
    T = taken.0

    fair_t : IsFair T.link
    fair_t = subst IsFair taken.3 fair

    sound_t : IsSound T.link T.volatile.tokens T.filter
    sound_t = (numbers T taken.1 fair_t).0

    numbered : AreNumbered (next_number T.filter.volume) T.link.remote (items_now T) (book_now T)
    numbered = (numbers T taken.1 fair_t).1

    there : Among e (book_now T).entries
    there = (all_found (λ d. Among d (book_now T).entries) (λ d. same_key d.token.0 e.token.0) (book_now T).entries e taken.2 (all_in (book_now T).entries)).0

    own : same_key e.token.0 e.token.0 ≡ true
    own = (all_found (λ d. Among d (book_now T).entries) (λ d. same_key d.token.0 e.token.0) (book_now T).entries e taken.2 (all_in (book_now T).entries)).1

    claim : Claims (items_now T) (book_now T) e.number (false, e.item.0)
    claim = inr (inr (inl (e, there, new, refl, refl)))

    remote_here : (rid : ℕ) → Claims (items_now T) (book_now T) e.number (true, rid) → ⊥
    remote_here rid x = no_way (sym (ap (λ (o : Bool × ℕ). o.0) (numbered.one e.number (true, rid) (false, e.item.0) x claim)))

    item_here : (id : ℕ) → Claims (items_now T) (book_now T) e.number (false, id) → id ≡ e.item.0
    item_here id x = ap (λ (o : Bool × ℕ). o.1) (numbered.one e.number (false, id) (false, e.item.0) x claim)

    unclaimed : item_of (items_now T) e.item ≡ None → (o : Bool × ℕ) → Claims (items_now T) (without_entry e.token (book_now T)) e.number o → ⊥
    unclaimed none o (inl (t, m, q, z)) = remote_here t.rid.0 (inl (t, m, q, refl))
    unclaimed none o (inr (inl (d, m, a, q, z))) = remote_here d.rid.0 (inr (inl (d, among_of_filter _ d (book_now T).entries m, a, q, refl)))
    unclaimed none o (inr (inr (inl (d, m, a, q, z)))) = by (apart_one (book_now T).entries e d sound_t.now.apart there (among_of_filter _ d (book_now T).entries m) (item_here d.item.0 (inr (inr (inl (d, among_of_filter _ d (book_now T).entries m, a, q, refl)))))) where
      by : (d ≡ e) ⊎ (e.item.0 ≡ 0) → ⊥
      by (inl same) = no_way (sym (ap (λ (b : Bool). not b) own) ∙ subst (λ (g : QueueEntry). not (same_key g.token.0 e.token.0) ≡ true) same (passed (λ g. not (same_key g.token.0 e.token.0)) d (book_now T).entries m))
      by (inr zero) = numbered.named e there new zero
    unclaimed none o (inr (inr (inr (i, m, q, z)))) =
        let found = find_some (λ j. j.id.0 == e.item.0) (items_now T) i m (eq-eqb i.id.0 e.item.0 (item_here i.id.0 (inr (inr (inr (i, m, q, refl)))))) in
        some_none found.0 (sym found.1 ∙ none)

    pub buried_new : (rid : Rid) (version : Version) → item_of (items_now s) e.item ≡ None → IsDoneAt s e rid version → AreNumbered N R (items_now s) (book_now s) → AreNumbered N R (items_now s) (with_tombstone (tombstone_left e rid version) (book_now s))
    buried_new rid version gone done h =
        numbered_buried N R (items_now s) (book_now s) (tombstone_left e rid version)
        (λ o x. unclaimed (ap (λ (is : List Item). item_of is e.item) (sym taken.4) ∙ gone) o (subst (λ (b : Book). Claims (items_now T) b e.number o) taken.5 (subst (λ (is : List Item). Claims is (book_now s) e.number o) taken.4 x)))
        (subst (λ (n : Usn). above n e.number ≡ true) (sym taken.6) (numbered.early e.number (false, e.item.0) claim))
        (subst (λ (l : Link). IsOfKindBuried l.remote (tombstone_left e rid version)) (sym taken.3) (kind_left T.link.remote e rid version e.action refl new did)) h where
          did : DidBy e.action T.link.remote.items e.rid rid
          did = (all_among (IsAskedFor T.link.remote T.link.messages) (book_now T).entries e there sound_t.now.asked).did rid version (subst (λ (l : Link). recorded_at l.remote.tokens e.token ≡ Some (RecordedDone rid version)) taken.3 done)
