-- The uploads of a pass that hydrates files too: one is heard of, or nothing is left to upload.
use Rattle.std.proofs.Common.{◌≡◌, ◌⊎◌, ◌<◌, ◌≤◌, ℕ, Bool, true, false, List, [], ◌∷◌, refl, sym, ◌∙◌, ap, subst, inl, inr, map}
use Rattle.std.specs.Prelude.{Option, Some, None, nat_lt}
use Rattle.cf_base.specs.declared.ids.ItemId.{ItemId}
use Rattle.cf_base.specs.declared.items.SeenPath.{SeenPath}
use Rattle.cf_model.specs.Arrows.{Preserves, each}
use Rattle.cf_model.specs.Books.{QueueEntry, Tombstone, seen_of}
use Rattle.cf_model.specs.Identities.{has_target, stands_at_seen, target_of}
use Rattle.cf_model.specs.Items.{Item, is_all_here, item_of}
use Rattle.cf_model.specs.LookUp.{by_depth, depth_at, item_line}
use Rattle.cf_model.specs.Pushes.{has_entry, hydrate_unless, is_hydrating, is_left_out, is_tombstone_left_out, push_all, push_here, push_tombstone, push_turn, push_unless, put_if, put_whole}
use Rattle.cf_model.specs.Skips.{in_use}
use Rattle.cf_model.specs.State.{State, Volatile, book_now, items_now}
use Rattle.cf_model.specs.Store.{Held, Stored, stored_at}
use Rattle.cf_model.specs.Trees.{bind, Ends}
use Rattle.cf_model.proofs.ArrowLaws.{keeps_each}
use Rattle.cf_model.proofs.TreeLaws.{kept_at_end}
use Rattle.cf_model_laws.specs.Invariant.{All, Invariant, Among}
use Rattle.cf_model_laws.specs.Premises.{IsFair, IsSmall}
use Rattle.cf_model_laws.proofs.ContentLaws.{sound_whole}
use Rattle.cf_model_laws.proofs.FoundItems.{found_id}
use Rattle.cf_model_laws.proofs.Gathered.{all_weaker}
use Rattle.cf_model_laws.proofs.Guarded.{Entering, Guarded}
use Rattle.cf_model_laws.proofs.FramesGuarded.{FrameIn, guarded_framed}
use Rattle.cf_model_laws.proofs.PushesGuarded.{Files, hydrate_unless_at, lone, push_all_keeps, push_tombstone_keeps, push_turn_keeps, put_whole_at}
use Rattle.cf_model_laws.proofs.RightItems.{no_way}
use Rattle.cf_model_laws.proofs.SoundSettles.{each_found, found_below, same_item}
use Rattle.cf_model_convergence.specs.Hearing.{AreDirs, IsCalm, IsHeard, IsOpenTo}
use Rattle.cf_model_convergence.specs.Matching.{IsBelow}
use Rattle.cf_model_convergence.specs.Tidy.{IsTidy}
use Rattle.cf_model_convergence.specs.Ready.{IsReady}
use Rattle.cf_model_convergence.specs.Resting.{AreAllTargets, AreTargetsApart, IsAtRest, IsKnown, IsTargetOf}
use Rattle.cf_model_convergence.specs.Telling.{IsAside, IsIdle, IsListening, IsToUpload, IsTold}
use Rattle.cf_model_convergence.proofs.HeardLines.{heard_after, heard_of, heard_then}
use Rattle.cf_model_convergence.proofs.HydratesCalm.{hydrate_calm}
use Rattle.cf_model_convergence.proofs.PushesIdle.{adds_later, each_told, numbers_left, sorted_apart, of_ids, tombstone_step}
use Rattle.cf_model_convergence.proofs.PushesTold.{HasNumbers}
use Rattle.cf_model_convergence.proofs.ReadyRests.{at_rest}
use Rattle.cf_model_convergence.proofs.TurnsTold.{case_told, ends_bind, no_entry}
use Rattle.cf_model_convergence.proofs.SinceGuarded.{Follows, Since, since_entering, since_follows, since_guarded, since_start}

-- calm states

calm_self : (s : State) → IsCalm s s
calm_self s = record { items = refl; cursor = refl; entries = refl; seen = refl; tombstones = refl; volatile = refl; remote = refl; inline = refl; honest = refl; shows = refl; busy = λ id e. e; hydrating = λ id e. e; fresh = λ id e. inl e }

calm_then : (s m t : State) → IsCalm s m → IsCalm m t → IsCalm s t
calm_then s m t h k = record {
  items = k.items ∙ h.items;
  cursor = k.cursor ∙ h.cursor;
  entries = k.entries ∙ h.entries;
  seen = k.seen ∙ h.seen;
  tombstones = k.tombstones ∙ h.tombstones;
  volatile = k.volatile ∙ h.volatile;
  remote = k.remote ∙ h.remote;
  inline = k.inline ∙ h.inline;
  honest = k.honest ∙ h.honest;
  shows = k.shows ∙ h.shows;
  busy = λ id e. k.busy id (h.busy id e);
  hydrating = λ id e. k.hydrating id (h.hydrating id e);
  fresh = λ id e. by id (k.fresh id e);
}
  where
    by : (id : ItemId) → (in_use m id ≡ true) ⊎ ((i : Item) × (item_of (items_now m) id ≡ Some i) × (i.directory ≡ false)) → (in_use s id ≡ true) ⊎ ((i : Item) × (item_of (items_now s) id ≡ Some i) × (i.directory ≡ false))
    by id (inl z) = h.fresh id z
    by id (inr z) = inr (z.0, subst (λ (is : List Item). item_of is id ≡ Some z.0) h.items z.1, z.2)

-- the same book, as far as a pass looks at it
-- what is left out stays so
left_later : (s t : State) (i : Item) → IsCalm s t → is_left_out s i ≡ true → is_left_out t i ≡ true
left_later s t i k e =
    subst (λ (is : List Item). is_left_out (record t { filter = record t.filter { volume = record t.filter.volume { items = is } } }) i ≡ true) (sym k.items)
    (subst (λ (es : List QueueEntry). is_left_out (record t { filter = record t.filter { volume = record t.filter.volume { items = items_now s; book = record (book_now t) { entries = es } } } }) i ≡ true) (sym k.entries)
    (subst (λ (v : Volatile). is_left_out (record t { volatile = v; filter = record t.filter { volume = record t.filter.volume { items = items_now s; book = record (book_now t) { entries = (book_now s).entries } } } }) i ≡ true) (sym k.volatile) e))

buried_later : (s t : State) (x : Tombstone) → IsCalm s t → is_tombstone_left_out s x ≡ true → is_tombstone_left_out t x ≡ true
buried_later s t x k e =
    subst (λ (ts : List Tombstone). is_tombstone_left_out (record t { filter = record t.filter { volume = record t.filter.volume { book = record (book_now t) { tombstones = ts } } } }) x ≡ true) (sym k.tombstones)
    (subst (λ (es : List QueueEntry). is_tombstone_left_out (record t { filter = record t.filter { volume = record t.filter.volume { book = record (book_now t) { entries = es; tombstones = (book_now s).tombstones } } } }) x ≡ true) (sym k.entries)
    (subst (λ (v : Volatile). is_tombstone_left_out (record t { volatile = v; filter = record t.filter { volume = record t.filter.volume { book = record (book_now t) { entries = (book_now s).entries; tombstones = (book_now s).tombstones } } } }) x ≡ true) (sym k.volatile) e))

stands_later : (s t : State) (i : Item) → IsCalm s t → stands_at_seen (items_now s) (book_now s) i ≡ true → stands_at_seen (items_now t) (book_now t) i ≡ true
stands_later s t i k e =
    subst (λ (is : List Item). stands_at_seen is (book_now t) i ≡ true) (sym k.items)
    (subst (λ (ps : List SeenPath). stands_at_seen (items_now s) (record (book_now t) { seen = ps }) i ≡ true) (sym k.seen) e)

aside_later : (s t : State) (i : Item) → IsCalm s t → IsAside s i → IsAside t i
aside_later s t i k (inl e) = inl (left_later s t i k e)
aside_later s t i k (inr (inl e)) = inr (inl (record { target = e.target; stands = stands_later s t i k e.stands; clean = e.clean; in_sync = e.in_sync }))
aside_later s t i k (inr (inr e)) = inr (inr (k.hydrating i.id e))

pub fair_calm : (s t : State) → IsCalm s t → IsFair s.link → IsFair t.link
fair_calm s t k fair = (k.honest ∙ fair.0, subst IsSmall (sym k.remote) fair.1)

pub listens_calm : (s t : State) → IsCalm s t → IsListening s → IsListening t
listens_calm s t k l = record { inline = k.inline ∙ l.inline; shows = k.shows ∙ l.shows }

-- one item

some : (a b : Item) → ◌≡◌ {A = Option Item} (Some a) (Some b) → a ≡ b
some a b z = cc

none : (j : Item) → ◌≡◌ {A = Option Item} None (Some j) → ⊥
none j z = cc

-- what a turn leaves that is not heard of
record IsTurnedTo (s : State) (item : ItemId) (t : State) : Type 0 where
  pub calm : IsCalm s t
  pub ready : IsOpenTo t
  pub rests : (j : Item) → item_of (items_now s) item ≡ Some j → IsAside t j

turn_calm : (item : ItemId) (s : State) (u : Unit {0}) (t : State) → Invariant s → IsFair s.link → IsListening s → IsOpenTo s → Ends (push_turn item s) u t → HasNumbers t → IsHeard s t ⊎ IsTurnedTo s item t
turn_calm item s u t h fair listening ready ends left = by (item_of (items_now s) item) refl ends where
  still : (i : Item) → item_of (items_now s) item ≡ Some i → (t ≡ s) × IsAside s i → IsHeard s t ⊎ IsTurnedTo s item t
  still i e k = inr (subst (IsTurnedTo s item) (sym k.0) (record { calm = calm_self s; ready = ready; rests = λ j q. subst (IsAside s) (some i j (sym e ∙ q)) k.1 }))

  lacking : (i : Item) → item_of (items_now s) item ≡ Some i → item_of (items_now s) i.id ≡ Some i → has_entry s i.id ≡ false → (i.directory ≡ false → i.placeholder ≡ true) → i.directory ≡ false → is_all_here i ≡ false → IsToUpload i → is_hydrating i.id s ≡ false
      → Ends (bind (hydrate_unless i.id false s) (λ _ x. put_whole (item_of (items_now x) i.id) x)) u t → IsHeard s t ⊎ IsTurnedTo s item t
  lacking i e there free placed file here needed idle z = hydrated (hydrate_calm i s h fair listening ready there file here k.0 k.1 k.2) where
    k : (v : Unit {0}) × (m : State) × Ends (hydrate_unless i.id false s) v m × Ends (put_whole (item_of (items_now m) i.id) m) u t
    k = ends_bind (hydrate_unless i.id false s) (λ _ x. put_whole (item_of (items_now x) i.id) x) u t z

    Frames : State → Type 0
    Frames x = Invariant x × FrameIn (Unit {0}) i.id Files [] x

    first : FrameIn (Unit {0}) i.id Files [] s
    first = (
      λ v f. let sound = h.1 f in (found_below i.id 0 s.filter.volume.next_item.0 (items_now s) i sound.now.order there, each_found i.id (λ j. Files j.directory j.placeholder) 0 s.filter.volume.next_item.0 (items_now s) i sound.now.order there (file, placed file), lone (book_now s).entries i.id free),
      λ f. tt,
    )

    hm : Frames k.1
    hm = kept_at_end Frames (hydrate_unless i.id false s) k.0 k.1 (hydrate_unless_at Frames (guarded_framed (Unit {0}) i.id Files (λ d p q. (q.0, refl)) [] Invariant sound_whole.closed) i false s (λ f. (there, file)) (h, first)) k.2

    adds : Follows k.1 t
    adds =
        since_follows k.1 t (kept_at_end (Since k.1) (put_whole (item_of (items_now k.1) i.id) k.1) u t
        (put_whole_at (Since k.1) (since_guarded k.1) (since_entering k.1).uploads i k.1 hm.1 (item_of (items_now k.1) i.id) refl (since_start k.1 hm.0)) k.3)

    hydrated : IsHeard s k.1 ⊎ (IsCalm s k.1 × (is_hydrating i.id k.1 ≡ true) × IsOpenTo k.1) → IsHeard s t ⊎ IsTurnedTo s item t
    hydrated (inl y) = inl (heard_then s k.1 t y adds)
    hydrated (inr y) = inr (subst (IsTurnedTo s item) (sym same) (record { calm = y.0; ready = y.2; rests = λ j q. subst (IsAside k.1) (some i j (sym e ∙ q)) (inr (inr y.1)) })) where
      found : item_of (items_now k.1) i.id ≡ Some i
      found = subst (λ (is : List Item). item_of is i.id ≡ Some i) (sym y.0.items) there

      same : t ≡ k.1
      same = (subst (λ (b : Bool). Ends (put_if i b k.1) u t) here (subst (λ (o : Option Item). Ends (put_whole o k.1) u t) found k.3)).1

  two : (i : Item) → item_of (items_now s) item ≡ Some i → (b : Bool) → is_left_out s i ≡ b → Ends (push_unless i b s) u t → IsHeard s t ⊎ IsTurnedTo s item t
  two i e true q z = still i e (z.1, inl q)
  two i e false q z = judged (case_told s h fair listening i there (no_entry s i q) u t left (IsHeard s t ⊎ IsTurnedTo s item t) (lacking i e there (no_entry s i q)) z) where
    there : item_of (items_now s) i.id ≡ Some i
    there = subst (λ (x : ItemId). item_of (items_now s) x ≡ Some i) (sym (same_item i.id item (found_id item (items_now s) i e))) e

    judged : IsTold s t ⊎ ((IsHeard s t ⊎ IsTurnedTo s item t) ⊎ ((t ≡ s) × IsAside s i)) → IsHeard s t ⊎ IsTurnedTo s item t
    judged (inl k) = inl (heard_of s t k)
    judged (inr (inl k)) = k
    judged (inr (inr k)) = still i e k

  by : (o : Option Item) → item_of (items_now s) item ≡ o → Ends (push_here o s) u t → IsHeard s t ⊎ IsTurnedTo s item t
  by None e z = inr (subst (IsTurnedTo s item) (sym z.1) (record { calm = calm_self s; ready = ready; rests = λ j q. absurd (none j (sym e ∙ q)) }))
  by (Some i) e z = two i e (is_left_out s i) refl z

-- all items in turn

record AreTurnedTo (s : State) (ids : List ItemId) (t : State) : Type 0 where
  pub calm : IsCalm s t
  pub ready : IsOpenTo t
  pub rests : All (λ id. (j : Item) → item_of (items_now s) id ≡ Some j → IsAside t j) ids

turns_calm : (ids : List ItemId) (s : State) (u : Unit {0}) (t : State) → Invariant s → IsFair s.link → IsListening s → IsOpenTo s → Ends (each push_turn ids s) u t → HasNumbers t → IsHeard s t ⊎ AreTurnedTo s ids t
turns_calm [] s u t h fair listening ready ends left = inr (subst (AreTurnedTo s []) (sym ends.1) (record { calm = calm_self s; ready = ready; rests = tt }))
turns_calm (id ∷ ids) s u t h fair listening ready ends left = by (turn_calm id s k.0 k.1 h fair listening ready k.2 left_m) (λ f l r. turns_calm ids k.1 u t hm f l r k.3 left) where
  k : (v : Unit {0}) × (m : State) × Ends (push_turn id s) v m × Ends (each push_turn ids m) u t
  k = ends_bind (push_turn id s) (λ _ m. each push_turn ids m) u t ends

  keeps_rest : (P : State → Type 0) → Guarded P → Entering P → Preserves P (each push_turn ids)
  keeps_rest P closed entering = keeps_each P push_turn ids (push_turn_keeps P closed entering.uploads)

  hm : Invariant k.1
  hm = kept_at_end Invariant (push_turn id s) k.0 k.1 ((push_turn_keeps Invariant sound_whole.closed sound_whole.entering.uploads id).keeps s h) k.2

  left_m : HasNumbers k.1
  left_m = numbers_left (each push_turn ids) keeps_rest k.1 u t hm k.3 left

  first : Follows s k.1
  first = adds_later (push_turn id) (λ P closed entering. push_turn_keeps P closed entering.uploads id) s k.0 k.1 h k.2

  joined : IsTurnedTo s id k.1 → IsHeard k.1 t ⊎ AreTurnedTo k.1 ids t → IsHeard s t ⊎ AreTurnedTo s (id ∷ ids) t
  joined y (inl z) = inl (heard_after s k.1 t first.adds.lines first.adds.noted z)
  joined y (inr z) = inr (record {
    calm = calm_then s k.1 t y.calm z.calm;
    ready = z.ready;
    rests = ((λ j e. aside_later k.1 t j z.calm (y.rests j e)), subst (λ (is : List Item). All (λ x. (j : Item) → item_of is x ≡ Some j → IsAside t j) ids) y.calm.items z.rests);
  })

  by : IsHeard s k.1 ⊎ IsTurnedTo s id k.1 → (IsFair k.1.link → IsListening k.1 → IsOpenTo k.1 → IsHeard k.1 t ⊎ AreTurnedTo k.1 ids t) → IsHeard s t ⊎ AreTurnedTo s (id ∷ ids) t
  by (inl z) more = inl (heard_then s k.1 t z (adds_later (each push_turn ids) keeps_rest k.1 u t hm k.3))
  by (inr z) more = joined z (more (fair_calm s k.1 z.calm fair) (listens_calm s k.1 z.calm listening) z.ready)

-- and the uploads of a pass

pub record IsIdleTo (s t : State) : Type 0 where
  pub calm : IsCalm s t
  pub ready : IsOpenTo t
  pub idle : IsIdle t t

pub pushes_calm : (s : State) (u : Unit {0}) (t : State) → Invariant s → IsFair s.link → IsListening s → IsOpenTo s → Ends (push_all s) u t → HasNumbers t → IsHeard s t ⊎ IsIdleTo s t
pushes_calm s u t h fair listening ready ends left =
    by k.1 hm k.3 (each_told Tombstone push_tombstone (λ P closed entering. push_tombstone_keeps P closed entering.uploads) (λ x. Unit {0}) (λ x y. is_tombstone_left_out x y ≡ true) tombstone_step ts s k.0 k.1 h fair listening tt k.2 (numbers_left (each push_turn ids) keeps_turns k.1 u t hm k.3 left)) where
      ts : List Tombstone
      ts = (book_now s).tombstones

      ids : List ItemId
      ids = map (λ i. i.id) (by_depth (items_now s) (items_now s))

      k : (v : Unit {0}) × (m : State) × Ends (each push_tombstone ts s) v m × Ends (each push_turn ids m) u t
      k = ends_bind (each push_tombstone ts s) (λ _ m. each push_turn ids m) u t ends

      hm : Invariant k.1
      hm = kept_at_end Invariant (each push_tombstone ts s) k.0 k.1 ((keeps_each Invariant push_tombstone ts (push_tombstone_keeps Invariant sound_whole.closed sound_whole.entering.uploads)).keeps s h) k.2

      keeps_turns : (P : State → Type 0) → Guarded P → Entering P → Preserves P (each push_turn ids)
      keeps_turns P closed entering = keeps_each P push_turn ids (push_turn_keeps P closed entering.uploads)

      idle : All (λ x. is_tombstone_left_out s x ≡ true) ts → IsHeard s t ⊎ AreTurnedTo s ids t → IsHeard s t ⊎ IsIdleTo s t
      idle c (inl z) = inl z
      idle c (inr z) = inr (record {
        calm = z.calm;
        ready = z.ready;
        idle = record {
          same = refl;
          tombstones = subst (All (λ x. is_tombstone_left_out t x ≡ true)) (sym z.calm.tombstones) (all_weaker (λ x. is_tombstone_left_out s x ≡ true) (λ x. is_tombstone_left_out t x ≡ true) (λ x y. buried_later s t x z.calm y) ts c);
          items = subst (λ (is : List Item). All (λ i. (j : Item) → item_of is i.id ≡ Some j → IsAside t j) is) (sym z.calm.items)
              (sorted_apart (λ i. (j : Item) → item_of (items_now s) i.id ≡ Some j → IsAside t j) (λ i j. nat_lt (depth_at (items_now s) i.id) (depth_at (items_now s) j.id)) (items_now s)
              (of_ids (λ id. (j : Item) → item_of (items_now s) id ≡ Some j → IsAside t j) (by_depth (items_now s) (items_now s)) z.rests));
        };
      })

      by : (m : State) → Invariant m → Ends (each push_turn ids m) u t → IsTold s m ⊎ ((m ≡ s) × All (λ x. is_tombstone_left_out s x ≡ true) ts) → IsHeard s t ⊎ IsIdleTo s t
      by m hm e (inl told) = inl (heard_then s m t (heard_of s m told) (adds_later (each push_turn ids) keeps_turns m u t hm e))
      by m hm e (inr z) = idle z.1 (turns_calm ids s u t h fair listening ready (subst (λ (y : State). Ends (each push_turn ids y) u t) z.0 e) left)

-- what was ready still is

pub ready_calm : (s t : State) → IsCalm s t → AreDirs s → IsReady s → IsReady t
ready_calm s t k dirs r = record {
  tidy = subst IsTidy (sym k.remote) r.tidy;
  tree = λ i below. subst (λ (is : List Item). (p : Item) × (item_of is i.parent ≡ Some p) × (item_line is i.id ≡ i.id.0 ∷ item_line is p.id)) (sym k.items) (r.tree i (under i below));
  passed = λ i x below target early. known i x (r.passed i x (under i below) (aimed i x target) (subst (λ (c : ℕ). x.changed ≤ c) k.cursor early));
  ahead = λ i x below free target late. known i x (r.ahead i x (under i below) (unused i.id free) (aimed i x target) (subst (λ (c : ℕ). c < x.changed) k.cursor late));
  idle = λ i p below up. parents i p (under i below) (subst (λ (is : List Item). item_of is i.parent ≡ Some p) k.items up) (in_use t p.id) refl;
  none = k.entries ∙ r.none;
  items_free = ap (λ (v : Volatile). v.held_items) k.volatile ∙ r.items_free;
  tombstones_free = ap (λ (v : Volatile). v.held_tombstones) k.volatile ∙ r.tombstones_free;
}
  where
    under : (i : Item) → IsBelow t i → IsBelow s i
    under i below = (subst (λ (is : List Item). item_of is i.id ≡ Some i) k.items below.0, below.1)

    aimed : (i : Item) (x : Stored) → IsTargetOf t i x → IsTargetOf s i x
    aimed i x e = subst (λ (h : Held). stored_at h.items (target_of i) ≡ Some x) k.remote e

    known : (i : Item) (x : Stored) → IsKnown (book_now s) i x → IsKnown (book_now t) i x
    known i x z = record { live = z.live; version = z.version; seen = λ p e. z.seen p (subst (λ (ps : List SeenPath). seen_of (record (book_now t) { seen = ps }) i.id ≡ Some p) k.seen e) }

    unused : (id : ItemId) → in_use t id ≡ false → in_use s id ≡ false
    unused id free = by (in_use s id) refl where
      by : (b : Bool) → in_use s id ≡ b → b ≡ false
      by true q = no_way (sym free ∙ k.busy id q)
      by false q = refl

    parents : (i p : Item) → IsBelow s i → item_of (items_now s) i.parent ≡ Some p → (b : Bool) → in_use t p.id ≡ b → b ≡ false
    parents i p below up false q = refl
    parents i p below up true q = by (k.fresh p.id q) where
      by : (in_use s p.id ≡ true) ⊎ ((j : Item) × (item_of (items_now s) p.id ≡ Some j) × (j.directory ≡ false)) → true ≡ false
      by (inl z) = sym z ∙ r.idle i p below up
      by (inr z) = sym (dirs i p below up) ∙ ap (λ (j : Item). j.directory) (some p z.0 (sym (subst (λ (x : ItemId). item_of (items_now s) x ≡ Some p) (sym (same_item p.id i.parent (found_id i.parent (items_now s) p up))) up) ∙ z.1)) ∙ z.2

-- so nothing is left to do where the uploads behind a feed are not heard of

pub rest_at : (s : State) (u : Unit {0}) (t : State) → Invariant s → IsFair s.link → AreDirs s → IsReady s → Ends (push_all s) u t → IsIdleTo s t → IsAtRest t
rest_at s u t h fair dirs ready ends k =
    at_rest t (kept_at_end Invariant (push_all s) u t ((push_all_keeps Invariant sound_whole.closed sound_whole.entering.uploads).keeps s h) ends) (fair_calm s t k.calm fair) (ready_calm s t k.calm dirs ready) t k.idle

pub calm_targets : (s t : State) → IsCalm s t → AreAllTargets s → AreAllTargets t
calm_targets s t k all = record {
  apart = subst AreTargetsApart (sym k.items) all.apart;
  some = subst (λ (h : Held). All (λ r. r.live ≡ true → (i : Item) × Among i (items_now t) × (has_target i r.rid ≡ true)) h.items) (sym k.remote)
      (subst (λ (is : List Item). All (λ r. r.live ≡ true → (i : Item) × Among i is × (has_target i r.rid ≡ true)) s.link.remote.items) (sym k.items) all.some);
}
