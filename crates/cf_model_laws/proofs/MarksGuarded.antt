-- A marked item stands at the path seen as long as its Mark is the last change, in `replay`.
use Rattle.std.proofs.Common.{◌≡◌, ◌⊎◌, ◌≤◌, ◌+◌, ℕ, true, false, List, [], ◌∷◌, ◌++◌, refl, sym, subst, inl, inr, arith, length, take}
use Rattle.std.specs.Prelude.{Bool, Some, not, ◌<◌}
use Rattle.std.proofs.Math.Seq.{take-length}
use Rattle.std.proofs.lemmas.Bool.{eqb-true}
use Rattle.std.proofs.lemmas.List.{length-append, length-take-le, take-append-le}
use Rattle.cf_base.specs.declared.answers.Answer.{Answer}
use Rattle.cf_base.specs.declared.answers.Shown.TheVariants as shown
use Rattle.cf_base.specs.declared.changes.Change.{Change}
use Rattle.cf_base.specs.declared.changes.Change.TheVariants as change
use Rattle.cf_base.specs.declared.codes.Code.{Code}
use Rattle.cf_base.specs.declared.events.Event.{Event}
use Rattle.cf_base.specs.declared.ids.ItemId.{ItemId}
use Rattle.cf_base.specs.declared.ids.Token.{Token}
use Rattle.cf_base.specs.declared.ids.Usn.{Usn}
use Rattle.cf_base.specs.declared.items.Kind.{Kind}
use Rattle.cf_base.specs.declared.policies.Mode.TheVariants as mode
use Rattle.cf_base.specs.declared.waits.Cause.TheVariants as cause
use Rattle.cf_model.specs.Arrows.{reading, then_do}
use Rattle.cf_model.specs.Books.{Book, MoveItem, QueueEntry, entry_of, no_book, with_access, with_entry, with_seen, with_ticks, without_entry}
use Rattle.cf_model.specs.Changes.{change_with, next_number, put_with_book}
use Rattle.cf_model.specs.Events.{begun, is_of, tree_of}
use Rattle.cf_model.specs.Items.{Item, root}
use Rattle.cf_model.specs.Lawful.{Runs}
use Rattle.cf_model.specs.Logs.{items_of, next_of}
use Rattle.cf_model.specs.Numbers.{same_key}
use Rattle.cf_model.specs.Operations.{done}
use Rattle.cf_model.specs.Points.{Opens, commit, point_now, with_point_begun, with_room_point}
use Rattle.cf_model.specs.PushReplies.{entry_seen}
use Rattle.cf_model.specs.Restarts.{epoch_after, with_opened}
use Rattle.cf_model.specs.Settling.{is_access, settle, tell, told_at}
use Rattle.cf_model.specs.Skips.{skip_line, with_book}
use Rattle.cf_model.specs.State.{Filter, Link, Point, State, Volume, book_now, in_volume, items_now, start, with_filter}
use Rattle.cf_model.specs.Store.{Held}
use Rattle.cf_model.specs.Trees.{Keeps, Ret}
use Rattle.cf_model.specs.Waits.{Need, all_down, begin_now, begun as waiting_begun, own_id, with_own}
use Rattle.cf_model.proofs.TreeLaws.{keeps_bind}
use Rattle.cf_model_laws.specs.Invariant.{All, Invariant, IsEntryOf, IsSound}
use Rattle.cf_model_laws.specs.Marks.{IsMadeAtSeen, IsMarkedAtSeen, IsMarkedLast}
use Rattle.cf_model_laws.specs.Premises.{IsFair, IsFresh}
use Rattle.cf_model_laws.proofs.ContentLaws.{keeps_weaker, sound_whole, start_sound}
use Rattle.cf_model_laws.proofs.EventsGuarded.{Whole, event_now_keeps, runs_keep}
use Rattle.cf_model_laws.proofs.FramesGuarded.{SameRecords, access_frame, tell_frame}
use Rattle.cf_model_laws.proofs.Gathered.{all_append, all_filter, all_found, all_weaker}
use Rattle.cf_model_laws.proofs.Guarded.{Guarded, GuardedFilter, KeepsBelow, KeepsEarly, KeepsPlaced, MovesThere, StandsAtPath, after_move}
use Rattle.cf_model_laws.proofs.Leading.{kept_leads}
use Rattle.cf_model_laws.proofs.RightItems.{no_way}
use Rattle.cf_model_laws.proofs.SeenPaths.{sees_still}
use Rattle.cf_model_laws.proofs.SkipsGuarded.{keeps_both, leaves_seen, same_seen, seen_below}
use Rattle.cf_model_laws.proofs.SoundChanges.{KeepsEntries}
use Rattle.cf_model_laws.proofs.SoundFilters.{change_leads}
use Rattle.cf_model_laws.proofs.SoundSettles.{same_item}
use Rattle.cf_model_laws.proofs.SoundStates.{small_before}
use Rattle.cf_model_laws.proofs.NamedItems.{IsPlaced, IsPlacedAfter, MovesAt, other_placed, placed_after, rebooked}
use Rattle.cf_model_laws.specs.Taken.{Knowledge}
use Rattle.cf_model_laws.proofs.SinceKept.{moved_weaker, on_filter_weaker, record_weaker}

-- and so it was at each point that a restart may open
abbrev pub IsPointPlaced : List (Usn × Change) → Point → Type 0
IsPointPlaced log p = (p.count ≤ length log) × IsPlaced (take p.count log) (items_of (take p.count log)) (next_of (take p.count log)) p.book

abbrev pub ArePlaced : Volume → Type 0
ArePlaced v = IsPlaced v.log v.items v.next_item.0 v.book × All (IsPointPlaced v.log) v.points

abbrev pub Placed : Link → Volume → Type 0
Placed l v = IsFair l → ArePlaced v

-- points

no_more : (n : ℕ) → n ≤ n
no_more n = omega arith

point_placed : (sure : Bool) (v : Volume) → (v.items ≡ items_of v.log) × (v.next_item.0 ≡ next_of v.log) → IsPlaced v.log v.items v.next_item.0 v.book → IsPointPlaced v.log (point_now sure v)
point_placed sure v of_log h = (
  no_more (length v.log),
  subst (λ (log : List (Usn × Change)). IsPlaced log (items_of log) (next_of log) v.book) (sym (take-length v.log))
      (subst (λ (n : ℕ). IsPlaced v.log (items_of v.log) n v.book) of_log.1 (subst (λ (items : List Item). IsPlaced v.log items v.next_item.0 v.book) of_log.0 h)),
)

points_more : (log : List (Usn × Change)) (c : Usn × Change) (ps : List Point) → All (IsPointPlaced log) ps → All (IsPointPlaced (log ++ c ∷ [])) ps
points_more log c ps h =
    all_weaker (IsPointPlaced log) (IsPointPlaced (log ++ c ∷ []))
    (λ p k. (longer p.count (length log) (length (log ++ c ∷ [])) k.0 (length-append log (c ∷ [])), subst (λ (l : List (Usn × Change)). IsPlaced l (items_of l) (next_of l) p.book) (sym (take-append-le p.count log (c ∷ []) k.0)) k.1)) ps h where
      longer : (a n m : ℕ) → a ≤ n → m ≡ n + 1 → a ≤ m
      longer a n m h e = omega (arith, h, e)

abbrev AfterPlaced : Link → (Book → Book) → Change → Filter → Type 0
AfterPlaced l f c x = IsFair l → IsPlacedAfter f c x

placed_put : (l : Link) (tokens : ℕ) (f : Book → Book) (c : Change) (x : Filter) (v : Volume) → (v ≡ x.volume) ⊎ (v ≡ with_room_point x.volume) → (IsFair l → IsSound l tokens x) → AfterPlaced l f c x → Placed l x.volume → Placed l (put_with_book f c v)
placed_put l tokens f c x v is sound after h = by is where
  by : (v ≡ x.volume) ⊎ (v ≡ with_room_point x.volume) → Placed l (put_with_book f c v)
  by (inl e) = subst (λ (w : Volume). Placed l (put_with_book f c w)) (sym e) (λ fair. (after fair, points_more x.volume.log (next_number x.volume, c) x.volume.points (h fair).1))
  by (inr e) =
      subst (λ (w : Volume). Placed l (put_with_book f c w)) (sym e)
      (λ fair. (after fair, points_more x.volume.log (next_number x.volume, c) (point_now false x.volume ∷ x.volume.points) (point_placed false x.volume (sound fair).of_log (h fair).0, (h fair).1)))

abbrev InFilter : Link → Filter → Type 0
InFilter l x = Placed l x.volume

point_begun : (l : Link) (tokens : ℕ) (x : Filter) → (IsFair l → IsSound l tokens x) → InFilter l x → Placed l (with_point_begun x.volume)
point_begun l tokens x sound h fair = ((h fair).0, (point_placed false x.volume (sound fair).of_log (h fair).0, (h fair).1))

placed_change : (l : Link) (tokens : ℕ) (f : Book → Book) (c : Change) (x : Filter) → (IsFair l → IsSound l tokens x) → AfterPlaced l f c x → InFilter l x → Keeps (InFilter l) (change_with f c x)
placed_change l tokens f c x sound after h =
    kept_leads (InFilter l) (change_with f c x) (change_leads (InFilter l) (InFilter l) f c x h (point_begun l tokens x sound h) (point_begun l tokens x sound h) (λ v is. placed_put l tokens f c x v is sound after h))

placed_book : (l : Link) (v : Volume) (b : Book) → SameRecords v.book b → Placed l v → Placed l (record v { book = b })
placed_book l v b same h fair = (
  rebooked v.log v.items v.next_item.0 v.book b (λ item m k. (subst (λ (es : List QueueEntry). MovesAt v.items es item) (sym same.entries) k, same_seen v.items v.book b item same.seen)) (λ k. subst (All (λ p. p.item.0 < v.next_item.0)) (sym same.seen) k) (h fair).0,
  (h fair).1,
)

begins_placed : (l : Link) (n : Need) (x : Filter) → InFilter l x → Keeps (InFilter l) (reading (waiting_begun n) (begin_now n) x)
begins_placed l n x h = keeps_bind (InFilter l) (tell (waiting_begun n x) (with_own n x)) (λ _ t. Ret (shown.Pending (own_id n x)) t) (tell_frame (Placed l) (placed_book l) (waiting_begun n x) (with_own n x) h) (λ a t j. j)

filter_placed : {On : Knowledge} (l : Link) (tokens : ℕ) (P : Filter → Type 0) → GuardedFilter On l tokens P → GuardedFilter On l tokens (λ x. P x × InFilter l x)
filter_placed l tokens P closed = record {
  sound = λ x h fair. closed.sound x h.0 fair;
  change = λ f c x keeps seen free fit known h. keeps_both P (InFilter l) (change_with f c x) (closed.change f c x keeps seen free fit known h.0) (placed_change l tokens f c x (closed.sound x h.0) (λ fair. placed_after l tokens f c x keeps (seen fair) (closed.sound x h.0 fair) (fit fair) (h.1 fair).0) h.1);
  touch = λ f c item d x quiet keeps seen on fit known h. keeps_both P (InFilter l) (then_do (change_with f c) (then_do (settle item d) done) x) (closed.touch f c item d x quiet keeps seen on fit known h.0)
      (keeps_bind (InFilter l) (change_with f c x) (λ _ t. then_do (settle item d) done t) (placed_change l tokens f c x (closed.sound x h.0) (λ fair. placed_after l tokens f c x keeps (seen fair) (closed.sound x h.0 fair) (fit fair) (h.1 fair).0) h.1)
      (λ a t j. keeps_bind (InFilter l) (settle item d t) (λ _ y. done y) (tell_frame (Placed l) (placed_book l) (told_at item d t) t j) (λ b y m. m)));
  commits = record { keeps = λ x h. keeps_both P (InFilter l) (in_volume commit x) (closed.commits.keeps x h.0) (point_begun l tokens x (closed.sound x h.0) h.1, λ fair. ((h.1 fair).0, (point_placed true x.volume (closed.sound x h.0 fair).of_log (h.1 fair).0, tt))) };
  settled = λ item d x others h. keeps_both P (InFilter l) (settle item d x) (closed.settled item d x others h.0) (tell_frame (Placed l) (placed_book l) (told_at item d x) x h.1);
  begins = λ n x plain fit unmet h. keeps_both P (InFilter l) (reading (waiting_begun n) (begin_now n) x) (closed.begins n x plain fit unmet h.0) (begins_placed l n x h.1);
  downs = record { keeps = λ x h. keeps_both P (InFilter l) (reading all_down tell x) (closed.downs.keeps x h.0) (tell_frame (Placed l) (placed_book l) (all_down x) x h.1) };
  keeps_accessed = λ item x h. (closed.keeps_accessed item x h.0, placed_book l x.volume (with_access item x.volume.book) (record { cursor = refl; entries = refl; seen = refl; tombstones = refl }) h.1);
  keeps_accessed_now = λ n x h. (closed.keeps_accessed_now n x h.0, access_frame (Placed l) (placed_book l) n.item (is_access n.kind cause.Met) x h.1);
  keeps_as_it_is = λ x h. (closed.keeps_as_it_is x h.0, h.1);
  keeps_begin_call = λ x h. (closed.keeps_begin_call x h.0, h.1);
  keeps_connected_again = λ x h. (closed.keeps_connected_again x h.0, h.1);
  keeps_with_handle = λ item x fit h. (closed.keeps_with_handle item x fit h.0, h.1);
  keeps_with_time = λ n x h. (closed.keeps_with_time n x h.0, placed_book l x.volume (with_ticks n x.volume.book) (record { cursor = refl; entries = refl; seen = refl; tombstones = refl }) h.1);
  keeps_without_handle = λ handle x h. (closed.keeps_without_handle handle x h.0, h.1);
}

-- records

abbrev pub PlacedIn : State → Type 0
PlacedIn s = Placed s.link s.filter.volume

placed_line : (b : Bool) (c : Code) (s : State) → PlacedIn s → PlacedIn (skip_line b c s)
placed_line true c s h = h
placed_line false c s h = h

book_placed : (f : Book → Book) (s : State) → KeepsEntries f → (IsFair s.link → KeepsPlaced f s × KeepsBelow f s × KeepsEarly f s) → PlacedIn s → PlacedIn (with_book f s)
book_placed f s keeps placed h fair = (
  rebooked s.filter.volume.log (items_now s) s.filter.volume.next_item.0 (book_now s) (f (book_now s)) (λ item m k. (subst (λ (es : List QueueEntry). MovesAt (items_now s) es item) (sym (keeps (book_now s))) k, (placed fair).0 item m)) (placed fair).1 (h fair).0,
  (h fair).1,
)

-- other entries
entries_placed : (f : Book → Book) (s : State) → ((b : Book) → (f b).seen ≡ b.seen) → (IsFair s.link → (item : ItemId) → MovesAt (items_now s) (book_now s).entries item → MovesAt (items_now s) (f (book_now s)).entries item) → PlacedIn s → PlacedIn (with_book f s)
entries_placed f s seen k h fair = (
  rebooked s.filter.volume.log (items_now s) s.filter.volume.next_item.0 (book_now s) (f (book_now s)) (λ item m g. (k fair item g, (leaves_seen f s seen).0 item m)) (leaves_seen f s seen).1 (h fair).0,
  (h fair).1,
)

left_placed : (token : Token) (s : State) → PlacedIn s → PlacedIn (with_book (without_entry token) s)
left_placed token s h =
    entries_placed (without_entry token) s (λ b. refl) (λ fair item k. all_filter (λ e. e.action ≡ MoveItem → e.item.0 ≡ item.0 → StandsAtPath (items_now s) item (entry_seen e)) (λ e. not (same_key e.token.0 token.0)) (book_now s).entries k) h

-- a Move that is taken is to where the item stands that was marked or made last
moved_placed : (e : QueueEntry) (s : State) → (IsFair s.link → IsSound s.link s.volatile.tokens s.filter) → e.action ≡ MoveItem → (IsFair s.link → entry_of (book_now s) e.token ≡ Some e) → PlacedIn s → PlacedIn (after_move e s)
moved_placed e s sound is live h fair = (
  rebooked s.filter.volume.log (items_now s) s.filter.volume.next_item.0 (book_now s) (with_seen (entry_seen e) (without_entry e.token (book_now s)))
      (λ item m k. (
        all_filter (λ f. f.action ≡ MoveItem → f.item.0 ≡ item.0 → StandsAtPath (items_now s) item (entry_seen f)) (λ f. not (same_key f.token.0 e.token.0)) (book_now s).entries k,
        sees_still (entry_seen e) (items_now s) (without_entry e.token (book_now s)) item
            (λ q. (all_found (λ f. f.action ≡ MoveItem → f.item.0 ≡ item.0 → StandsAtPath (items_now s) item (entry_seen f)) (λ f. same_key f.token.0 e.token.0) (book_now s).entries e (live fair) k).0 is (eqb-true e.item.0 item.0 q)),
      ))
      (λ k. seen_below s.filter.volume.next_item.0 (entry_seen e) (without_entry e.token (book_now s))
      (all_found (IsEntryOf (next_number s.filter.volume) s.filter.volume.next_item.0 s.filter.volume.epoch s.volatile.tokens) (λ f. same_key f.token.0 e.token.0) (book_now s).entries e (live fair) (sound fair).now.given).0.item k) (h fair).0,
  (h fair).1,
)

entered_placed : (e : QueueEntry) (s : State) → (IsFair s.link → MovesThere s e) → PlacedIn s → PlacedIn (with_book (with_entry e) s)
entered_placed e s there h =
    entries_placed (with_entry e) s (λ b. refl)
    (λ fair item k. all_append (λ f. f.action ≡ MoveItem → f.item.0 ≡ item.0 → StandsAtPath (items_now s) item (entry_seen f)) (book_now s).entries (e ∷ []) k
    ((λ is same. subst (λ (x : ItemId). StandsAtPath (items_now s) x (entry_seen e)) (same_item e.item item same) (there fair is)), tt)) h

guarded_placed : (P : State → Type 0) → Guarded P → Guarded (λ s. P s × PlacedIn s)
guarded_placed P closed = record {
  replay = λ s h. closed.replay s h.0;
  on_filter = λ s h. filter_placed s.link s.volatile.tokens (λ x. P (with_filter x s)) (on_filter_weaker P (λ t. P t × PlacedIn t) (λ t k. k.0) s _ (closed.on_filter s h.0));
  keeps_counted = λ s h. (closed.keeps_counted s h.0, h.1);
  asked = λ q s well h. (closed.asked q s well h.0, λ fair. h.1 (fair.0, small_before s.link.remote q fair.1));
  told = λ held s h. (closed.told held s h.0, λ fair. no_way fair.0);
  posts = λ f s other well now h. (closed.posts f s other well now h.0, h.1);
  loses = λ f s h. (closed.loses f s h.0, h.1);
  books = λ f s keeps placed known h. (closed.books f s keeps placed (λ fair. record_weaker P (λ t. P t × PlacedIn t) (λ t k. k.0) f s (known fair)) h.0, book_placed f s keeps placed h.1);
  moved = λ e s is live known h. (closed.moved e s is live (λ fair. moved_weaker P (λ t. P t × PlacedIn t) (λ t k. k.0) e s (known fair)) h.0, moved_placed e s (λ fair. (closed.on_filter s h.0).sound s.filter h.0 fair) is live h.1);
  leaves = λ token s h. (closed.leaves token s h.0, left_placed token s h.1);
  keeps_fault_line = λ m s h. (closed.keeps_fault_line m s h.0, h.1);
  keeps_showing = λ s h. (closed.keeps_showing s h.0, h.1);
  keeps_skipped = λ c s h. (closed.keeps_skipped c s h.0, placed_line s.running.shows_skips c (record s { running = record s.running { skips = s.running.skips + 1 } }) h.1);
  keeps_volatile_all_released = λ s h. (closed.keeps_volatile_all_released s h.0, h.1);
  keeps_volatile_held_and_closed = λ e s h. (closed.keeps_volatile_held_and_closed e s h.0, h.1);
  keeps_volatile_not_in_row = λ e s h. (closed.keeps_volatile_not_in_row e s h.0, h.1);
  keeps_volatile_round_closed = λ s h. (closed.keeps_volatile_round_closed s h.0, h.1);
  keeps_volatile_taken_from_row = λ e s h. (closed.keeps_volatile_taken_from_row e s h.0, h.1);
  keeps_volatile_with_not_empty = λ n s h. (closed.keeps_volatile_with_not_empty n s h.0, h.1);
  keeps_volatile_with_round = λ s h. (closed.keeps_volatile_with_round s h.0, h.1);
  keeps_volatile_with_taken_name = λ item s h. (closed.keeps_volatile_with_taken_name item s h.0, h.1);
  keeps_volatile_with_token = λ s h. (closed.keeps_volatile_with_token s h.0, h.1);
  keeps_with_clock_seen = λ clock s h. (closed.keeps_with_clock_seen clock s h.0, h.1);
  keeps_with_done = λ s h. (closed.keeps_with_done s h.0, h.1);
  keeps_with_outbox = λ a rest s e h. (closed.keeps_with_outbox a rest s e h.0, h.1);
  keeps_with_stray = λ r s h. (closed.keeps_with_stray r s h.0, h.1);
  keeps_with_token_used = λ s h. (closed.keeps_with_token_used s h.0, h.1);
  keeps_without_done = λ s h. (closed.keeps_without_done s h.0, h.1);
}

-- runs

opened : (P : Point → Type 0) (ps : List Point) (p : Point) → Opens ps p → All P ps → P p
opened P [] p is h = elim is as (λ _. P p) [ ]
opened P (q ∷ ps) p (inl e) h = subst P (sym e) h.0
opened P (q ∷ ps) p (inr is) h = opened P ps p is h.1

opened_placed : (p : Point) (skipped : ℕ) (s : State) → Opens s.filter.volume.points p → PlacedIn s → PlacedIn (with_opened p (epoch_after skipped s) s)
opened_placed p skipped s is h fair = (k.1, ((shorter p.count (length (take p.count log)) (length-take-le p.count log k.0), subst (λ (l : List (Usn × Change)). IsPlaced l (items_of l) (next_of l) p.book) (sym (all_taken (take p.count log) p.count (length-take-le p.count log k.0))) k.1), tt)) where
  log : List (Usn × Change)
  log = s.filter.volume.log

  k : IsPointPlaced log p
  k = opened (IsPointPlaced log) s.filter.volume.points p is (h fair).1

  shorter : (n m : ℕ) → m ≡ n → n ≤ m
  shorter n m e = omega (arith, e)

  all_taken : (l : List (Usn × Change)) (n : ℕ) → length l ≡ n → take n l ≡ l
  all_taken l n e = subst (λ (m : ℕ). take m l ≡ l) e (take-length l)

pub placed_whole : Whole (λ s. Invariant s × PlacedIn s)
placed_whole = record {
  closed = guarded_placed Invariant sound_whole.closed;
  entering = record { uploads = record { enters = λ e s well h. (sound_whole.entering.uploads.enters e s well h.0, entered_placed e s (λ fair. (well fair).1) h.1) }; feeds = λ f s well now h. (sound_whole.entering.feeds f s well now h.0, h.1) };
  deleting = record {
    deletes = λ f item s keeps seen cursor idle leaf h. keeps_both (λ x. Invariant (with_filter x s)) (InFilter s.link) (change_with f (change.Remove item) s.filter) (sound_whole.deleting.deletes f item s keeps seen cursor idle leaf h.0)
        (placed_change s.link s.volatile.tokens f (change.Remove item) s.filter h.0.1 (λ fair. other_placed f (change.Remove item) s.filter (λ z. z) seen (h.1 fair).0.below) h.1);
  };
  commanding = record {
    waits = λ s n x fit unmet h. keeps_both (λ y. Invariant (with_filter y s)) (InFilter s.link) (reading (waiting_begun n) (begin_now n) x) (sound_whole.commanding.waits s n x fit unmet h.0) (begins_placed s.link n x h.1);
    disconnects = λ s h. (sound_whole.commanding.disconnects s h.0, h.1);
    inlines = λ inline s h. (sound_whole.commanding.inlines inline s h.0, h.1);
  };
  ruling = record { rules = λ p s v h. (sound_whole.ruling.rules p s v h.0, h.1) };
  begins = λ s h. (sound_whole.begins s h.0, h.1);
  breaks = λ s h. (sound_whole.breaks s h.0, h.1);
  crashes = λ s h. (sound_whole.crashes s h.0, h.1);
  fails = λ s h. (sound_whole.fails s h.0, h.1);
  opens = λ p skipped s is h. (sound_whole.opens p skipped s is h.0, opened_placed p skipped s is h.1);
}

none_there : (c : Usn × Change) (cs : List (Usn × Change)) → ◌≡◌ {A = List (Usn × Change)} [] (c ∷ cs) → ⊥
none_there c cs e = cc

first_placed : (items : List Item) → IsPlaced [] items 2 no_book
first_placed items = record { marked = λ front item m. absurd (none front item m); made = λ item m. absurd (no_make item m.0 m.1 m.2 m.3 m.4 m.5 m.6 m.7); below = tt } where
  none : (front : List (Usn × Change)) (item : ItemId) → IsMarkedLast [] front item → ⊥
  none [] item m = none_there (m.0, change.Mark item m.1) [] m.2
  none (c ∷ front) item m = none_there c (front ++ (m.0, change.Mark item m.1) ∷ []) m.2

  no_make : (item : ItemId) (front : List (Usn × Change)) (n : Usn) (parent : ItemId) (name : List ℕ) (kind : Kind) (size : ℕ) (identity : List ℕ) → ◌≡◌ {A = List (Usn × Change)} [] (front ++ (n, change.Make item parent name kind size identity) ∷ []) → ⊥
  no_make item [] n parent name kind size identity e = none_there (n, change.Make item parent name kind size identity) [] e
  no_make item (c ∷ front) n parent name kind size identity e = none_there c (front ++ (n, change.Make item parent name kind size identity) ∷ []) e

pub start_placed : (remote : Held) (clusters : ℕ) → PlacedIn (start mode.Replay remote clusters)
start_placed remote clusters fair = (first_placed (root ∷ []), ((no_more 0, first_placed (items_of [])), tt))

states_placed : (remote : Held) (clusters : ℕ) (trace : List (Event × Answer)) (s : State) (e : Event) → Runs mode.Replay (start mode.Replay remote clusters) trace s → IsFresh remote → is_of mode.Replay e ≡ true → Keeps (λ t. Invariant t × PlacedIn t) (tree_of e s)
states_placed remote clusters trace s e runs fresh is =
    (event_now_keeps (λ t. Invariant t × PlacedIn t) placed_whole e is).keeps (begun s) (placed_whole.begins s (runs_keep (λ t. Invariant t × PlacedIn t) placed_whole (start mode.Replay remote clusters) trace s runs (start_sound remote clusters fresh, start_placed remote clusters)))

pub marks_stay : (remote : Held) (clusters : ℕ) (trace : List (Event × Answer)) (s : State) (e : Event) → Runs mode.Replay (start mode.Replay remote clusters) trace s → IsFresh remote → is_of mode.Replay e ≡ true → Keeps IsMarkedAtSeen (tree_of e s)
marks_stay remote clusters trace s e runs fresh is = keeps_weaker (λ t. Invariant t × PlacedIn t) IsMarkedAtSeen (λ t h fair front item m. ((h.1 fair).0.marked front item m).1) (tree_of e s) (states_placed remote clusters trace s e runs fresh is)

pub makes_stay : (remote : Held) (clusters : ℕ) (trace : List (Event × Answer)) (s : State) (e : Event) → Runs mode.Replay (start mode.Replay remote clusters) trace s → IsFresh remote → is_of mode.Replay e ≡ true → Keeps IsMadeAtSeen (tree_of e s)
makes_stay remote clusters trace s e runs fresh is = keeps_weaker (λ t. Invariant t × PlacedIn t) IsMadeAtSeen (λ t h fair item m. ((h.1 fair).0.made item m).1) (tree_of e s) (states_placed remote clusters trace s e runs fresh is)
