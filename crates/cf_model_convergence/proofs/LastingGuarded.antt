-- What the machine keeps of the remote, the items and the book in `replay`: of the moment, and of each point that a restart
-- may open.
use Rattle.std.proofs.Common.{◌≡◌, ◌⊎◌, ◌≤◌, ◌+◌, ℕ, true, false, List, [], ◌∷◌, ◌++◌, refl, sym, subst, inl, inr, arith, length, take}
use Rattle.std.specs.Prelude.{Bool, Some}
use Rattle.std.proofs.Math.Seq.{take-length}
use Rattle.std.proofs.lemmas.List.{length-append, length-take-le, take-append-le}
use Rattle.cf_base.specs.declared.answers.Answer.{Answer}
use Rattle.cf_base.specs.declared.answers.Shown.TheVariants as shown
use Rattle.cf_base.specs.declared.changes.Change.{Change}
use Rattle.cf_base.specs.declared.changes.Change.TheVariants as change
use Rattle.cf_base.specs.declared.codes.Code.{Code}
use Rattle.cf_base.specs.declared.events.Event.{Event}
use Rattle.cf_base.specs.declared.ids.ItemId.{ItemId}
use Rattle.cf_base.specs.declared.ids.Token.{Token}
use Rattle.cf_base.specs.declared.ids.Usn.{Usn}
use Rattle.cf_base.specs.declared.messages.Request.{Request}
use Rattle.cf_base.specs.declared.policies.Mode.TheVariants as mode
use Rattle.cf_base.specs.declared.waits.Cause.TheVariants as cause
use Rattle.cf_model.specs.Arrows.{reading, then_do}
use Rattle.cf_model.specs.Books.{Book, MoveItem, QueueEntry, book_after, entry_of, no_book, with_access, with_entry, with_seen, with_ticks, without_entry}
use Rattle.cf_model.specs.Changes.{change_with, next_number, put_with_book}
use Rattle.cf_model.specs.Effects.{effect}
use Rattle.cf_model.specs.Growth.{IsCounted}
use Rattle.cf_model.specs.Items.{Item, root}
use Rattle.cf_model.specs.Lawful.{Runs}
use Rattle.cf_model.specs.Logs.{items_of}
use Rattle.cf_model.specs.Operations.{done}
use Rattle.cf_model.specs.Points.{Opens, commit, point_now, with_point_begun, with_room_point}
use Rattle.cf_model.specs.PushReplies.{entry_seen}
use Rattle.cf_model.specs.Restarts.{epoch_after, with_opened}
use Rattle.cf_model.specs.Settling.{is_access, settle, tell, told_at}
use Rattle.cf_model.specs.Skips.{skip_line}
use Rattle.cf_model.specs.State.{Filter, Link, Point, State, Volume, book_now, in_volume, items_now, start, with_filter}
use Rattle.cf_model.specs.Store.{Held, remote_step}
use Rattle.cf_model.specs.Trees.{Keeps, Ret}
use Rattle.cf_model.specs.Waits.{Need, all_down, begin_now, begun as waiting_begun, own_id, with_own}
use Rattle.cf_model.proofs.TreeLaws.{keeps_bind}
use Rattle.cf_model_laws.specs.Fitting.{Fits}
use Rattle.cf_model_laws.specs.Invariant.{All, Invariant, IsSound}
use Rattle.cf_model_laws.specs.Premises.{IsFair, IsFresh}
use Rattle.cf_model_convergence.specs.Lasting.{AtPoint, Fact, HoldsIn, Lasts, LastsIn}
use Rattle.cf_model_laws.proofs.ContentLaws.{sound_whole, start_sound}
use Rattle.cf_model_laws.proofs.EventsGuarded.{Whole, runs_keep, Unruled, unruled, with_ruling}
use Rattle.cf_model_laws.proofs.FramesGuarded.{SameRecords, access_frame, tell_frame}
use Rattle.cf_model_laws.proofs.Gathered.{all_weaker}
use Rattle.cf_model_laws.proofs.Guarded.{Guarded, GuardedFilter, KeepsBelow, KeepsCursor, KeepsEarly, KeepsPlaced, KeepsSeenBy, MovesThere, AskedIn, EnteredIn, IsMovedBy, IsRecordBy, EntersThere, Buries}
use Rattle.cf_model_laws.proofs.Leading.{kept_leads}
use Rattle.cf_model_laws.proofs.RightItems.{no_way}
use Rattle.cf_model_laws.proofs.SkipsGuarded.{keeps_both}
use Rattle.cf_model_laws.proofs.SoundChanges.{KeepsEntries}
use Rattle.cf_model_laws.proofs.SoundFilters.{change_leads}
use Rattle.cf_model_laws.proofs.SoundStates.{small_before}
use Rattle.cf_model_laws.proofs.SinceKept.{moved_weaker, on_filter_weaker, record_weaker}
use Rattle.cf_model_laws.specs.Taken.{IsChangeBy, Known}

-- what keeps it, over a remote that keeps its rules
pub record Lasting (D : Fact) : Type 0 where
  pub changes : (l : Link) (tokens : ℕ) (f : Book → Book) (c : Change) (x : Filter) → KeepsEntries f → KeepsSeenBy f c x → Fits l.remote x c → IsFair l → IsSound l tokens x → D l.remote x.volume.items x.volume.book
      → D l.remote (effect x.volume.items c (next_number x.volume)) (f (book_after c x.volume.book))
  pub removes : (l : Link) (tokens : ℕ) (f : Book → Book) (item : ItemId) (x : Filter) → KeepsEntries f → ((b : Book) → (f b).seen ≡ b.seen) → KeepsCursor f → IsFair l → IsSound l tokens x → D l.remote x.volume.items x.volume.book
      → D l.remote (effect x.volume.items (change.Remove item) (next_number x.volume)) (f (book_after (change.Remove item) x.volume.book))
  pub alike : (r : Held) (items : List Item) (b d : Book) → SameRecords b d → D r items b → D r items d
  pub records : (f : Book → Book) (s : State) → KeepsEntries f → KeepsPlaced f s × KeepsBelow f s × KeepsEarly f s → D s.link.remote (items_now s) (book_now s) → D s.link.remote (items_now s) (f (book_now s))
  pub sees : (e : QueueEntry) (s : State) → e.action ≡ MoveItem → entry_of (book_now s) e.token ≡ Some e → IsSound s.link s.volatile.tokens s.filter → D s.link.remote (items_now s) (book_now s) → D s.link.remote (items_now s) (with_seen (entry_seen e) (without_entry e.token (book_now s)))
  pub leaves : (token : Token) (r : Held) (items : List Item) (b : Book) → D r items b → D r items (without_entry token b)
  pub enters : (e : QueueEntry) (s : State) → EnteredIn s e × MovesThere s e × EntersThere s e → D s.link.remote (items_now s) (book_now s) → D s.link.remote (items_now s) (with_entry e (book_now s))
  pub grows : (r : Held) (q : Request) (items : List Item) (b : Book) → IsCounted r → D r items b → D (remote_step r q).1 items b

no_more : (n : ℕ) → n ≤ n
no_more n = omega arith

module _ (D : Fact) where
  -- points

  pub point_lasts : (r : Held) (sure : Bool) (v : Volume) → v.items ≡ items_of v.log → D r v.items v.book → AtPoint D r v.log (point_now sure v)
  point_lasts r sure v of_log h = (no_more (length v.log), subst (λ (log : List (Usn × Change)). D r (items_of log) v.book) (sym (take-length v.log)) (subst (λ (items : List Item). D r items v.book) of_log h))

  pub points_more : (r : Held) (log : List (Usn × Change)) (c : Usn × Change) (ps : List Point) → All (AtPoint D r log) ps → All (AtPoint D r (log ++ c ∷ [])) ps
  points_more r log c ps h =
      all_weaker (AtPoint D r log) (AtPoint D r (log ++ c ∷ []))
      (λ p k. (longer p.count (length log) (length (log ++ c ∷ [])) k.0 (length-append log (c ∷ [])), subst (λ (l : List (Usn × Change)). D r (items_of l) p.book) (sym (take-append-le p.count log (c ∷ []) k.0)) k.1)) ps h where
        longer : (a n m : ℕ) → a ≤ n → m ≡ n + 1 → a ≤ m
        longer a n m h e = omega (arith, h, e)

  abbrev pub InFilter : Link → Filter → Type 0
  InFilter l x = Lasts D l x.volume

  abbrev pub AfterChange : Link → (Book → Book) → Change → Filter → Type 0
  AfterChange l f c x = IsFair l → D l.remote (effect x.volume.items c (next_number x.volume)) (f (book_after c x.volume.book))

  pub put_lasts : (l : Link) (tokens : ℕ) (f : Book → Book) (c : Change) (x : Filter) (v : Volume) → (v ≡ x.volume) ⊎ (v ≡ with_room_point x.volume) → (IsFair l → IsSound l tokens x) → AfterChange l f c x → InFilter l x → Lasts D l (put_with_book f c v)
  put_lasts l tokens f c x v is sound after h = by is where
    by : (v ≡ x.volume) ⊎ (v ≡ with_room_point x.volume) → Lasts D l (put_with_book f c v)
    by (inl e) = subst (λ (w : Volume). Lasts D l (put_with_book f c w)) (sym e) (λ fair. (after fair, points_more l.remote x.volume.log (next_number x.volume, c) x.volume.points (h fair).1))
    by (inr e) =
        subst (λ (w : Volume). Lasts D l (put_with_book f c w)) (sym e)
        (λ fair. (after fair, points_more l.remote x.volume.log (next_number x.volume, c) (point_now false x.volume ∷ x.volume.points) (point_lasts l.remote false x.volume (sound fair).of_log.0 (h fair).0, (h fair).1)))

  pub begun_lasts : (l : Link) (tokens : ℕ) (x : Filter) → (IsFair l → IsSound l tokens x) → InFilter l x → Lasts D l (with_point_begun x.volume)
  begun_lasts l tokens x sound h fair = ((h fair).0, (point_lasts l.remote false x.volume (sound fair).of_log.0 (h fair).0, (h fair).1))

  pub change_lasts : (l : Link) (tokens : ℕ) (f : Book → Book) (c : Change) (x : Filter) → (IsFair l → IsSound l tokens x) → AfterChange l f c x → InFilter l x → Keeps (InFilter l) (change_with f c x)
  change_lasts l tokens f c x sound after h =
      kept_leads (InFilter l) (change_with f c x) (change_leads (InFilter l) (InFilter l) f c x h (begun_lasts l tokens x sound h) (begun_lasts l tokens x sound h) (λ v is. put_lasts l tokens f c x v is sound after h))

  pub opened : (P : Point → Type 0) (ps : List Point) (p : Point) → Opens ps p → All P ps → P p
  opened P [] p is h = elim is as (λ _. P p) [ ]
  opened P (q ∷ ps) p (inl e) h = subst P (sym e) h.0
  opened P (q ∷ ps) p (inr is) h = opened P ps p is h.1

  pub opened_lasts : (p : Point) (skipped : ℕ) (s : State) → Opens s.filter.volume.points p → HoldsIn D s → HoldsIn D (with_opened p (epoch_after skipped s) s)
  opened_lasts p skipped s is h fair = (k.1, ((shorter p.count (length (take p.count log)) (length-take-le p.count log k.0), subst (λ (l : List (Usn × Change)). D s.link.remote (items_of l) p.book) (sym (all_taken (take p.count log) p.count (length-take-le p.count log k.0))) k.1), tt)) where
    log : List (Usn × Change)
    log = s.filter.volume.log

    k : AtPoint D s.link.remote log p
    k = opened (AtPoint D s.link.remote log) s.filter.volume.points p is (h fair).1

    shorter : (n m : ℕ) → m ≡ n → n ≤ m
    shorter n m e = omega (arith, e)

    all_taken : (l : List (Usn × Change)) (n : ℕ) → length l ≡ n → take n l ≡ l
    all_taken l n e = subst (λ (m : ℕ). take m l ≡ l) e (take-length l)

-- the same, where more is known: what holds beside it, and what the step rests on
pub record LastingOver (D : Fact) (P : State → Type 0) : Type 0 where
  pub changes : (s : State) (f : Book → Book) (c : Change) (x : Filter) → KeepsEntries f → KeepsSeenBy f c x → Fits s.link.remote x c → IsFair s.link → IsChangeBy (Known (λ t. P t × HoldsIn D t) s) x f c → IsSound s.link s.volatile.tokens x → P (with_filter x s)
      → D s.link.remote x.volume.items x.volume.book → D s.link.remote (effect x.volume.items c (next_number x.volume)) (f (book_after c x.volume.book))
  pub removes : (s : State) (f : Book → Book) (item : ItemId) → KeepsEntries f → ((b : Book) → (f b).seen ≡ b.seen) → KeepsCursor f → Buries f item s.filter → IsFair s.link → IsSound s.link s.volatile.tokens s.filter → P s → D s.link.remote (items_now s) (book_now s)
      → D s.link.remote (effect (items_now s) (change.Remove item) (next_number s.filter.volume)) (f (book_after (change.Remove item) (book_now s)))
  pub alike : (r : Held) (items : List Item) (b d : Book) → SameRecords b d → D r items b → D r items d
  pub records : (f : Book → Book) (s : State) → KeepsEntries f → KeepsPlaced f s × KeepsBelow f s × KeepsEarly f s → IsFair s.link → IsRecordBy (λ t. P t × HoldsIn D t) f s → IsSound s.link s.volatile.tokens s.filter → P s → D s.link.remote (items_now s) (book_now s)
      → D s.link.remote (items_now s) (f (book_now s))
  pub sees : (e : QueueEntry) (s : State) → e.action ≡ MoveItem → entry_of (book_now s) e.token ≡ Some e → IsFair s.link → IsMovedBy (λ t. P t × HoldsIn D t) e s → IsSound s.link s.volatile.tokens s.filter → D s.link.remote (items_now s) (book_now s)
      → D s.link.remote (items_now s) (with_seen (entry_seen e) (without_entry e.token (book_now s)))
  pub leaves : (token : Token) (r : Held) (items : List Item) (b : Book) → D r items b → D r items (without_entry token b)
  pub enters : (e : QueueEntry) (s : State) → EnteredIn s e × MovesThere s e × EntersThere s e → IsFair s.link → P s → D s.link.remote (items_now s) (book_now s) → D s.link.remote (items_now s) (with_entry e (book_now s))
  pub asked : (s : State) (q : Request) → IsFair s.link → IsSound s.link s.volatile.tokens s.filter → AskedIn s q → P s → LastsIn D s.link.remote s.filter.volume → LastsIn D (remote_step s.link.remote q).1 s.filter.volume

module _ (D : Fact) (P : State → Type 0) (lasting : LastingOver D P) where
  abbrev Both : State → Type 0
  Both s = P s × HoldsIn D s

  book_lasts : (l : Link) (v : Volume) (b : Book) → SameRecords v.book b → Lasts D l v → Lasts D l (record v { book = b })
  book_lasts l v b same h fair = (lasting.alike l.remote v.items v.book b same (h fair).0, (h fair).1)

  abbrev At : State → Filter → Type 0
  At s x = P (with_filter x s)

  begin_lasts : (l : Link) (n : Need) (x : Filter) → InFilter D l x → Keeps (InFilter D l) (reading (waiting_begun n) (begin_now n) x)
  begin_lasts l n x h = keeps_bind (InFilter D l) (tell (waiting_begun n x) (with_own n x)) (λ _ t. Ret (shown.Pending (own_id n x)) t) (tell_frame (Lasts D l) (book_lasts l) (waiting_begun n x) (with_own n x) h) (λ a t j. j)

  filter_lasts : (s : State) → GuardedFilter (Known Both s) s.link s.volatile.tokens (At s) → GuardedFilter (Known Both s) s.link s.volatile.tokens (λ x. At s x × InFilter D s.link x)
  filter_lasts s closed = record {
    sound = λ x h fair. closed.sound x h.0 fair;
    change = λ f c x keeps seen free fit known h. keeps_both (At s) (InFilter D s.link) (change_with f c x) (closed.change f c x keeps seen free fit known h.0) (changed f c x keeps seen fit known h);
    touch = λ f c item d x quiet keeps seen on fit known h. keeps_both (At s) (InFilter D s.link) (then_do (change_with f c) (then_do (settle item d) done) x) (closed.touch f c item d x quiet keeps seen on fit known h.0)
        (keeps_bind (InFilter D s.link) (change_with f c x) (λ _ t. then_do (settle item d) done t) (changed f c x keeps seen fit known h) (λ a t j. keeps_bind (InFilter D s.link) (settle item d t) (λ _ y. done y) (tell_frame (Lasts D s.link) (book_lasts s.link) (told_at item d t) t j) (λ b y m. m)));
    commits = record { keeps = λ x h. keeps_both (At s) (InFilter D s.link) (in_volume commit x) (closed.commits.keeps x h.0) (begun_lasts D s.link s.volatile.tokens x (closed.sound x h.0) h.1, λ fair. ((h.1 fair).0, (point_lasts D s.link.remote true x.volume (closed.sound x h.0 fair).of_log.0 (h.1 fair).0, tt))) };
    settled = λ item d x others h. keeps_both (At s) (InFilter D s.link) (settle item d x) (closed.settled item d x others h.0) (tell_frame (Lasts D s.link) (book_lasts s.link) (told_at item d x) x h.1);
    begins = λ n x plain fit unmet h. keeps_both (At s) (InFilter D s.link) (reading (waiting_begun n) (begin_now n) x) (closed.begins n x plain fit unmet h.0) (begin_lasts s.link n x h.1);
    downs = record { keeps = λ x h. keeps_both (At s) (InFilter D s.link) (reading all_down tell x) (closed.downs.keeps x h.0) (tell_frame (Lasts D s.link) (book_lasts s.link) (all_down x) x h.1) };
    keeps_accessed = λ item x h. (closed.keeps_accessed item x h.0, book_lasts s.link x.volume (with_access item x.volume.book) (record { cursor = refl; entries = refl; seen = refl; tombstones = refl }) h.1);
    keeps_accessed_now = λ n x h. (closed.keeps_accessed_now n x h.0, access_frame (Lasts D s.link) (book_lasts s.link) n.item (is_access n.kind cause.Met) x h.1);
    keeps_as_it_is = λ x h. (closed.keeps_as_it_is x h.0, h.1);
    keeps_begin_call = λ x h. (closed.keeps_begin_call x h.0, h.1);
    keeps_connected_again = λ x h. (closed.keeps_connected_again x h.0, h.1);
    keeps_with_handle = λ item x fit h. (closed.keeps_with_handle item x fit h.0, h.1);
    keeps_with_time = λ n x h. (closed.keeps_with_time n x h.0, book_lasts s.link x.volume (with_ticks n x.volume.book) (record { cursor = refl; entries = refl; seen = refl; tombstones = refl }) h.1);
    keeps_without_handle = λ handle x h. (closed.keeps_without_handle handle x h.0, h.1);
  }
    where
      changed : (f : Book → Book) (c : Change) (x : Filter) → KeepsEntries f → (IsFair s.link → KeepsSeenBy f c x) → (IsFair s.link → Fits s.link.remote x c) → (IsFair s.link → IsChangeBy (Known Both s) x f c) → At s x × InFilter D s.link x → Keeps (InFilter D s.link) (change_with f c x)
      changed f c x keeps seen fit known h = change_lasts D s.link s.volatile.tokens f c x (closed.sound x h.0) (λ fair. lasting.changes s f c x keeps (seen fair) (fit fair) fair (known fair) (closed.sound x h.0 fair) h.0 (h.1 fair).0) h.1

  -- records

  line_lasts : (b : Bool) (c : Code) (s : State) → HoldsIn D s → HoldsIn D (skip_line b c s)
  line_lasts true c s h = h
  line_lasts false c s h = h

  asked_lasts : (s : State) (q : Request) → (IsFair s.link → IsSound s.link s.volatile.tokens s.filter) → (IsFair s.link → AskedIn s q) → P s → HoldsIn D s → IsFair (record s.link { remote_asks = s.link.remote_asks + 1; remote = (remote_step s.link.remote q).1 }) → LastsIn D (remote_step s.link.remote q).1 s.filter.volume
  asked_lasts s q sound well h k fair = lasting.asked s q before (sound before) (well before) h (k before) where
    before : IsFair s.link
    before = (fair.0, small_before s.link.remote q fair.1)

  pub guarded_over : Guarded P → Guarded Both
  guarded_over closed = record {
    replay = λ s h. closed.replay s h.0;
    on_filter = λ s h. filter_lasts s (on_filter_weaker P Both (λ t k. k.0) s (At s) (closed.on_filter s h.0));
    keeps_counted = λ s h. (closed.keeps_counted s h.0, h.1);
    asked = λ q s well h. (closed.asked q s well h.0, asked_lasts s q ((closed.on_filter s h.0).sound s.filter h.0) well h.0 h.1);
    told = λ held s h. (closed.told held s h.0, λ fair. no_way fair.0);
    posts = λ f s other well now h. (closed.posts f s other well now h.0, h.1);
    loses = λ f s h. (closed.loses f s h.0, h.1);
    books = λ f s keeps placed known h. (closed.books f s keeps placed (λ fair. record_weaker P Both (λ t k. k.0) f s (known fair)) h.0, λ fair. (lasting.records f s keeps (placed fair) fair (known fair) ((closed.on_filter s h.0).sound s.filter h.0 fair) h.0 (h.1 fair).0, (h.1 fair).1));
    moved = λ e s is live known h. (closed.moved e s is live (λ fair. moved_weaker P Both (λ t k. k.0) e s (known fair)) h.0, λ fair. (lasting.sees e s is (live fair) fair (known fair) ((closed.on_filter s h.0).sound s.filter h.0 fair) (h.1 fair).0, (h.1 fair).1));
    leaves = λ token s h. (closed.leaves token s h.0, λ fair. (lasting.leaves token s.link.remote (items_now s) (book_now s) (h.1 fair).0, (h.1 fair).1));
    keeps_fault_line = λ m s h. (closed.keeps_fault_line m s h.0, h.1);
    keeps_showing = λ s h. (closed.keeps_showing s h.0, h.1);
    keeps_skipped = λ c s h. (closed.keeps_skipped c s h.0, line_lasts s.running.shows_skips c (record s { running = record s.running { skips = s.running.skips + 1 } }) h.1);
    keeps_volatile_all_released = λ s h. (closed.keeps_volatile_all_released s h.0, h.1);
    keeps_volatile_held_and_closed = λ e s h. (closed.keeps_volatile_held_and_closed e s h.0, h.1);
    keeps_volatile_not_in_row = λ e s h. (closed.keeps_volatile_not_in_row e s h.0, h.1);
    keeps_volatile_round_closed = λ s h. (closed.keeps_volatile_round_closed s h.0, h.1);
    keeps_volatile_taken_from_row = λ e s h. (closed.keeps_volatile_taken_from_row e s h.0, h.1);
    keeps_volatile_with_not_empty = λ n s h. (closed.keeps_volatile_with_not_empty n s h.0, h.1);
    keeps_volatile_with_round = λ s h. (closed.keeps_volatile_with_round s h.0, h.1);
    keeps_volatile_with_taken_name = λ item s h. (closed.keeps_volatile_with_taken_name item s h.0, h.1);
    keeps_volatile_with_token = λ s h. (closed.keeps_volatile_with_token s h.0, h.1);
    keeps_with_clock_seen = λ clock s h. (closed.keeps_with_clock_seen clock s h.0, h.1);
    keeps_with_done = λ s h. (closed.keeps_with_done s h.0, h.1);
    keeps_with_outbox = λ a rest s e h. (closed.keeps_with_outbox a rest s e h.0, h.1);
    keeps_with_stray = λ r s h. (closed.keeps_with_stray r s h.0, h.1);
    keeps_with_token_used = λ s h. (closed.keeps_with_token_used s h.0, h.1);
    keeps_without_done = λ s h. (closed.keeps_without_done s h.0, h.1);
  }

  -- runs

  pub unruled_over : Unruled P → ((s : State) → P s → Invariant s) → Unruled Both
  unruled_over rest sound = record {
    closed = guarded_over rest.closed;
    entering = record { uploads = record { enters = λ e s well h. (rest.entering.uploads.enters e s well h.0, λ fair. (lasting.enters e s (well fair) fair h.0 (h.1 fair).0, (h.1 fair).1)) }; feeds = λ f s well now h. (rest.entering.feeds f s well now h.0, h.1) };
    deleting = record {
      deletes = λ f item s keeps seen cursor idle leaf h. keeps_both (λ x. P (with_filter x s)) (InFilter D s.link) (change_with f (change.Remove item) s.filter) (rest.deleting.deletes f item s keeps seen cursor idle leaf h.0)
          (change_lasts D s.link s.volatile.tokens f (change.Remove item) s.filter (sound s h.0).1 (λ fair. lasting.removes s f item keeps seen cursor (leaf fair).1 fair ((sound s h.0).1 fair) h.0 (h.1 fair).0) h.1);
    };
    commanding = record {
      waits = λ s n x fit unmet h. keeps_both (At s) (InFilter D s.link) (reading (waiting_begun n) (begin_now n) x) (rest.commanding.waits s n x fit unmet h.0) (begin_lasts s.link n x h.1);
      disconnects = λ s h. (rest.commanding.disconnects s h.0, h.1);
      inlines = λ inline s h. (rest.commanding.inlines inline s h.0, h.1);
    };
    begins = λ s h. (rest.begins s h.0, h.1);
    breaks = λ s h. (rest.breaks s h.0, h.1);
    crashes = λ s h. (rest.crashes s h.0, h.1);
    fails = λ s h. (rest.fails s h.0, h.1);
    opens = λ p skipped s is h. (rest.opens p skipped s is h.0, opened_lasts D p skipped s is h.1);
  }

  pub whole_over : Whole P → ((s : State) → P s → Invariant s) → Whole Both
  whole_over whole sound = with_ruling Both (unruled_over (unruled P whole) sound) (record { rules = λ p s v h. (whole.ruling.rules p s v h.0, h.1) })

-- what lasts needs no more
module _ (D : Fact) (lasting : Lasting D) where
  over_any : (P : State → Type 0) → LastingOver D P
  over_any P = record {
    changes = λ s f c x keeps seen fit fair known sound h k. lasting.changes s.link s.volatile.tokens f c x keeps seen fit fair sound k;
    removes = λ s f item keeps seen cursor buries fair sound h k. lasting.removes s.link s.volatile.tokens f item s.filter keeps seen cursor fair sound k;
    alike = lasting.alike;
    records = λ f s keeps placed fair known sound h k. lasting.records f s keeps placed k;
    sees = λ e s is live fair known sound k. lasting.sees e s is live sound k;
    leaves = lasting.leaves;
    enters = λ e s well fair h k. lasting.enters e s well k;
    asked = λ s q fair sound well h k. (
      lasting.grows s.link.remote q (items_now s) (book_now s) sound.counted k.0,
      all_weaker (AtPoint D s.link.remote s.filter.volume.log) (AtPoint D (remote_step s.link.remote q).1 s.filter.volume.log)
          (λ p j. (j.0, lasting.grows s.link.remote q (items_of (take p.count s.filter.volume.log)) p.book sound.counted j.1)) s.filter.volume.points k.1,
    );
  }

  pub whole_lasting : (P : State → Type 0) → Whole P → ((s : State) → P s → Invariant s) → Whole (λ s. P s × HoldsIn D s)
  whole_lasting P whole sound = whole_over D P (over_any P) whole sound

-- in a new volume
pub start_lasts : (D : Fact) (remote : Held) (clusters : ℕ) → D remote (root ∷ []) no_book → HoldsIn D (start mode.Replay remote clusters)
start_lasts D remote clusters first fair = (first, ((no_more 0, first), tt))

-- so it is in each state of a run from a remote in which it holds of a new volume
pub run_lasts : (D : Fact) → Lasting D → (remote : Held) (clusters : ℕ) (trace : List (Event × Answer)) (s : State) → Runs mode.Replay (start mode.Replay remote clusters) trace s → IsFresh remote → D remote (root ∷ []) no_book → HoldsIn D s
run_lasts D lasting remote clusters trace s runs fresh first =
    (runs_keep (λ t. Invariant t × HoldsIn D t) (whole_lasting D lasting Invariant sound_whole (λ t h. h)) (start mode.Replay remote clusters) trace s runs (start_sound remote clusters fresh, start_lasts D remote clusters first)).1
