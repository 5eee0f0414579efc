-- What the machine keeps of a volume, beside the link and the round, in `replay`.
use Rattle.std.proofs.Common.{◌≡◌, ◌⊎◌, ◌+◌, ℕ, Bool, true, false, [], ◌∷◌, ◌++◌, refl, sym, subst}
use Rattle.std.specs.Prelude.{Option, None, Some}
use Rattle.cf_base.specs.declared.answers.Shown.TheVariants as shown
use Rattle.cf_base.specs.declared.changes.Change.{Change}
use Rattle.cf_base.specs.declared.changes.Change.TheVariants as change
use Rattle.cf_base.specs.declared.codes.Code.{Code}
use Rattle.cf_base.specs.declared.ids.ItemId.{ItemId}
use Rattle.cf_base.specs.declared.ids.Token.{Token}
use Rattle.cf_base.specs.declared.messages.Request.{Request}
use Rattle.cf_base.specs.declared.notices.Frame.{Frame}
use Rattle.cf_base.specs.declared.waits.Cause.TheVariants as cause
use Rattle.cf_model.specs.Arrows.{reading, then_do}
use Rattle.cf_model.specs.Books.{Book, MoveItem, QueueEntry, with_access, with_entry, with_seen, with_ticks, without_entry}
use Rattle.cf_model.specs.Changes.{change_with, put_with_book}
use Rattle.cf_model.specs.Operations.{done}
use Rattle.cf_model.specs.Points.{Opens, commit, with_point_begun, with_room_point, with_sure_point}
use Rattle.cf_model.specs.PushReplies.{entry_seen, held_and_closed, not_in_row, round_closed, taken_from_row}
use Rattle.cf_model.specs.Restarts.{epoch_after, with_opened}
use Rattle.cf_model.specs.Settling.{is_access, settle, tell, told_at}
use Rattle.cf_model.specs.Skips.{skip_line}
use Rattle.cf_model.specs.State.{Filter, Link, Point, State, Volume, book_now, in_volume, with_filter}
use Rattle.cf_model.specs.Store.{remote_step}
use Rattle.cf_model.specs.Trees.{Keeps, Ret}
use Rattle.cf_model.specs.Waits.{Need, all_down, begin_now, begun as waiting_begun, own_id, with_own}
use Rattle.cf_model.proofs.TreeLaws.{keeps_bind}
use Rattle.cf_model_laws.specs.Fitting.{Fits, IsLeaf}
use Rattle.cf_model_laws.specs.Invariant.{Invariant, IsSound}
use Rattle.cf_model_laws.specs.Premises.{IsFair}
use Rattle.cf_model_laws.specs.Taken.{IsChangeBy, Known}
use Rattle.cf_model_laws.proofs.EventsGuarded.{Unruled, Whole, unruled, with_ruling}
use Rattle.cf_model_laws.proofs.FramesGuarded.{SameRecords, access_frame, tell_frame}
use Rattle.cf_model_laws.proofs.Guarded.{AskedIn, Buries, EnteredIn, EntersThere, Guarded, GuardedFilter, IsRecordBy, KeepsCursor, KeepsSeenBy, MovesThere, PostedNow}
use Rattle.cf_model_laws.proofs.Leading.{kept_leads}
use Rattle.cf_model_laws.proofs.RightItems.{no_way}
use Rattle.cf_model_laws.proofs.SinceKept.{moved_weaker, on_filter_weaker, record_weaker}
use Rattle.cf_model_laws.proofs.SkipsGuarded.{keeps_both}
use Rattle.cf_model_laws.proofs.SoundChanges.{KeepsEntries}
use Rattle.cf_model_laws.proofs.SoundFilters.{change_leads}
use Rattle.cf_model_agreement.proofs.TruthGuarded.{back_same, row_same}

-- of a link, the number of rounds, whether the latest is open, and a volume
abbrev pub OfVolume : Type 1
OfVolume = Link → ℕ → Bool → Volume → Type 0

abbrev pub Within : OfVolume → State → Volume → Type 0
Within V s v = V s.link s.volatile.rounds s.volatile.round_open v

abbrev pub InVolume : OfVolume → State → Type 0
InVolume V s = Within V s s.filter.volume

-- the volume, or with a point for want of room
abbrev pub IsRoomOf : Volume → Volume → Type 0
IsRoomOf w v = (v ≡ w) ⊎ (v ≡ with_room_point w)

-- what keeps it, where more is known
pub record OverVolumes (V : OfVolume) (P : State → Type 0) : Type 0 where
  pub changes : (s : State) (f : Book → Book) (c : Change) (x : Filter) (v : Volume) → IsRoomOf x.volume v → KeepsEntries f → (IsFair s.link → KeepsSeenBy f c x) → (IsFair s.link → Fits s.link.remote x c) → (IsFair s.link → IsChangeBy (Known (λ t. P t × InVolume V t) s) x f c) → (IsFair s.link → IsSound s.link s.volatile.tokens x) → P (with_filter x s)
      → Within V s x.volume → Within V s (put_with_book f c v)
  pub begins : (s : State) (x : Filter) → (IsFair s.link → IsSound s.link s.volatile.tokens x) → Within V s x.volume → Within V s (with_point_begun x.volume)
  pub sures : (s : State) (x : Filter) → (IsFair s.link → IsSound s.link s.volatile.tokens x) → Within V s x.volume → Within V s (with_sure_point x.volume)
  pub rooms : (s : State) (x : Filter) → (IsFair s.link → IsSound s.link s.volatile.tokens x) → Within V s x.volume → Within V s (with_room_point x.volume)
  pub removes : (s : State) (f : Book → Book) (item : ItemId) (v : Volume) → IsRoomOf s.filter.volume v → KeepsEntries f → ((b : Book) → (f b).seen ≡ b.seen) → KeepsCursor f → (IsFair s.link → IsLeaf s.filter.volume.items item × Buries f item s.filter) → P s → InVolume V s → Within V s (put_with_book f (change.Remove item) v)
  pub alike : (s : State) (v : Volume) (b : Book) → SameRecords v.book b → Within V s v → Within V s (record v { book = b })
  pub records : (f : Book → Book) (s : State) → KeepsEntries f → (IsFair s.link → IsRecordBy (λ t. P t × InVolume V t) f s) → P s → InVolume V s → Within V s (record s.filter.volume { book = f (book_now s) })
  pub sees : (e : QueueEntry) (s : State) → e.action ≡ MoveItem → P s → InVolume V s → V s.link s.volatile.rounds false (record s.filter.volume { book = with_seen (entry_seen e) (without_entry e.token (book_now s)) })
  pub leaves : (token : Token) (s : State) → P s → InVolume V s → Within V s (record s.filter.volume { book = without_entry token (book_now s) })
  pub enters : (e : QueueEntry) (s : State) → (IsFair s.link → EnteredIn s e × MovesThere s e × EntersThere s e) → P s → InVolume V s → Within V s (record s.filter.volume { book = with_entry e (book_now s) })
  pub asked : (s : State) (q : Request) → (IsFair s.link → AskedIn s q) → P s → InVolume V s → V (record s.link { remote_asks = s.link.remote_asks + 1; remote = (remote_step s.link.remote q).1 }) s.volatile.rounds s.volatile.round_open s.filter.volume
  pub told : (l : Link) (n : ℕ) (o : Bool) (v : Volume) → (IsFair l → ⊥) → V l n o v
  pub posts : (f : Option Frame) (s : State) (kept : ℕ) → (IsFair s.link → PostedNow s f) → P s → InVolume V s → V (record s.link { messages = s.link.messages ++ f ∷ []; kept_bytes = kept }) s.volatile.rounds s.volatile.round_open s.filter.volume
  pub counts : (l : Link) (n : ℕ) (o : Bool) (v : Volume) (asks : ℕ) → V l n o v → V (record l { remote_asks = asks }) n o v
  pub inlines : (l : Link) (n : ℕ) (o : Bool) (v : Volume) (inline : Bool) → V l n o v → V (record l { inline = inline }) n o v
  pub shuts : (l : Link) (n : ℕ) (o : Bool) (v : Volume) → V l n o v → V l n false v
  pub draws : (s : State) → P s → InVolume V s → V s.link (s.volatile.rounds + 1) true s.filter.volume
  pub opens : (p : Point) (skipped : ℕ) (s : State) → Opens s.filter.volume.points p → P s → InVolume V s → InVolume V (with_opened p (epoch_after skipped s) s)

module _ (V : OfVolume) (P : State → Type 0) (over : OverVolumes V P) where
  abbrev Both : State → Type 0
  Both s = P s × InVolume V s

  abbrev At : State → Filter → Type 0
  At s x = P (with_filter x s)

  abbrev In : State → Filter → Type 0
  In s x = Within V s x.volume

  leads : (s : State) (f : Book → Book) (c : Change) (x : Filter) → (IsFair s.link → IsSound s.link s.volatile.tokens x) → ((v : Volume) → IsRoomOf x.volume v → In s x → Within V s (put_with_book f c v)) → In s x → Keeps (In s) (change_with f c x)
  leads s f c x sound after h = kept_leads (In s) (change_with f c x) (change_leads (In s) (In s) f c x h (over.begins s x sound h) (over.rooms s x sound h) (λ v is. after v is h))

  begin_kept : (s : State) (n : Need) (x : Filter) → In s x → Keeps (In s) (reading (waiting_begun n) (begin_now n) x)
  begin_kept s n x h = keeps_bind (In s) (tell (waiting_begun n x) (with_own n x)) (λ _ t. Ret (shown.Pending (own_id n x)) t) (tell_frame (Within V s) (over.alike s) (waiting_begun n x) (with_own n x) h) (λ a t j. j)

  filter_kept : (s : State) → GuardedFilter (Known Both s) s.link s.volatile.tokens (At s) → GuardedFilter (Known Both s) s.link s.volatile.tokens (λ x. At s x × In s x)
  filter_kept s closed = record {
    sound = λ x h fair. closed.sound x h.0 fair;
    change = λ f c x keeps seen free fit known h. keeps_both (At s) (In s) (change_with f c x) (closed.change f c x keeps seen free fit known h.0) (changed f c x keeps seen fit known h);
    touch = λ f c item d x quiet keeps seen on fit known h. keeps_both (At s) (In s) (then_do (change_with f c) (then_do (settle item d) done) x) (closed.touch f c item d x quiet keeps seen on fit known h.0)
        (keeps_bind (In s) (change_with f c x) (λ _ t. then_do (settle item d) done t) (changed f c x keeps seen fit known h) (λ a t j. keeps_bind (In s) (settle item d t) (λ _ y. done y) (tell_frame (Within V s) (over.alike s) (told_at item d t) t j) (λ b y m. m)));
    commits = record { keeps = λ x h. keeps_both (At s) (In s) (in_volume commit x) (closed.commits.keeps x h.0) (over.begins s x (closed.sound x h.0) h.1, over.sures s x (closed.sound x h.0) h.1) };
    settled = λ item d x others h. keeps_both (At s) (In s) (settle item d x) (closed.settled item d x others h.0) (tell_frame (Within V s) (over.alike s) (told_at item d x) x h.1);
    begins = λ n x plain fit unmet h. keeps_both (At s) (In s) (reading (waiting_begun n) (begin_now n) x) (closed.begins n x plain fit unmet h.0) (begin_kept s n x h.1);
    downs = record { keeps = λ x h. keeps_both (At s) (In s) (reading all_down tell x) (closed.downs.keeps x h.0) (tell_frame (Within V s) (over.alike s) (all_down x) x h.1) };
    keeps_accessed = λ item x h. (closed.keeps_accessed item x h.0, over.alike s x.volume (with_access item x.volume.book) (record { cursor = refl; entries = refl; seen = refl; tombstones = refl }) h.1);
    keeps_accessed_now = λ n x h. (closed.keeps_accessed_now n x h.0, access_frame (Within V s) (over.alike s) n.item (is_access n.kind cause.Met) x h.1);
    keeps_as_it_is = λ x h. (closed.keeps_as_it_is x h.0, h.1);
    keeps_begin_call = λ x h. (closed.keeps_begin_call x h.0, h.1);
    keeps_connected_again = λ x h. (closed.keeps_connected_again x h.0, h.1);
    keeps_with_handle = λ item x fit h. (closed.keeps_with_handle item x fit h.0, h.1);
    keeps_with_time = λ n x h. (closed.keeps_with_time n x h.0, over.alike s x.volume (with_ticks n x.volume.book) (record { cursor = refl; entries = refl; seen = refl; tombstones = refl }) h.1);
    keeps_without_handle = λ handle x h. (closed.keeps_without_handle handle x h.0, h.1);
  }
    where
      changed : (f : Book → Book) (c : Change) (x : Filter) → KeepsEntries f → (IsFair s.link → KeepsSeenBy f c x) → (IsFair s.link → Fits s.link.remote x c) → (IsFair s.link → IsChangeBy (Known Both s) x f c) → At s x × In s x → Keeps (In s) (change_with f c x)
      changed f c x keeps seen fit known h = leads s f c x (closed.sound x h.0) (λ v is k. over.changes s f c x v is keeps seen fit known (closed.sound x h.0) h.0 k) h.1

  line_kept : (b : Bool) (c : Code) (s : State) → InVolume V s → InVolume V (skip_line b c s)
  line_kept true c s h = h
  line_kept false c s h = h

  -- with other rounds
  same_round : (l : Link) (n m : ℕ) (o p : Bool) (v : Volume) → m ≡ n → p ≡ o → V l n o v → V l m p v
  same_round l n m o p v a b h = subst (λ (k : ℕ). V l k p v) (sym a) (subst (λ (k : Bool). V l n k v) (sym b) h)

  pub guarded_volumes : Guarded P → Guarded Both
  guarded_volumes closed = record {
    replay = λ s h. closed.replay s h.0;
    on_filter = λ s h. filter_kept s (on_filter_weaker P Both (λ t k. k.0) s (At s) (closed.on_filter s h.0));
    keeps_counted = λ s h. (closed.keeps_counted s h.0, over.counts s.link s.volatile.rounds s.volatile.round_open s.filter.volume (s.link.remote_asks + 1) h.1);
    asked = λ q s well h. (closed.asked q s well h.0, over.asked s q well h.0 h.1);
    told = λ held s h. (closed.told held s h.0, over.told _ s.volatile.rounds s.volatile.round_open s.filter.volume (λ fair. no_way fair.0));
    posts = λ f s other well now h. (closed.posts f s other well now h.0, over.posts (Some f) s _ now h.0 h.1);
    loses = λ f s h. (closed.loses f s h.0, over.posts None s s.link.kept_bytes (λ fair. tt) h.0 h.1);
    books = λ f s keeps placed known h. (closed.books f s keeps placed (λ fair. record_weaker P Both (λ t k. k.0) f s (known fair)) h.0, over.records f s keeps known h.0 h.1);
    moved = λ e s is live known h. (
      closed.moved e s is live (λ fair. moved_weaker P Both (λ t k. k.0) e s (known fair)) h.0,
      same_round s.link s.volatile.rounds (taken_from_row e s.volatile).rounds false (taken_from_row e s.volatile).round_open (record s.filter.volume { book = with_seen (entry_seen e) (without_entry e.token (book_now s)) }) (row_same e (round_closed s.volatile)).0 (row_same e (round_closed s.volatile)).1 (over.sees e s is h.0 h.1),
    );
    leaves = λ token s h. (closed.leaves token s h.0, over.leaves token s h.0 h.1);
    keeps_fault_line = λ m s h. (closed.keeps_fault_line m s h.0, h.1);
    keeps_showing = λ s h. (closed.keeps_showing s h.0, h.1);
    keeps_skipped = λ c s h. (closed.keeps_skipped c s h.0, line_kept s.running.shows_skips c (record s { running = record s.running { skips = s.running.skips + 1 } }) h.1);
    keeps_volatile_all_released = λ s h. (closed.keeps_volatile_all_released s h.0, h.1);
    keeps_volatile_held_and_closed = λ e s h. (
      closed.keeps_volatile_held_and_closed e s h.0,
      same_round s.link s.volatile.rounds (held_and_closed e s.volatile).rounds false (held_and_closed e s.volatile).round_open s.filter.volume (back_same e (round_closed s.volatile)).0 (back_same e (round_closed s.volatile)).1 (over.shuts s.link s.volatile.rounds s.volatile.round_open s.filter.volume h.1),
    );
    keeps_volatile_not_in_row = λ e s h. (
      closed.keeps_volatile_not_in_row e s h.0,
      same_round s.link s.volatile.rounds (not_in_row e s.volatile).rounds s.volatile.round_open (not_in_row e s.volatile).round_open s.filter.volume (row_same e s.volatile).0 (row_same e s.volatile).1 h.1,
    );
    keeps_volatile_round_closed = λ s h. (closed.keeps_volatile_round_closed s h.0, over.shuts s.link s.volatile.rounds s.volatile.round_open s.filter.volume h.1);
    keeps_volatile_taken_from_row = λ e s h. (
      closed.keeps_volatile_taken_from_row e s h.0,
      same_round s.link s.volatile.rounds (taken_from_row e s.volatile).rounds false (taken_from_row e s.volatile).round_open s.filter.volume (row_same e (round_closed s.volatile)).0 (row_same e (round_closed s.volatile)).1 (over.shuts s.link s.volatile.rounds s.volatile.round_open s.filter.volume h.1),
    );
    keeps_volatile_with_not_empty = λ n s h. (closed.keeps_volatile_with_not_empty n s h.0, h.1);
    keeps_volatile_with_round = λ s h. (closed.keeps_volatile_with_round s h.0, over.draws s h.0 h.1);
    keeps_volatile_with_taken_name = λ item s h. (closed.keeps_volatile_with_taken_name item s h.0, h.1);
    keeps_volatile_with_token = λ s h. (closed.keeps_volatile_with_token s h.0, h.1);
    keeps_with_clock_seen = λ clock s h. (closed.keeps_with_clock_seen clock s h.0, h.1);
    keeps_with_done = λ s h. (closed.keeps_with_done s h.0, h.1);
    keeps_with_outbox = λ a rest s e h. (closed.keeps_with_outbox a rest s e h.0, h.1);
    keeps_with_stray = λ r s h. (closed.keeps_with_stray r s h.0, h.1);
    keeps_with_token_used = λ s h. (closed.keeps_with_token_used s h.0, h.1);
    keeps_without_done = λ s h. (closed.keeps_without_done s h.0, h.1);
  }

  pub unruled_volumes : Unruled P → ((s : State) → P s → Invariant s) → Unruled Both
  unruled_volumes rest sound = record {
    closed = guarded_volumes rest.closed;
    entering = record {
      uploads = record { enters = λ e s well h. (rest.entering.uploads.enters e s well h.0, over.enters e s well h.0 h.1) };
      feeds = λ f s well now h. (rest.entering.feeds f s well now h.0, over.posts (Some f) s _ now h.0 h.1);
    };
    deleting = record {
      deletes = λ f item s keeps seen cursor idle leaf h. keeps_both (At s) (In s) (change_with f (change.Remove item) s.filter) (rest.deleting.deletes f item s keeps seen cursor idle leaf h.0)
          (leads s f (change.Remove item) s.filter (sound s h.0).1 (λ v is k. over.removes s f item v is keeps seen cursor leaf h.0 k) h.1);
    };
    commanding = record {
      waits = λ s n x fit unmet h. keeps_both (At s) (In s) (reading (waiting_begun n) (begin_now n) x) (rest.commanding.waits s n x fit unmet h.0) (begin_kept s n x h.1);
      disconnects = λ s h. (rest.commanding.disconnects s h.0, h.1);
      inlines = λ inline s h. (rest.commanding.inlines inline s h.0, over.inlines s.link s.volatile.rounds s.volatile.round_open s.filter.volume inline h.1);
    };
    begins = λ s h. (rest.begins s h.0, h.1);
    breaks = λ s h. (rest.breaks s h.0, h.1);
    crashes = λ s h. (rest.crashes s h.0, h.1);
    fails = λ s h. (rest.fails s h.0, h.1);
    opens = λ p skipped s is h. (rest.opens p skipped s is h.0, over.opens p skipped s is h.0 h.1);
  }

  pub whole_volumes : Whole P → ((s : State) → P s → Invariant s) → Whole Both
  whole_volumes whole sound = with_ruling Both (unruled_volumes (unruled P whole) sound) (record { rules = λ p s v h. (whole.ruling.rules p s v h.0, h.1) })
