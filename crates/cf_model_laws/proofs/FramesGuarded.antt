-- Frames that the machine keeps within an event: what kind an item is while no upload of it is on its way, and that tokens
-- were given.
use Rattle.std.proofs.Common.{◌≡◌, ◌⊎◌, ◌<◌, ◌≤◌, ◌+◌, ℕ, Bool, true, false, List, ◌∷◌, refl, sym, ◌∙◌, subst, inl, inr, max, arith, if◌then◌else◌}
use Rattle.std.specs.Prelude.{cond, not}
use Rattle.cf_base.specs.declared.answers.Shown.TheVariants as shown
use Rattle.cf_base.specs.declared.changes.Change.{Change}
use Rattle.cf_base.specs.declared.codes.Code.{Code}
use Rattle.cf_base.specs.declared.ids.ItemId.{ItemId}
use Rattle.cf_base.specs.declared.ids.Token.{Token}
use Rattle.cf_base.specs.declared.ids.WaitId.{WaitId}
use Rattle.cf_base.specs.declared.waits.Cause.TheVariants as cause
use Rattle.cf_base.specs.declared.waits.End.{End}
use Rattle.cf_model.specs.Arrows.{each, noted, reading, then_do}
use Rattle.cf_model.specs.Books.{Book, QueueEntry, book_after, without_entry}
use Rattle.cf_model.specs.Changes.{change_with, put_with_book}
use Rattle.cf_model.specs.Logs.{next_by}
use Rattle.cf_model.specs.Numbers.{same_key}
use Rattle.cf_model.specs.Operations.{done}
use Rattle.cf_model.specs.Points.{commit, with_room_point}
use Rattle.cf_model.specs.PushReplies.{held_back, is_removal, not_in_row, round_closed, without_item, without_number}
use Rattle.cf_model.specs.Requests.{Told, Waiting}
use Rattle.cf_model.specs.Settling.{accessed, end_of, end_wait, is_access, is_own, settle, tell, tell_end, told_at, with_asks_told, with_ended, with_waiting}
use Rattle.cf_model.specs.Skips.{skip_line, with_book}
use Rattle.cf_model.specs.Soundness.{Each}
use Rattle.cf_model.specs.State.{Filter, Link, State, Volatile, Volume, in_volume, with_filter}
use Rattle.cf_model.specs.Trees.{Keeps, Ret}
use Rattle.cf_model.specs.Waits.{all_down, begin_now, begun, own_id, with_own}
use Rattle.cf_model.proofs.ArrowLaws.{keeps_each, keeps_one, keeps_then}
use Rattle.cf_model.proofs.TreeLaws.{keeps_bind}
use Rattle.cf_model_laws.specs.Fitting.{Fits, NoEntry}
use Rattle.cf_model_laws.specs.GivenOnce.{WasGiven}
use Rattle.cf_model_laws.specs.Invariant.{All}
use Rattle.cf_model_laws.specs.Premises.{IsFair}
use Rattle.cf_model_laws.proofs.FitEntries.{kind_stays}
use Rattle.cf_model_laws.proofs.Gathered.{all_filter, all_weaker}
use Rattle.cf_model_laws.proofs.Guarded.{Guarded, GuardedFilter}
use Rattle.cf_model_laws.proofs.Leading.{kept_leads}
use Rattle.cf_model_laws.proofs.OnceLaws.{later}
use Rattle.cf_model_laws.proofs.RightItems.{fits_meets, no_way}
use Rattle.cf_model_laws.proofs.SkipsGuarded.{keeps_both}
use Rattle.cf_model_laws.proofs.SoundChanges.{KeepsEntries, same_entries}
use Rattle.cf_model_laws.proofs.SoundFilters.{change_leads}
use Rattle.cf_model_laws.proofs.SoundStates.{small_before}
use Rattle.cf_model_laws.specs.Taken.{Knowledge}
use Rattle.cf_model_laws.proofs.SinceKept.{moved_weaker, on_filter_weaker, record_weaker}

-- the items of an id are of a kind, and no upload of it is on its way; and these tokens were given; all where the remote
-- kept its rules
abbrev pub Frame : Type 0 → ItemId → (Bool → Bool → Type 0) → List QueueEntry → Link → ℕ → Volume → Type 0
Frame Used id R es l tokens v =
    (Used → IsFair l → (id.0 < v.next_item.0) × Each id (λ i. R i.directory i.placeholder) v.items × NoEntry v.book.entries id)
    × (IsFair l → All (λ e. WasGiven v.epoch tokens e.token.0) es)

more_items : (a b c : ℕ) → a < b → a < max b c
more_items a b c h = omega (arith, h)

frame_put : (Used : Type 0) (id : ItemId) (R : Bool → Bool → Type 0) → ((d p : Bool) → R d p → R d true) → (es : List QueueEntry) (l : Link) (tokens : ℕ) (f : Book → Book) (c : Change) (x : Filter) (v : Volume) → (v ≡ x.volume) ⊎ (v ≡ with_room_point x.volume) → KeepsEntries f
    → (IsFair l → Fits l.remote x c) → Frame Used id R es l tokens x.volume → Frame Used id R es l tokens (put_with_book f c v)
frame_put Used id R k es l tokens f c x v is keeps fit h = by is where
  now : Frame Used id R es l tokens (put_with_book f c x.volume)
  now = (
    λ u fair. let g = h.0 u fair in (
      more_items id.0 x.volume.next_item.0 (next_by c) g.0,
      kind_stays l.remote x c _ id x.volume.next_item.0 refl g.0 R k (fits_meets l.remote x c (fit fair)) g.1,
      subst (λ (qs : List QueueEntry). NoEntry qs id) (sym (keeps (book_after c x.volume.book) ∙ same_entries c x.volume.book)) g.2,
    ),
    h.1,
  )

  by : (v ≡ x.volume) ⊎ (v ≡ with_room_point x.volume) → Frame Used id R es l tokens (put_with_book f c v)
  by (inl e) = subst (λ (w : Volume). Frame Used id R es l tokens (put_with_book f c w)) (sym e) now
  by (inr e) = subst (λ (w : Volume). Frame Used id R es l tokens (put_with_book f c w)) (sym e) now

abbrev InFilter : Type 0 → ItemId → (Bool → Bool → Type 0) → List QueueEntry → Link → ℕ → Filter → Type 0
InFilter Used id R es l tokens x = Frame Used id R es l tokens x.volume

frame_change : (Used : Type 0) (id : ItemId) (R : Bool → Bool → Type 0) → ((d p : Bool) → R d p → R d true) → (es : List QueueEntry) (l : Link) (tokens : ℕ) (f : Book → Book) (c : Change) (x : Filter) → KeepsEntries f → (IsFair l → Fits l.remote x c) → InFilter Used id R es l tokens x
    → Keeps (InFilter Used id R es l tokens) (change_with f c x)
frame_change Used id R k es l tokens f c x keeps fit h =
    kept_leads (InFilter Used id R es l tokens) (change_with f c x)
    (change_leads (InFilter Used id R es l tokens) (InFilter Used id R es l tokens) f c x h h h (λ v is. frame_put Used id R k es l tokens f c x v is keeps fit h))

tell_end_frame : (F : Volume → Type 0) (i : WaitId) (e : End) (own : Bool) (x : Filter) → F x.volume → F (tell_end i e own x).volume
tell_end_frame F i e true x h = h
tell_end_frame F i e false x h = h

-- the second book has the records of the first, and perhaps another clock, other anchors and accesses
pub record SameRecords (b d : Book) : Type 0 where
  pub cursor : d.cursor ≡ b.cursor
  pub entries : d.entries ≡ b.entries
  pub seen : d.seen ≡ b.seen
  pub tombstones : d.tombstones ≡ b.tombstones

pub access_frame : (F : Volume → Type 0) → ((v : Volume) (b : Book) → SameRecords v.book b → F v → F (record v { book = b })) → (item : ItemId) (is : Bool) (x : Filter) → F x.volume → F (if is then accessed item x else x).volume
access_frame F k item true x h = k x.volume _ (record { cursor = refl; entries = refl; seen = refl; tombstones = refl }) h
access_frame F k item false x h = h

pub tell_frame : (F : Volume → Type 0) → ((v : Volume) (b : Book) → SameRecords v.book b → F v → F (record v { book = b })) → (r : Told × Waiting) (x : Filter) → F x.volume → Keeps (λ y. F y.volume) (tell r x)
tell_frame F k r x h =
    (keeps_then (λ y. F y.volume) (each end_wait r.0.ended) (noted (with_asks_told r.0))
    (keeps_each (λ y. F y.volume) end_wait r.0.ended (λ e. keeps_one (λ y. F y.volume) (with_ended e) (λ y j. access_frame F k e.0.item (is_access e.0.kind e.1) (tell_end e.0.id (end_of y.volume.items e.0 e.1) (is_own e.0.id y) y) (tell_end_frame F e.0.id (end_of y.volume.items e.0 e.1) (is_own e.0.id y) y j))))
    (record { keeps = λ y j. j })).keeps (with_waiting r.1 x) h

frame_book : (Used : Type 0) (id : ItemId) (R : Bool → Bool → Type 0) (es : List QueueEntry) (l : Link) (tokens : ℕ) (v : Volume) (b : Book) → b.entries ≡ v.book.entries → Frame Used id R es l tokens v → Frame Used id R es l tokens (record v { book = b })
frame_book Used id R es l tokens v b e h = (λ u fair. let g = h.0 u fair in (g.0, g.1, subst (λ (qs : List QueueEntry). NoEntry qs id) (sym e) g.2), h.1)

told_frame : (Used : Type 0) (id : ItemId) (R : Bool → Bool → Type 0) (es : List QueueEntry) (l : Link) (tokens : ℕ) (v : Volume) (b : Book) → SameRecords v.book b → Frame Used id R es l tokens v → Frame Used id R es l tokens (record v { book = b })
told_frame Used id R es l tokens v b same h = frame_book Used id R es l tokens v b same.entries h

filter_framed : (Used : Type 0) (id : ItemId) (R : Bool → Bool → Type 0) → ((d p : Bool) → R d p → R d true) → (es : List QueueEntry) {On : Knowledge} (l : Link) (tokens : ℕ) (P : Filter → Type 0) → GuardedFilter On l tokens P → GuardedFilter On l tokens (λ x. P x × InFilter Used id R es l tokens x)
filter_framed Used id R k es l tokens P closed = record {
  sound = λ x h fair. closed.sound x h.0 fair;
  change = λ f c x keeps seen free fit known h. keeps_both P (InFilter Used id R es l tokens) (change_with f c x) (closed.change f c x keeps seen free fit known h.0) (frame_change Used id R k es l tokens f c x keeps fit h.1);
  touch = λ f c item d x quiet keeps seen on fit known h. keeps_both P (InFilter Used id R es l tokens) (then_do (change_with f c) (then_do (settle item d) done) x) (closed.touch f c item d x quiet keeps seen on fit known h.0)
      (keeps_bind (InFilter Used id R es l tokens) (change_with f c x) (λ _ t. then_do (settle item d) done t) (frame_change Used id R k es l tokens f c x keeps fit h.1) (λ a t j. keeps_bind (InFilter Used id R es l tokens) (settle item d t) (λ _ y. done y) (tell_frame (Frame Used id R es l tokens) (told_frame Used id R es l tokens) (told_at item d t) t j) (λ b y m. m)));
  commits = record { keeps = λ x h. keeps_both P (InFilter Used id R es l tokens) (in_volume commit x) (closed.commits.keeps x h.0) (h.1, h.1) };
  settled = λ item d x others h. keeps_both P (InFilter Used id R es l tokens) (settle item d x) (closed.settled item d x others h.0) (tell_frame (Frame Used id R es l tokens) (told_frame Used id R es l tokens) (told_at item d x) x h.1);
  begins = λ n x plain fit unmet h. keeps_both P (InFilter Used id R es l tokens) (reading (begun n) (begin_now n) x) (closed.begins n x plain fit unmet h.0) (keeps_bind (InFilter Used id R es l tokens) (tell (begun n x) (with_own n x)) (λ _ t. Ret (shown.Pending (own_id n x)) t) (tell_frame (Frame Used id R es l tokens) (told_frame Used id R es l tokens) (begun n x) (with_own n x) h.1) (λ a t j. j));
  downs = record { keeps = λ x h. keeps_both P (InFilter Used id R es l tokens) (reading all_down tell x) (closed.downs.keeps x h.0) (tell_frame (Frame Used id R es l tokens) (told_frame Used id R es l tokens) (all_down x) x h.1) };
  keeps_accessed = λ item x h. (closed.keeps_accessed item x h.0, h.1);
  keeps_accessed_now = λ n x h. (closed.keeps_accessed_now n x h.0, access_frame (Frame Used id R es l tokens) (told_frame Used id R es l tokens) n.item (is_access n.kind cause.Met) x h.1);
  keeps_as_it_is = λ x h. (closed.keeps_as_it_is x h.0, h.1);
  keeps_begin_call = λ x h. (closed.keeps_begin_call x h.0, h.1);
  keeps_connected_again = λ x h. (closed.keeps_connected_again x h.0, h.1);
  keeps_with_handle = λ item x fit h. (closed.keeps_with_handle item x fit h.0, h.1);
  keeps_with_time = λ n x h. (closed.keeps_with_time n x h.0, h.1);
  keeps_without_handle = λ handle x h. (closed.keeps_without_handle handle x h.0, h.1);
}

abbrev pub FrameIn : Type 0 → ItemId → (Bool → Bool → Type 0) → List QueueEntry → State → Type 0
FrameIn Used id R es s = Frame Used id R es s.link s.volatile.tokens s.filter.volume

tokens_framed : (Used : Type 0) (id : ItemId) (R : Bool → Bool → Type 0) (es : List QueueEntry) (l : Link) (n m : ℕ) (v : Volume) → n ≤ m → Frame Used id R es l n v → Frame Used id R es l m v
tokens_framed Used id R es l n m v k h = (h.0, λ fair. all_weaker (λ e. WasGiven v.epoch n e.token.0) (λ e. WasGiven v.epoch m e.token.0) (λ e g. later v.epoch v.epoch n m e.token.0 (inr (refl, k)) g) es (h.1 fair))

same_framed : (Used : Type 0) (id : ItemId) (R : Bool → Bool → Type 0) (es : List QueueEntry) (l : Link) (n m : ℕ) (v : Volume) → m ≡ n → Frame Used id R es l n v → Frame Used id R es l m v
same_framed Used id R es l n m v e h = subst (λ (k : ℕ). Frame Used id R es l k v) (sym e) h

row_tokens : (e : QueueEntry) (v : Volatile) → (not_in_row e v).tokens ≡ v.tokens
row_tokens e v = by (is_removal e) where
  by : (b : Bool) → (cond b (record v { not_empty = without_number e.number v.not_empty }) (record v { taken_names = without_item e.item v.taken_names })).tokens ≡ v.tokens
  by true = refl
  by false = refl

back_tokens : (e : QueueEntry) (v : Volatile) → (held_back e v).tokens ≡ v.tokens
back_tokens e v = by (is_removal e) where
  by : (b : Bool) → (cond b (record v { held_tombstones = e.number ∷ v.held_tombstones }) (record v { held_items = e.item ∷ v.held_items })).tokens ≡ v.tokens
  by true = refl
  by false = refl

line_framed : (Used : Type 0) (id : ItemId) (R : Bool → Bool → Type 0) (es : List QueueEntry) (b : Bool) (c : Code) (s : State) → FrameIn Used id R es s → FrameIn Used id R es (skip_line b c s)
line_framed Used id R es true c s h = h
line_framed Used id R es false c s h = h

left_framed : (Used : Type 0) (id : ItemId) (R : Bool → Bool → Type 0) (es : List QueueEntry) (token : Token) (s : State) → FrameIn Used id R es s → FrameIn Used id R es (with_book (without_entry token) s)
left_framed Used id R es token s h = (λ u fair. let g = h.0 u fair in (g.0, g.1, all_filter (λ e. e.item.0 ≡ id.0 → ⊥) (λ e. not (same_key e.token.0 token.0)) s.filter.volume.book.entries g.2), h.1)

more : (n : ℕ) → n ≤ n + 1
more n = omega arith

pub guarded_framed : (Used : Type 0) (id : ItemId) (R : Bool → Bool → Type 0) → ((d p : Bool) → R d p → R d true) → (es : List QueueEntry) (P : State → Type 0) → Guarded P → Guarded (λ s. P s × FrameIn Used id R es s)
guarded_framed Used id R k es P closed = record {
  replay = λ s h. closed.replay s h.0;
  on_filter = λ s h. filter_framed Used id R k es s.link s.volatile.tokens (λ x. P (with_filter x s)) (on_filter_weaker P (λ t. P t × FrameIn Used id R es t) (λ t k. k.0) s _ (closed.on_filter s h.0));
  keeps_counted = λ s h. (closed.keeps_counted s h.0, h.1);
  asked = λ q s well h. (closed.asked q s well h.0, (λ u fair. h.1.0 u (fair.0, small_before s.link.remote q fair.1), λ fair. h.1.1 (fair.0, small_before s.link.remote q fair.1)));
  told = λ held s h. (closed.told held s h.0, (λ u fair. no_way fair.0, λ fair. no_way fair.0));
  posts = λ f s other well now h. (closed.posts f s other well now h.0, h.1);
  loses = λ f s h. (closed.loses f s h.0, h.1);
  books = λ f s keeps placed known h. (closed.books f s keeps placed (λ fair. record_weaker P (λ t. P t × FrameIn Used id R es t) (λ t k. k.0) f s (known fair)) h.0, frame_book Used id R es s.link s.volatile.tokens s.filter.volume (f s.filter.volume.book) (keeps s.filter.volume.book) h.1);
  moved = λ e s is live known h. (closed.moved e s is live (λ fair. moved_weaker P (λ t. P t × FrameIn Used id R es t) (λ t k. k.0) e s (known fair)) h.0, same_framed Used id R es s.link s.volatile.tokens _ (with_book (without_entry e.token) s).filter.volume (row_tokens e (round_closed s.volatile)) (left_framed Used id R es e.token s h.1));
  leaves = λ token s h. (closed.leaves token s h.0, left_framed Used id R es token s h.1);
  keeps_fault_line = λ m s h. (closed.keeps_fault_line m s h.0, h.1);
  keeps_showing = λ s h. (closed.keeps_showing s h.0, h.1);
  keeps_skipped = λ c s h. (closed.keeps_skipped c s h.0, line_framed Used id R es s.running.shows_skips c (record s { running = record s.running { skips = s.running.skips + 1 } }) h.1);
  keeps_volatile_all_released = λ s h. (closed.keeps_volatile_all_released s h.0, h.1);
  keeps_volatile_held_and_closed = λ e s h. (closed.keeps_volatile_held_and_closed e s h.0, same_framed Used id R es s.link s.volatile.tokens _ s.filter.volume (back_tokens e (round_closed s.volatile)) h.1);
  keeps_volatile_not_in_row = λ e s h. (closed.keeps_volatile_not_in_row e s h.0, same_framed Used id R es s.link s.volatile.tokens _ s.filter.volume (row_tokens e s.volatile) h.1);
  keeps_volatile_round_closed = λ s h. (closed.keeps_volatile_round_closed s h.0, h.1);
  keeps_volatile_taken_from_row = λ e s h. (closed.keeps_volatile_taken_from_row e s h.0, same_framed Used id R es s.link s.volatile.tokens _ s.filter.volume (row_tokens e (round_closed s.volatile)) h.1);
  keeps_volatile_with_not_empty = λ n s h. (closed.keeps_volatile_with_not_empty n s h.0, h.1);
  keeps_volatile_with_round = λ s h. (closed.keeps_volatile_with_round s h.0, h.1);
  keeps_volatile_with_taken_name = λ item s h. (closed.keeps_volatile_with_taken_name item s h.0, h.1);
  keeps_volatile_with_token = λ s h. (closed.keeps_volatile_with_token s h.0, tokens_framed Used id R es s.link s.volatile.tokens (s.volatile.tokens + 1) s.filter.volume (more s.volatile.tokens) h.1);
  keeps_with_clock_seen = λ clock s h. (closed.keeps_with_clock_seen clock s h.0, h.1);
  keeps_with_done = λ s h. (closed.keeps_with_done s h.0, h.1);
  keeps_with_outbox = λ a rest s e h. (closed.keeps_with_outbox a rest s e h.0, h.1);
  keeps_with_stray = λ r s h. (closed.keeps_with_stray r s h.0, h.1);
  keeps_with_token_used = λ s h. (closed.keeps_with_token_used s h.0, h.1);
  keeps_without_done = λ s h. (closed.keeps_without_done s h.0, h.1);
}
