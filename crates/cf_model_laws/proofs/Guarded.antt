-- What a property must be kept by, to be kept by the whole machine in `replay`: each step that is not made of others, with
-- what it meets.
use Rattle.std.specs.Prelude.{ℕ, Bool, true, false, List, [], Option, None, Some, max, ◌≡◌, ◌⊎◌, ◌<◌, ◌∷◌, ◌≤◌}
use Rattle.std.proofs.Common.{◌∙◌, ap, sym}
use Rattle.cf_base.specs.declared.changes.Change.{Change}
use Rattle.cf_base.specs.declared.changes.Change.TheVariants as change
use Rattle.cf_base.specs.declared.codes.Code.{Code}
use Rattle.cf_base.specs.declared.ids.Handle.{Handle}
use Rattle.cf_base.specs.declared.ids.ItemId.{ItemId}
use Rattle.cf_base.specs.declared.ids.Key.{Key}
use Rattle.cf_base.specs.declared.ids.Rid.{Rid}
use Rattle.cf_base.specs.declared.ids.Round.{Round}
use Rattle.cf_base.specs.declared.ids.Token.{Token}
use Rattle.cf_base.specs.declared.ids.Usn.{Usn}
use Rattle.cf_base.specs.declared.ids.Version.{Version}
use Rattle.cf_base.specs.declared.items.SeenPath.{SeenPath}
use Rattle.cf_base.specs.declared.messages.Entry.{Entry}
use Rattle.cf_base.specs.declared.messages.Reply.{Reply}
use Rattle.cf_base.specs.declared.messages.Reply.TheVariants as reply
use Rattle.cf_base.specs.declared.messages.Request.{Request}
use Rattle.cf_base.specs.declared.messages.Request.TheVariants as request
use Rattle.cf_base.specs.declared.notices.Frame.{Frame}
use Rattle.cf_base.specs.declared.notices.Frame.TheVariants as frame
use Rattle.cf_base.specs.declared.policies.Policy.{Policy}
use Rattle.cf_base.specs.declared.waits.Ask.{Ask}
use Rattle.cf_base.specs.declared.waits.Cause.{Cause}
use Rattle.cf_base.specs.declared.waits.Cause.TheVariants as cause
use Rattle.cf_model.specs.Arrows.{Preserves, reading, then_do}
use Rattle.cf_model.specs.Books.{Book, MoveItem, QueueEntry, RemoveItem, Tombstone, book_after, entry_of, with_cursor, with_entry, with_seen, with_tombstone, without_entry, without_tombstone}
use Rattle.cf_model.specs.Callbacks.{begin_call, with_outbox}
use Rattle.cf_model.specs.Calls.{tombstone_for, with_handle, with_policy}
use Rattle.cf_model.specs.Changes.{change_with, next_number}
use Rattle.cf_model.specs.Dehydration.{in_use}
use Rattle.cf_model.specs.EngineEvents.{with_inline}
use Rattle.cf_model.specs.Feeds.{Fed, all_released, all_turns, is_whole, with_clock_seen}
use Rattle.cf_model.specs.Identities.{stands_at_path, target_of}
use Rattle.cf_model.specs.Items.{Item, is_dirty, item_of}
use Rattle.cf_model.specs.Logs.{next_by}
use Rattle.cf_model.specs.Messages.{counted, distrusted, fault_line, is_stale, with_lost, with_message, with_remote}
use Rattle.cf_model.specs.Operations.{as_it_is, done}
use Rattle.cf_model.specs.Passes.{showing, with_round, without_done}
use Rattle.cf_model.specs.Peers.{with_stray, with_token_used}
use Rattle.cf_model.specs.Points.{commit}
use Rattle.cf_model.specs.PushReplies.{entry_seen, held_and_closed, is_new_entry, not_in_row, round_closed, taken_from_row, tombstone_left, was_directory, with_done, with_not_empty, with_taken_name}
use Rattle.cf_model.specs.Pushes.{with_token}
use Rattle.cf_model.specs.Requests.{Deed, Expires, Fails, Finishes, Leaves, Live, Nothing, is_dehydrate_wait, is_list, is_list_wait, live_of}
use Rattle.cf_model.specs.Settling.{accessed, settle, tell}
use Rattle.cf_model.specs.Skips.{skipped, with_book, with_volatile}
use Rattle.cf_model.specs.State.{Filter, Link, State, book_now, in_volume, is_replay, items_now, with_filter}
use Rattle.cf_model.specs.Store.{Held, RecordedDone, recorded_at, remote_step}
use Rattle.cf_model.specs.Trees.{Ends, Keeps}
use Rattle.cf_model.specs.Waits.{Need, accessed_now, all_down, begin_now, begun, connected_again, disconnected, is_met_now, with_time, without_handle}
use Rattle.cf_model_laws.specs.Fitting.{Fits, IsLeaf, IsNaming, Touches}
use Rattle.cf_model_laws.specs.GivenOnce.{WasGiven}
use Rattle.cf_model_laws.specs.Invariant.{All, Among, IsSound, message_in}
use Rattle.cf_model_laws.specs.Marks.{IsMadeLast, IsMarkedLast, IsUnseen, StandsAtSeen}
use Rattle.cf_model_laws.specs.Premises.{IsFair}
use Rattle.cf_model_laws.specs.Seats.{IsSeated, NeedsWell}
use Rattle.cf_model_laws.specs.Taken.{AnswersNow, IsChangeBy, IsPosted, IsSeenBy, Known, Knowledge, Since, ToldAt, is_feed}
use Rattle.cf_model_laws.proofs.SoundBooks.{EnteredWell}
use Rattle.cf_model_laws.proofs.SoundChanges.{KeepsEntries}
use Rattle.cf_model_laws.proofs.SoundLinks.{AskedWell, PostedWell}

-- each path seen is of an item below this one
abbrev pub AreSeenBelow : ℕ → Book → Type 0
AreSeenBelow next b = All (λ p. p.item.0 < next) b.seen

abbrev pub KeepsCursor : (Book → Book) → Type 0
KeepsCursor f = (b : Book) → (f b).cursor ≡ b.cursor

-- A Mark and a Make leave the paths seen; and with no change a path comes to be seen of an item that is not there yet. The
-- cursor stays.
abbrev pub KeepsSeenBy : (Book → Book) → Change → Filter → Type 0
KeepsSeenBy f c x =
    (IsNaming c → (b : Book) → (f b).seen ≡ b.seen)
    × (AreSeenBelow (max x.volume.next_item.0 (next_by c)) (book_after c x.volume.book) → AreSeenBelow (max x.volume.next_item.0 (next_by c)) (f (book_after c x.volume.book)))
    × KeepsCursor f

-- the last change is a Mark or the Make of the item
abbrev pub IsNamedLast : List (Usn × Change) → ItemId → Type 0
IsNamedLast log item = ((front : List (Usn × Change)) × IsMarkedLast log front item) ⊎ IsMadeLast log item

-- The item still stands at the path seen; and where none was seen, it stands there or none is.
abbrev pub StandsStill : List Item → Book → Book → ItemId → Type 0
StandsStill items b d item = (StandsAtSeen items b item → StandsAtSeen items d item) × (IsUnseen b item → StandsAtSeen items d item ⊎ IsUnseen d item)

-- so it is of the item that was marked or made last
abbrev pub KeepsPlaced : (Book → Book) → State → Type 0
KeepsPlaced f s = (item : ItemId) → IsNamedLast s.filter.volume.log item → StandsStill (items_now s) (book_now s) (f (book_now s)) item

abbrev pub KeepsBelow : (Book → Book) → State → Type 0
KeepsBelow f s = AreSeenBelow s.filter.volume.next_item.0 (book_now s) → AreSeenBelow s.filter.volume.next_item.0 (f (book_now s))

-- the cursor goes back, or to a clock that the remote has had
abbrev pub KeepsEarly : (Book → Book) → State → Type 0
KeepsEarly f s = ((f (book_now s)).cursor ≤ (book_now s).cursor) ⊎ ((f (book_now s)).cursor ≤ s.link.remote.clock)

abbrev pub StandsAtPath : List Item → ItemId → SeenPath → Type 0
StandsAtPath items item p = (i : Item) × (item_of items item ≡ Some i) × (stands_at_path items i p ≡ true)

-- what is uploaded of an item's place is where it stands
abbrev pub MovesThere : State → QueueEntry → Type 0
MovesThere s e = e.action ≡ MoveItem → StandsAtPath (items_now s) e.item (entry_seen e)

-- A removal is of a tombstone, under its number; a new item has no target, or is a directory with local writes, and the upload has its number.
abbrev pub EntersThere : State → QueueEntry → Type 0
EntersThere s e =
    (e.action ≡ RemoveItem → (t : Tombstone) × Among t (book_now s).tombstones × (t.number ≡ e.number) × (t.rid.0 ≡ e.rid.0))
    × (is_new_entry e ≡ true → (i : Item) × (item_of (items_now s) e.item ≡ Some i) × (i.number ≡ e.number) × (((target_of i).0 ≡ 0) ⊎ ((i.directory ≡ true) × (is_dirty i ≡ true))))

-- The item that is removed has no target, or a tombstone of it comes under the number of the change.
abbrev pub Buries : (Book → Book) → ItemId → Filter → Type 0
Buries f item x =
    (i : Item) × (item_of x.volume.items item ≡ Some i) × ((((target_of i).0 ≡ 0) × ((b : Book) → f b ≡ b)) ⊎ ((b : Book) → f b ≡ with_tombstone (tombstone_for i (next_number x.volume)) b))

-- a Done of a Move is taken, and its path is seen
abbrev pub after_move : QueueEntry → State → State
after_move e s = with_book (with_seen (entry_seen e)) (with_volatile (taken_from_row e) (with_book (without_entry e.token) s))

-- why a wait ends: not as met
abbrev pub is_other_cause : Cause → Bool
is_other_cause cause.Met = false
is_other_cause _ = true

-- What a step does of its own ends no wait as met but those of a listing.
abbrev pub EndsOthers : Deed → Filter → Type 0
EndsOthers (Fails key blocks c) x = is_other_cause c ≡ true
EndsOthers (Finishes key c) x = (is_other_cause c ≡ true) ⊎ ((a : Live) → live_of x.waiting.asks key ≡ Some a → is_list a.ask.kind ≡ true)
EndsOthers _ x = Unit {0}

-- the ask of the key, if it is live, is of the item
abbrev pub IsAskOn : ItemId → Key → Filter → Type 0
IsAskOn item key x = (a : Live) → live_of x.waiting.asks key ≡ Some a → a.ask.item.0 ≡ item.0

-- an ask that the step ends is of the item
abbrev pub EndsOn : ItemId → Deed → Filter → Type 0
EndsOn item (Expires key) x = IsAskOn item key x
EndsOn item (Finishes key c) x = IsAskOn item key x
EndsOn item _ x = Unit {0}

abbrev pub EndsWell : ItemId → Deed → Filter → Type 0
EndsWell item d x = EndsOthers d x × EndsOn item d x

-- the ask of a key is one
pub one_ask : (key : Key) (a : Live) (x : Filter) → live_of x.waiting.asks key ≡ Some a → IsAskOn a.ask.item key x
one_ask key a x is b e = inner (sym is ∙ e) where
  inner : ◌≡◌ {A = Option Live} (Some a) (Some b) → b.ask.item.0 ≡ a.ask.item.0
  inner z = let y : b ≡ a = cc in ap (λ (c : Live). c.ask.item.0) y

-- what is needed is neither a list nor a dehydration
abbrev pub IsPlainNeed : Need → Type 0
IsPlainNeed n = (is_list_wait n.kind ≡ false) × (is_dehydrate_wait n.kind ≡ false)

-- it ends none at all
abbrev pub IsQuiet : Deed → Type 0
IsQuiet Nothing = Unit {0}
IsQuiet (Leaves key blocks) = Unit {0}
IsQuiet _ = ⊥

-- of the filter, beside this link and so many tokens, where so much is known of entries
pub record GuardedFilter (On : Knowledge) (l : Link) (tokens : ℕ) (P : Filter → Type 0) : Type 0 where
  pub sound : (x : Filter) → P x → IsFair l → IsSound l tokens x
  pub change : (f : Book → Book) (c : Change) (x : Filter) → KeepsEntries f → (IsFair l → KeepsSeenBy f c x) → ((id : ItemId) → Touches c id → ⊥) → (IsFair l → Fits l.remote x c) → (IsFair l → IsChangeBy On x f c) → P x → Keeps P (change_with f c x)
  pub touch : (f : Book → Book) (c : Change) (item : ItemId) (d : Deed) (x : Filter) → IsQuiet d → KeepsEntries f → (IsFair l → KeepsSeenBy f c x) → ((id : ItemId) → Touches c id → id.0 ≡ item.0) → (IsFair l → Fits l.remote x c) → (IsFair l → IsChangeBy On x f c) → P x
      → Keeps P (then_do (change_with f c) (then_do (settle item d) done) x)
  pub commits : Preserves P (in_volume commit)
  pub settled : (item : ItemId) (d : Deed) (x : Filter) → EndsWell item d x → P x → Keeps P (settle item d x)
  pub begins : (n : Need) (x : Filter) → IsPlainNeed n → (IsFair l → NeedsWell n x) → is_met_now n x ≡ false → P x → Keeps P (reading (begun n) (begin_now n) x)
  pub downs : Preserves P (reading all_down tell)
  pub keeps_accessed : (x1 : ItemId) → (s : Filter) → P s → P (accessed x1 s)
  pub keeps_accessed_now : (x1 : Need) → (s : Filter) → P s → P (accessed_now x1 s)
  pub keeps_as_it_is : (s : Filter) → P s → P (as_it_is s)
  pub keeps_begin_call : (s : Filter) → P s → P (begin_call s)
  pub keeps_connected_again : (s : Filter) → P s → P (connected_again s)
  pub keeps_with_handle : (x1 : ItemId) → (s : Filter) → (IsFair l → IsSeated s.volume.items x1 false) → P s → P (with_handle x1 s)
  pub keeps_with_time : (x1 : ℕ) → (s : Filter) → P s → P (with_time x1 s)
  pub keeps_without_handle : (x1 : Handle) → (s : Filter) → P s → P (without_handle x1 s)

abbrev pub AskedIn : State → Request → Type 0
AskedIn s q = AskedWell s.link.messages s.filter.volume.epoch s.volatile.tokens q

-- A Feed is of the latest round, which is open, and asks after the cursor. The key of a List was given. A reply to one of these is
-- what the remote would reply now.
abbrev pub PostedNow : State → Option Frame → Type 0
PostedNow s (Some (frame.Request (request.Feed round after))) =
    (round.0 ≡ record { epoch = s.filter.volume.epoch; number = s.volatile.rounds }) × (after ≡ (book_now s).cursor) × (s.volatile.round_open ≡ true)
PostedNow s (Some (frame.Request (request.List key rid))) = WasGiven s.filter.volume.epoch s.filter.waiting.key_count key
PostedNow s (Some (frame.Request q)) = Unit {0}
PostedNow s (Some (frame.Reply answers a)) = (q : Request) × (message_in s.link.messages answers ≡ Some (frame.Request q)) × AnswersNow s.link.remote q a
PostedNow s None = Unit {0}

abbrev pub PostedIn : State → Option Frame → Type 0
PostedIn s f = PostedWell s.link.remote s.link.messages s.volatile.tokens s.filter.volume.epoch s.filter.volume.log (items_now s) s.filter.volume.points (book_now s).entries s.filter.waiting.asks s.filter.waiting.key_count f

abbrev pub EnteredIn : State → QueueEntry → Type 0
EnteredIn s e = EnteredWell s.link.remote s.link.messages s.filter.volume.epoch s.volatile.tokens (next_number s.filter.volume) s.filter.volume.next_item.0 (items_now s) (book_now s).entries e

-- what a step does of its own, wherever it is done
pub settled_on : {On : Knowledge} (l : Link) (tokens : ℕ) (P : Filter → Type 0) → GuardedFilter On l tokens P → (item : ItemId) (d : Deed) → ((x : Filter) → EndsWell item d x) → Preserves P (settle item d)
settled_on l tokens P closed item d others = record { keeps = λ x h. closed.settled item d x (others x) h }

-- All entries of a feed that counted in an earlier state had their turns, and it is whole: nothing was postponed or left out, and no list
-- ask is live. The link and the cursor are as they were, the round is closed, and no upload is on its way.
pub record IsFedTo (P : State → Type 0) (clock : ℕ) (s : State) : Type 0 where
  pub first : State
  pub kept : P first
  pub message : ℕ
  pub request : Request
  pub round : Round
  pub entries : List Entry
  pub counts : is_stale request (reply.Feed round clock entries) first ≡ false
  pub told : IsFair first.link → ToldAt first message request (reply.Feed round clock entries)
  pub posted : IsPosted first message (reply.Feed round clock entries)
  pub link : s.link ≡ first.link
  pub cursor : (book_now s).cursor ≡ (book_now first).cursor
  pub none : (book_now s).entries ≡ []
  pub closed : s.volatile.round_open ≡ false
  pub turned : State
  pub fed : Fed
  pub ends : Ends (all_turns entries (with_volatile round_closed first)) fed turned
  pub same : s ≡ with_clock_seen clock (with_volatile all_released turned)
  pub whole : is_whole first.running.skips fed s ≡ true

-- The upload that was live in an earlier state was taken from the book; the link, the items and the next number are as they were.
abbrev pub IsTakenBy : (State → Type 0) → QueueEntry → State → Type 0
IsTakenBy P e s =
    (t : State) × P t × (entry_of (book_now t) e.token ≡ Some e) × (s.link ≡ t.link) × (items_now s ≡ items_now t) × (book_now s ≡ without_entry e.token (book_now t))
    × (next_number s.filter.volume ≡ next_number t.filter.volume)

-- the remote recorded the upload as done
abbrev pub IsDoneAt : State → QueueEntry → Rid → Version → Type 0
IsDoneAt s e rid version = recorded_at s.link.remote.tokens e.token ≡ Some (RecordedDone rid version)

-- A tombstone comes of a new item that is gone when its upload is done.
abbrev pub BuriesNew : (State → Type 0) → (Book → Book) → State → Type 0
BuriesNew P f s =
    (e : QueueEntry) × IsTakenBy P e s × (is_new_entry e ≡ true) × (item_of (items_now s) e.item ≡ None) × (rid : Rid) × (version : Version) × IsDoneAt s e rid version × ((b : Book) → f b ≡ with_tombstone (tombstone_left e rid version) b)

-- Once the round is closed a tombstone goes: the cursor is 0, or it was a file's and its removal was done.
abbrev pub Unburies : (State → Type 0) → (Book → Book) → State → Type 0
Unburies P f s =
    (number : Usn) × ((b : Book) → f b ≡ without_tombstone number b) × (s.volatile.round_open ≡ false)
    × (((book_now s).cursor ≡ 0) ⊎ ((e : QueueEntry) × IsTakenBy P e s × (e.action ≡ RemoveItem) × (e.number ≡ number) × (rid : Rid) × (version : Version) × IsDoneAt s e rid version × (was_directory e s ≡ false)))

-- what a record does to the tombstones
abbrev pub BuriesBy : (State → Type 0) → (Book → Book) → State → Type 0
BuriesBy P f s = ((b : Book) → (f b).tombstones ≡ b.tombstones) ⊎ BuriesNew P f s ⊎ Unburies P f s

-- a Done that counted in an earlier state is of the item of the upload
abbrev pub IsMovedBy : (State → Type 0) → QueueEntry → State → Type 0
IsMovedBy P e s = (d : Entry) × Since P s.link true (book_now s).cursor d × (d.rid.0 ≡ e.rid.0)

-- What a record of the book does: it leaves the paths seen and the cursor, and tombstones may come or go; the path of an entry that was told comes to be seen; once the
-- round is closed, the cursor goes back to 0; or a feed that was taken is done, and the cursor comes to be its clock.
abbrev pub IsRecordBy : (State → Type 0) → (Book → Book) → State → Type 0
IsRecordBy P f s =
    (((b : Book) → (f b).seen ≡ b.seen) × KeepsCursor f × BuriesBy P f s)
    ⊎ ((p : SeenPath) × ((b : Book) → f b ≡ with_seen p b) × IsSeenBy (Since P s.link true (book_now s).cursor) (items_now s) p)
    ⊎ (((b : Book) → f b ≡ with_cursor 0 b) × (s.volatile.round_open ≡ false))
    ⊎ ((clock : ℕ) × ((b : Book) → f b ≡ with_cursor clock b) × IsFedTo P clock s)

-- of the whole
pub record Guarded (P : State → Type 0) : Type 0 where
  pub replay : (s : State) → P s → is_replay s.mode ≡ true
  pub on_filter : (s : State) → P s → GuardedFilter (Known P s) s.link s.volatile.tokens (λ x. P (with_filter x s))
  pub keeps_counted : (s : State) → P s → P (counted s)
  pub asked : (q : Request) (s : State) → (IsFair s.link → AskedIn s q) → P s → P (with_remote (remote_step s.link.remote q).1 (counted s))
  pub told : (held : Held) (s : State) → P s → P (distrusted (with_remote held (counted s)))
  pub posts : (f : Frame) (s : State) → is_feed f ≡ false → (IsFair s.link → PostedIn s (Some f)) → (IsFair s.link → PostedNow s (Some f)) → P s → P (with_message f s)
  pub loses : (f : Frame) (s : State) → P s → P (with_lost f s)
  pub books : (f : Book → Book) (s : State) → KeepsEntries f → (IsFair s.link → KeepsPlaced f s × KeepsBelow f s × KeepsEarly f s) → (IsFair s.link → IsRecordBy P f s) → P s → P (with_book f s)
  pub moved : (e : QueueEntry) (s : State) → e.action ≡ MoveItem → (IsFair s.link → entry_of (book_now s) e.token ≡ Some e) → (IsFair s.link → IsMovedBy P e s) → P s → P (after_move e s)
  pub leaves : (token : Token) (s : State) → P s → P (with_book (without_entry token) s)
  pub keeps_fault_line : (x1 : ℕ) → (s : State) → P s → P (fault_line x1 s)
  pub keeps_showing : (s : State) → P s → P (showing s)
  pub keeps_skipped : (x1 : Code) → (s : State) → P s → P (skipped x1 s)
  pub keeps_volatile_all_released : (s : State) → P s → P (with_volatile all_released s)
  pub keeps_volatile_held_and_closed : (x1 : QueueEntry) → (s : State) → P s → P (with_volatile (held_and_closed x1) s)
  pub keeps_volatile_not_in_row : (x1 : QueueEntry) → (s : State) → P s → P (with_volatile (not_in_row x1) s)
  pub keeps_volatile_round_closed : (s : State) → P s → P (with_volatile round_closed s)
  pub keeps_volatile_taken_from_row : (x1 : QueueEntry) → (s : State) → P s → P (with_volatile (taken_from_row x1) s)
  pub keeps_volatile_with_not_empty : (x1 : Usn) → (s : State) → P s → P (with_volatile (with_not_empty x1) s)
  pub keeps_volatile_with_round : (s : State) → P s → P (with_volatile with_round s)
  pub keeps_volatile_with_taken_name : (x1 : ItemId) → (s : State) → P s → P (with_volatile (with_taken_name x1) s)
  pub keeps_volatile_with_token : (s : State) → P s → P (with_volatile with_token s)
  pub keeps_with_clock_seen : (x1 : ℕ) → (s : State) → P s → P (with_clock_seen x1 s)
  pub keeps_with_done : (s : State) → P s → P (with_done s)
  pub keeps_with_outbox : (x1 : Ask) (x2 : List Ask) → (s : State) → s.filter.outbox ≡ x1 ∷ x2 → P s → P (with_outbox x2 s)
  pub keeps_with_stray : (x1 : Reply) → (s : State) → P s → P (with_stray x1 s)
  pub keeps_with_token_used : (s : State) → P s → P (with_token_used s)
  pub keeps_without_done : (s : State) → P s → P (without_done s)

-- and by a removal that an application asks for
pub record Deleting (P : State → Type 0) : Type 0 where
  pub deletes : (f : Book → Book) (item : ItemId) (s : State) → KeepsEntries f → ((b : Book) → (f b).seen ≡ b.seen) → KeepsCursor f → in_use item s.filter ≡ false → (IsFair s.link → IsLeaf (items_now s) item × Buries f item s.filter) → P s
      → Keeps (λ x. P (with_filter x s)) (change_with f (change.Remove item) s.filter)

-- and by a policy that an application sets
pub record Ruling (P : State → Type 0) : Type 0 where
  pub rules : (p : Policy) (s : State) → p.validate ≡ false → P s → P (with_filter (with_policy p s.filter) s)

-- a wait of any kind begins
abbrev pub AreWaitsKept : Link → (Filter → Type 0) → Type 0
AreWaitsKept l P = (n : Need) (x : Filter) → (IsFair l → NeedsWell n x) → is_met_now n x ≡ false → P x → Keeps P (reading (begun n) (begin_now n) x)

-- and by what no pass does: a list call or a dehydration waits, the provider goes, and the link is set
pub record Commanding (P : State → Type 0) : Type 0 where
  pub waits : (s : State) → AreWaitsKept s.link (λ x. P (with_filter x s))
  pub disconnects : (s : State) → P s → P (with_filter (disconnected s.filter) s)
  pub inlines : (inline : Bool) (s : State) → P s → P (with_inline inline s)

-- by an upload that is entered, of which so much is known
pub record EnteringBy (Q : State → QueueEntry → Type 0) (P : State → Type 0) : Type 0 where
  pub enters : (e : QueueEntry) (s : State) → (IsFair s.link → EnteredIn s e × MovesThere s e × Q s e) → P s → P (with_book (with_entry e) s)

abbrev pub Uploading : (State → Type 0) → Type 0
Uploading P = EnteringBy EntersThere P

-- what keeps it of any upload
abbrev pub EnteringAny : (State → Type 0) → Type 0
EnteringAny P = EnteringBy (λ s e. Unit {0}) P

-- and by what passes alone do: uploads are entered, and a feed is asked for
pub record Entering (P : State → Type 0) : Type 0 where
  pub uploads : Uploading P
  pub feeds : (f : Frame) (s : State) → (IsFair s.link → PostedIn s (Some f)) → (IsFair s.link → PostedNow s (Some f)) → P s → P (with_message f s)
