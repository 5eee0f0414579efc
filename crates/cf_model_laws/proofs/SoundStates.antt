-- The steps of the whole keep the invariant.
use Rattle.std.proofs.Common.{◌≡◌, ◌<◌, ◌≤◌, ◌+◌, ℕ, Bool, true, false, List, [], ◌∷◌, ◌++◌, refl, sym, subst, arith, length, take}
use Rattle.std.specs.Prelude.{Option, Some, None, cond, filter, not}
use Rattle.cf_base.specs.declared.changes.Change.TheVariants as change
use Rattle.cf_base.specs.declared.codes.Code.{Code}
use Rattle.cf_base.specs.declared.ids.ItemId.{ItemId}
use Rattle.cf_base.specs.declared.ids.Token.{Token}
use Rattle.cf_base.specs.declared.messages.Request.{Request}
use Rattle.cf_base.specs.declared.notices.Frame.{Frame}
use Rattle.cf_base.specs.declared.waits.Ask.{Ask}
use Rattle.cf_model.specs.Books.{Action, MakeDir, MoveItem, PutFile, QueueEntry, RemoveItem, without_entry}
use Rattle.cf_model.specs.Changes.{next_number}
use Rattle.cf_model.specs.Items.{Item}
use Rattle.cf_model.specs.Logs.{items_of}
use Rattle.cf_model.specs.Numbers.{same_key}
use Rattle.cf_model.specs.PushReplies.{held_and_closed, held_back, is_removal, not_in_row, round_closed, taken_from_row, without_item, without_number}
use Rattle.cf_model.specs.Requests.{is_fetch}
use Rattle.cf_model.specs.Skips.{skip_line, with_book}
use Rattle.cf_model.specs.Soundness.{Each}
use Rattle.cf_model.specs.State.{State, Volatile, is_replay}
use Rattle.cf_model.specs.Store.{Held, remote_step}
use Rattle.cf_model.proofs.StoreLaws.{step_extends}
use Rattle.cf_model_laws.specs.GivenOnce.{WasGiven}
use Rattle.cf_model_laws.specs.Invariant.{All, Invariant, IsDurable, IsSound, IsSoundOf, Names, NoItem, OfRequest}
use Rattle.cf_model_laws.specs.Premises.{IsFair, IsSmall}
use Rattle.cf_model_laws.proofs.FitAsks.{LiveAt}
use Rattle.cf_model_laws.proofs.Gathered.{all_any, all_weaker}
use Rattle.cf_model_laws.proofs.Guarded.{AskedIn, Commanding, Deleting, Entering, EnteringAny, Guarded, PostedIn}
use Rattle.cf_model_laws.proofs.RemoteSteps.{items_grow}
use Rattle.cf_model_laws.proofs.RightItems.{no_way}
use Rattle.cf_model_laws.proofs.SoundBooks.{book_sound, durable_entered, durable_fewer, tokens_sound}
use Rattle.cf_model_laws.proofs.SoundFilters.{begins_keep, change_keeps, filter_guarded}
use Rattle.cf_model_laws.proofs.SoundLinks.{CarriesBy, FrameCarries, ask_sound, post_sound}
use Rattle.cf_model.specs.Messages.{with_message}

-- a remote that became no larger than it may was no larger before
pub small_before : (r : Held) (q : Request) → IsSmall (remote_step r q).1 → IsSmall r
small_before r q h = (less (length r.items) (length (remote_step r q).1.items) (items_grow r q) h.0, λ rid version bytes e. h.1 rid version bytes ((step_extends r q).versions rid version bytes e)) where
  less : (a b : ℕ) → a ≤ b → b < 18446744073709551616 → a < 18446744073709551616
  less a b h k = omega (arith, h, k)

asked_state : (q : Request) (s : State) → (IsFair s.link → AskedIn s q) → (IsFair s.link → IsSound s.link s.volatile.tokens s.filter) → (s.link.honest ≡ true) × IsSmall (remote_step s.link.remote q).1
    → IsSoundOf NoItem (remote_step s.link.remote q).1 s.link.messages s.volatile.tokens s.filter.volume.epoch s.filter.volume.place s.filter.volume.log s.filter.volume.items s.filter.volume.next_item.0 s.filter.volume.points s.filter.volume.book.entries
    s.filter.waiting.epoch s.filter.waiting.waits s.filter.waiting.asks s.filter.waiting.key_count s.filter.outbox s.filter.policy.validate
asked_state q s well h fair =
    let before : IsFair s.link = (fair.0, small_before s.link.remote q fair.1) in
    ask_sound NoItem s.link.remote s.link.messages s.volatile.tokens s.filter.volume.epoch s.filter.volume.place s.filter.volume.log s.filter.volume.items s.filter.volume.next_item.0 s.filter.volume.points s.filter.volume.book.entries
    s.filter.waiting.epoch s.filter.waiting.waits s.filter.waiting.asks s.filter.waiting.key_count s.filter.outbox s.filter.policy.validate q (well before) (h before)

post_state : (f : Option Frame) (s : State) → PostedIn s f → IsSound s.link s.volatile.tokens s.filter
    → IsSoundOf NoItem s.link.remote (s.link.messages ++ f ∷ []) s.volatile.tokens s.filter.volume.epoch s.filter.volume.place s.filter.volume.log s.filter.volume.items s.filter.volume.next_item.0 s.filter.volume.points s.filter.volume.book.entries
    s.filter.waiting.epoch s.filter.waiting.waits s.filter.waiting.asks s.filter.waiting.key_count s.filter.outbox s.filter.policy.validate
post_state f s well h =
    post_sound NoItem s.link.remote s.link.messages s.volatile.tokens s.filter.volume.epoch s.filter.volume.place s.filter.volume.log s.filter.volume.items s.filter.volume.next_item.0 s.filter.volume.points s.filter.volume.book.entries
    s.filter.waiting.epoch s.filter.waiting.waits s.filter.waiting.asks s.filter.waiting.key_count s.filter.outbox s.filter.policy.validate f well h

lost_by : (a : Action) (r : Held) (items : List Item) (e : QueueEntry) → CarriesBy a r items None e
lost_by PutFile r items e = anyhow e.item items where
  anyhow : (id : ItemId) (items : List Item) → Each id (λ i. Unit {0}) items
  anyhow id [] = tt
  anyhow id (i ∷ is) = (λ _. tt, anyhow id is)
lost_by MakeDir r items e = tt
lost_by MoveItem r items e = tt
lost_by RemoveItem r items e = tt

lost_well : (s : State) → PostedIn s None
lost_well s = record {
  right = tt;
  named = all_any (λ a. is_fetch a.ask.kind ≡ true → OfRequest (Names s.link.remote s.filter.volume.items a.ask) None) (λ a e. tt) s.filter.waiting.asks;
  now = all_any (FrameCarries s.link.remote s.filter.volume.items None) (λ e. (lost_by e.action s.link.remote s.filter.volume.items e, tt)) s.filter.volume.book.entries;
  kept = all_any (λ p. All (FrameCarries s.link.remote (items_of (take p.count s.filter.volume.log)) None) p.book.entries)
      (λ p. all_any (FrameCarries s.link.remote (items_of (take p.count s.filter.volume.log)) None) (λ e. (lost_by e.action s.link.remote (items_of (take p.count s.filter.volume.log)) e, tt)) p.book.entries) s.filter.volume.points;
}

-- another list of entries
entries_state : (s : State) (new : List QueueEntry)
    → (IsDurable s.link.remote s.link.messages s.filter.volume.epoch s.volatile.tokens (next_number s.filter.volume) s.filter.volume.next_item.0 s.filter.volume.items s.filter.volume.book.entries
    → IsDurable s.link.remote s.link.messages s.filter.volume.epoch s.volatile.tokens (next_number s.filter.volume) s.filter.volume.next_item.0 s.filter.volume.items new)
    → IsSound s.link s.volatile.tokens s.filter
    → IsSoundOf NoItem s.link.remote s.link.messages s.volatile.tokens s.filter.volume.epoch s.filter.volume.place s.filter.volume.log s.filter.volume.items s.filter.volume.next_item.0 s.filter.volume.points new
    s.filter.waiting.epoch s.filter.waiting.waits s.filter.waiting.asks s.filter.waiting.key_count s.filter.outbox s.filter.policy.validate
entries_state s new k h =
    book_sound NoItem s.link.remote s.link.messages s.volatile.tokens s.filter.volume.epoch s.filter.volume.place s.filter.volume.log s.filter.volume.items s.filter.volume.next_item.0 s.filter.volume.points s.filter.volume.book.entries new
    s.filter.waiting.epoch s.filter.waiting.waits s.filter.waiting.asks s.filter.waiting.key_count s.filter.outbox s.filter.policy.validate k h

-- tokens that no step of these counts
same_tokens : (P : ℕ → Type 0) (n m : ℕ) → m ≡ n → P n → P m
same_tokens P n m e h = subst P (sym e) h

row_tokens : (e : QueueEntry) (v : Volatile) → (not_in_row e v).tokens ≡ v.tokens
row_tokens e v = by (is_removal e) where
  by : (b : Bool) → (cond b (record v { not_empty = without_number e.number v.not_empty }) (record v { taken_names = without_item e.item v.taken_names })).tokens ≡ v.tokens
  by true = refl
  by false = refl

back_tokens : (e : QueueEntry) (v : Volatile) → (held_back e v).tokens ≡ v.tokens
back_tokens e v = by (is_removal e) where
  by : (b : Bool) → (cond b (record v { held_tombstones = e.number ∷ v.held_tombstones }) (record v { held_items = e.item ∷ v.held_items })).tokens ≡ v.tokens
  by true = refl
  by false = refl

volatile_state : (s : State) (v : Volatile) → v.tokens ≡ s.volatile.tokens → Invariant s → Invariant (record s { volatile = v })
volatile_state s v e h = (h.0, λ fair. same_tokens (λ (n : ℕ). IsSound s.link n s.filter) s.volatile.tokens v.tokens e (h.1 fair))

line_state : (shows : Bool) (c : Code) (s : State) → Invariant s → Invariant (skip_line shows c s)
line_state true c s h = h
line_state false c s h = h

outbox_state : (s : State) (a : Ask) (rest : List Ask) → s.filter.outbox ≡ a ∷ rest → IsSound s.link s.volatile.tokens s.filter → IsSound s.link s.volatile.tokens (record s.filter { outbox = rest })
outbox_state s a rest e h = record {
  counted = h.counted;
  recorded = h.recorded;
  messages = h.messages;
  old = h.old;
  of_log = h.of_log;
  now = h.now;
  kept = h.kept;
  one_epoch = h.one_epoch;
  numbered = h.numbered;
  lack = h.lack;
  unvalidated = h.unvalidated;
  lives = all_weaker (LiveAt s.link.remote s.link.messages s.filter.waiting.key_count s.filter.volume.epoch s.filter.volume.next_item.0 s.filter.volume.items s.filter.waiting.waits s.filter.outbox)
      (LiveAt s.link.remote s.link.messages s.filter.waiting.key_count s.filter.volume.epoch s.filter.volume.next_item.0 s.filter.volume.items s.filter.waiting.waits rest)
      (λ b g k. record {
        below = (g k).below;
        given = (g k).given;
        waited = (g k).waited;
        named = (g k).named;
        boxed = tail (λ c. same_key b.ask.key c.key ≡ true → b.ask.item.0 ≡ c.item.0) (subst (λ (os : List Ask). All (λ c. same_key b.ask.key c.key ≡ true → b.ask.item.0 ≡ c.item.0) os) e (g k).boxed);
      }) s.filter.waiting.asks h.lives;
  boxed = tail (λ b. WasGiven s.filter.volume.epoch s.filter.waiting.key_count b.key) (subst (λ (os : List Ask). All (λ b. WasGiven s.filter.volume.epoch s.filter.waiting.key_count b.key) os) e h.boxed);
}
  where
    tail : (P : Ask → Type 0) → All P (a ∷ rest) → All P rest
    tail P k = k.1

left_state : (token : Token) (s : State) → Invariant s → Invariant (with_book (without_entry token) s)
left_state token s h = (
  h.0,
  λ fair. entries_state s (filter (λ e. not (same_key e.token.0 token.0)) s.filter.volume.book.entries)
      (durable_fewer s.link.remote s.link.messages s.filter.volume.epoch s.volatile.tokens (next_number s.filter.volume) s.filter.volume.next_item.0 s.filter.volume.items (λ e. not (same_key e.token.0 token.0)) s.filter.volume.book.entries) (h.1 fair),
)

more_tokens : (n : ℕ) → n ≤ n + 1
more_tokens n = omega arith

pub posted_sound : (f : Frame) (s : State) → (IsFair s.link → PostedIn s (Some f)) → Invariant s → Invariant (with_message f s)
posted_sound f s well h = (h.0, λ fair. post_state (Some f) s (well fair) (h.1 fair))

pub sound_guarded : Guarded Invariant
sound_guarded = record {
  replay = λ s h. h.0;
  on_filter = λ s h. filter_guarded _ s.link s.volatile.tokens;
  keeps_counted = λ s h. h;
  asked = λ q s well h. (h.0, λ fair. asked_state q s well h.1 fair);
  told = λ held s h. (h.0, λ fair. no_way fair.0);
  posts = λ f s other well now h. posted_sound f s well h;
  loses = λ f s h. (h.0, λ fair. post_state None s (lost_well s) (h.1 fair));
  books = λ f s keeps placed known h. (
    h.0,
    λ fair. entries_state s (f s.filter.volume.book).entries
        (λ d. subst (λ (es : List QueueEntry). IsDurable s.link.remote s.link.messages s.filter.volume.epoch s.volatile.tokens (next_number s.filter.volume) s.filter.volume.next_item.0 s.filter.volume.items es) (sym (keeps s.filter.volume.book)) d) (h.1 fair),
  );
  moved = λ e s is live known h. volatile_state (with_book (without_entry e.token) s) (taken_from_row e s.volatile) (row_tokens e (round_closed s.volatile)) (left_state e.token s h);
  leaves = left_state;
  keeps_fault_line = λ m s h. h;
  keeps_showing = λ s h. h;
  keeps_skipped = λ c s h. line_state s.running.shows_skips c (record s { running = record s.running { skips = s.running.skips + 1 } }) h;
  keeps_volatile_all_released = λ s h. h;
  keeps_volatile_held_and_closed = λ e s h. volatile_state s (held_and_closed e s.volatile) (back_tokens e (round_closed s.volatile)) h;
  keeps_volatile_not_in_row = λ e s h. volatile_state s (not_in_row e s.volatile) (row_tokens e s.volatile) h;
  keeps_volatile_round_closed = λ s h. h;
  keeps_volatile_taken_from_row = λ e s h. volatile_state s (taken_from_row e s.volatile) (row_tokens e (round_closed s.volatile)) h;
  keeps_volatile_with_not_empty = λ n s h. h;
  keeps_volatile_with_round = λ s h. h;
  keeps_volatile_with_taken_name = λ item s h. h;
  keeps_volatile_with_token = λ s h. (
    h.0,
    λ fair.
        tokens_sound NoItem s.link.remote s.link.messages s.volatile.tokens (s.volatile.tokens + 1) s.filter.volume.epoch s.filter.volume.place s.filter.volume.log s.filter.volume.items s.filter.volume.next_item.0 s.filter.volume.points s.filter.volume.book.entries
        s.filter.waiting.epoch s.filter.waiting.waits s.filter.waiting.asks s.filter.waiting.key_count s.filter.outbox s.filter.policy.validate (more_tokens s.volatile.tokens) (h.1 fair),
  );
  keeps_with_clock_seen = λ clock s h. h;
  keeps_with_done = λ s h. h;
  keeps_with_outbox = λ a rest s e h. (h.0, λ fair. outbox_state s a rest e (h.1 fair));
  keeps_with_stray = λ r s h. h;
  keeps_with_token_used = λ s h. h;
  keeps_without_done = λ s h. h;
}

pub sound_deletes : Deleting Invariant
sound_deletes = record { deletes = λ f item s keeps seen cursor idle leaf h. change_keeps (is_replay s.mode ≡ true) s.link s.volatile.tokens f (change.Remove item) s.filter keeps (λ id k. k) (λ fair. (idle, tt)) h }

pub sound_commands : Commanding Invariant
sound_commands = record {
  waits = λ s n x fit unmet h. (begins_keep (is_replay s.mode ≡ true) s.link s.volatile.tokens n).keeps x h;
  disconnects = λ s h. h;
  inlines = λ inline s h. h;
}

pub sound_enters_any : EnteringAny Invariant
sound_enters_any = record {
  enters = λ e s well h. (
    h.0,
    λ fair. entries_state s (s.filter.volume.book.entries ++ e ∷ [])
        (durable_entered s.link.remote s.link.messages s.filter.volume.epoch s.volatile.tokens (next_number s.filter.volume) s.filter.volume.next_item.0 s.filter.volume.items s.filter.volume.book.entries e (well fair).0) (h.1 fair),
  );
}

pub sound_enters : Entering Invariant
sound_enters = record { uploads = record { enters = λ e s well h. sound_enters_any.enters e s (λ fair. ((well fair).0, (well fair).1, tt)) h }; feeds = λ f s well now h. posted_sound f s well h }
