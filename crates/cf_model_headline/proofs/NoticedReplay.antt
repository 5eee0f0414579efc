-- A fact on the filter beside a property of the machine in `replay`: within an event the machine keeps both.
use Rattle.std.proofs.Common.{◌≡◌, Bool, true, false, refl}
use Rattle.cf_base.specs.declared.changes.Change.TheVariants as change
use Rattle.cf_base.specs.declared.codes.Code.{Code}
use Rattle.cf_base.specs.declared.events.Event.{Event}
use Rattle.cf_base.specs.declared.events.Event.TheVariants as event
use Rattle.cf_base.specs.declared.notices.Notice.TheVariants as notice
use Rattle.cf_base.specs.declared.policies.Mode.TheVariants as mode
use Rattle.cf_model.specs.Arrows.{Preserves, reading, then_do}
use Rattle.cf_model.specs.Books.{Book, with_entry, with_seen, without_entry}
use Rattle.cf_model.specs.Changes.{change_with}
use Rattle.cf_model.specs.Operations.{done}
use Rattle.cf_model.specs.Points.{commit}
use Rattle.cf_model.specs.Settling.{settle, tell}
use Rattle.cf_model.specs.PushReplies.{entry_seen, taken_from_row}
use Rattle.cf_model.specs.Skips.{skip_line, with_book, with_volatile}
use Rattle.cf_model.specs.State.{Filter, Link, State, in_volume, with_filter}
use Rattle.cf_model.specs.Waits.{all_down, begin_now, begun}
use Rattle.cf_model.proofs.TreeLaws.{keeps_bind}
use Rattle.cf_model.proofs.Closed.{ClosedFilter}
use Rattle.cf_model.specs.Events.{event_now, is_of}
use Rattle.cf_model_laws.proofs.RightItems.{no_way, no_way_back}
use Rattle.cf_model_laws.proofs.EventsGuarded.{call_now_keeps, other_event_keeps}
use Rattle.cf_model_headline.specs.Reports.{is_device}
use Rattle.cf_model_laws.proofs.Guarded.{Commanding, Deleting, Entering, Guarded, GuardedFilter, Ruling}
use Rattle.cf_model_laws.proofs.SkipsGuarded.{keeps_both}
use Rattle.cf_model_headline.proofs.ShownChanges.{Noticed}
use Rattle.std.specs.Prelude.{ℕ, ◌+◌}
use Rattle.cf_model_laws.proofs.SinceKept.{moved_weaker, on_filter_weaker, record_weaker}
use Rattle.cf_model_laws.specs.Taken.{Knowledge}

filter_noticed : (Q : Filter → Type 0) → ClosedFilter Q → {On : Knowledge} (l : Link) (tokens : ℕ) (P : Filter → Type 0) → GuardedFilter On l tokens P → GuardedFilter On l tokens (λ x. P x × Q x)
filter_noticed Q q l tokens P closed = record {
  sound = λ x h fair. closed.sound x h.0 fair;
  change = λ f c x keeps seen free fit known h. keeps_both P Q (change_with f c x) (closed.change f c x keeps seen free fit known h.0) ((q.change f c).keeps x h.1);
  touch = λ f c item d x quiet keeps seen on fit known h. keeps_both P Q (then_do (change_with f c) (then_do (settle item d) done) x) (closed.touch f c item d x quiet keeps seen on fit known h.0)
      (keeps_bind Q (change_with f c x) (λ _ t. then_do (settle item d) done t) ((q.change f c).keeps x h.1) (λ a t j. keeps_bind Q (settle item d t) (λ _ y. done y) ((q.settled item d).keeps t j) (λ b y m. m)));
  commits = record { keeps = λ x h. keeps_both P Q (in_volume commit x) (closed.commits.keeps x h.0) (q.commits.keeps x h.1) };
  settled = λ item d x others h. keeps_both P Q (settle item d x) (closed.settled item d x others h.0) ((q.settled item d).keeps x h.1);
  begins = λ n x plain fit unmet h. keeps_both P Q (reading (begun n) (begin_now n) x) (closed.begins n x plain fit unmet h.0) ((q.begins n).keeps x h.1);
  downs = record { keeps = λ x h. keeps_both P Q (reading all_down tell x) (closed.downs.keeps x h.0) (q.downs.keeps x h.1) };
  keeps_accessed = λ item x h. (closed.keeps_accessed item x h.0, q.keeps_accessed item x h.1);
  keeps_accessed_now = λ n x h. (closed.keeps_accessed_now n x h.0, q.keeps_accessed_now n x h.1);
  keeps_as_it_is = λ x h. (closed.keeps_as_it_is x h.0, q.keeps_as_it_is x h.1);
  keeps_begin_call = λ x h. (closed.keeps_begin_call x h.0, q.keeps_begin_call x h.1);
  keeps_connected_again = λ x h. (closed.keeps_connected_again x h.0, q.keeps_connected_again x h.1);
  keeps_with_handle = λ item x fit h. (closed.keeps_with_handle item x fit h.0, q.keeps_with_handle item x h.1);
  keeps_with_time = λ n x h. (closed.keeps_with_time n x h.0, q.keeps_with_time n x h.1);
  keeps_without_handle = λ handle x h. (closed.keeps_without_handle handle x h.0, q.keeps_without_handle handle x h.1);
}

line_noticed : (Q : Filter → Type 0) → Noticed Q → (b : Bool) (c : Code) (s : State) → Q s.filter → Q (skip_line b c s).filter
line_noticed Q q true c s h = q.notes (notice.Skipped c) s.filter refl refl h
line_noticed Q q false c s h = h

book_noticed : (Q : Filter → Type 0) → Noticed Q → (f : Book → Book) (s : State) → Q s.filter → Q (with_book f s).filter
book_noticed Q q f s h = q.books (f s.filter.volume.book) s.filter h

module _ (Q : Filter → Type 0) (q : Noticed Q) (P : State → Type 0) where
  abbrev pub Both : State → Type 0
  Both s = P s × Q s.filter

  pub guarded_noticed : Guarded P → Guarded Both
  guarded_noticed closed = record {
    replay = λ s h. closed.replay s h.0;
    on_filter = λ s h. filter_noticed Q q.closed s.link s.volatile.tokens (λ x. P (with_filter x s)) (on_filter_weaker P Both (λ t k. k.0) s _ (closed.on_filter s h.0));
    keeps_counted = λ s h. (closed.keeps_counted s h.0, h.1);
    asked = λ r s well h. (closed.asked r s well h.0, h.1);
    told = λ held s h. (closed.told held s h.0, h.1);
    posts = λ f s other well now h. (closed.posts f s other well now h.0, q.notes (notice.Message _) s.filter refl refl h.1);
    loses = λ f s h. (closed.loses f s h.0, q.notes (notice.Message _) s.filter refl refl h.1);
    books = λ f s keeps placed known h. (closed.books f s keeps placed (λ fair. record_weaker P Both (λ t k. k.0) f s (known fair)) h.0, book_noticed Q q f s h.1);
    moved = λ e s is live known h. (closed.moved e s is live (λ fair. moved_weaker P Both (λ t k. k.0) e s (known fair)) h.0, book_noticed Q q (with_seen (entry_seen e)) (with_volatile (taken_from_row e) (with_book (without_entry e.token) s)) (book_noticed Q q (without_entry e.token) s h.1));
    leaves = λ token s h. (closed.leaves token s h.0, book_noticed Q q (without_entry token) s h.1);
    keeps_fault_line = λ m s h. (closed.keeps_fault_line m s h.0, q.notes (notice.Fault m) s.filter refl refl h.1);
    keeps_showing = λ s h. (closed.keeps_showing s h.0, h.1);
    keeps_skipped = λ c s h. (closed.keeps_skipped c s h.0, line_noticed Q q s.running.shows_skips c (record s { running = record s.running { skips = s.running.skips + 1 } }) h.1);
    keeps_volatile_all_released = λ s h. (closed.keeps_volatile_all_released s h.0, h.1);
    keeps_volatile_held_and_closed = λ e s h. (closed.keeps_volatile_held_and_closed e s h.0, h.1);
    keeps_volatile_not_in_row = λ e s h. (closed.keeps_volatile_not_in_row e s h.0, h.1);
    keeps_volatile_round_closed = λ s h. (closed.keeps_volatile_round_closed s h.0, h.1);
    keeps_volatile_taken_from_row = λ e s h. (closed.keeps_volatile_taken_from_row e s h.0, h.1);
    keeps_volatile_with_not_empty = λ n s h. (closed.keeps_volatile_with_not_empty n s h.0, h.1);
    keeps_volatile_with_round = λ s h. (closed.keeps_volatile_with_round s h.0, h.1);
    keeps_volatile_with_taken_name = λ item s h. (closed.keeps_volatile_with_taken_name item s h.0, h.1);
    keeps_volatile_with_token = λ s h. (closed.keeps_volatile_with_token s h.0, h.1);
    keeps_with_clock_seen = λ clock s h. (closed.keeps_with_clock_seen clock s h.0, h.1);
    keeps_with_done = λ s h. (closed.keeps_with_done s h.0, h.1);
    keeps_with_outbox = λ a rest s e h. (closed.keeps_with_outbox a rest s e h.0, q.boxes rest s.filter h.1);
    keeps_with_stray = λ r s h. (closed.keeps_with_stray r s h.0, h.1);
    keeps_with_token_used = λ s h. (closed.keeps_with_token_used s h.0, h.1);
    keeps_without_done = λ s h. (closed.keeps_without_done s h.0, h.1);
  }

  pub entering_noticed : Entering P → Entering Both
  entering_noticed entering = record { uploads = record { enters = λ e s well h. (entering.uploads.enters e s well h.0, book_noticed Q q (with_entry e) s h.1) }; feeds = λ f s well now h. (entering.feeds f s well now h.0, q.notes (notice.Message _) s.filter refl refl h.1) }

  pub deleting_noticed : Deleting P → Deleting Both
  deleting_noticed deleting = record {
    deletes = λ f item s keeps seen cursor idle leaf h. keeps_both (λ x. P (with_filter x s)) Q (change_with f (change.Remove item) s.filter) (deleting.deletes f item s keeps seen cursor idle leaf h.0) ((q.closed.change f (change.Remove item)).keeps s.filter h.1);
  }

  pub commanding_noticed : Commanding P → Commanding Both
  commanding_noticed commanding = record {
    waits = λ s n x fit unmet h. keeps_both (λ y. P (with_filter y s)) Q (reading (begun n) (begin_now n) x) (commanding.waits s n x fit unmet h.0) ((q.closed.begins n).keeps x h.1);
    disconnects = λ s h. (commanding.disconnects s h.0, q.closed.keeps_disconnected s.filter h.1);
    inlines = λ inline s h. (commanding.inlines inline s h.0, h.1);
  }

  pub ruling_noticed : Ruling P → Ruling Both
  ruling_noticed ruling = record { rules = λ p s v h. (ruling.rules p s v h.0, q.closed.keeps_with_policy p s.filter h.1) }

  -- an event other than those of the device
  pub replay_event_keeps : Guarded P → Entering P → Deleting P → Commanding P → Ruling P → (e : Event) → is_of mode.Replay e ≡ true → is_device e ≡ false → Preserves Both (event_now e)
  replay_event_keeps closed entering deleting commanding ruling (event.Call c) is off = call_now_keeps Both (guarded_noticed closed) (commanding_noticed commanding) c (λ _. deleting_noticed deleting) (λ _. ruling_noticed ruling)
  replay_event_keeps closed entering deleting commanding ruling (event.Device e) is off = no_way_back off
  replay_event_keeps closed entering deleting commanding ruling (event.Peer e) is off = other_event_keeps Both (guarded_noticed closed) (entering_noticed entering) (commanding_noticed commanding) (ruling_noticed ruling) (event.Peer e) is refl
  replay_event_keeps closed entering deleting commanding ruling (event.Engine e) is off = other_event_keeps Both (guarded_noticed closed) (entering_noticed entering) (commanding_noticed commanding) (ruling_noticed ruling) (event.Engine e) is refl
  replay_event_keeps closed entering deleting commanding ruling (event.Provider e) is off = no_way is
