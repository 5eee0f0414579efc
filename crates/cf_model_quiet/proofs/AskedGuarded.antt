-- In each state of a run a live ask is for each dehydration that waits.
use Rattle.std.proofs.Common.{◌≡◌, ◌<◌, ◌≤◌, ◌+◌, ℕ, Bool, true, false, List, [], ◌∷◌, arith, inr, length, refl}
use Rattle.std.specs.Prelude.{None, if◌then◌else◌, ◌&&◌}
use Rattle.cf_base.specs.declared.answers.Answer.{Answer}
use Rattle.cf_base.specs.declared.answers.Shown.TheVariants as shown
use Rattle.cf_base.specs.declared.changes.Change.{Change}
use Rattle.cf_base.specs.declared.changes.Change.TheVariants as change
use Rattle.cf_base.specs.declared.codes.Code.{Code}
use Rattle.cf_base.specs.declared.events.Event.{Event}
use Rattle.cf_base.specs.declared.ids.ItemId.{ItemId}
use Rattle.cf_base.specs.declared.ids.WaitId.{WaitId}
use Rattle.cf_base.specs.declared.policies.Mode.TheVariants as mode
use Rattle.cf_base.specs.declared.waits.Cause.{Cause}
use Rattle.cf_base.specs.declared.waits.Cause.TheVariants as cause
use Rattle.cf_base.specs.declared.waits.End.{End}
use Rattle.cf_base.specs.declared.waits.WaitKind.TheVariants as wait_kind
use Rattle.cf_model.specs.Arrows.{each, noted, reading, then_do}
use Rattle.cf_model.specs.Books.{Book}
use Rattle.cf_model.specs.Changes.{change_with}
use Rattle.cf_model.specs.Lawful.{Runs}
use Rattle.cf_model.specs.Missing.{Wait, no_span}
use Rattle.cf_model.specs.Numbers.{same_key}
use Rattle.cf_model.specs.Operations.{done}
use Rattle.cf_model.specs.Points.{commit}
use Rattle.cf_model.specs.Requests.{Cancels, Closes, Deed, Expires, Fails, Finishes, Leaves, Nothing, Restarts, Told, Waiting, aged, also_background, is_dehydrate, ticked, wait_after}
use Rattle.cf_model.specs.Settling.{accessed, end_of, end_wait, is_access, is_own, settle, tell, tell_end, told_at, view_at, with_asks_told, with_ended, with_waiting}
use Rattle.cf_model.specs.Skips.{skip_line}
use Rattle.cf_model.specs.State.{Filter, Link, State, in_volume, start, with_filter}
use Rattle.cf_model.specs.Store.{Held}
use Rattle.cf_model.specs.Trees.{Keeps, Ret}
use Rattle.cf_model.specs.Waits.{Need, all_down, begin_now, begun, beside, own_id, wait_for, with_new_waits, with_own}
use Rattle.cf_model.specs.Words.{when}
use Rattle.cf_model.proofs.ArrowLaws.{keeps_each, keeps_one, keeps_then}
use Rattle.cf_model.proofs.TreeLaws.{keeps_bind}
use Rattle.cf_model_laws.specs.Invariant.{All, Invariant}
use Rattle.cf_model_laws.specs.Premises.{IsFresh}
use Rattle.cf_model_laws.specs.Taken.{Knowledge}
use Rattle.cf_model_laws.proofs.ContentLaws.{run_sound, sound_whole}
use Rattle.cf_model_laws.proofs.EventsGuarded.{Whole, runs_keep}
use Rattle.cf_model_laws.proofs.Gathered.{all_append, all_map, all_weaker}
use Rattle.cf_model_laws.proofs.Guarded.{EndsOn, Guarded, GuardedFilter, IsQuiet}
use Rattle.cf_model_laws.proofs.Leading.{kept_leads}
use Rattle.cf_model_laws.proofs.SinceKept.{moved_weaker, on_filter_weaker, record_weaker}
use Rattle.cf_model_laws.proofs.SkipsGuarded.{keeps_both}
use Rattle.cf_model_laws.proofs.SoundFilters.{change_leads}
use Rattle.cf_model_populated.specs.Populated.{AreDehydratesAsked}
use Rattle.cf_model_quiet.specs.Asked.{AreAsked, AreAskedBut, IsOwnAsk, Rises, number_of_ask, number_of_wait}
use Rattle.cf_model_quiet.proofs.AskedWaits.{Aims, asked_but, numbers_same, step_asked}
use Rattle.cf_model_quiet.proofs.RisingNumbers.{above_all, any_mapped, rises_append, rises_map, rises_upto}

abbrev pub Asked : Filter → Type 0
Asked x = AreAsked x.waiting

-- a step of the ask rule

pub aims_of : (item : ItemId) (d : Deed) (x : Filter) → EndsOn item d x → Aims item d x.waiting.asks
aims_of item (Expires key) x h = h
aims_of item (Finishes key c) x h = h
aims_of item Nothing x h = tt
aims_of item (Leaves key blocks) x h = tt
aims_of item (Fails key blocks c) x h = tt
aims_of item (Cancels id) x h = tt
aims_of item (Closes handle last) x h = tt
aims_of item Restarts x h = tt

pub quiet_on : (d : Deed) → IsQuiet d → (item : ItemId) (x : Filter) → EndsOn item d x
quiet_on Nothing q item x = tt
quiet_on (Leaves key blocks) q item x = tt
quiet_on d q item x = absurd q

ended_asked : (e : Wait × Cause) (x : Filter) → Asked x → Asked (with_ended e x)
ended_asked e x h = accesses (is_access e.0.kind e.1) (tell_end e.0.id (end_of x.volume.items e.0 e.1) (is_own e.0.id x) x) (tells e.0.id (end_of x.volume.items e.0 e.1) (is_own e.0.id x)) where
  tells : (i : WaitId) (d : End) (own : Bool) → Asked (tell_end i d own x)
  tells i d true = h
  tells i d false = h

  accesses : (is : Bool) (y : Filter) → Asked y → Asked (if is then accessed e.0.item y else y)
  accesses true y k = k
  accesses false y k = k

tell_asked : (r : Told × Waiting) (x : Filter) → AreAsked r.1 → Keeps Asked (tell r x)
tell_asked r x h =
    (keeps_then Asked (each end_wait r.0.ended) (noted (with_asks_told r.0)) (keeps_each Asked end_wait r.0.ended (λ e. keeps_one Asked (with_ended e) (λ y j. ended_asked e y j))) (record { keeps = λ y j. j })).keeps (with_waiting r.1 x) h

settle_asked : (item : ItemId) (d : Deed) (x : Filter) → EndsOn item d x → Asked x → Keeps Asked (settle item d x)
settle_asked item d x on h = tell_asked (told_at item d x) x (step_asked x.waiting item (view_at x item) d (asked_but item x.waiting h) (aims_of item d x on))

-- a wait that begins

module _ (n : Need) (x : Filter) (h : Asked x) where
  abbrev new : List Wait
  new = wait_for n x ∷ beside n x

  new_rise : Rises number_of_wait x.waiting.wait_count (x.waiting.wait_count + length new) new
  new_rise = by (also_background n.background n.item x.waiting) where
    one : (k : ℕ) → (k < k + 0 + 1) × (k + 0 + 1 ≤ k + 1)
    one k = (omega arith, omega arith)

    two : (k : ℕ) → (k < k + 0 + 1) × ((k + 0 + 1 < k + 1 + 1) × (k + 1 + 1 ≤ k + 2))
    two k = (omega arith, (omega arith, omega arith))

    by : (b : Bool) → Rises number_of_wait x.waiting.wait_count (x.waiting.wait_count + length (wait_for n x ∷ when b (wait_after x.waiting 1 wait_kind.Background n.item None no_span ∷ []))) (wait_for n x ∷ when b (wait_after x.waiting 1 wait_kind.Background n.item None no_span ∷ []))
    by true = two x.waiting.wait_count
    by false = one x.waiting.wait_count

  on_item : All (λ u. u.item.0 ≡ n.item.0) new
  on_item = (refl, by (also_background n.background n.item x.waiting)) where
    by : (b : Bool) → All (λ u. u.item.0 ≡ n.item.0) (when b (wait_after x.waiting 1 wait_kind.Background n.item None no_span ∷ []))
    by true = (refl, tt)
    by false = tt

  more : (k m c : ℕ) → k ≤ m → k ≤ m + c
  more k m c e = omega (arith, e)

  new_own : All (λ u. All (IsOwnAsk u) x.waiting.asks) new
  new_own =
      all_weaker (λ u. x.waiting.wait_count < number_of_wait u) (λ u. All (IsOwnAsk u) x.waiting.asks)
      (λ u k. all_weaker (λ a. a.wait.0.number ≤ x.waiting.wait_count) (IsOwnAsk u) (λ a e z. absurd (past a.wait.0.number x.waiting.wait_count (number_of_wait u) e k (numbers_same a.wait.0 u.id.0 z))) x.waiting.asks h.early) new
      (above_all number_of_wait x.waiting.wait_count (x.waiting.wait_count + length new) new new_rise) where
        past : (a b c : ℕ) → a ≤ b → b < c → a ≡ c → ⊥
        past a b c e k z = omega (arith, e, k, z)

  pub begun_but : AreAskedBut n.item (with_new_waits n x)
  begun_but = record {
    waits = rises_append number_of_wait 0 x.waiting.wait_count (x.waiting.wait_count + length new) x.waiting.waits new h.waits new_rise;
    keys = h.keys;
    early = all_weaker (λ a. a.wait.0.number ≤ x.waiting.wait_count) (λ a. a.wait.0.number ≤ x.waiting.wait_count + length new) (λ a e. more a.wait.0.number x.waiting.wait_count (length new) e) x.waiting.asks h.early;
    own = all_append (λ u. All (IsOwnAsk u) x.waiting.asks) x.waiting.waits new h.own new_own;
    asked = all_append _ x.waiting.waits new (asked_but n.item x.waiting h).asked (all_weaker (λ u. u.item.0 ≡ n.item.0) _ (λ u e k. inr e) new on_item);
  }

  pub begin_asked : Keeps Asked (reading (begun n) (begin_now n) x)
  begin_asked = keeps_bind Asked (tell (begun n x) (with_own n x)) (λ _ t. Ret (shown.Pending (own_id n x)) t) (tell_asked (begun n x) (with_own n x) (step_asked (with_new_waits n x) n.item (view_at x n.item) Nothing begun_but tt)) (λ a t j. j)

-- all other steps

pub none_asked : (w : Waiting) → AreAsked w → AreAsked (record w { waits = []; asks = [] })
none_asked w h = record { waits = rises_upto number_of_wait 0 w.wait_count w.waits h.waits; keys = rises_upto number_of_ask 0 w.key_count w.asks h.keys; early = tt; own = tt; asked = tt }

pub timed_asked : (n : ℕ) (w : Waiting) → AreAsked w → AreAsked (ticked n w)
timed_asked n w h = record {
  waits = h.waits;
  keys = rises_map number_of_ask (aged n) (λ a. refl) 0 w.key_count w.asks h.keys;
  early = all_map (λ a. a.wait.0.number ≤ w.wait_count) (λ a. a.wait.0.number ≤ w.wait_count) (aged n) (λ a k. k) w.asks h.early;
  own = all_weaker (λ u. All (IsOwnAsk u) w.asks) (λ u. All (IsOwnAsk u) _) (λ u k. all_map (IsOwnAsk u) (IsOwnAsk u) (aged n) (λ a z. z) w.asks k) w.waits h.own;
  asked = all_weaker _ _ (λ u k e. any_mapped (λ a. is_dehydrate a.ask.kind && same_key a.wait.0 u.id.0) (aged n) (λ a. refl) w.asks (k e)) w.waits h.asked;
}

accessed_asked : (item : ItemId) (is : Bool) (x : Filter) → Asked x → Asked (if is then accessed item x else x)
accessed_asked item true x h = h
accessed_asked item false x h = h

change_asked : (f : Book → Book) (c : Change) (x : Filter) → Asked x → Keeps Asked (change_with f c x)
change_asked f c x h = kept_leads Asked (change_with f c x) (change_leads Asked Asked f c x h h h (λ v is. h))

filter_asked : {On : Knowledge} (l : Link) (tokens : ℕ) (P : Filter → Type 0) → GuardedFilter On l tokens P → GuardedFilter On l tokens (λ x. P x × Asked x)
filter_asked l tokens P closed = record {
  sound = λ x h fair. closed.sound x h.0 fair;
  change = λ f c x keeps seen free fit known h. keeps_both P Asked (change_with f c x) (closed.change f c x keeps seen free fit known h.0) (change_asked f c x h.1);
  touch = λ f c item d x quiet keeps seen on fit known h. keeps_both P Asked (then_do (change_with f c) (then_do (settle item d) done) x) (closed.touch f c item d x quiet keeps seen on fit known h.0)
      (keeps_bind Asked (change_with f c x) (λ _ t. then_do (settle item d) done t) (change_asked f c x h.1) (λ a t j. keeps_bind Asked (settle item d t) (λ _ y. done y) (settle_asked item d t (quiet_on d quiet item t) j) (λ b y m. m)));
  commits = record { keeps = λ x h. keeps_both P Asked (in_volume commit x) (closed.commits.keeps x h.0) (h.1, h.1) };
  settled = λ item d x ends h. keeps_both P Asked (settle item d x) (closed.settled item d x ends h.0) (settle_asked item d x ends.1 h.1);
  begins = λ n x plain fit unmet h. keeps_both P Asked (reading (begun n) (begin_now n) x) (closed.begins n x plain fit unmet h.0) (begin_asked n x h.1);
  downs = record { keeps = λ x h. keeps_both P Asked (reading all_down tell x) (closed.downs.keeps x h.0) (tell_asked (all_down x) x (none_asked x.waiting h.1)) };
  keeps_accessed = λ item x h. (closed.keeps_accessed item x h.0, h.1);
  keeps_accessed_now = λ n x h. (closed.keeps_accessed_now n x h.0, accessed_asked n.item (is_access n.kind cause.Met) x h.1);
  keeps_as_it_is = λ x h. (closed.keeps_as_it_is x h.0, h.1);
  keeps_begin_call = λ x h. (closed.keeps_begin_call x h.0, h.1);
  keeps_connected_again = λ x h. (closed.keeps_connected_again x h.0, h.1);
  keeps_with_handle = λ item x fit h. (closed.keeps_with_handle item x fit h.0, h.1);
  keeps_with_time = λ n x h. (closed.keeps_with_time n x h.0, timed_asked n x.waiting h.1);
  keeps_without_handle = λ handle x h. (closed.keeps_without_handle handle x h.0, h.1);
}

abbrev pub AskedIn : State → Type 0
AskedIn s = Asked s.filter

line_asked : (b : Bool) (c : Code) (s : State) → AskedIn s → AskedIn (skip_line b c s)
line_asked true c s h = h
line_asked false c s h = h

module _ (P : State → Type 0) where
  abbrev Both : State → Type 0
  Both s = P s × AskedIn s

  pub guarded_asked : Guarded P → Guarded Both
  guarded_asked closed = record {
    replay = λ s h. closed.replay s h.0;
    on_filter = λ s h. filter_asked s.link s.volatile.tokens (λ x. P (with_filter x s)) (on_filter_weaker P Both (λ t k. k.0) s _ (closed.on_filter s h.0));
    keeps_counted = λ s h. (closed.keeps_counted s h.0, h.1);
    asked = λ q s well h. (closed.asked q s well h.0, h.1);
    told = λ held s h. (closed.told held s h.0, h.1);
    posts = λ f s other well now h. (closed.posts f s other well now h.0, h.1);
    loses = λ f s h. (closed.loses f s h.0, h.1);
    books = λ f s keeps placed known h. (closed.books f s keeps placed (λ fair. record_weaker P Both (λ t k. k.0) f s (known fair)) h.0, h.1);
    moved = λ e s is live known h. (closed.moved e s is live (λ fair. moved_weaker P Both (λ t k. k.0) e s (known fair)) h.0, h.1);
    leaves = λ token s h. (closed.leaves token s h.0, h.1);
    keeps_fault_line = λ m s h. (closed.keeps_fault_line m s h.0, h.1);
    keeps_showing = λ s h. (closed.keeps_showing s h.0, h.1);
    keeps_skipped = λ c s h. (closed.keeps_skipped c s h.0, line_asked s.running.shows_skips c (record s { running = record s.running { skips = s.running.skips + 1 } }) h.1);
    keeps_volatile_all_released = λ s h. (closed.keeps_volatile_all_released s h.0, h.1);
    keeps_volatile_held_and_closed = λ e s h. (closed.keeps_volatile_held_and_closed e s h.0, h.1);
    keeps_volatile_not_in_row = λ e s h. (closed.keeps_volatile_not_in_row e s h.0, h.1);
    keeps_volatile_round_closed = λ s h. (closed.keeps_volatile_round_closed s h.0, h.1);
    keeps_volatile_taken_from_row = λ e s h. (closed.keeps_volatile_taken_from_row e s h.0, h.1);
    keeps_volatile_with_not_empty = λ n s h. (closed.keeps_volatile_with_not_empty n s h.0, h.1);
    keeps_volatile_with_round = λ s h. (closed.keeps_volatile_with_round s h.0, h.1);
    keeps_volatile_with_taken_name = λ item s h. (closed.keeps_volatile_with_taken_name item s h.0, h.1);
    keeps_volatile_with_token = λ s h. (closed.keeps_volatile_with_token s h.0, h.1);
    keeps_with_clock_seen = λ clock s h. (closed.keeps_with_clock_seen clock s h.0, h.1);
    keeps_with_done = λ s h. (closed.keeps_with_done s h.0, h.1);
    keeps_with_outbox = λ a rest s e h. (closed.keeps_with_outbox a rest s e h.0, h.1);
    keeps_with_stray = λ r s h. (closed.keeps_with_stray r s h.0, h.1);
    keeps_with_token_used = λ s h. (closed.keeps_with_token_used s h.0, h.1);
    keeps_without_done = λ s h. (closed.keeps_without_done s h.0, h.1);
  }

  pub whole_asked : Whole P → Whole Both
  whole_asked whole = record {
    closed = guarded_asked whole.closed;
    entering = record { uploads = record { enters = λ e s well h. (whole.entering.uploads.enters e s well h.0, h.1) }; feeds = λ f s well now h. (whole.entering.feeds f s well now h.0, h.1) };
    deleting = record { deletes = λ f item s keeps seen cursor idle leaf h. keeps_both (λ x. P (with_filter x s)) Asked (change_with f (change.Remove item) s.filter) (whole.deleting.deletes f item s keeps seen cursor idle leaf h.0) (change_asked f (change.Remove item) s.filter h.1) };
    commanding = record {
      waits = λ s n x fit unmet h. keeps_both (λ y. P (with_filter y s)) Asked (reading (begun n) (begin_now n) x) (whole.commanding.waits s n x fit unmet h.0) (begin_asked n x h.1);
      disconnects = λ s h. (whole.commanding.disconnects s h.0, h.1);
      inlines = λ inline s h. (whole.commanding.inlines inline s h.0, h.1);
    };
    ruling = record { rules = λ p s v h. (whole.ruling.rules p s v h.0, h.1) };
    begins = λ s h. (whole.begins s h.0, h.1);
    breaks = λ s h. (whole.breaks s h.0, h.1);
    crashes = λ s h. (whole.crashes s h.0, none_asked s.filter.waiting h.1);
    fails = λ s h. (whole.fails s h.0, h.1);
    opens = λ p skipped s is h. (whole.opens p skipped s is h.0, record { waits = none 0; keys = none 0; early = tt; own = tt; asked = tt });
  }
    where
      none : (n : ℕ) → n ≤ n
      none n = omega arith

-- in a run

pub start_asked : (remote : Held) (clusters : ℕ) → AskedIn (start mode.Replay remote clusters)
start_asked remote clusters = record { waits = none 0; keys = none 0; early = tt; own = tt; asked = tt } where
  none : (n : ℕ) → n ≤ n
  none n = omega arith

pub run_asked : (remote : Held) (clusters : ℕ) (trace : List (Event × Answer)) (s : State) → Runs mode.Replay (start mode.Replay remote clusters) trace s → IsFresh remote → AreAsked s.filter.waiting
run_asked remote clusters trace s runs fresh =
    (runs_keep (λ t. Invariant t × AskedIn t) (whole_asked Invariant sound_whole) (start mode.Replay remote clusters) trace s runs (run_sound remote clusters [] (start mode.Replay remote clusters) refl fresh, start_asked remote clusters)).1

pub run_dehydrates : (remote : Held) (clusters : ℕ) (trace : List (Event × Answer)) (s : State) → Runs mode.Replay (start mode.Replay remote clusters) trace s → IsFresh remote → AreDehydratesAsked s
run_dehydrates remote clusters trace s runs fresh = (run_asked remote clusters trace s runs fresh).asked
