-- What each state of a run keeps of the callbacks that are still to be called and of what waits and is asked: in `replay` beside a
-- property of the machine.
use Rattle.std.proofs.Common.{◌≡◌, ◌+◌, ℕ, Bool, true, false, List, [], refl, subst}
use Rattle.cf_base.specs.declared.answers.Answer.{Answer}
use Rattle.cf_base.specs.declared.changes.Change.TheVariants as change
use Rattle.cf_base.specs.declared.codes.Code.{Code}
use Rattle.cf_base.specs.declared.events.Event.{Event}
use Rattle.cf_base.specs.declared.policies.Mode.{Mode}
use Rattle.cf_base.specs.declared.policies.Mode.TheVariants as mode
use Rattle.cf_base.specs.declared.waits.Ask.{Ask}
use Rattle.cf_model.specs.Arrows.{reading, then_do}
use Rattle.cf_model.specs.Changes.{change_with}
use Rattle.cf_model.specs.Events.{begun, is_of, tree_of}
use Rattle.cf_model.specs.Lawful.{Runs}
use Rattle.cf_model.specs.Operations.{done}
use Rattle.cf_model.specs.Points.{commit}
use Rattle.cf_model.specs.Restarts.{epoch_after}
use Rattle.cf_model.specs.Settling.{settle, tell}
use Rattle.cf_model.specs.Skips.{skip_line}
use Rattle.cf_model.specs.State.{Filter, Link, State, in_volume, start, with_filter}
use Rattle.cf_model.specs.Store.{Held}
use Rattle.cf_model.specs.Trees.{Keeps}
use Rattle.cf_model.specs.Waits.{all_down, begin_now, begun as wait_begun}
use Rattle.cf_model.proofs.ArrowLaws.{keeps_then}
use Rattle.cf_model_laws.specs.Invariant.{Invariant}
use Rattle.cf_model_laws.specs.Premises.{IsFresh}
use Rattle.cf_model_laws.proofs.ContentLaws.{keeps_weaker, run_sound, sound_whole}
use Rattle.cf_model_laws.proofs.EventsGuarded.{Whole, event_now_keeps, runs_keep}
use Rattle.cf_model_laws.proofs.Guarded.{Guarded, GuardedFilter}
use Rattle.cf_model_laws.proofs.SkipsGuarded.{keeps_both}
use Rattle.cf_model_laws.proofs.OutboxEvents.{filter_event_keeps, filter_runs_keep}
use Rattle.cf_model_laws.proofs.OutboxFacts.{BoxingRuns, Fact, Holds, filter_closed}
use Rattle.cf_model_laws.specs.Taken.{Knowledge}
use Rattle.cf_model_laws.proofs.SinceKept.{moved_weaker, on_filter_weaker, record_weaker}

module _ (F : Fact) (b : BoxingRuns F) where
  abbrev In : State → Type 0
  In s = Holds F s.filter

  filter_beside : {On : Knowledge} (l : Link) (tokens : ℕ) (P : Filter → Type 0) → GuardedFilter On l tokens P → GuardedFilter On l tokens (λ x. P x × Holds F x)
  filter_beside l tokens P closed = record {
    sound = λ x h fair. closed.sound x h.0 fair;
    change = λ f d x keeps seen free fit known h. keeps_both P (Holds F) (change_with f d x) (closed.change f d x keeps seen free fit known h.0) (((filter_closed F b.boxing).change f d).keeps x h.1);
    touch = λ f d item e x quiet keeps seen on fit known h. keeps_both P (Holds F) (then_do (change_with f d) (then_do (settle item e) done) x) (closed.touch f d item e x quiet keeps seen on fit known h.0)
        ((keeps_then (Holds F) (change_with f d) (then_do (settle item e) done) ((filter_closed F b.boxing).change f d) (keeps_then (Holds F) (settle item e) done ((filter_closed F b.boxing).settled item e) (record { keeps = λ y k. k }))).keeps x h.1);
    commits = record { keeps = λ x h. keeps_both P (Holds F) (in_volume commit x) (closed.commits.keeps x h.0) ((filter_closed F b.boxing).commits.keeps x h.1) };
    settled = λ item d x others h. keeps_both P (Holds F) (settle item d x) (closed.settled item d x others h.0) (((filter_closed F b.boxing).settled item d).keeps x h.1);
    begins = λ n x plain fit unmet h. keeps_both P (Holds F) (reading (wait_begun n) (begin_now n) x) (closed.begins n x plain fit unmet h.0) (((filter_closed F b.boxing).begins n).keeps x h.1);
    downs = record { keeps = λ x h. keeps_both P (Holds F) (reading all_down tell x) (closed.downs.keeps x h.0) ((filter_closed F b.boxing).downs.keeps x h.1) };
    keeps_accessed = λ item x h. (closed.keeps_accessed item x h.0, h.1);
    keeps_accessed_now = λ n x h. (closed.keeps_accessed_now n x h.0, (filter_closed F b.boxing).keeps_accessed_now n x h.1);
    keeps_as_it_is = λ x h. (closed.keeps_as_it_is x h.0, h.1);
    keeps_begin_call = λ x h. (closed.keeps_begin_call x h.0, h.1);
    keeps_connected_again = λ x h. (closed.keeps_connected_again x h.0, h.1);
    keeps_with_handle = λ item x fit h. (closed.keeps_with_handle item x fit h.0, h.1);
    keeps_with_time = λ n x h. (closed.keeps_with_time n x h.0, b.boxing.ticks x.outbox x.waiting n h.1);
    keeps_without_handle = λ handle x h. (closed.keeps_without_handle handle x h.0, h.1);
  }

  line_beside : (shows : Bool) (code : Code) (s : State) → In s → In (skip_line shows code s)
  line_beside true code s h = h
  line_beside false code s h = h

  guarded_beside : (P : State → Type 0) → Guarded P → Guarded (λ s. P s × In s)
  guarded_beside P closed = record {
    replay = λ s h. closed.replay s h.0;
    on_filter = λ s h. filter_beside s.link s.volatile.tokens (λ x. P (with_filter x s)) (on_filter_weaker P (λ t. P t × In t) (λ t k. k.0) s _ (closed.on_filter s h.0));
    keeps_counted = λ s h. (closed.keeps_counted s h.0, h.1);
    asked = λ q s well h. (closed.asked q s well h.0, h.1);
    told = λ held s h. (closed.told held s h.0, h.1);
    posts = λ f s other well now h. (closed.posts f s other well now h.0, h.1);
    loses = λ f s h. (closed.loses f s h.0, h.1);
    books = λ f s keeps placed known h. (closed.books f s keeps placed (λ fair. record_weaker P (λ t. P t × In t) (λ t k. k.0) f s (known fair)) h.0, h.1);
    moved = λ e s is live known h. (closed.moved e s is live (λ fair. moved_weaker P (λ t. P t × In t) (λ t k. k.0) e s (known fair)) h.0, h.1);
    leaves = λ token s h. (closed.leaves token s h.0, h.1);
    keeps_fault_line = λ m s h. (closed.keeps_fault_line m s h.0, h.1);
    keeps_showing = λ s h. (closed.keeps_showing s h.0, h.1);
    keeps_skipped = λ code s h. (closed.keeps_skipped code s h.0, line_beside s.running.shows_skips code (record s { running = record s.running { skips = s.running.skips + 1 } }) h.1);
    keeps_volatile_all_released = λ s h. (closed.keeps_volatile_all_released s h.0, h.1);
    keeps_volatile_held_and_closed = λ e s h. (closed.keeps_volatile_held_and_closed e s h.0, h.1);
    keeps_volatile_not_in_row = λ e s h. (closed.keeps_volatile_not_in_row e s h.0, h.1);
    keeps_volatile_round_closed = λ s h. (closed.keeps_volatile_round_closed s h.0, h.1);
    keeps_volatile_taken_from_row = λ e s h. (closed.keeps_volatile_taken_from_row e s h.0, h.1);
    keeps_volatile_with_not_empty = λ n s h. (closed.keeps_volatile_with_not_empty n s h.0, h.1);
    keeps_volatile_with_round = λ s h. (closed.keeps_volatile_with_round s h.0, h.1);
    keeps_volatile_with_taken_name = λ item s h. (closed.keeps_volatile_with_taken_name item s h.0, h.1);
    keeps_volatile_with_token = λ s h. (closed.keeps_volatile_with_token s h.0, h.1);
    keeps_with_clock_seen = λ clock s h. (closed.keeps_with_clock_seen clock s h.0, h.1);
    keeps_with_done = λ s h. (closed.keeps_with_done s h.0, h.1);
    keeps_with_outbox = λ a rest s e h. (closed.keeps_with_outbox a rest s e h.0, b.boxing.pops a rest s.filter.waiting (subst (λ (o : List Ask). F o s.filter.waiting) e h.1));
    keeps_with_stray = λ r s h. (closed.keeps_with_stray r s h.0, h.1);
    keeps_with_token_used = λ s h. (closed.keeps_with_token_used s h.0, h.1);
    keeps_without_done = λ s h. (closed.keeps_without_done s h.0, h.1);
  }

  pub whole_beside : (P : State → Type 0) → Whole P → Whole (λ s. P s × In s)
  whole_beside P whole = record {
    closed = guarded_beside P whole.closed;
    entering = record { uploads = record { enters = λ e s well h. (whole.entering.uploads.enters e s well h.0, h.1) }; feeds = λ f s well now h. (whole.entering.feeds f s well now h.0, h.1) };
    deleting = record {
      deletes = λ f item s keeps seen cursor idle leaf h. keeps_both (λ x. P (with_filter x s)) (Holds F) (change_with f (change.Remove item) s.filter) (whole.deleting.deletes f item s keeps seen cursor idle leaf h.0) (((filter_closed F b.boxing).change f (change.Remove item)).keeps s.filter h.1);
    };
    commanding = record {
      waits = λ s n x fit unmet h. keeps_both (λ y. P (with_filter y s)) (Holds F) (reading (wait_begun n) (begin_now n) x) (whole.commanding.waits s n x fit unmet h.0) (((filter_closed F b.boxing).begins n).keeps x h.1);
      disconnects = λ s h. (whole.commanding.disconnects s h.0, h.1);
      inlines = λ inline s h. (whole.commanding.inlines inline s h.0, h.1);
    };
    ruling = record { rules = λ p s v h. (whole.ruling.rules p s v h.0, h.1) };
    begins = λ s h. (whole.begins s h.0, h.1);
    breaks = λ s h. (whole.breaks s h.0, h.1);
    crashes = λ s h. (whole.crashes s h.0, b.crashes s.filter.outbox s.filter.waiting h.1);
    fails = λ s h. (whole.fails s h.0, h.1);
    opens = λ p skipped s is h. (whole.opens p skipped s is h.0, b.opens (epoch_after skipped s));
  }

  -- in both modes

  abbrev pub Kept : State → Type 0
  Kept s = Invariant s × In s

  pub kept_whole : Whole Kept
  kept_whole = whole_beside Invariant sound_whole

  -- `replay`, with the invariant
  pub run_kept : (remote : Held) (clusters : ℕ) (trace : List (Event × Answer)) (s : State) → Runs mode.Replay (start mode.Replay remote clusters) trace s → IsFresh remote → Kept s
  run_kept remote clusters trace s runs fresh =
      runs_keep Kept kept_whole (start mode.Replay remote clusters) trace s runs (run_sound remote clusters [] (start mode.Replay remote clusters) refl fresh, b.opens 1)

  pub run_holds : (m : Mode) (remote : Held) (clusters : ℕ) (trace : List (Event × Answer)) (s : State) → Runs m (start m remote clusters) trace s → IsFresh remote → Holds F s.filter
  run_holds mode.Replay remote clusters trace s runs fresh = (run_kept remote clusters trace s runs fresh).1
  run_holds mode.Filter remote clusters trace s runs fresh = filter_runs_keep F b (start mode.Filter remote clusters) trace s runs (b.opens 1)

  -- and in each state that an event goes through
  pub event_holds : (m : Mode) (remote : Held) (clusters : ℕ) (trace : List (Event × Answer)) (s : State) (e : Event) → Runs m (start m remote clusters) trace s → IsFresh remote → is_of m e ≡ true
      → Keeps (λ t. Holds F t.filter) (tree_of e s)
  event_holds mode.Replay remote clusters trace s e runs fresh is =
      let k : Kept s = run_kept remote clusters trace s runs fresh in
      keeps_weaker Kept (λ t. Holds F t.filter) (λ t h. h.1) (tree_of e s) ((event_now_keeps Kept kept_whole e is).keeps (begun s) (kept_whole.begins s k))
  event_holds mode.Filter remote clusters trace s e runs fresh is =
      (filter_event_keeps F b e is).keeps (begun s) (filter_runs_keep F b (start mode.Filter remote clusters) trace s runs (b.opens 1))
