-- The policy is kept by all but an event that sets one.
use Rattle.std.specs.Prelude.{if◌then◌else◌}
use Rattle.std.proofs.Common.{◌+◌, ℕ, Bool, true, false}
use Rattle.cf_base.specs.declared.answers.Shown.TheVariants as shown
use Rattle.cf_base.specs.declared.changes.Change.TheVariants as change
use Rattle.cf_base.specs.declared.codes.Code.{Code}
use Rattle.cf_base.specs.declared.ids.ItemId.{ItemId}
use Rattle.cf_base.specs.declared.ids.WaitId.{WaitId}
use Rattle.cf_base.specs.declared.policies.Policy.{Policy}
use Rattle.cf_base.specs.declared.waits.Cause.{Cause}
use Rattle.cf_base.specs.declared.waits.Cause.TheVariants as cause
use Rattle.cf_base.specs.declared.waits.End.{End}
use Rattle.cf_base.specs.declared.changes.Change.{Change}
use Rattle.cf_model.specs.Arrows.{each, noted, reading, then_do}
use Rattle.cf_model.specs.Books.{Book}
use Rattle.cf_model.specs.Changes.{change_with}
use Rattle.cf_model.specs.Missing.{Wait}
use Rattle.cf_model.specs.Operations.{done}
use Rattle.cf_model.specs.Points.{commit}
use Rattle.cf_model.specs.Requests.{Told, Waiting}
use Rattle.cf_model.specs.Settling.{accessed, end_of, end_wait, is_access, is_own, settle, tell, tell_end, told_at, with_asks_told, with_ended, with_waiting}
use Rattle.cf_model.specs.Skips.{skip_line}
use Rattle.cf_model.specs.State.{Filter, Link, State, in_volume, with_filter}
use Rattle.cf_model.specs.Trees.{Keeps, Ret}
use Rattle.cf_model.specs.Waits.{Need, all_down, begin_now, begun, own_id, with_own}
use Rattle.cf_model.proofs.ArrowLaws.{keeps_each, keeps_one, keeps_then}
use Rattle.cf_model.proofs.TreeLaws.{keeps_bind}
use Rattle.cf_model_laws.proofs.EventsGuarded.{Unruled}
use Rattle.cf_model_laws.proofs.Guarded.{Guarded, GuardedFilter}
use Rattle.cf_model_laws.proofs.Leading.{kept_leads}
use Rattle.cf_model_laws.proofs.SinceKept.{moved_weaker, on_filter_weaker, record_weaker}
use Rattle.cf_model_laws.proofs.SkipsGuarded.{keeps_both}
use Rattle.cf_model_laws.proofs.SoundFilters.{change_leads}
use Rattle.cf_model_laws.specs.Taken.{Knowledge}

module _ (Q : Policy → Type 0) where
  abbrev Ruled : Filter → Type 0
  Ruled x = Q x.policy

  change_ruled : (f : Book → Book) (c : Change) (x : Filter) → Ruled x → Keeps Ruled (change_with f c x)
  change_ruled f c x h = kept_leads Ruled (change_with f c x) (change_leads Ruled Ruled f c x h h h (λ v is. h))

  accessed_ruled : (item : ItemId) (is : Bool) (x : Filter) → Ruled x → Ruled (if is then accessed item x else x)
  accessed_ruled item true x h = h
  accessed_ruled item false x h = h

  ended_ruled : (e : Wait × Cause) (x : Filter) → Ruled x → Ruled (with_ended e x)
  ended_ruled e x h = accessed_ruled e.0.item (is_access e.0.kind e.1) (tell_end e.0.id (end_of x.volume.items e.0 e.1) (is_own e.0.id x) x) (tells e.0.id (end_of x.volume.items e.0 e.1) (is_own e.0.id x)) where
    tells : (i : WaitId) (d : End) (own : Bool) → Ruled (tell_end i d own x)
    tells i d true = h
    tells i d false = h

  tell_ruled : (r : Told × Waiting) (x : Filter) → Ruled x → Keeps Ruled (tell r x)
  tell_ruled r x h = (keeps_then Ruled (each end_wait r.0.ended) (noted (with_asks_told r.0)) (keeps_each Ruled end_wait r.0.ended (λ e. keeps_one Ruled (with_ended e) (λ y j. ended_ruled e y j))) (record { keeps = λ y j. j })).keeps (with_waiting r.1 x) h

  begin_ruled : (n : Need) (x : Filter) → Ruled x → Keeps Ruled (reading (begun n) (begin_now n) x)
  begin_ruled n x h = keeps_bind Ruled (tell (begun n x) (with_own n x)) (λ _ t. Ret (shown.Pending (own_id n x)) t) (tell_ruled (begun n x) (with_own n x) h) (λ a t j. j)

  filter_ruled : {On : Knowledge} (l : Link) (tokens : ℕ) (P : Filter → Type 0) → GuardedFilter On l tokens P → GuardedFilter On l tokens (λ x. P x × Ruled x)
  filter_ruled l tokens P closed = record {
    sound = λ x h fair. closed.sound x h.0 fair;
    change = λ f c x keeps seen free fit known h. keeps_both P Ruled (change_with f c x) (closed.change f c x keeps seen free fit known h.0) (change_ruled f c x h.1);
    touch = λ f c item d x quiet keeps seen on fit known h. keeps_both P Ruled (then_do (change_with f c) (then_do (settle item d) done) x) (closed.touch f c item d x quiet keeps seen on fit known h.0)
        (keeps_bind Ruled (change_with f c x) (λ _ t. then_do (settle item d) done t) (change_ruled f c x h.1) (λ a t j. keeps_bind Ruled (settle item d t) (λ _ y. done y) (tell_ruled (told_at item d t) t j) (λ b y m. m)));
    commits = record { keeps = λ x h. keeps_both P Ruled (in_volume commit x) (closed.commits.keeps x h.0) (h.1, h.1) };
    settled = λ item d x others h. keeps_both P Ruled (settle item d x) (closed.settled item d x others h.0) (tell_ruled (told_at item d x) x h.1);
    begins = λ n x plain fit unmet h. keeps_both P Ruled (reading (begun n) (begin_now n) x) (closed.begins n x plain fit unmet h.0) (begin_ruled n x h.1);
    downs = record { keeps = λ x h. keeps_both P Ruled (reading all_down tell x) (closed.downs.keeps x h.0) (tell_ruled (all_down x) x h.1) };
    keeps_accessed = λ item x h. (closed.keeps_accessed item x h.0, h.1);
    keeps_accessed_now = λ n x h. (closed.keeps_accessed_now n x h.0, accessed_ruled n.item (is_access n.kind cause.Met) x h.1);
    keeps_as_it_is = λ x h. (closed.keeps_as_it_is x h.0, h.1);
    keeps_begin_call = λ x h. (closed.keeps_begin_call x h.0, h.1);
    keeps_connected_again = λ x h. (closed.keeps_connected_again x h.0, h.1);
    keeps_with_handle = λ item x fit h. (closed.keeps_with_handle item x fit h.0, h.1);
    keeps_with_time = λ n x h. (closed.keeps_with_time n x h.0, h.1);
    keeps_without_handle = λ handle x h. (closed.keeps_without_handle handle x h.0, h.1);
  }

  abbrev RuledIn : State → Type 0
  RuledIn s = Ruled s.filter

  line_ruled : (b : Bool) (c : Code) (s : State) → RuledIn s → RuledIn (skip_line b c s)
  line_ruled true c s h = h
  line_ruled false c s h = h

  guarded_ruled : (P : State → Type 0) → Guarded P → Guarded (λ s. P s × RuledIn s)
  guarded_ruled P closed = record {
    replay = λ s h. closed.replay s h.0;
    on_filter = λ s h. filter_ruled s.link s.volatile.tokens (λ x. P (with_filter x s)) (on_filter_weaker P (λ t. P t × RuledIn t) (λ t k. k.0) s _ (closed.on_filter s h.0));
    keeps_counted = λ s h. (closed.keeps_counted s h.0, h.1);
    asked = λ q s well h. (closed.asked q s well h.0, h.1);
    told = λ held s h. (closed.told held s h.0, h.1);
    posts = λ f s other well now h. (closed.posts f s other well now h.0, h.1);
    loses = λ f s h. (closed.loses f s h.0, h.1);
    books = λ f s keeps placed known h. (closed.books f s keeps placed (λ fair. record_weaker P (λ t. P t × RuledIn t) (λ t k. k.0) f s (known fair)) h.0, h.1);
    moved = λ e s is live known h. (closed.moved e s is live (λ fair. moved_weaker P (λ t. P t × RuledIn t) (λ t k. k.0) e s (known fair)) h.0, h.1);
    leaves = λ token s h. (closed.leaves token s h.0, h.1);
    keeps_fault_line = λ m s h. (closed.keeps_fault_line m s h.0, h.1);
    keeps_showing = λ s h. (closed.keeps_showing s h.0, h.1);
    keeps_skipped = λ c s h. (closed.keeps_skipped c s h.0, line_ruled s.running.shows_skips c (record s { running = record s.running { skips = s.running.skips + 1 } }) h.1);
    keeps_volatile_all_released = λ s h. (closed.keeps_volatile_all_released s h.0, h.1);
    keeps_volatile_held_and_closed = λ e s h. (closed.keeps_volatile_held_and_closed e s h.0, h.1);
    keeps_volatile_not_in_row = λ e s h. (closed.keeps_volatile_not_in_row e s h.0, h.1);
    keeps_volatile_round_closed = λ s h. (closed.keeps_volatile_round_closed s h.0, h.1);
    keeps_volatile_taken_from_row = λ e s h. (closed.keeps_volatile_taken_from_row e s h.0, h.1);
    keeps_volatile_with_not_empty = λ n s h. (closed.keeps_volatile_with_not_empty n s h.0, h.1);
    keeps_volatile_with_round = λ s h. (closed.keeps_volatile_with_round s h.0, h.1);
    keeps_volatile_with_taken_name = λ item s h. (closed.keeps_volatile_with_taken_name item s h.0, h.1);
    keeps_volatile_with_token = λ s h. (closed.keeps_volatile_with_token s h.0, h.1);
    keeps_with_clock_seen = λ clock s h. (closed.keeps_with_clock_seen clock s h.0, h.1);
    keeps_with_done = λ s h. (closed.keeps_with_done s h.0, h.1);
    keeps_with_outbox = λ a rest s e h. (closed.keeps_with_outbox a rest s e h.0, h.1);
    keeps_with_stray = λ r s h. (closed.keeps_with_stray r s h.0, h.1);
    keeps_with_token_used = λ s h. (closed.keeps_with_token_used s h.0, h.1);
    keeps_without_done = λ s h. (closed.keeps_without_done s h.0, h.1);
  }

  pub unruled_policy : (P : State → Type 0) → Unruled P → Unruled (λ s. P s × Q s.filter.policy)
  unruled_policy P rest = record {
    closed = guarded_ruled P rest.closed;
    entering = record { uploads = record { enters = λ e s well h. (rest.entering.uploads.enters e s well h.0, h.1) }; feeds = λ f s well now h. (rest.entering.feeds f s well now h.0, h.1) };
    deleting = record { deletes = λ f item s keeps seen cursor idle leaf h. keeps_both (λ x. P (with_filter x s)) Ruled (change_with f (change.Remove item) s.filter) (rest.deleting.deletes f item s keeps seen cursor idle leaf h.0) (change_ruled f (change.Remove item) s.filter h.1) };
    commanding = record {
      waits = λ s n x fit unmet h. keeps_both (λ y. P (with_filter y s)) Ruled (reading (begun n) (begin_now n) x) (rest.commanding.waits s n x fit unmet h.0) (begin_ruled n x h.1);
      disconnects = λ s h. (rest.commanding.disconnects s h.0, h.1);
      inlines = λ inline s h. (rest.commanding.inlines inline s h.0, h.1);
    };
    begins = λ s h. (rest.begins s h.0, h.1);
    breaks = λ s h. (rest.breaks s h.0, h.1);
    crashes = λ s h. (rest.crashes s h.0, h.1);
    fails = λ s h. (rest.fails s h.0, h.1);
    opens = λ p skipped s is h. (rest.opens p skipped s is h.0, h.1);
  }
