-- What the parts of `Events` keep in `replay`, each by what its own parts keep.
use Rattle.cf_base.specs.declared.answers.Shown.TheVariants as shown
use Rattle.cf_base.specs.declared.calls.Call.{Call}
use Rattle.cf_base.specs.declared.calls.Call.TheVariants as call
use Rattle.cf_base.specs.declared.events.DeviceEvent.{DeviceEvent}
use Rattle.cf_base.specs.declared.events.DeviceEvent.TheVariants as device
use Rattle.cf_base.specs.declared.events.Event.{Event}
use Rattle.cf_base.specs.declared.events.Event.TheVariants as event
use Rattle.cf_base.specs.declared.policies.Mode.{Mode}
use Rattle.cf_model.specs.Arrows.{Preserves}
use Rattle.cf_model.specs.Calls.{delete, df, flush, info, open_file, ranges, rename, set_pin, set_policy, set_size, used, write}
use Rattle.cf_model.specs.Placements.{create, keep_full}
use Rattle.cf_model.specs.Dehydration.{dehydrate}
use Rattle.cf_model.specs.Missing.{span_of}
use Rattle.cf_model.specs.Plans.{NewDir, NewFile}
use Rattle.cf_model.specs.State.{State, with_filter, Point, is_replay}
use Rattle.cf_model.specs.Waits.{cancel, close, connect, get, hydrate, list, read, tick}
use Rattle.cf_model_laws.specs.Uses.{is_other, is_removal, is_ruling, sets_policy}
use Rattle.cf_model_laws.proofs.CallbacksGuarded as callbacks_keep
use Rattle.cf_model_laws.proofs.CallsGuarded as calls_keep
use Rattle.cf_model_laws.proofs.DehydrationGuarded as dehydration_keep
use Rattle.cf_model_laws.proofs.EngineEventsGuarded as engine_events_keep
use Rattle.cf_model_laws.proofs.PeersGuarded as peers_keep
use Rattle.cf_model_laws.proofs.PlacementsGuarded as placements_keep
use Rattle.cf_model_laws.proofs.WaitsGuarded as waits_keep
use Rattle.cf_model.specs.Events.{call_in, call_now, device_event, event_now, answered, begun, broken, choices_in, is_of, may_stop, needs_volume, no_volume, outcome, tree_of}
use Rattle.cf_model_laws.proofs.Guarded.{Commanding, Deleting, Entering, Guarded, Ruling}
use Rattle.cf_model.proofs.ArrowLaws.{keeps_lifted, keeps_ret}
use Rattle.std.proofs.Common.{◌≡◌, ℕ, Bool, true, List, [], ◌∷◌, refl, sym, ◌∙◌, ap, subst}
use Rattle.std.specs.Prelude.{Option, Some, None, not}
use Rattle.cf_base.specs.declared.answers.Answer.{Answer}
use Rattle.cf_base.specs.declared.answers.Shown.{Shown}
use Rattle.cf_base.specs.declared.codes.Code.{Code}
use Rattle.cf_base.specs.declared.policies.Mode.TheVariants as mode
use Rattle.cf_model.specs.Lawful.{IsStep, Runs}
use Rattle.cf_model.specs.Points.{Opens}
use Rattle.cf_model.specs.Restarts.{crashed, epoch_after, failed_open, restart_by, with_opened}
use Rattle.cf_model.specs.Trees.{Choices, Keeps, play}
use Rattle.cf_model.proofs.TreeLaws.{kept_by_walk}
use Rattle.cf_model_laws.proofs.Leading.{kept_leads}
use Rattle.cf_model_laws.proofs.OpeningLaws.{Opening, restart_leads}
use Rattle.cf_model_laws.proofs.RightItems.{no_way}

-- What the rest of an event keeps, which sets no policy.
pub record Unruled (P : State → Type 0) : Type 0 where
  pub closed : Guarded P
  pub entering : Entering P
  pub deleting : Deleting P
  pub commanding : Commanding P
  pub begins : (s : State) → P s → P (begun s)
  pub breaks : (s : State) → P s → P (broken s)
  pub crashes : (s : State) → P s → P (crashed s)
  pub fails : (s : State) → P s → P (failed_open s)
  pub opens : (p : Point) (skipped : ℕ) (s : State) → Opens s.filter.volume.points p → P s → P (with_opened p (epoch_after skipped s) s)

-- and of any
pub record Whole (P : State → Type 0) : Type 0 where
  pub closed : Guarded P
  pub entering : Entering P
  pub deleting : Deleting P
  pub commanding : Commanding P
  pub ruling : Ruling P
  pub begins : (s : State) → P s → P (begun s)
  pub breaks : (s : State) → P s → P (broken s)
  pub crashes : (s : State) → P s → P (crashed s)
  pub fails : (s : State) → P s → P (failed_open s)
  pub opens : (p : Point) (skipped : ℕ) (s : State) → Opens s.filter.volume.points p → P s → P (with_opened p (epoch_after skipped s) s)

pub unruled : (P : State → Type 0) → Whole P → Unruled P
unruled P whole = record { closed = whole.closed; entering = whole.entering; deleting = whole.deleting; commanding = whole.commanding; begins = whole.begins; breaks = whole.breaks; crashes = whole.crashes; fails = whole.fails; opens = whole.opens }

pub with_ruling : (P : State → Type 0) → Unruled P → Ruling P → Whole P
with_ruling P rest ruling = record { closed = rest.closed; entering = rest.entering; deleting = rest.deleting; commanding = rest.commanding; ruling = ruling; begins = rest.begins; breaks = rest.breaks; crashes = rest.crashes; fails = rest.fails; opens = rest.opens }

call_in_keeps : (P : State → Type 0) → Guarded P → Commanding P → (m : Mode) → is_replay m ≡ true → (c : Call) → (is_removal c ≡ true → Deleting P) → (is_ruling c ≡ true → Ruling P) → Preserves P (call_in m c)
call_in_keeps P closed commanding m is (call.Open path) deleting ruling = keeps_lifted P (λ s. s.filter) with_filter (open_file path) (λ t i. i) (λ t1 i2. (calls_keep.open_file_keeps t1.link t1.volatile.tokens (λ x. P (with_filter x t1)) (closed.on_filter t1 i2) path))
call_in_keeps P closed commanding m is (call.Close handle) deleting ruling = callbacks_keep.calling_keeps P closed (close handle) (λ t1 i2. (waits_keep.close_keeps t1.link t1.volatile.tokens (λ x. P (with_filter x t1)) (closed.on_filter t1 i2) handle))
call_in_keeps P closed commanding m is (call.Cancel wait) deleting ruling = callbacks_keep.calling_keeps P closed (cancel wait) (λ t1 i2. (waits_keep.cancel_keeps t1.link t1.volatile.tokens (λ x. P (with_filter x t1)) (closed.on_filter t1 i2) wait))
call_in_keeps P closed commanding m is (call.Tick ticks) deleting ruling = callbacks_keep.calling_keeps P closed (tick ticks) (λ t1 i2. (waits_keep.tick_keeps t1.link t1.volatile.tokens (λ x. P (with_filter x t1)) (closed.on_filter t1 i2) ticks))
call_in_keeps P closed commanding m is (call.Read handle offset len) deleting ruling = callbacks_keep.calling_keeps P closed (read handle (span_of offset len)) (λ t1 i2. (waits_keep.read_keeps t1.link t1.volatile.tokens (λ x. P (with_filter x t1)) (closed.on_filter t1 i2) handle (span_of offset len)))
call_in_keeps P closed commanding m is (call.Get path offset len) deleting ruling = callbacks_keep.calling_keeps P closed (get path (span_of offset len)) (λ t1 i2. (waits_keep.get_keeps t1.link t1.volatile.tokens (λ x. P (with_filter x t1)) (closed.on_filter t1 i2) path (span_of offset len)))
call_in_keeps P closed commanding m is (call.Write handle offset bytes) deleting ruling = callbacks_keep.calling_keeps P closed (write handle offset bytes) (λ t1 i2. (calls_keep.write_keeps t1.link t1.volatile.tokens (λ x. P (with_filter x t1)) (closed.on_filter t1 i2) handle offset bytes))
call_in_keeps P closed commanding m is (call.Size handle size) deleting ruling = callbacks_keep.calling_keeps P closed (set_size handle size) (λ t1 i2. (calls_keep.set_size_keeps t1.link t1.volatile.tokens (λ x. P (with_filter x t1)) (closed.on_filter t1 i2) handle size))
call_in_keeps P closed commanding m is call.Flush deleting ruling = keeps_lifted P (λ s. s.filter) with_filter flush (λ t i. i) (λ t1 i2. (calls_keep.flush_keeps t1.link t1.volatile.tokens (λ x. P (with_filter x t1)) (closed.on_filter t1 i2)))
call_in_keeps P closed commanding m is (call.Create path) deleting ruling = keeps_lifted P (λ s. s.filter) with_filter (create path NewFile) (λ t i. i) (λ t1 i2. (placements_keep.create_file_keeps t1.link t1.volatile.tokens (λ x. P (with_filter x t1)) (closed.on_filter t1 i2) path))
call_in_keeps P closed commanding m is (call.Mkdir path) deleting ruling = keeps_lifted P (λ s. s.filter) with_filter (create path NewDir) (λ t i. i) (λ t1 i2. (placements_keep.create_dir_keeps t1.link t1.volatile.tokens (λ x. P (with_filter x t1)) (closed.on_filter t1 i2) path))
call_in_keeps P closed commanding m is (call.Delete path) deleting ruling = keeps_lifted P (λ s. s.filter) with_filter (delete m path) (λ t i. i) (λ t1 i2. (calls_keep.delete_keeps t1.link t1.volatile.tokens (λ x. P (with_filter x t1)) (closed.on_filter t1 i2) (λ f item x keeps seen cursor idle leaf h. (deleting refl).deletes f item (with_filter x t1) keeps seen cursor idle leaf h) m is path))
call_in_keeps P closed commanding m is (call.Rename from to) deleting ruling = keeps_lifted P (λ s. s.filter) with_filter (rename from to) (λ t i. i) (λ t1 i2. (calls_keep.rename_keeps t1.link t1.volatile.tokens (λ x. P (with_filter x t1)) (closed.on_filter t1 i2) from to))
call_in_keeps P closed commanding m is (call.List path) deleting ruling = callbacks_keep.calling_keeps P closed (list path) (λ t1 i2. (waits_keep.list_keeps t1.link t1.volatile.tokens (λ x. P (with_filter x t1)) (closed.on_filter t1 i2) (commanding.waits t1) path))
call_in_keeps P closed commanding m is (call.Pin path pin reach) deleting ruling = keeps_lifted P (λ s. s.filter) with_filter (set_pin path pin reach) (λ t i. i) (λ t1 i2. (calls_keep.set_pin_keeps t1.link t1.volatile.tokens (λ x. P (with_filter x t1)) (closed.on_filter t1 i2) path pin reach))
call_in_keeps P closed commanding m is (call.Hydrate path) deleting ruling = callbacks_keep.calling_keeps P closed (hydrate path) (λ t1 i2. (waits_keep.hydrate_keeps t1.link t1.volatile.tokens (λ x. P (with_filter x t1)) (closed.on_filter t1 i2) path))
call_in_keeps P closed commanding m is (call.Dehydrate path range) deleting ruling = callbacks_keep.calling_keeps P closed (dehydrate path range) (λ t1 i2. (dehydration_keep.dehydrate_keeps t1.link t1.volatile.tokens (λ x. P (with_filter x t1)) (closed.on_filter t1 i2) (commanding.waits t1) path range))
call_in_keeps P closed commanding m is (call.Info path) deleting ruling = keeps_lifted P (λ s. s.filter) with_filter (info path) (λ t i. i) (λ t1 i2. (calls_keep.info_keeps t1.link t1.volatile.tokens (λ x. P (with_filter x t1)) (closed.on_filter t1 i2) path))
call_in_keeps P closed commanding m is (call.Ranges path class) deleting ruling = keeps_lifted P (λ s. s.filter) with_filter (ranges path class) (λ t i. i) (λ t1 i2. (calls_keep.ranges_keeps t1.link t1.volatile.tokens (λ x. P (with_filter x t1)) (closed.on_filter t1 i2) path class))
call_in_keeps P closed commanding m is call.Df deleting ruling = keeps_lifted P (λ s. s.filter) with_filter df (λ t i. i) (λ t1 i2. (calls_keep.df_keeps t1.link t1.volatile.tokens (λ x. P (with_filter x t1)) (closed.on_filter t1 i2)))
call_in_keeps P closed commanding m is (call.Policy policy) deleting ruling = keeps_lifted P (λ s. s.filter) with_filter (set_policy m policy) (λ t i. i) (λ t1 i2. (calls_keep.set_policy_keeps (λ x. P (with_filter x t1)) m policy is (λ v x h. (ruling refl).rules policy (with_filter x t1) v h)))
call_in_keeps P closed commanding m is (call.Keep path on) deleting ruling = callbacks_keep.calling_keeps P closed (keep_full path on) (λ t1 i2. (placements_keep.keep_full_keeps t1.link t1.volatile.tokens (λ x. P (with_filter x t1)) (closed.on_filter t1 i2) path on))
call_in_keeps P closed commanding m is (call.Used path) deleting ruling = keeps_lifted P (λ s. s.filter) with_filter (used path) (λ t i. i) (λ t1 i2. (calls_keep.used_keeps t1.link t1.volatile.tokens (λ x. P (with_filter x t1)) (closed.on_filter t1 i2) path))
call_in_keeps P closed commanding m is (call.Connect on) deleting ruling = keeps_lifted P (λ s. s.filter) with_filter (connect on) (λ t i. i) (λ t1 i2. (waits_keep.connect_keeps t1.link t1.volatile.tokens (λ x. P (with_filter x t1)) (closed.on_filter t1 i2) (λ x h. commanding.disconnects (with_filter x t1) h) on))

pub call_now_keeps : (P : State → Type 0) → Guarded P → Commanding P → (c : Call) → (is_removal c ≡ true → Deleting P) → (is_ruling c ≡ true → Ruling P) → Preserves P (call_now c)
call_now_keeps P closed commanding c deleting ruling = record { keeps = λ s h. (call_in_keeps P closed commanding s.mode (closed.replay s h) c deleting ruling).keeps s h }

opening : (P : State → Type 0) → Unruled P → (s : State) → P s → Opening P (λ r t. P t) s
opening P rest s h = record { opens = λ p skipped is small. rest.opens p skipped s is h; refused = λ r none. h; fails = rest.fails s h }

device_event_keeps : (P : State → Type 0) → Unruled P → (e : DeviceEvent) → Preserves P (device_event e)
device_event_keeps P rest (device.Stop calls) = keeps_ret P shown.Done
device_event_keeps P rest (device.Crash choice) = record { keeps = λ s h. rest.crashes s h }
device_event_keeps P rest device.Restart = record { keeps = λ s h. kept_leads P (restart_by s.power s) (restart_leads P (λ r t. P t) s (opening P rest s h) s.power) }

unruled_event_keeps : (P : State → Type 0) → Unruled P → (e : Event) → is_of mode.Replay e ≡ true → (sets_policy e ≡ true → Ruling P) → Preserves P (event_now e)
unruled_event_keeps P rest (event.Call c) is ruling = call_now_keeps P rest.closed rest.commanding c (λ _. rest.deleting) ruling
unruled_event_keeps P rest (event.Device e) is ruling = device_event_keeps P rest e
unruled_event_keeps P rest (event.Peer e) is ruling = peers_keep.peer_event_keeps P rest.closed e
unruled_event_keeps P rest (event.Engine e) is ruling = engine_events_keep.engine_event_keeps P rest.closed rest.entering rest.commanding e
unruled_event_keeps P rest (event.Provider e) is ruling = no_way is

pub event_now_keeps : (P : State → Type 0) → Whole P → (e : Event) → is_of mode.Replay e ≡ true → Preserves P (event_now e)
event_now_keeps P whole e is = unruled_event_keeps P (unruled P whole) e is (λ _. whole.ruling)

-- an event other than a removal and those of the device needs less
pub other_event_keeps : (P : State → Type 0) → Guarded P → Entering P → Commanding P → Ruling P → (e : Event) → is_of mode.Replay e ≡ true → is_other e ≡ true → Preserves P (event_now e)
other_event_keeps P closed entering commanding ruling (event.Call c) is other = call_now_keeps P closed commanding c (λ z. no_way (sym (ap (λ (b : Bool). not b) z) ∙ other)) (λ _. ruling)
other_event_keeps P closed entering commanding ruling (event.Device e) is other = no_way other
other_event_keeps P closed entering commanding ruling (event.Peer e) is other = peers_keep.peer_event_keeps P closed e
other_event_keeps P closed entering commanding ruling (event.Engine e) is other = engine_events_keep.engine_event_keeps P closed entering commanding e
other_event_keeps P closed entering commanding ruling (event.Provider e) is other = no_way is

-- an event, whatever is chosen of what the rules leave open

outcome_keeps : (P : State → Type 0) → ((s : State) → P s → P (broken s)) → (x : Option Shown × State) → P x.1 → P (outcome x).0
outcome_keeps P breaks (Some r, s) h = h
outcome_keeps P breaks (None, s) h = breaks s h

answered_by : (P : State → Type 0) → ((s : State) → P s → P (broken s)) → (why : Option Code) (c : Choices) (s : State) (e : Event) → P s → Keeps P (tree_of e s) → P (answered why c s e).0
answered_by P breaks (Some r) c s e h k = h
answered_by P breaks None c s e h k = let d : Choices = choices_in (may_stop e) c in outcome_keeps P breaks (play d (tree_of e s)) (kept_by_walk P d.stop d.forks d.tellings (tree_of e s) k)

-- an event of a run, by what its part keeps
pub step_by : (P : State → Type 0) → ((s : State) → P s → P (broken s)) → (s : State) (e : Event) (a : Answer) (t : State) → IsStep mode.Replay s e a t → P s → Keeps P (tree_of e s) → P t
step_by P breaks s e a t is h k = subst (λ (x : State × Answer). P x.0) is.2 (answered_by P breaks (no_volume (needs_volume e) s.power) is.1 s e h k)

pub step_keeps : (P : State → Type 0) → Unruled P → (s : State) (e : Event) (a : Answer) (t : State) → IsStep mode.Replay s e a t → (sets_policy e ≡ true → Ruling P) → P s → P t
step_keeps P rest s e a t is ruling h = step_by P rest.breaks s e a t is h ((unruled_event_keeps P rest e is.0 ruling).keeps (begun s) (rest.begins s h))

pub runs_keep : (P : State → Type 0) → Whole P → (s : State) (trace : List (Event × Answer)) (t : State) → Runs mode.Replay s trace t → P s → P t
runs_keep P whole s [] t h i = subst P (sym h) i
runs_keep P whole s (p ∷ ps) t h i = runs_keep P whole h.0 ps t h.2 (step_keeps P (unruled P whole) s p.0 p.1 h.0 h.1 (λ _. whole.ruling) i)
