-- The changes that a report shows are those of the log.
use Rattle.std.proofs.Common.{◌≡◌, ℕ, Bool, true, false, List, [], ◌∷◌, ◌++◌, append-nil, refl, sym, ◌∙◌, ap, subst}
use Rattle.std.specs.Prelude.{Option, Some, None}
use Rattle.cf_base.specs.declared.answers.Answer.{Answer}
use Rattle.cf_base.specs.declared.answers.OpenedBook.{OpenedBook}
use Rattle.cf_base.specs.declared.answers.Shown.{Shown}
use Rattle.cf_base.specs.declared.answers.Shown.TheVariants as shown
use Rattle.cf_base.specs.declared.changes.Change.{Change}
use Rattle.cf_base.specs.declared.codes.Code.{Code}
use Rattle.cf_base.specs.declared.codes.Code.TheVariants as code
use Rattle.cf_base.specs.declared.events.DeviceEvent.{DeviceEvent}
use Rattle.cf_base.specs.declared.events.DeviceEvent.TheVariants as device
use Rattle.cf_base.specs.declared.events.Event.{Event}
use Rattle.cf_base.specs.declared.events.Event.TheVariants as event
use Rattle.cf_base.specs.declared.ids.Usn.{Usn}
use Rattle.cf_base.specs.declared.policies.Mode.{Mode}
use Rattle.cf_base.specs.declared.policies.Mode.TheVariants as mode
use Rattle.cf_model.specs.Events.{answer_in, answered, begun, choices_in, is_of, may_stop, needs_volume, no_volume, outcome, tree_of}
use Rattle.cf_model.specs.Lawful.{IsStep, Runs}
use Rattle.cf_model.specs.Restarts.{restart_by}
use Rattle.cf_model.specs.State.{Filter, State, start}
use Rattle.cf_model.specs.Store.{Held}
use Rattle.cf_model.specs.Trees.{Choices, Keeps, play}
use Rattle.cf_model.proofs.TreeLaws.{kept_by_walk}
use Rattle.cf_model_laws.specs.Invariant.{Invariant}
use Rattle.cf_model_laws.specs.Premises.{IsFresh}
use Rattle.cf_model_laws.proofs.ContentLaws.{sound_whole, start_sound}
use Rattle.cf_model_laws.proofs.EventsGuarded.{runs_keep}
use Rattle.cf_model_laws.proofs.Leading.{Ended, led}
use Rattle.cf_model_laws.proofs.OpeningLaws.{Opening, restart_leads}
use Rattle.cf_model_headline.specs.Reports.{after_answer, changes_in, is_device, resumed_with, standing, standing_from}
use Rattle.cf_model_headline.proofs.NoticedFilter as in_filter
use Rattle.cf_model_headline.proofs.NoticedReplay as in_replay
use Rattle.cf_model_headline.proofs.ShownChanges.{Noticed, Shows, changes_shown}

-- what a state has in each mode: in `replay` the invariant of the machine
abbrev pub IsReady : Mode → State → Type 0
IsReady mode.Replay s = Invariant s
IsReady mode.Filter s = s.mode ≡ mode.Filter

-- a fact on the filter is kept by an event other than those of the device
pub event_keeps : (Q : Filter → Type 0) → Noticed Q → (m : Mode) (e : Event) (s : State) → is_of m e ≡ true → is_device e ≡ false → IsReady m s → Q (begun s).filter → Keeps (λ t. IsReady m t × Q t.filter) (tree_of e s)
event_keeps Q q mode.Replay e s is off ready h = (in_replay.replay_event_keeps Q q Invariant sound_whole.closed sound_whole.entering sound_whole.deleting sound_whole.commanding sound_whole.ruling e is off).keeps (begun s) (sound_whole.begins s ready, h)
event_keeps Q q mode.Filter e s is off ready h = (in_filter.filter_event_keeps Q q e is off).keeps (begun s) (ready, h)

-- one event

abbrev pub Stands : State → Event → State × Answer → Type 0
Stands s e x = x.0.filter.volume.log ≡ after_answer s.filter.volume.log e x.1

after_plain : (log : List (Usn × Change)) (e : Event) (a : Answer) → is_device e ≡ false → after_answer log e a ≡ log ++ changes_in a.notes
after_plain log (event.Call c) a off = refl
after_plain log (event.Device d) a off = let z : true ≡ false = off in cc
after_plain log (event.Peer p) a off = refl
after_plain log (event.Engine x) a off = refl
after_plain log (event.Provider p) a off = refl

plain_outcome : (s : State) (e : Event) → is_device e ≡ false → (x : Option Shown × State) → Shows s.filter.volume.log x.1.filter → Stands s e (outcome x)
plain_outcome s e off (Some r, t) h = h ∙ sym (after_plain s.filter.volume.log e (answer_in r t) off)
plain_outcome s e off (None, t) h = h ∙ sym (after_plain s.filter.volume.log e (answer_in (shown.Refused code.Device) t) off)

begun_shows : (s : State) → Shows s.filter.volume.log (begun s).filter
begun_shows s = sym (append-nil s.filter.volume.log)

plain_stands : (m : Mode) (s : State) (e : Event) → is_of m e ≡ true → is_device e ≡ false → IsReady m s → (c : Choices) → (why : Option Code) → Stands s e (answered why c s e)
plain_stands m s e is off ready c (Some r) = sym (after_plain s.filter.volume.log e _ off ∙ append-nil s.filter.volume.log)
plain_stands m s e is off ready c None =
    let d : Choices = choices_in (may_stop e) c in
    plain_outcome s e off (play d (tree_of e s))
    (kept_by_walk (λ t. IsReady m t × Shows s.filter.volume.log t.filter) d.stop d.forks d.tellings (tree_of e s)
    (event_keeps (Shows s.filter.volume.log) (changes_shown s.filter.volume.log) m e s is off ready (begun_shows s))).1

-- a restart that does not resume keeps the log
resumed_only : (r : Shown) (log : List (Usn × Change)) → ((n : ℕ) (opened : OpenedBook) → r ≡ shown.Resumed n opened → ⊥) → log ≡ resumed_with r log
resumed_only (shown.Resumed n opened) log none = absurd (none n opened refl)
resumed_only shown.Done log none = refl
resumed_only (shown.Opened h) log none = refl
resumed_only (shown.Ended e) log none = refl
resumed_only (shown.Pending w) log none = refl
resumed_only (shown.Count n) log none = refl
resumed_only (shown.Item i) log none = refl
resumed_only (shown.Info item kind size pin in_sync number identity) log none = refl
resumed_only (shown.Ranges spans) log none = refl
resumed_only (shown.Blocks used clusters) log none = refl
resumed_only (shown.Remote rid version) log none = refl
resumed_only (shown.Number n) log none = refl
resumed_only (shown.Used n) log none = refl
resumed_only (shown.Freed n) log none = refl
resumed_only (shown.Retrieved b) log none = refl
resumed_only (shown.Refused c) log none = refl

opening_stands : (s : State) → Opening (λ t. t.filter.volume.log ≡ s.filter.volume.log) (λ r t. t.filter.volume.log ≡ resumed_with r s.filter.volume.log) s
opening_stands s = record { opens = λ p skipped is small. refl; refused = λ r none. resumed_only r s.filter.volume.log none; fails = refl }

restart_outcome : (s : State) (x : Option Shown × State) → Ended (λ t. t.filter.volume.log ≡ s.filter.volume.log) (λ r t. t.filter.volume.log ≡ resumed_with r s.filter.volume.log) x → Stands s (event.Device device.Restart) (outcome x)
restart_outcome s (Some r, t) h = h
restart_outcome s (None, t) h = h

device_stands : (s : State) (d : DeviceEvent) (c : Choices) → Stands s (event.Device d) (answered None c s (event.Device d))
device_stands s (device.Stop calls) c = sym (append-nil s.filter.volume.log)
device_stands s (device.Crash choice) c = sym (append-nil s.filter.volume.log)
device_stands s device.Restart c =
    restart_outcome (begun s) (play c (tree_of (event.Device device.Restart) s))
    (led (λ t. t.filter.volume.log ≡ s.filter.volume.log) (λ r t. t.filter.volume.log ≡ resumed_with r s.filter.volume.log) c (restart_by s.power (begun s))
    (restart_leads (λ t. t.filter.volume.log ≡ s.filter.volume.log) (λ r t. t.filter.volume.log ≡ resumed_with r s.filter.volume.log) (begun s) (opening_stands (begun s)) s.power))

pub step_stands : (m : Mode) (s : State) (e : Event) (a : Answer) (t : State) → IsReady m s → IsStep m s e a t → t.filter.volume.log ≡ after_answer s.filter.volume.log e a
step_stands m s e a t ready is = subst (Stands s e) is.2 (by e is.0 (is_device e) refl) where
  by : (e : Event) → is_of m e ≡ true → (b : Bool) → is_device e ≡ b → Stands s e (answered (no_volume (needs_volume e) s.power) is.1 s e)
  by e of false off = plain_stands m s e of off ready is.1 (no_volume (needs_volume e) s.power)
  by (event.Device d) of true on = device_stands s d is.1
  by (event.Call x) of true on = let z : false ≡ true = on in cc
  by (event.Peer x) of true on = let z : false ≡ true = on in cc
  by (event.Engine x) of true on = let z : false ≡ true = on in cc
  by (event.Provider x) of true on = let z : false ≡ true = on in cc

-- a run

opening_mode : (s : State) → Opening (λ t. t.mode ≡ s.mode) (λ r t. t.mode ≡ s.mode) s
opening_mode s = record { opens = λ p skipped is small. refl; refused = λ r none. refl; fails = refl }

restart_mode : (s : State) (x : Option Shown × State) → Ended (λ t. t.mode ≡ s.mode) (λ r t. t.mode ≡ s.mode) x → (outcome x).0.mode ≡ s.mode
restart_mode s (Some r, t) h = h
restart_mode s (None, t) h = h

device_mode : (s : State) (d : DeviceEvent) (c : Choices) → (answered None c s (event.Device d)).0.mode ≡ s.mode
device_mode s (device.Stop calls) c = refl
device_mode s (device.Crash choice) c = refl
device_mode s device.Restart c =
    restart_mode (begun s) (play c (tree_of (event.Device device.Restart) s))
    (led (λ t. t.mode ≡ s.mode) (λ r t. t.mode ≡ s.mode) c (restart_by s.power (begun s)) (restart_leads (λ t. t.mode ≡ s.mode) (λ r t. t.mode ≡ s.mode) (begun s) (opening_mode (begun s)) s.power))

plain_mode : (s : State) (e : Event) → is_of mode.Filter e ≡ true → is_device e ≡ false → s.mode ≡ mode.Filter → (c : Choices) → (why : Option Code) → (answered why c s e).0.mode ≡ mode.Filter
plain_mode s e is off ready c (Some r) = ready
plain_mode s e is off ready c None =
    let d : Choices = choices_in (may_stop e) c in
    outcome_mode (play d (tree_of e s))
    (kept_by_walk (λ t. (t.mode ≡ mode.Filter) × Shows s.filter.volume.log t.filter) d.stop d.forks d.tellings (tree_of e s)
    (event_keeps (Shows s.filter.volume.log) (changes_shown s.filter.volume.log) mode.Filter e s is off ready (begun_shows s))).0
  where
    outcome_mode : (x : Option Shown × State) → x.1.mode ≡ mode.Filter → (outcome x).0.mode ≡ mode.Filter
    outcome_mode (Some r, t) h = h
    outcome_mode (None, t) h = h

pub step_ready : (m : Mode) (s : State) (e : Event) (a : Answer) (t : State) → IsReady m s → IsStep m s e a t → IsReady m t
step_ready mode.Replay s e a t ready is = runs_keep Invariant sound_whole s ((e, a) ∷ []) t (t, is, refl) ready
step_ready mode.Filter s e a t ready is = subst (λ (x : State × Answer). x.0.mode ≡ mode.Filter) is.2 (by e is.0 (is_device e) refl) where
  by : (e : Event) → is_of mode.Filter e ≡ true → (b : Bool) → is_device e ≡ b → (answered (no_volume (needs_volume e) s.power) is.1 s e).0.mode ≡ mode.Filter
  by e of false off = plain_mode s e of off ready is.1 (no_volume (needs_volume e) s.power)
  by (event.Device d) of true on = device_mode s d is.1 ∙ ready
  by (event.Call x) of true on = let z : false ≡ true = on in cc
  by (event.Peer x) of true on = let z : false ≡ true = on in cc
  by (event.Engine x) of true on = let z : false ≡ true = on in cc
  by (event.Provider x) of true on = let z : false ≡ true = on in cc

pub run_ready : (m : Mode) (s : State) (trace : List (Event × Answer)) (t : State) → IsReady m s → Runs m s trace t → IsReady m t
run_ready m s [] t ready runs = subst (IsReady m) (sym runs) ready
run_ready m s (p ∷ ps) t ready runs = run_ready m runs.0 ps t (step_ready m s p.0 p.1 runs.0 ready runs.1) runs.2

pub run_stands : (m : Mode) (s : State) (trace : List (Event × Answer)) (t : State) → IsReady m s → Runs m s trace t → t.filter.volume.log ≡ standing_from s.filter.volume.log trace
run_stands m s [] t ready runs = ap (λ (x : State). x.filter.volume.log) runs
run_stands m s (p ∷ ps) t ready runs =
    run_stands m runs.0 ps t (step_ready m s p.0 p.1 runs.0 ready runs.1) runs.2
    ∙ ap (λ (log : List (Usn × Change)). standing_from log ps) (step_stands m s p.0 p.1 runs.0 ready runs.1)

pub start_ready : (m : Mode) (remote : Held) (clusters : ℕ) → IsFresh remote → IsReady m (start m remote clusters)
start_ready mode.Replay remote clusters fresh = start_sound remote clusters fresh
start_ready mode.Filter remote clusters fresh = refl

pub shows_all : (m : Mode) (remote : Held) (clusters : ℕ) (trace : List (Event × Answer)) (t : State) → IsFresh remote → Runs m (start m remote clusters) trace t → t.filter.volume.log ≡ standing trace
shows_all m remote clusters trace t fresh runs = run_stands m (start m remote clusters) trace t (start_ready m remote clusters fresh) runs

-- the changes after more answers
pub standing_more : (log : List (Usn × Change)) (xs ys : List (Event × Answer)) → standing_from log (xs ++ ys) ≡ standing_from (standing_from log xs) ys
standing_more log [] ys = refl
standing_more log (x ∷ xs) ys = standing_more (after_answer log x.0 x.1) xs ys
