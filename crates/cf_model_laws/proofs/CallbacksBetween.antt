-- Between events no callback is left, where the volume is on and the epoch had keys for all.
use Rattle.std.proofs.Common.{◌≡◌, ℕ, true, List, [], ◌∷◌, inl, inr, refl, sym, subst}
use Rattle.std.specs.Prelude.{Option, Some, None}
use Rattle.cf_base.specs.declared.answers.Answer.{Answer}
use Rattle.cf_base.specs.declared.answers.Shown.{Shown}
use Rattle.cf_base.specs.declared.codes.Code.{Code}
use Rattle.cf_base.specs.declared.codes.Code.TheVariants as code
use Rattle.cf_base.specs.declared.events.DeviceEvent.{DeviceEvent}
use Rattle.cf_base.specs.declared.events.DeviceEvent.TheVariants as device
use Rattle.cf_base.specs.declared.events.EngineEvent.{EngineEvent}
use Rattle.cf_base.specs.declared.events.EngineEvent.TheVariants as engine
use Rattle.cf_base.specs.declared.events.Event.{Event}
use Rattle.cf_base.specs.declared.events.Event.TheVariants as event
use Rattle.cf_base.specs.declared.notices.Frame.{Frame}
use Rattle.cf_base.specs.declared.notices.Frame.TheVariants as frame
use Rattle.cf_base.specs.declared.policies.Mode.{Mode}
use Rattle.cf_base.specs.declared.policies.Mode.TheVariants as mode
use Rattle.cf_base.specs.declared.waits.Ask.{Ask}
use Rattle.cf_model.specs.Arrows.{Preserves}
use Rattle.cf_model.specs.Events.{answered, begun, broken_by, choices_in, event_now, is_of, may_stop, needs_volume, no_power, no_volume, outcome, tree_of}
use Rattle.cf_model.specs.Lawful.{IsStep, Runs}
use Rattle.cf_model.specs.Messages.{come, message_at}
use Rattle.cf_model.specs.Passes.{arrive, arrive_frame, deliver_now, sync_now, was_sent, work_now}
use Rattle.cf_model.specs.Requests.{Waiting}
use Rattle.cf_model.specs.Restarts.{restart_by}
use Rattle.cf_model.specs.State.{Broken, Off, On, Power, State, start}
use Rattle.cf_model.specs.Store.{Held}
use Rattle.cf_model.specs.Trees.{Asked, Choices, Ends, Fork, Ret, Step, Tree, play}
use Rattle.cf_model.proofs.ArrowLaws.{keeps_ret, keeps_seq}
use Rattle.cf_model.proofs.TreeLaws.{kept_at_end}
use Rattle.cf_model_laws.specs.Keys.{AreKeysWithin}
use Rattle.cf_model_laws.specs.Premises.{IsFresh}
use Rattle.cf_model_laws.proofs.CallbacksOver.{Beside, Boxed, First, Out, beside, call_over, connected_over, deliver_over, provider_over, space_over, sync_over, work_over}
use Rattle.cf_model_laws.proofs.EventsGuarded.{runs_keep}
use Rattle.cf_model_laws.proofs.Leading.{Ended, Leads, led}
use Rattle.cf_model_laws.proofs.OpeningLaws.{Opening, restart_leads}
use Rattle.cf_model_laws.proofs.OutboxEvents.{filter_runs_keep}
use Rattle.cf_model_laws.proofs.OutboxMessages.{asks_keep, come_keeps}
use Rattle.cf_model.proofs.PeersKeep.{peer_event_keeps}
use Rattle.cf_model_laws.proofs.OutboxRuns.{run_kept}
use Rattle.cf_model_laws.proofs.RightItems.{no_way}
use Rattle.cf_model_laws.proofs.SpentKeys.{spent_runs}

abbrev IdleAt : Power → List Ask → Waiting → Type 0
IdleAt p o w = p ≡ On → Out o w

abbrev pub Idle : State → Type 0
Idle s = IdleAt s.power s.filter.outbox s.filter.waiting

-- what is known in each state of a run
abbrev Sure : Mode → State → Type 0
Sure mode.Replay s = Beside s
Sure mode.Filter s = Boxed s

boxed_of : (m : Mode) (s : State) → Sure m s → Boxed s
boxed_of mode.Replay s h = h.1
boxed_of mode.Filter s h = h

-- ends of trees

leads_of : {S A : Type 0} (Q : A → S → Type 0) (p : Tree S A) → ((a : A) (t : S) → Ends p a t → Q a t) → Leads (λ s. Unit {0}) Q p
leads_of Q (Ret a s) k = k a s (refl, refl)
leads_of Q (Step s p) k = (tt, leads_of Q p k)
leads_of Q (Fork p q) k = (leads_of Q p (λ a t h. k a t (inl h)), leads_of Q q (λ a t h. k a t (inr h)))
leads_of Q (Asked f) k = λ x. leads_of Q (f x) (λ a t h. k a t (x, h))

ends_led : {S A : Type 0} (I : S → Type 0) (Q : A → S → Type 0) (p : Tree S A) (a : A) (t : S) → Leads I Q p → Ends p a t → Q a t
ends_led I Q (Ret b s) a t h e = subst (λ (x : _). Q x t) (sym e.0) (subst (λ (x : _). Q b x) (sym e.1) h)
ends_led I Q (Step s p) a t h e = ends_led I Q p a t h.1 e
ends_led I Q (Fork p q) a t h (inl e) = ends_led I Q p a t h.0 e
ends_led I Q (Fork p q) a t h (inr e) = ends_led I Q q a t h.1 e
ends_led I Q (Asked f) a t h e = ends_led I Q (f e.0) a t (h e.0) e.1

-- events

is_on : (p : Power) → no_power p ≡ None → p ≡ On
is_on On e = refl
is_on Broken e = let z : ◌≡◌ {A = Option Code} (Some code.Broken) None = e in cc
is_on Off e = let z : ◌≡◌ {A = Option Code} (Some code.Off) None = e in cc

arrived_idle : (m : ℕ) (f : Option Frame) → Preserves Idle (arrive_frame m f)
arrived_idle m (Some (frame.Request q)) = keeps_seq Idle (come m q) was_sent (come_keeps IdleAt m q) (λ r. keeps_ret Idle _)
arrived_idle m (Some (frame.Reply answers r)) = keeps_ret Idle _
arrived_idle m None = keeps_ret Idle _

opening_idle : (s : State) → Idle s → Opening (λ x. Unit {0}) (λ r t. Idle t) s
opening_idle s h = record { opens = λ p skipped is small on within. refl; refused = λ r none. h; fails = tt }

device_idle : (e : DeviceEvent) (s t : State) (r : Shown) → Idle s → Ends (event_now (event.Device e) s) r t → Idle t
device_idle (device.Stop calls) s t r h e = subst Idle (sym e.1) h
device_idle (device.Crash choice) s t r h e = subst Idle (sym e.1) (λ on within. refl)
device_idle device.Restart s t r h e = ends_led (λ x. Unit {0}) (λ q x. Idle x) (restart_by s.power s) r t (restart_leads (λ x. Unit {0}) (λ q x. Idle x) s (opening_idle s h) s.power) e

engine_idle : (e : EngineEvent) (s t : State) (r : Shown) → Beside s → no_volume (needs_volume (event.Engine e)) s.power ≡ None → Idle s → Ends (event_now (event.Engine e) s) r t → Idle t
engine_idle (engine.Link inline) s t r k none h e = subst Idle (sym e.1) h
engine_idle (engine.Arrive message) s t r k none h e = kept_at_end Idle (arrive message s) r t ((arrived_idle message (message_at s message)).keeps s h) e
engine_idle (engine.Deliver message) s t r k none h e = λ on. connected_over (deliver_now message) (deliver_over message) s t r k (h (is_on s.power none)) e
engine_idle engine.Work s t r k none h e = λ on. connected_over work_now work_over s t r k (h (is_on s.power none)) e
engine_idle engine.Sync s t r k none h e = λ on. connected_over sync_now sync_over s t r k (h (is_on s.power none)) e
engine_idle (engine.Space blocks) s t r k none h e = λ on. space_over blocks s t r k.1 (h (is_on s.power none)) e

event_idle : (m : Mode) (e : Event) → is_of m e ≡ true → (s t : State) (r : Shown) → Sure m s → no_volume (needs_volume e) s.power ≡ None → Idle s → Ends (event_now e s) r t → Idle t
event_idle m (event.Call c) is s t r k none h e = λ on. call_over s.mode c s t r (boxed_of m s k) (h (is_on s.power none)) e
event_idle m (event.Device d) is s t r k none h e = device_idle d s t r h e
event_idle m (event.Peer p) is s t r k none h e = kept_at_end Idle (event_now (event.Peer p) s) r t ((peer_event_keeps Idle (asks_keep IdleAt) (λ x i. i) (λ q x i. i) p).keeps s h) e
event_idle mode.Replay (event.Engine g) is s t r k none h e = engine_idle g s t r k none h e
event_idle mode.Filter (event.Engine g) is s t r k none h e = no_way is
event_idle m (event.Provider p) is s t r k none h e = λ on. provider_over p s t r (boxed_of m s k) (h (is_on s.power none)) e

-- runs

broken_off : (p : Power) → broken_by p ≡ On → ⊥
broken_off On e = let z : Broken ≡ On = e in cc
broken_off Broken e = let z : Broken ≡ On = e in cc
broken_off Off e = let z : Off ≡ On = e in cc

outcome_idle : (x : Option Shown × State) → Ended (λ s. Unit {0}) (λ (r : Shown) t. Idle t) x → Idle (outcome x).0
outcome_idle (Some r, t) h = h
outcome_idle (None, t) h = λ on. absurd (broken_off t.power on)

answered_idle : (m : Mode) (why : Option Code) (c : Choices) (s : State) (e : Event) → no_volume (needs_volume e) s.power ≡ why → is_of m e ≡ true → Sure m (begun s) → Idle s → Idle (answered why c s e).0
answered_idle m (Some r) c s e none is k h = h
answered_idle m None c s e none is k h =
    let d : Choices = choices_in (may_stop e) c in
    outcome_idle (play d (tree_of e s)) (led (λ x. Unit {0}) (λ (r : Shown) x. Idle x) d (tree_of e s) (leads_of (λ (r : Shown) x. Idle x) (tree_of e s) (λ r t ends. event_idle m e is (begun s) t r k none h ends)))

begun_sure : (m : Mode) (s : State) → Sure m s → Sure m (begun s)
begun_sure mode.Replay s h = beside.begins s h
begun_sure mode.Filter s h = h

sure_more : (m : Mode) (s : State) (p : Event × Answer) (t : State) → IsStep m s p.0 p.1 t → Sure m s → Sure m t
sure_more mode.Replay s p t step h = runs_keep Beside beside s (p ∷ []) t (t, step, refl) h
sure_more mode.Filter s p t step h = filter_runs_keep First spent_runs s (p ∷ []) t (t, step, refl) h

runs_idle : (m : Mode) (s : State) (trace : List (Event × Answer)) (t : State) → Runs m s trace t → Sure m s → Idle s → Idle t
runs_idle m s [] t h k i = subst Idle (sym h) i
runs_idle m s (p ∷ ps) t h k i =
    let mid : Idle h.0 = subst (λ (x : State × Answer). Idle x.0) h.1.2 (answered_idle m (no_volume (needs_volume p.0) s.power) h.1.1 s p.0 refl h.1.0 (begun_sure m s k) i) in
    runs_idle m h.0 ps t h.2 (sure_more m s p h.0 h.1 k) mid

start_sure : (m : Mode) (remote : Held) (clusters : ℕ) → IsFresh remote → Sure m (start m remote clusters)
start_sure mode.Replay remote clusters fresh = run_kept First spent_runs remote clusters [] (start mode.Replay remote clusters) refl fresh
start_sure mode.Filter remote clusters fresh = spent_runs.opens 1

pub none_between : (m : Mode) (remote : Held) (clusters : ℕ) (trace : List (Event × Answer)) (s : State) → Runs m (start m remote clusters) trace s → IsFresh remote → s.power ≡ On → AreKeysWithin s.filter → s.filter.outbox ≡ []
none_between m remote clusters trace s runs fresh on within = runs_idle m (start m remote clusters) trace s runs (start_sure m remote clusters fresh) (λ z y. refl) on within
