-- What an event does to the points that a restart may open.
use Rattle.std.proofs.Common.{◌≡◌, ◌⊎◌, ℕ, true, [], refl, sym, ◌∙◌, ap, subst, inl, inr}
use Rattle.std.specs.Prelude.{Option, Some, None}
use Rattle.cf_base.specs.declared.answers.Answer.{Answer}
use Rattle.cf_base.specs.declared.answers.OpenedBook.{OpenedBook}
use Rattle.cf_base.specs.declared.answers.Shown.{Shown}
use Rattle.cf_base.specs.declared.answers.Shown.TheVariants as shown
use Rattle.cf_base.specs.declared.codes.Code.{Code}
use Rattle.cf_base.specs.declared.codes.Code.TheVariants as code
use Rattle.cf_base.specs.declared.events.DeviceEvent.TheVariants as device
use Rattle.cf_base.specs.declared.events.Event.{Event}
use Rattle.cf_base.specs.declared.events.Event.TheVariants as event
use Rattle.cf_base.specs.declared.events.PeerEvent.{PeerEvent}
use Rattle.cf_base.specs.declared.policies.Mode.{Mode}
use Rattle.cf_model.specs.Events.{answer_in, begun, needs_volume, no_volume, tree_of}
use Rattle.cf_model.specs.Lawful.{IsStep}
use Rattle.cf_model.specs.Points.{HasPoints}
use Rattle.cf_model.specs.State.{State}
use Rattle.cf_model.specs.Trees.{Ends}
use Rattle.cf_model.proofs.MessagesKeep.{asked_keeps}
use Rattle.cf_model.proofs.PeersKeep.{peer_event_keeps}
use Rattle.cf_model.proofs.TreeLaws.{kept_at_end}
use Rattle.cf_check_ways.specs.Ways.{HadRoom, BecomesSure, FirstFits, IsLaden, IsOpenedAt, SamePoints, core_of, Alike, BothResumed, Parted, is_good, of_state}
use Rattle.cf_check_ways.proofs.EngineEventsSure.{engine_event_sure}
use Rattle.cf_check_ways.proofs.EventsSure.{call_now_sure, provider_event_sure}
use Rattle.cf_check_ways.proofs.RoomPoints.{restart_fits, restart_laden, restarts_share, resumed_where}
use Rattle.cf_check_ways.proofs.RestartsSure.{crash_sure, restart_lines, restart_quiet}
use Rattle.cf_check_ways.proofs.Sure.{becomes_same, had_same, same_points, sure_ret}
use Rattle.cf_check_ways.proofs.StepsSure.{Stopped, StepOf, begun_alike, cut_is_stopped, step_of}

peer_core : (e : PeerEvent) (s : State) (r : Shown) (t : State) → Ends (tree_of (event.Peer e) s) r t → core_of t.filter.volume ≡ core_of s.filter.volume
peer_core e s r t h =
    kept_at_end (λ x. core_of x.filter.volume ≡ core_of s.filter.volume) (tree_of (event.Peer e) s) r t
    ((peer_event_keeps (λ x. core_of x.filter.volume ≡ core_of s.filter.volume) (asked_keeps (λ x. core_of x.filter.volume ≡ core_of s.filter.volume) (λ x n. n) (λ held x n. n) (λ x n. n)) (λ x n. n) (λ y x n. n) e).keeps (begun s) refl) h

ended_rooms : (s : State) (e : Event) → (e ≡ event.Device device.Restart → ⊥) → (r : Shown) (t : State) → Ends (tree_of e s) r t → BecomesSure (core_of s.filter.volume) (core_of t.filter.volume)
ended_rooms s (event.Call c) other r t h = (call_now_sure c).rooms (begun s) r t h
ended_rooms s (event.Device (device.Stop n)) other r t h = (sure_ret of_state shown.Done).rooms (begun s) r t h
ended_rooms s (event.Device (device.Crash c)) other r t h = crash_sure.rooms (begun s) r t h
ended_rooms s (event.Device device.Restart) other r t h = absurd (other refl)
ended_rooms s (event.Peer p) other r t h = becomes_same (core_of s.filter.volume) (core_of t.filter.volume) (peer_core p s r t h)
ended_rooms s (event.Engine g) other r t h = (engine_event_sure g).rooms (begun s) r t h
ended_rooms s (event.Provider p) other r t h = (provider_event_sure p).rooms (begun s) r t h

-- what an event that is no restart makes of the points
pub step_rooms : (m : Mode) (s : State) (e : Event) (a : Answer) (t : State) → IsStep m s e a t → (Stopped a → ⊥) → (e ≡ event.Device device.Restart → ⊥) → BecomesSure (core_of s.filter.volume) (core_of t.filter.volume)
step_rooms m s e a t h runs other = by (no_volume (needs_volume e) s.power) (step_of m s e a t h)
  where
    by : (why : Option Code) → StepOf why s e a t → BecomesSure (core_of s.filter.volume) (core_of t.filter.volume)
    by (Some c) x = becomes_same (core_of s.filter.volume) (core_of t.filter.volume) (ap (λ (z : State). core_of z.filter.volume) x.1)
    by None (inr stop) = absurd (runs (cut_is_stopped s e a t stop))
    by None (inl x) = ended_rooms s e other x.0 t x.1

abbrev Kept : State → Answer → State → Answer → Type 0
Kept t a u b = SamePoints (core_of t.filter.volume) (core_of u.filter.volume) ⊎ Parted a.notes b.notes

ended_keeps : (s o : State) (e : Event) → (e ≡ event.Device device.Restart → ⊥) → Alike of_state s o → IsLaden (core_of s.filter.volume) → IsLaden (core_of o.filter.volume) → SamePoints (core_of s.filter.volume) (core_of o.filter.volume) → (r q : Shown) (t u : State) → Ends (tree_of e s) r t → Ends (tree_of e o) q u
    → is_good t ≡ true → is_good u ≡ true → Kept t (answer_in r t) u (answer_in q u)
ended_keeps s o (event.Call c) other alike laden laden_too same r q t u h k good well = (call_now_sure c).keeps (begun s) (begun o) (begun_alike s o alike) laden laden_too same r q t u h k good well
ended_keeps s o (event.Device (device.Stop n)) other alike laden laden_too same r q t u h k good well = (sure_ret of_state shown.Done).keeps (begun s) (begun o) (begun_alike s o alike) laden laden_too same r q t u h k good well
ended_keeps s o (event.Device (device.Crash c)) other alike laden laden_too same r q t u h k good well = crash_sure.keeps (begun s) (begun o) (begun_alike s o alike) laden laden_too same r q t u h k good well
ended_keeps s o (event.Device device.Restart) other alike laden laden_too same r q t u h k good well = absurd (other refl)
ended_keeps s o (event.Peer p) other alike laden laden_too same r q t u h k good well = inl (same_points (core_of s.filter.volume) (core_of o.filter.volume) (core_of t.filter.volume) (core_of u.filter.volume) (peer_core p s r t h) (peer_core p o q u k) same)
ended_keeps s o (event.Engine g) other alike laden laden_too same r q t u h k good well = (engine_event_sure g).keeps (begun s) (begun o) (begun_alike s o alike) laden laden_too same r q t u h k good well
ended_keeps s o (event.Provider p) other alike laden laden_too same r q t u h k good well = (provider_event_sure p).keeps (begun s) (begun o) (begun_alike s o alike) laden laden_too same r q t u h k good well

pub steps_keep : (m : Mode) (s o : State) (e : Event) (a b : Answer) (t u : State) → (e ≡ event.Device device.Restart → ⊥) → Alike of_state s o → IsLaden (core_of s.filter.volume) → IsLaden (core_of o.filter.volume)
    → SamePoints (core_of s.filter.volume) (core_of o.filter.volume)
    → IsStep m s e a t → IsStep m o e b u → is_good t ≡ true → is_good u ≡ true → (Stopped a → ⊥) → (Stopped b → ⊥) → Kept t a u b
steps_keep m s o e a b t u other alike laden laden_too same h k good well runs runs_too =
    by (no_volume (needs_volume e) s.power) (step_of m s e a t h) (subst (λ (w : Option Code). StepOf w o e b u) (sym (ap (λ (x : State). no_volume (needs_volume e) x.power) alike)) (step_of m o e b u k))
  where
    by : (why : Option Code) → StepOf why s e a t → StepOf why o e b u → Kept t a u b
    by (Some c) x y = inl (same_points (core_of s.filter.volume) (core_of o.filter.volume) (core_of t.filter.volume) (core_of u.filter.volume) (ap (λ (z : State). core_of z.filter.volume) x.1) (ap (λ (z : State). core_of z.filter.volume) y.1) same)
    by None (inr stop) y = absurd (runs (cut_is_stopped s e a t stop))
    by None x (inr stop) = absurd (runs_too (cut_is_stopped o e b u stop))
    by None (inl x) (inl y) =
        subst (λ (z : Answer). Kept t z u b) (sym x.2) (subst (λ (z : Answer). Kept t (answer_in x.0 t) u z) (sym y.2) (ended_keeps s o e other alike laden laden_too same x.0 y.0 t u x.1 y.1 good well))

-- what is known of the points stays known

pub step_laden : (m : Mode) (s : State) (e : Event) (a : Answer) (t : State) → IsStep m s e a t → (Stopped a → ⊥) → HasPoints s.filter.volume → IsLaden (core_of s.filter.volume) → IsLaden (core_of t.filter.volume)
step_laden m s e a t h runs has laden = by e h
  where
    restarted : StepOf None s (event.Device device.Restart) a t → IsLaden (core_of t.filter.volume)
    restarted (inl x) = restart_laden (begun s) x.0 t has laden x.1
    restarted (inr stop) = absurd (runs (cut_is_stopped s (event.Device device.Restart) a t stop))

    other : (k : Event) → IsStep m s k a t → (k ≡ event.Device device.Restart → ⊥) → IsLaden (core_of t.filter.volume)
    other k step not = (step_rooms m s k a t step runs not).laden laden

    by : (k : Event) → IsStep m s k a t → IsLaden (core_of t.filter.volume)
    by (event.Device device.Restart) step = restarted (step_of m s (event.Device device.Restart) a t step)
    by (event.Device (device.Stop n)) step = other (event.Device (device.Stop n)) step (λ e. let z : event.Device (device.Stop n) ≡ event.Device device.Restart = e in cc)
    by (event.Device (device.Crash c)) step = other (event.Device (device.Crash c)) step (λ e. let z : event.Device (device.Crash c) ≡ event.Device device.Restart = e in cc)
    by (event.Call c) step = other (event.Call c) step (λ e. let z : event.Call c ≡ event.Device device.Restart = e in cc)
    by (event.Peer p) step = other (event.Peer p) step (λ e. let z : event.Peer p ≡ event.Device device.Restart = e in cc)
    by (event.Engine g) step = other (event.Engine g) step (λ e. let z : event.Engine g ≡ event.Device device.Restart = e in cc)
    by (event.Provider p) step = other (event.Provider p) step (λ e. let z : event.Provider p ≡ event.Device device.Restart = e in cc)

-- each change of the log had room

ended_fits : (s : State) (e : Event) → (e ≡ event.Device device.Restart → ⊥) → (r : Shown) (t : State) → Ends (tree_of e s) r t → HadRoom (core_of s.filter.volume) → HadRoom (core_of t.filter.volume)
ended_fits s (event.Call c) other r t h had = (call_now_sure c).fits (begun s) (record {}) r t h had
ended_fits s (event.Device (device.Stop n)) other r t h had = (sure_ret of_state shown.Done).fits (begun s) (record {}) r t h had
ended_fits s (event.Device (device.Crash c)) other r t h had = crash_sure.fits (begun s) (record {}) r t h had
ended_fits s (event.Device device.Restart) other r t h had = absurd (other refl)
ended_fits s (event.Peer p) other r t h had = had_same (core_of s.filter.volume) (core_of t.filter.volume) (peer_core p s r t h) had
ended_fits s (event.Engine g) other r t h had = (engine_event_sure g).fits (begun s) (record {}) r t h had
ended_fits s (event.Provider p) other r t h had = (provider_event_sure p).fits (begun s) (record {}) r t h had

pub step_fits : (m : Mode) (s : State) (e : Event) (a : Answer) (t : State) → IsStep m s e a t → (Stopped a → ⊥) → HadRoom (core_of s.filter.volume) → HadRoom (core_of t.filter.volume)
step_fits m s e a t h runs had = by e h
  where
    restarted : StepOf None s (event.Device device.Restart) a t → HadRoom (core_of t.filter.volume)
    restarted (inl x) = restart_fits (begun s) x.0 t had x.1
    restarted (inr stop) = absurd (runs (cut_is_stopped s (event.Device device.Restart) a t stop))

    of_step : (k : Event) → (k ≡ event.Device device.Restart → ⊥) → (why : Option Code) → StepOf why s k a t → HadRoom (core_of t.filter.volume)
    of_step k not (Some c) x = had_same (core_of s.filter.volume) (core_of t.filter.volume) (ap (λ (z : State). core_of z.filter.volume) x.1) had
    of_step k not None (inr stop) = absurd (runs (cut_is_stopped s k a t stop))
    of_step k not None (inl x) = ended_fits s k not x.0 t x.1 had

    other : (k : Event) → IsStep m s k a t → (k ≡ event.Device device.Restart → ⊥) → HadRoom (core_of t.filter.volume)
    other k step not = of_step k not (no_volume (needs_volume k) s.power) (step_of m s k a t step)

    by : (k : Event) → IsStep m s k a t → HadRoom (core_of t.filter.volume)
    by (event.Device device.Restart) step = restarted (step_of m s (event.Device device.Restart) a t step)
    by (event.Device (device.Stop n)) step = other (event.Device (device.Stop n)) step (λ e. let z : event.Device (device.Stop n) ≡ event.Device device.Restart = e in cc)
    by (event.Device (device.Crash c)) step = other (event.Device (device.Crash c)) step (λ e. let z : event.Device (device.Crash c) ≡ event.Device device.Restart = e in cc)
    by (event.Call c) step = other (event.Call c) step (λ e. let z : event.Call c ≡ event.Device device.Restart = e in cc)
    by (event.Peer p) step = other (event.Peer p) step (λ e. let z : event.Peer p ≡ event.Device device.Restart = e in cc)
    by (event.Engine g) step = other (event.Engine g) step (λ e. let z : event.Engine g ≡ event.Device device.Restart = e in cc)
    by (event.Provider p) step = other (event.Provider p) step (λ e. let z : event.Provider p ≡ event.Device device.Restart = e in cc)

-- restarts from alike states with the same points

pub restarts_same : (m : Mode) (s o : State) (a b : Answer) (t u : State) → Alike of_state s o → s.failed_opens ≡ 0 → HasPoints s.filter.volume → HasPoints o.filter.volume → IsLaden (core_of s.filter.volume) → IsLaden (core_of o.filter.volume)
    → SamePoints (core_of s.filter.volume) (core_of o.filter.volume) → FirstFits (core_of s.filter.volume) → IsStep m s (event.Device device.Restart) a t → IsStep m o (event.Device device.Restart) b u
    → (Stopped a → ⊥) → (Stopped b → ⊥) → (a ≡ answer_in a.shown t → b ≡ answer_in b.shown u → (r : BothResumed (begun s) (begun o) a.shown b.shown t u) → r.point.count ≡ r.other.count)
    → (a ≡ b) × Alike of_state t u × SamePoints (core_of t.filter.volume) (core_of u.filter.volume)
restarts_same m s o a b t u alike none has has_too laden laden_too same fits h k runs runs_too counts = by (step_of m s (event.Device device.Restart) a t h) (step_of m o (event.Device device.Restart) b u k)
  where
    by : StepOf None s (event.Device device.Restart) a t → StepOf None o (event.Device device.Restart) b u → (a ≡ b) × Alike of_state t u × SamePoints (core_of t.filter.volume) (core_of u.filter.volume)
    by (inr stop) y = absurd (runs (cut_is_stopped s (event.Device device.Restart) a t stop))
    by x (inr stop) = absurd (runs_too (cut_is_stopped o (event.Device device.Restart) b u stop))
    by (inl x) (inl y) =
        let told : a.shown ≡ x.0 = ap (λ (z : Answer). z.shown) x.2 in
        let told_too : b.shown ≡ y.0 = ap (λ (z : Answer). z.shown) y.2 in
        let ends : Ends (tree_of (event.Device device.Restart) s) a.shown t = subst (λ (z : Shown). Ends (tree_of (event.Device device.Restart) s) z t) (sym told) x.1 in
        let ends_too : Ends (tree_of (event.Device device.Restart) o) b.shown u = subst (λ (z : Shown). Ends (tree_of (event.Device device.Restart) o) z u) (sym told_too) y.1 in
        let is : a ≡ answer_in a.shown t = x.2 ∙ ap (λ (z : Shown). answer_in z t) (sym told) in
        let is_too : b ≡ answer_in b.shown u = y.2 ∙ ap (λ (z : Shown). answer_in z u) (sym told_too) in
        let z = restarts_share (begun s) (begun o) (begun_alike s o alike) none has has_too laden laden_too same fits a.shown b.shown t u ends ends_too (counts is is_too) in
        (is ∙ ap (λ (w : Shown). answer_in w t) z.0.0 ∙ ap (λ (w : State). answer_in b.shown w) z.0.1 ∙ sym is_too, z.0.1, z.1)

-- what a restart may open
pub step_resumed : (m : Mode) (s : State) (a : Answer) (t : State) (n : ℕ) (k : OpenedBook) → HasPoints s.filter.volume → IsLaden (core_of s.filter.volume) → IsStep m s (event.Device device.Restart) a t → a.shown ≡ shown.Resumed n k → IsOpenedAt s n
step_resumed m s a t n k has laden h is = by (step_of m s (event.Device device.Restart) a t h)
  where
    by : StepOf None s (event.Device device.Restart) a t → IsOpenedAt s n
    by (inl x) = resumed_where (begun s) x.0 t n k has laden x.1 (sym (ap (λ (y : Answer). y.shown) x.2) ∙ is)
    by (inr stop) = let z : shown.Refused code.Device ≡ shown.Resumed n k = sym (cut_is_stopped s (event.Device device.Restart) a t stop) ∙ is in absurd cc

-- a restart that the device cut off tells nothing
pub restart_told : (m : Mode) (o : State) (b : Answer) (u : State) → IsStep m o (event.Device device.Restart) b u → b.notes ≡ []
restart_told m o b u k = by (step_of m o (event.Device device.Restart) b u k)
  where
    ended : (r : Shown) → Ends (tree_of (event.Device device.Restart) o) r u → b ≡ answer_in r u → b.notes ≡ []
    ended r h is = ap (λ (x : Answer). x.notes) is ∙ restart_lines (begun o) r u refl h

    by : StepOf None o (event.Device device.Restart) b u → b.notes ≡ []
    by (inl x) = ended x.0 x.1 x.2
    by (inr x) = ap (λ (z : Answer). z.notes) x.4 ∙ restart_quiet (begun o) x.1 x.2
