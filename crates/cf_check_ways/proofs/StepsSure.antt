-- Two answers to one event from alike states.
use Rattle.std.proofs.Common.{◌≡◌, ◌⊎◌, ℕ, zero, suc, Bool, true, false, List, [], ◌∷◌, refl, sym, ◌∙◌, ap, subst, inl, inr, ◌≤◌, ◌+◌, arith, length}
use Rattle.std.specs.Prelude.{Option, Some, None}
use Rattle.cf_base.specs.declared.answers.Answer.{Answer}
use Rattle.cf_base.specs.declared.answers.Shown.{Shown}
use Rattle.cf_base.specs.declared.answers.Shown.TheVariants as shown
use Rattle.cf_base.specs.declared.codes.Code.{Code}
use Rattle.cf_base.specs.declared.codes.Code.TheVariants as code
use Rattle.cf_base.specs.declared.events.DeviceEvent.TheVariants as device
use Rattle.cf_base.specs.declared.events.Event.{Event}
use Rattle.cf_base.specs.declared.events.Event.TheVariants as event
use Rattle.cf_base.specs.declared.events.PeerEvent.{PeerEvent}
use Rattle.cf_base.specs.declared.notices.Notice.{Notice}
use Rattle.cf_base.specs.declared.policies.Mode.{Mode}
use Rattle.cf_model.specs.Events.{answer_in, answered, begun, broken, choices_in, event_now, may_stop, needs_volume, no_volume, outcome, refusal, tree_of}
use Rattle.cf_model.specs.Lawful.{IsStep}
use Rattle.cf_model.specs.Points.{HasPoints}
use Rattle.cf_model.specs.State.{Link, State}
use Rattle.cf_model.specs.Trees.{Stops, AsItKeeps, Asked, Choices, Ends, Fork, Ret, Step, Telling, Tree, play, walk}
use Rattle.cf_model.proofs.MessagesKeep.{asked_keeps}
use Rattle.cf_model.proofs.PeersKeep.{peer_event_keeps}
use Rattle.cf_model.proofs.TreeLaws.{kept_at_end}
use Rattle.cf_check_ways.specs.Ways.{IsFront, Grown, Alike, AnswersAlike, BothResumed, IsSure, OneFailed, Parted, SameEnd, fixed_state, is_good, of_state}
use Rattle.cf_check_ways.proofs.EngineEventsSure.{engine_event_sure}
use Rattle.cf_check_ways.proofs.EventsSure.{call_now_sure, provider_event_sure}
use Rattle.cf_check_ways.proofs.PeersSure.{peer_event_sure}
use Rattle.cf_check_ways.proofs.RestartsSure.{crash_sure, restart_afresh, restart_one, restart_sends}
use Rattle.cf_check_ways.proofs.Sure.{sure_ret}

-- by choices that do not stop it an event ends

pub walk_ends : {S A : Type 0} (stop : Option ℕ) (forks : List Bool) (ts : List Telling) (p : Tree S A) (a : A) (t : S) → ◌≡◌ {A = Option A × S} (walk stop forks ts p) (Some a, t) → Ends p a t
walk_ends {S} {A} stop forks ts (Ret b s) a t h = (some_inj (sym (ap (λ (x : Option A × S). x.0) h)), sym (ap (λ (x : Option A × S). x.1) h))
  where
    some_inj : Some a ≡ Some b → a ≡ b
    some_inj e = cc
walk_ends None forks ts (Step s p) a t h = walk_ends None forks ts p a t h
walk_ends {S} {A} (Some zero) forks ts (Step s p) a t h = let z : ◌≡◌ {A = Option A} None (Some a) = ap (λ (x : Option A × S). x.0) h in absurd cc
walk_ends (Some (suc n)) forks ts (Step s p) a t h = walk_ends (Some n) forks ts p a t h
walk_ends stop [] ts (Fork p q) a t h = inl (walk_ends stop [] ts p a t h)
walk_ends stop (false ∷ forks) ts (Fork p q) a t h = inl (walk_ends stop forks ts p a t h)
walk_ends stop (true ∷ forks) ts (Fork p q) a t h = inr (walk_ends stop forks ts q a t h)
walk_ends stop forks [] (Asked k) a t h = (AsItKeeps, walk_ends stop forks [] (k AsItKeeps) a t h)
walk_ends stop forks (x ∷ ts) (Asked k) a t h = (x, walk_ends stop forks ts (k x) a t h)

-- by choices that stop it it leaves the state of a stop

walk_stops : {S A : Type 0} (stop : Option ℕ) (forks : List Bool) (ts : List Telling) (p : Tree S A) (t : S) → ◌≡◌ {A = Option A × S} (walk stop forks ts p) (None, t) → Stops p t
walk_stops {S} {A} stop forks ts (Ret b s) t h = let z : ◌≡◌ {A = Option A} (Some b) None = ap (λ (x : Option A × S). x.0) h in absurd cc
walk_stops None forks ts (Step s p) t h = inr (walk_stops None forks ts p t h)
walk_stops {S} {A} (Some zero) forks ts (Step s p) t h = inl (sym (ap (λ (x : Option A × S). x.1) h))
walk_stops (Some (suc n)) forks ts (Step s p) t h = inr (walk_stops (Some n) forks ts p t h)
walk_stops stop [] ts (Fork p q) t h = inl (walk_stops stop [] ts p t h)
walk_stops stop (false ∷ forks) ts (Fork p q) t h = inl (walk_stops stop forks ts p t h)
walk_stops stop (true ∷ forks) ts (Fork p q) t h = inr (walk_stops stop forks ts q t h)
walk_stops stop forks [] (Asked k) t h = (AsItKeeps, walk_stops stop forks [] (k AsItKeeps) t h)
walk_stops stop forks (x ∷ ts) (Asked k) t h = (x, walk_stops stop forks ts (k x) t h)

-- without a stop there is a result
pub never_stops : {S A : Type 0} (forks : List Bool) (ts : List Telling) (p : Tree S A) (t : S) → ◌≡◌ {A = Option A × S} (walk None forks ts p) (None, t) → ⊥
never_stops {S} {A} forks ts (Ret b s) t h = let z : ◌≡◌ {A = Option A} (Some b) None = ap (λ (x : Option A × S). x.0) h in absurd cc
never_stops forks ts (Step s p) t h = never_stops forks ts p t h
never_stops [] ts (Fork p q) t h = never_stops [] ts p t h
never_stops (false ∷ forks) ts (Fork p q) t h = never_stops forks ts p t h
never_stops (true ∷ forks) ts (Fork p q) t h = never_stops forks ts q t h
never_stops forks [] (Asked k) t h = never_stops forks [] (k AsItKeeps) t h
never_stops forks (x ∷ ts) (Asked k) t h = never_stops forks ts (k x) t h

-- what a step is: a refusal for want of the volume, an end, or a stop

abbrev pub Stopped : Answer → Type 0
Stopped a = a.shown ≡ shown.Refused code.Device

abbrev pub Ended : State → Event → Answer → State → Type 0
Ended s e a t = (r : Shown) × Ends (tree_of e s) r t × (a ≡ answer_in r t)

-- the device cut the event off, which may be
abbrev pub CutOff : State → Event → Answer → State → Type 0
CutOff s e a t = (may_stop e ≡ true) × (u : State) × Stops (tree_of e s) u × (t ≡ broken u) × (a ≡ answer_in (shown.Refused code.Device) u)

pub cut_is_stopped : (s : State) (e : Event) (a : Answer) (t : State) → CutOff s e a t → Stopped a
cut_is_stopped s e a t c = ap (λ (x : Answer). x.shown) c.4

abbrev pub StepOf : Option Code → State → Event → Answer → State → Type 0
StepOf (Some c) s e a t = (a ≡ refusal c) × (t ≡ s)
StepOf None s e a t = Ended s e a t ⊎ CutOff s e a t

outcome_of : (s : State) (e : Event) (a : Answer) (t : State) (x : Option Shown) (u : State) → ((r : Shown) → x ≡ Some r → Ends (tree_of e s) r u) → (x ≡ None → (may_stop e ≡ true) × Stops (tree_of e s) u) → ◌≡◌ {A = State × Answer} (outcome (x, u)) (t, a) → StepOf None s e a t
outcome_of s e a t (Some r) u ends cut h =
    let is : u ≡ t = ap (λ (z : State × Answer). z.0) h in
    let told : answer_in r u ≡ a = ap (λ (z : State × Answer). z.1) h in
    inl (r, subst (λ (z : State). Ends (tree_of e s) r z) is (ends r refl), sym told ∙ ap (answer_in r) is)
outcome_of s e a t None u ends cut h = let c = cut refl in inr (c.0, u, c.1, sym (ap (λ (z : State × Answer). z.0) h), sym (ap (λ (z : State × Answer). z.1) h))

cut_by : (c : Choices) (s : State) (e : Event) (u : State) (may : Bool) → may_stop e ≡ may → ◌≡◌ {A = Option Shown × State} (play (choices_in (may_stop e) c) (tree_of e s)) (None, u) → (may_stop e ≡ true) × Stops (tree_of e s) u
cut_by c s e u true is h = (is, walk_stops (choices_in (may_stop e) c).stop (choices_in (may_stop e) c).forks (choices_in (may_stop e) c).tellings (tree_of e s) u h)
cut_by c s e u false is h = absurd (never_stops c.forks c.tellings (tree_of e s) u (subst (λ (b : Bool). ◌≡◌ {A = Option Shown × State} (play (choices_in b c) (tree_of e s)) (None, u)) is h))

parts_of : (why : Option Code) (c : Choices) (s : State) (e : Event) (a : Answer) (t : State) → ◌≡◌ {A = State × Answer} (answered why c s e) (t, a) → StepOf why s e a t
parts_of (Some r) c s e a t h = (sym (ap (λ (z : State × Answer). z.1) h), sym (ap (λ (z : State × Answer). z.0) h))
parts_of None c s e a t h =
    let d : Choices = choices_in (may_stop e) c in
    let p : Option Shown × State = play d (tree_of e s) in
    outcome_of s e a t p.0 p.1 (λ r is. walk_ends d.stop d.forks d.tellings (tree_of e s) r p.1 (ap (λ (x : Option Shown). (x, p.1)) is)) (λ is. cut_by c s e p.1 (may_stop e) refl (ap (λ (x : Option Shown). (x, p.1)) is)) h

pub step_of : (m : Mode) (s : State) (e : Event) (a : Answer) (t : State) → IsStep m s e a t → StepOf (no_volume (needs_volume e) s.power) s e a t
step_of m s e a t h = parts_of (no_volume (needs_volume e) s.power) h.1 s e a t h.2

-- trees of one event from alike states

pub begun_alike : (s o : State) → Alike of_state s o → Alike of_state (begun s) (begun o)
begun_alike s o e = ap (λ (x : State). fixed_state (begun x)) e

-- the answers, where the ends are alike
answers_as_ends : (s o : State) (e : Event) (r q : Shown) (t u : State) → SameEnd of_state r t q u ⊎ Parted t.filter.notes u.filter.notes → AnswersAlike s o e (answer_in r t) t (answer_in q u) u
answers_as_ends s o e r q t u (inl same) = inl (ap (λ (x : Shown). answer_in x t) same.0 ∙ ap (λ (x : State). answer_in q x) same.1, same.1)
answers_as_ends s o e r q t u (inr apart) = inr (inl apart)

of_sure : (s o : State) (e : Event) → IsSure of_state (event_now e) → Alike of_state s o → (r q : Shown) (t u : State) → Ends (tree_of e s) r t → Ends (tree_of e o) q u → is_good t ≡ true → is_good u ≡ true
    → AnswersAlike s o e (answer_in r t) t (answer_in q u) u
of_sure s o e sure alike r q t u h k good well = answers_as_ends s o e r q t u (sure.one (begun s) (begun o) (begun_alike s o alike) r q t u h k good well)

peer_quiet : (e : PeerEvent) (s : State) (r : Shown) (t : State) → Ends (tree_of (event.Peer e) s) r t → t.filter.notes ≡ []
peer_quiet e s r t h =
    kept_at_end (λ x. x.filter.notes ≡ []) (tree_of (event.Peer e) s) r t
    ((peer_event_keeps (λ x. x.filter.notes ≡ []) (asked_keeps (λ x. x.filter.notes ≡ []) (λ x n. n) (λ held x n. n) (λ x n. n)) (λ x n. n) (λ y x n. n) e).keeps (begun s) refl) h

of_peer : (s o : State) (e : PeerEvent) → Alike of_state s o → (r q : Shown) (t u : State) → Ends (tree_of (event.Peer e) s) r t → Ends (tree_of (event.Peer e) o) q u → is_good t ≡ true → is_good u ≡ true
    → AnswersAlike s o (event.Peer e) (answer_in r t) t (answer_in q u) u
of_peer s o e alike r q t u h k good well = by ((peer_event_sure e).one (begun s) (begun o) (begun_alike s o alike) r q t u h k good well)
  where
    by : SameEnd of_state r t q u ⊎ (Parted t.filter.notes u.filter.notes ⊎ OneFailed r q) → AnswersAlike s o (event.Peer e) (answer_in r t) t (answer_in q u) u
    by (inl same) = answers_as_ends s o (event.Peer e) r q t u (inl same)
    by (inr (inl apart)) = inr (inl apart)
    by (inr (inr one)) = inr (inr (inl (refl, peer_quiet e s r t h ∙ sym (peer_quiet e o q u k), one)))

of_restart : (s o : State) → Alike of_state s o → s.failed_opens ≡ 0 → HasPoints s.filter.volume → HasPoints o.filter.volume → (r q : Shown) (t u : State)
    → Ends (tree_of (event.Device device.Restart) s) r t → Ends (tree_of (event.Device device.Restart) o) q u → AnswersAlike s o (event.Device device.Restart) (answer_in r t) t (answer_in q u) u
of_restart s o alike none has has_too r q t u h k = by (restart_one (begun s) (begun o) (begun_alike s o alike) none has has_too r q t u h k)
  where
    by : SameEnd of_state r t q u ⊎ BothResumed (begun s) (begun o) r q t u → AnswersAlike s o (event.Device device.Restart) (answer_in r t) t (answer_in q u) u
    by (inl same) = answers_as_ends s o (event.Device device.Restart) r q t u (inl same)
    by (inr both) = inr (inr (inr (refl, refl, refl, both)))

both_ended : (s o : State) (e : Event) → Alike of_state s o → s.failed_opens ≡ 0 → HasPoints s.filter.volume → HasPoints o.filter.volume → (r q : Shown) (t u : State)
    → Ends (tree_of e s) r t → Ends (tree_of e o) q u → is_good t ≡ true → is_good u ≡ true → AnswersAlike s o e (answer_in r t) t (answer_in q u) u
both_ended s o (event.Call c) alike none has has_too r q t u h k good well = of_sure s o (event.Call c) (call_now_sure c) alike r q t u h k good well
both_ended s o (event.Device (device.Stop n)) alike none has has_too r q t u h k good well = of_sure s o (event.Device (device.Stop n)) (sure_ret of_state shown.Done) alike r q t u h k good well
both_ended s o (event.Device (device.Crash c)) alike none has has_too r q t u h k good well = of_sure s o (event.Device (device.Crash c)) crash_sure alike r q t u h k good well
both_ended s o (event.Device device.Restart) alike none has has_too r q t u h k good well = of_restart s o alike none has has_too r q t u h k
both_ended s o (event.Peer p) alike none has has_too r q t u h k good well = of_peer s o p alike r q t u h k good well
both_ended s o (event.Engine g) alike none has has_too r q t u h k good well = of_sure s o (event.Engine g) (engine_event_sure g) alike r q t u h k good well
both_ended s o (event.Provider p) alike none has has_too r q t u h k good well = of_sure s o (event.Provider p) (provider_event_sure p) alike r q t u h k good well

-- two answers to one event from alike states, neither of which is that of a device that failed
pub steps_alike : (m : Mode) (s o : State) (e : Event) (a b : Answer) (t u : State) → Alike of_state s o → s.failed_opens ≡ 0 → HasPoints s.filter.volume → HasPoints o.filter.volume
    → IsStep m s e a t → IsStep m o e b u → is_good t ≡ true → is_good u ≡ true → (Stopped a → ⊥) → (Stopped b → ⊥) → AnswersAlike s o e a t b u
steps_alike m s o e a b t u alike none has has_too h k good well runs runs_too =
    by (no_volume (needs_volume e) s.power) (step_of m s e a t h) (subst (λ (w : Option Code). StepOf w o e b u) (sym (ap (λ (x : State). no_volume (needs_volume e) x.power) alike)) (step_of m o e b u k))
  where
    by : (why : Option Code) → StepOf why s e a t → StepOf why o e b u → AnswersAlike s o e a t b u
    by (Some c) x y = inl (x.0 ∙ sym y.0, ap fixed_state x.1 ∙ alike ∙ ap fixed_state (sym y.1))
    by None (inr stop) y = absurd (runs (cut_is_stopped s e a t stop))
    by None x (inr stop) = absurd (runs_too (cut_is_stopped o e b u stop))
    by None (inl x) (inl y) =
        subst (λ (z : Answer). AnswersAlike s o e z t b u) (sym x.2)
        (subst (λ (z : Answer). AnswersAlike s o e (answer_in x.0 t) t z u) (sym y.2) (both_ended s o e alike none has has_too x.0 y.0 t u x.1 y.1 good well))

-- each new message has a line

counted_of : (s t : State) → Grown of_state (begun s) t → length t.link.messages ≤ length s.link.messages + length t.filter.notes
counted_of s t g = let same : length t.filter.notes ≡ length g.notes.0 = ap (λ (ns : List Notice). length ns) g.notes.1 in let le : length t.link.messages ≤ length s.link.messages + length g.notes.0 = g.counted in omega (arith, same, le)

sent_nothing : (s t : State) → t.link ≡ s.link → length t.link.messages ≤ length s.link.messages + length t.filter.notes
sent_nothing s t e = let same : length t.link.messages ≡ length s.link.messages = ap (λ (l : Link). length l.messages) e in omega (arith, same)

ended_count : (s : State) (e : Event) (r : Shown) (t : State) → Ends (tree_of e s) r t → length t.link.messages ≤ length s.link.messages + length t.filter.notes
ended_count s (event.Call c) r t h = counted_of s t ((call_now_sure c).grows (begun s) r t h)
ended_count s (event.Device (device.Stop n)) r t h = counted_of s t ((sure_ret of_state shown.Done).grows (begun s) r t h)
ended_count s (event.Device (device.Crash c)) r t h = counted_of s t (crash_sure.grows (begun s) r t h)
ended_count s (event.Device device.Restart) r t h = sent_nothing s t (restart_sends (begun s) r t h)
ended_count s (event.Peer p) r t h = counted_of s t ((peer_event_sure p).grows (begun s) r t h)
ended_count s (event.Engine g) r t h = counted_of s t ((engine_event_sure g).grows (begun s) r t h)
ended_count s (event.Provider p) r t h = counted_of s t ((provider_event_sure p).grows (begun s) r t h)

pub step_count : (m : Mode) (s : State) (e : Event) (a : Answer) (t : State) → IsStep m s e a t → (Stopped a → ⊥) → length t.link.messages ≤ length s.link.messages + length a.notes
step_count m s e a t h runs = by (no_volume (needs_volume e) s.power) (step_of m s e a t h)
  where
    by : (why : Option Code) → StepOf why s e a t → length t.link.messages ≤ length s.link.messages + length a.notes
    by (Some c) x = let same : length t.link.messages ≡ length s.link.messages = ap (λ (z : State). length z.link.messages) x.1 in omega (arith, same)
    by None (inr stop) = absurd (runs (cut_is_stopped s e a t stop))
    by None (inl x) = subst (λ (z : Answer). length t.link.messages ≤ length s.link.messages + length z.notes) (sym x.2) (ended_count s e x.0 t x.1)

-- no opening fails

ended_afresh : (s : State) (e : Event) (r : Shown) (t : State) → s.failed_opens ≡ 0 → Ends (tree_of e s) r t → t.failed_opens ≡ 0
ended_afresh s (event.Call c) r t none h = ((call_now_sure c).grows (begun s) r t h).opens ∙ none
ended_afresh s (event.Device (device.Stop n)) r t none h = ((sure_ret of_state shown.Done).grows (begun s) r t h).opens ∙ none
ended_afresh s (event.Device (device.Crash c)) r t none h = (crash_sure.grows (begun s) r t h).opens ∙ none
ended_afresh s (event.Device device.Restart) r t none h = restart_afresh (begun s) r t none h
ended_afresh s (event.Peer p) r t none h = ((peer_event_sure p).grows (begun s) r t h).opens ∙ none
ended_afresh s (event.Engine g) r t none h = ((engine_event_sure g).grows (begun s) r t h).opens ∙ none
ended_afresh s (event.Provider p) r t none h = ((provider_event_sure p).grows (begun s) r t h).opens ∙ none

pub step_afresh : (m : Mode) (s : State) (e : Event) (a : Answer) (t : State) → IsStep m s e a t → (Stopped a → ⊥) → s.failed_opens ≡ 0 → t.failed_opens ≡ 0
step_afresh m s e a t h runs none = by (no_volume (needs_volume e) s.power) (step_of m s e a t h)
  where
    by : (why : Option Code) → StepOf why s e a t → t.failed_opens ≡ 0
    by (Some c) x = ap (λ (z : State). z.failed_opens) x.1 ∙ none
    by None (inr stop) = absurd (runs (cut_is_stopped s e a t stop))
    by None (inl x) = ended_afresh s e x.0 t none x.1

-- what an answer shows that the device cut off

shown_by : (s o : State) (e : Event) → IsSure of_state (event_now e) → Alike of_state s o → (v : State) (q : Shown) (u : State) → Stops (tree_of e s) v → Ends (tree_of e o) q u → is_good v ≡ true → is_good u ≡ true
    → IsFront v.filter.notes u.filter.notes ⊎ Parted v.filter.notes u.filter.notes
shown_by s o e sure alike v q u h k good well = sure.stop (begun s) (begun o) (begun_alike s o alike) v q u h k good well

cut_shows : (s o : State) (e : Event) → (e ≡ event.Device device.Restart → ⊥) → may_stop e ≡ true → Alike of_state s o → (v : State) (q : Shown) (u : State) → Stops (tree_of e s) v → Ends (tree_of e o) q u
    → is_good v ≡ true → is_good u ≡ true → IsFront v.filter.notes u.filter.notes ⊎ Parted v.filter.notes u.filter.notes
cut_shows s o (event.Call c) other may alike v q u h k good well = shown_by s o (event.Call c) (call_now_sure c) alike v q u h k good well
cut_shows s o (event.Device (device.Stop n)) other may alike v q u h k good well = absurd h
cut_shows s o (event.Device (device.Crash c)) other may alike v q u h k good well = shown_by s o (event.Device (device.Crash c)) crash_sure alike v q u h k good well
cut_shows s o (event.Device device.Restart) other may alike v q u h k good well = absurd (other refl)
cut_shows s o (event.Peer p) other may alike v q u h k good well = let z : false ≡ true = may in absurd cc
cut_shows s o (event.Engine g) other may alike v q u h k good well = shown_by s o (event.Engine g) (engine_event_sure g) alike v q u h k good well
cut_shows s o (event.Provider p) other may alike v q u h k good well = shown_by s o (event.Provider p) (provider_event_sure p) alike v q u h k good well

-- the lines of an answer that the device cut off are a front of those of another answer that it did not cut off, but for faults
pub cut_off_shows : (m : Mode) (s o : State) (e : Event) (a b : Answer) (t u : State) → Alike of_state s o → s.failed_opens ≡ 0 → HasPoints s.filter.volume → HasPoints o.filter.volume
    → IsStep m s e a t → IsStep m o e b u → is_good t ≡ true → is_good u ≡ true → (e ≡ event.Device device.Restart → ⊥) → (Stopped b → ⊥)
    → AnswersAlike s o e a t b u ⊎ (Stopped a × (IsFront a.notes b.notes ⊎ Parted a.notes b.notes))
cut_off_shows m s o e a b t u alike none has has_too h k good well other runs =
    by (no_volume (needs_volume e) s.power) (step_of m s e a t h) (subst (λ (w : Option Code). StepOf w o e b u) (sym (ap (λ (x : State). no_volume (needs_volume e) x.power) alike)) (step_of m o e b u k))
  where
    by : (why : Option Code) → StepOf why s e a t → StepOf why o e b u → AnswersAlike s o e a t b u ⊎ (Stopped a × (IsFront a.notes b.notes ⊎ Parted a.notes b.notes))
    by (Some c) x y = inl (inl (x.0 ∙ sym y.0, ap fixed_state x.1 ∙ alike ∙ ap fixed_state (sym y.1)))
    by None x (inr stop) = absurd (runs (cut_is_stopped o e b u stop))
    by None (inl x) (inl y) =
        inl (subst (λ (z : Answer). AnswersAlike s o e z t b u) (sym x.2) (subst (λ (z : Answer). AnswersAlike s o e (answer_in x.0 t) t z u) (sym y.2) (both_ended s o e alike none has has_too x.0 y.0 t u x.1 y.1 good well)))
    by None (inr x) (inl y) =
        let good' : is_good x.1 ≡ true = ap is_good (sym x.3) ∙ good in
        let shows : IsFront x.1.filter.notes u.filter.notes ⊎ Parted x.1.filter.notes u.filter.notes = cut_shows s o e other x.0 alike x.1 y.0 u x.2 y.1 good' well in
        inr (
          cut_is_stopped s e a t x,
          subst (λ (z : Answer). IsFront z.notes b.notes ⊎ Parted z.notes b.notes) (sym x.4) (subst (λ (z : Answer). IsFront x.1.filter.notes z.notes ⊎ Parted x.1.filter.notes z.notes) (sym y.2) shows),
        )

-- the same where the device cut the event off

cut_count : (s : State) (e : Event) → (e ≡ event.Device device.Restart → ⊥) → may_stop e ≡ true → (u : State) → Stops (tree_of e s) u → length u.link.messages ≤ length s.link.messages + length u.filter.notes
cut_count s (event.Call c) other may u h = counted_of s u ((call_now_sure c).halts (begun s) u h)
cut_count s (event.Device (device.Stop n)) other may u h = absurd h
cut_count s (event.Device (device.Crash c)) other may u h = counted_of s u (crash_sure.halts (begun s) u h)
cut_count s (event.Device device.Restart) other may u h = absurd (other refl)
cut_count s (event.Peer p) other may u h = let z : false ≡ true = may in absurd cc
cut_count s (event.Engine g) other may u h = counted_of s u ((engine_event_sure g).halts (begun s) u h)
cut_count s (event.Provider p) other may u h = counted_of s u ((provider_event_sure p).halts (begun s) u h)

pub any_step_count : (m : Mode) (s : State) (e : Event) (a : Answer) (t : State) → IsStep m s e a t → (e ≡ event.Device device.Restart → ⊥) → length t.link.messages ≤ length s.link.messages + length a.notes
any_step_count m s e a t h other = by (no_volume (needs_volume e) s.power) (step_of m s e a t h)
  where
    by : (why : Option Code) → StepOf why s e a t → length t.link.messages ≤ length s.link.messages + length a.notes
    by (Some c) x = let same : length t.link.messages ≡ length s.link.messages = ap (λ (z : State). length z.link.messages) x.1 in omega (arith, same)
    by None (inl x) = subst (λ (z : Answer). length t.link.messages ≤ length s.link.messages + length z.notes) (sym x.2) (ended_count s e x.0 t x.1)
    by None (inr x) =
        subst (λ (z : Answer). length t.link.messages ≤ length s.link.messages + length z.notes) (sym x.4)
        (subst (λ (z : State). length z.link.messages ≤ length s.link.messages + length x.1.filter.notes) (sym x.3) (cut_count s e other x.0 x.1 x.2))
