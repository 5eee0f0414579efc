-- An event of the engine on the open volume is a step of the definitions.
use Rattle.std.proofs.Common.{◌≡◌, ◌+◌, Bool, true, false, ℕ, List, [], refl, sym, ◌∙◌, ap, subst}
use Rattle.std.specs.Prelude.{Option, None, Result, Ok, Err, IfOk, is_err}
use Rattle.cf_base.specs.declared.answers.Answer.{Answer}
use Rattle.cf_base.specs.declared.answers.Shown.{Shown}
use Rattle.cf_base.specs.declared.answers.Shown.TheVariants as shown
use Rattle.cf_base.specs.declared.codes.Code.{Code}
use Rattle.cf_base.specs.declared.codes.Code.TheVariants as code
use Rattle.cf_base.specs.declared.codes.CallError.{CallError}
use Rattle.cf_base.specs.declared.codes.CallError.TheVariants.{No, OutOfMemory}
use Rattle.cf_base.specs.declared.events.EngineEvent.{EngineEvent}
use Rattle.cf_base.specs.declared.events.Event.TheVariants as event
use Rattle.cf_base.specs.declared.memory.OutOfMemory.{OutOfMemory as NoMemory}
use Rattle.cf_base.specs.declared.messages.Reply.{Reply}
use Rattle.cf_base.specs.declared.notices.Notice.{Notice}
use Rattle.cf_base.specs.declared.policies.Mode.TheVariants as mode
use Rattle.cf_disk.specs.Disk.{State as Disk}
use Rattle.cf_engine.specs.Actors.{Holds, Stands, Syncing, acts_of}
use Rattle.cf_engine.specs.Sessions.{StepsEngine, said}
use Rattle.cf_engine_steps.specs.Answering.{Answers, Any}
use Rattle.cf_engine_steps.specs.States as states
use Rattle.cf_engine_steps.specs.States.{Means, Own, told_of, whole}
use Rattle.cf_filter.proofs.Called.{is_broken, noted_back, whole_again}
use Rattle.cf_filter.specs.Calling.{Told as Said, answer_of, broken_by, is_stopped, noted}
use Rattle.cf_filter_events.proofs.CallFaults.{rose_lines}
use Rattle.cf_filter_events.proofs.Counted.{ran_on}
use Rattle.cf_filter_events.proofs.Finished.{while_on}
use Rattle.cf_filter_events.proofs.Hushed.{disk_moved, notes_told, stands_hushed, stands_noted, stop_lasts, stop_policy, stop_shows, stop_told}
use Rattle.cf_filter_events.specs.Actors.{hushed}
use Rattle.cf_filter_events.specs.Answered.{answer_with, answered_by}
use Rattle.cf_filter_events.specs.Counted.{GoesOn}
use Rattle.cf_filter_events.specs.Meaning.{IsBegun, IsDiskOf, IsOn, OnBy}
use Rattle.cf_filter_events.specs.Pasts.{Past}
use Rattle.cf_filter_events.specs.Stepped.{SteppedTo}
use Rattle.cf_filter_machine.specs.Held.{Held}
use Rattle.cf_filter_machine.specs.Lasting.{Moved}
use Rattle.cf_filter_machine.specs.Sensing as sensing
use Rattle.cf_filter_machine.specs.Sensing.{Rose, sense}
use Rattle.cf_model.proofs.PeersAside.{HasPeers, engine_leaves_peers, peers_of}
use Rattle.cf_model.proofs.TraceLaws.{ended_step, stopped_step}
use Rattle.cf_model.proofs.TreeLaws.{kept_at_end, kept_at_stop}
use Rattle.cf_model.specs.EngineEvents.{engine_event}
use Rattle.cf_model.specs.Events.{answer_in, begun, broken, engine_needs}
use Rattle.cf_model.specs.Events as events
use Rattle.cf_model.specs.Lawful.{IsStep}
use Rattle.cf_model.specs.State.{Filter, On, State}
use Rattle.cf_model.specs.Trees.{Ends, Stops}
use Rattle.cf_remote.specs.Told.{Told}

-- other devices had no part in it

abbrev Peers : Type 0
Peers = ℕ × Option Reply

peers_end : (e : EngineEvent) (s t : State) (a : Shown) → Ends (engine_event e (begun s)) a t → peers_of t ≡ (s.peer_tokens, None)
peers_end e s t a ends = kept_at_end (HasPeers s.peer_tokens) (engine_event e (begun s)) a t ((engine_leaves_peers s.peer_tokens e).keeps (begun s) refl) ends

peers_stop : (e : EngineEvent) (s t : State) → Stops (engine_event e (begun s)) t → peers_of t ≡ (s.peer_tokens, None)
peers_stop e s t stops = kept_at_stop (HasPeers s.peer_tokens) (engine_event e (begun s)) t ((engine_leaves_peers s.peer_tokens e).keeps (begun s) refl) stops

-- the answer

answer_is : (r : Shown) (t : State) (ns : List Notice) (n : ℕ) → t.filter.notes ≡ ns → peers_of t ≡ (n, None) → answer_in r t ≡ answer_with r ns
answer_is r t ns n notes peers =
    ap (λ (l : List Notice). record { notes = l; shown = r; stray = t.running.stray }) notes ∙ ap (λ (p : Peers). record { notes = ns; shown = r; stray = p.1 }) peers

never : {A : Type 0} → false ≡ true → A
never e = let z : false ≡ true = e in absurd cc

answer_said : (p : Result Shown CallError) → answer_of (said p) ≡ p
answer_said (Ok a) = refl
answer_said (Err e) = refl

-- what holds of a call that was not refused
pub unless_err : (r : Result (Unit {0}) CallError) (b : Bool) (P : Type 0) → b ≡ is_err r → b ≡ false → IfOk r (λ _. P) → P
unless_err (Ok u) b P value off h = h
unless_err (Err e) b P value off h = never (sym off ∙ value)

module _ {D R : Type 0} (state : D → Disk) (told : R → Told) where
  -- the state as the event begins
  means_begun : (past : Past) (x : Held D) (c : Syncing R) (s : State) → IsBegun (acts_of told) state past (record { filter = x; actor = c }) s → Means (sense state) told (noted [] x) c.engine (begun s)
  means_begun past x c s h = record {
    filter = stands_noted state x (hushed s.filter) h.quiet h.stands;
    on = h.power;
    sees = h.sees.agent;
    took_done = h.sees.took_done;
    first_clock = h.sees.first_clock;
    volatile = h.sees.volatile;
  }

  next_at : (next : ℕ) (s t : State) → next ≡ s.peer_tokens + 1 → peers_of t ≡ (s.peer_tokens, None) → next ≡ t.peer_tokens + 1
  next_at next s t is peers = is ∙ ap (λ (p : Peers). p.0 + 1) (sym peers)

  -- it was done

  abbrev Stepped : Past → EngineEvent → State → Shown → List Notice → Held D → Own R → ℕ → Type 0
  Stepped past e s a ns y f next = SteppedTo mode.Replay (IsOn (acts_of told) state past) (event.Engine e) s (Ok (answer_with a ns)) (record { filter = y; actor = record { engine = f; next = next } })

  ended : (past : Past) (e : EngineEvent) (s t : State) (a : Shown) (ns : List Notice) (y : Held D) (f : Own R) (next : ℕ) → s.power ≡ On → next ≡ s.peer_tokens + 1 → y.desk.notes ≡ [] → y.desk.broken ≡ false
      → Ends (engine_event e (begun s)) a t → IsDiskOf state past (state y.disk) t.filter.volume → Means (sense state) told (noted ns y) f t → Stepped past e s a ns y f next
  ended past e s t a ns y f next power is quiet whole ends disk m =
      let peers = peers_end e s t a ends in
      let stands : Stands told (record { engine = f; next = next }) t = record { held = record { link = m.sees.link; next = next_at next s t is peers }; volatile = m.volatile } in
      let on : OnBy (acts_of told) state false (record { filter = y; actor = record { engine = f; next = next } }) t = (m.on, stands, stands_hushed state y ns t.filter quiet m.filter) in (
        t,
        subst (λ (b : Answer). IsStep mode.Replay s (event.Engine e) b t) (answer_is a t ns s.peer_tokens (notes_told state y ns t.filter m.filter) peers)
            (ended_step mode.Replay s (event.Engine e) a t refl (while_on (engine_needs e) s.power power) ends),
        record { mode = m.sees.replays; quiet = quiet; disk = disk; is = subst (λ (b : Bool). OnBy (acts_of told) state b (record { filter = y; actor = record { engine = f; next = next } }) t) (sym whole) on },
      )

  -- the device stopped it

  stopped : (past : Past) (e : EngineEvent) (s t : State) (c : Code) (ns : List Notice) (x y : Held D) (f : Own R) (next : ℕ) → engine_needs e ≡ true → s.power ≡ On → next ≡ s.peer_tokens + 1 → y.desk.notes ≡ [] → y.desk.broken ≡ true
      → c ≡ code.Device → Stops (engine_event e (begun s)) t → IsDiskOf state past (state y.disk) t.filter.volume → states.Stopped (sense state) told x (noted ns y) f t → Stepped past e s (shown.Refused c) ns y f next
  stopped past e s t c ns x y f next needs power is quiet cut device stops disk m =
      let peers = peers_stop e s t stops in
      let holds : Holds told (record { engine = f; next = next }) (broken t) = record { link = m.link; next = next_at next s t is peers } in
      let on : OnBy (acts_of told) state true (record { filter = y; actor = record { engine = f; next = next } }) (broken t) = (ap events.broken_by m.on, holds, stop_policy state y ns t.filter m.filter.0, stop_lasts state y ns t.filter m.filter.0, stop_shows state y ns t.filter m.filter.0) in
      let says : answer_in (shown.Refused code.Device) t ≡ answer_with (shown.Refused c) ns = answer_is (shown.Refused code.Device) t ns s.peer_tokens (stop_told state y ns t.filter m.filter.0) peers ∙ ap (λ (k : Code). answer_with (shown.Refused k) ns) (sym device) in (
        broken t,
        subst (λ (b : Answer). IsStep mode.Replay s (event.Engine e) b (broken t)) says (stopped_step mode.Replay s (event.Engine e) t refl needs (while_on (engine_needs e) s.power power) stops),
        record { mode = m.replays; quiet = quiet; disk = disk; is = subst (λ (b : Bool). OnBy (acts_of told) state b (record { filter = y; actor = record { engine = f; next = next } }) (broken t)) (sym cut) on },
      )

  -- the notes go back to the caller, and an event that was stopped breaks the filter

  given_back : (b : Bool) (stash ns : List Notice) (w y : Held D) → y ≡ broken_by b (noted stash w) → ns ≡ w.desk.notes → noted ns y ≡ broken_by b w
  given_back b stash ns w y is back = ap (λ (l : List Notice). noted l y) back ∙ ap (λ (z : Held D). noted w.desk.notes z) is ∙ noted_back state b stash w

  same_disk : (b : Bool) (stash : List Notice) (w y : Held D) → y ≡ broken_by b (noted stash w) → y.disk ≡ w.disk
  unfolding noted broken_by
  same_disk b stash w y is = ap (λ (z : Held D). z.disk) is

  same_notes : (b : Bool) (stash : List Notice) (w y : Held D) → y ≡ broken_by b (noted stash w) → y.desk.notes ≡ stash
  unfolding noted broken_by
  same_notes b stash w y is = ap (λ (z : Held D). z.desk.notes) is

  disk_left : (past : Past) (x w y : Held D) (v t : Filter) → y.disk ≡ w.disk → IsDiskOf state past (state x.disk) v.volume → Moved (state (noted [] x).disk) (state w.disk) v.volume t.volume → IsDiskOf state past (state y.disk) t.volume
  unfolding noted
  disk_left past x w y v t same disk moved = subst (λ (d : D). IsDiskOf state past (state d) t.volume) (sym same) (disk_moved state past (state x.disk) (state w.disk) v.volume t.volume disk moved)

  goes : (x w y : Held D) (v t : Filter) → y.disk ≡ w.disk → Moved (state (noted [] x).disk) (state w.disk) v.volume t.volume → GoesOn (state x.disk) (state y.disk)
  unfolding noted
  goes x w y v t same moved = subst (λ (d : D). GoesOn (state x.disk) (state d)) (sym same) (ran_on (state x.disk) (state w.disk) moved.runs)

  rose : (x w y : Held D) → y.disk ≡ w.disk → Rose (state (noted [] x).disk) (state w.disk) → Rose (state x.disk) (state y.disk)
  unfolding noted
  rose x w y same h = subst (λ (d : D). Rose (state x.disk) (state d)) (sym same) h

  means_back : (w z : Held D) (f : Own R) (t : State) → z ≡ broken_by false w → Means (sense state) told w f t → Means (sense state) told z f t
  unfolding broken_by
  means_back w z f t is m = record {
    filter = subst (λ (v : Held D). sensing.Stands state v t.filter) (sym is) (whole_again state w t.filter m.filter);
    on = m.on;
    sees = m.sees;
    took_done = m.took_done;
    first_clock = m.first_clock;
    volatile = m.volatile;
  }

  stopped_back : (x w z : Held D) (f : Own R) (t : State) → z ≡ broken_by true w → states.Stopped (sense state) told x w f t → states.Stopped (sense state) told x z f t
  unfolding broken_by
  stopped_back x w z f t is m = subst (λ (v : Held D). states.Stopped (sense state) told x v f t) (sym is)
      (record { filter = (record { notes = m.filter.0.notes; policy = m.filter.0.policy; connected = m.filter.0.connected; shows = m.filter.0.shows; lasts = m.filter.0.lasts }, m.filter.1); on = m.on; replays = m.replays; link = m.link })

  -- an event from its part

  abbrev Part : EngineEvent → Held D → Own R → Result Shown CallError → Held D → Own R → Type 0
  Part e x c p w f = Answers (whole (sense state) told) Any (engine_event e) (noted [] x, c) p (w, f)

  module _ (e : EngineEvent) (x w y : Held D) (c f : Own R) (stash ns : List Notice) (needs : engine_needs e ≡ true) (kept : stash ≡ x.desk.notes) (back : ns ≡ w.desk.notes) where
    quiet : (b : Bool) → y ≡ broken_by b (noted stash w) → x.desk.notes ≡ [] → y.desk.notes ≡ []
    quiet b is none = same_notes b stash w y is ∙ kept ∙ none

    session_of : (p : Result Shown CallError) → y ≡ broken_by (is_stopped (said p)) (noted stash w) → Part e x c p w f → StepsEngine state told e x c (answered_by p ns) y f
    session_of (Ok a) is part next = record {
      steps = λ past s h.
          let l = part.leads (begun s) (means_begun past x (record { engine = c; next = next }) s h) (record {}) in
          ended past e s l.0 a ns y f next h.power h.sees.next (quiet false is h.quiet) (is_broken state false (noted stash w) y is) l.1
          (disk_left past x w y (begun s).filter l.0.filter (same_disk false stash w y is) h.disk l.2) (means_back w (noted ns y) f l.0 (given_back false stash ns w y is back) l.3.0);
      counts = λ past s h.
          let l = part.leads (begun s) (means_begun past x (record { engine = c; next = next }) s h) (record {}) in
          (goes x w y (begun s).filter l.0.filter (same_disk false stash w y is) l.2, λ broken met. never (sym (is_broken state false (noted stash w) y is) ∙ broken));
      faults = λ past s h.
          let l = part.leads (begun s) (means_begun past x (record { engine = c; next = next }) s h) (record {}) in
          let m = means_back w (noted ns y) f l.0 (given_back false stash ns w y is back) l.3.0 in
          rose_lines ns (begun s).filter l.0.filter (told_of told c) (told_of told f) refl (notes_told state y ns l.0.filter m.filter) l.3.1;
    }
    session_of (Err (No k)) is part next = record {
      steps = λ past s h.
          let l = part.leads (begun s) (means_begun past x (record { engine = c; next = next }) s h) (record {}) in
          stopped past e s l.0 k ns (noted [] x) y f next needs h.power h.sees.next (quiet true is h.quiet) (is_broken state true (noted stash w) y is) l.1.0 l.1.1
          (disk_left past x w y (begun s).filter l.0.filter (same_disk true stash w y is) h.disk l.2) (stopped_back (noted [] x) w (noted ns y) f l.0 (given_back true stash ns w y is back) l.3.0);
      counts = λ past s h.
          let l = part.leads (begun s) (means_begun past x (record { engine = c; next = next }) s h) (record {}) in
          (goes x w y (begun s).filter l.0.filter (same_disk true stash w y is) l.2, λ broken met. rose x w y (same_disk true stash w y is) l.3.0.filter.1);
      faults = λ past s h.
          let l = part.leads (begun s) (means_begun past x (record { engine = c; next = next }) s h) (record {}) in
          let m = stopped_back (noted [] x) w (noted ns y) f l.0 (given_back true stash ns w y is back) l.3.0 in
          rose_lines ns (begun s).filter l.0.filter (told_of told c) (told_of told f) refl (stop_told state y ns l.0.filter m.filter.0) l.3.1;
    }
    session_of (Err OutOfMemory) is part next = record { steps = λ past s h. record {}; counts = λ past s h. record {}; faults = λ past s h. record {} }

  -- the same as the code comes to it
  pub session : (e : EngineEvent) (x m w y : Held D) (c f : Own R) (none stash ns : List Notice) (p r : Result Shown CallError) (q : Said Shown) (a : Result Answer NoMemory) → engine_needs e ≡ true → none ≡ [] → m ≡ noted none x → stash ≡ x.desk.notes
      → Answers (whole (sense state) told) Any (engine_event e) (m, c) p (w, f) → q ≡ said p → r ≡ answer_of q → y ≡ broken_by (is_stopped q) (noted stash w) → ns ≡ w.desk.notes → a ≡ answered_by r ns → StepsEngine state told e x c a y f
  session e x m w y c f none stash ns p r q a needs begins is kept part says gives new back tells =
      let part' : Part e x c p w f = subst (λ (z : Held D). Answers (whole (sense state) told) Any (engine_event e) (z, c) p (w, f)) (is ∙ ap (λ (l : List Notice). noted l x) begins) part in
      let same : r ≡ p = gives ∙ ap (λ (o : Said Shown). answer_of o) says ∙ answer_said p in
      subst (λ (b : Result Answer NoMemory). StepsEngine state told e x c b y f) (sym (tells ∙ ap (λ (o : Result Shown CallError). answered_by o ns) same))
      (session_of e x w y c f stash ns needs kept back p (new ∙ ap (λ (o : Said Shown). broken_by (is_stopped o) (noted stash w)) says) part')
