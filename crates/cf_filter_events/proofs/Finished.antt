-- What a call of the filter came to is a step of the definitions.
use Rattle.std.proofs.Common.{◌≡◌, Bool, true, false, List, [], refl, sym, ap, subst, ◌∙◌}
use Rattle.std.specs.Prelude.{Option, None, Result, Ok, Err}
use Rattle.cf_filter_events.specs.Answered.{answer_with, answered_by, showing}
use Rattle.cf_filter_events.specs.Actors.{Acts, IsActor}
use Rattle.cf_filter_events.specs.Meaning.{IsDiskOf, IsOn, OnBy}
use Rattle.cf_filter_events.specs.Pasts.{Past}
use Rattle.cf_filter_events.specs.Stepped.{SteppedTo}
use Rattle.cf_filter_events.proofs.Hushed.{notes_told, stands_hushed, stop_lasts, stop_policy, stop_shows, stop_told}
use Rattle.cf_base.specs.declared.answers.Answer.{Answer}
use Rattle.cf_base.specs.declared.answers.Shown.{Shown}
use Rattle.cf_base.specs.declared.answers.Shown.TheVariants as shown
use Rattle.cf_base.specs.declared.codes.Code.{Code}
use Rattle.cf_base.specs.declared.codes.Code.TheVariants as code
use Rattle.cf_base.specs.declared.codes.CallError.{CallError}
use Rattle.cf_base.specs.declared.codes.CallError.TheVariants.{No, OutOfMemory}
use Rattle.cf_base.specs.declared.events.DeviceEvent.{DeviceEvent}
use Rattle.cf_base.specs.declared.events.Event.{Event}
use Rattle.cf_base.specs.declared.notices.Notice.{Notice}
use Rattle.cf_base.specs.declared.policies.Mode.{Mode}
use Rattle.cf_base.specs.declared.policies.Mode.TheVariants as mode
use Rattle.cf_base.specs.declared.calls.Call.{Call}
use Rattle.cf_base.specs.declared.events.Event.TheVariants as event
use Rattle.cf_base.specs.declared.messages.Reply.{Reply}
use Rattle.cf_engine_host.specs.Callbacks.{Answering}
use Rattle.cf_disk.specs.Disk.{State as Disk}
use Rattle.cf_filter.specs.Calling.{Told, answer_of, is_stopped, noted, shown_by}
use Rattle.cf_filter_machine.specs.Held.{Held}
use Rattle.cf_filter_machine.specs.Sensing.{Stands, Stopped}
use Rattle.cf_model.proofs.TraceLaws.{ended_step, refused_step, stopped_step}
use Rattle.cf_model.specs.Events.{answer_in, broken, broken_by, is_of, may_stop, needs_volume, no_volume, tree_of}
use Rattle.cf_model.specs.Lawful.{IsStep}
use Rattle.cf_model.specs.State.{Broken, Off, On, Power, State}
use Rattle.cf_model.specs.Trees.{Does}

-- an event of the mode that needs the volume
pub record IsCall (m : Mode) (e : Event) : Type 0 where
  pub of : is_of m e ≡ true
  pub stops : may_stop e ≡ true
  pub needs : needs_volume e ≡ true

call_of : (m : Mode) (c : Call) → is_of m (event.Call c) ≡ true
call_of mode.Replay c = refl
call_of mode.Filter c = refl

-- such is each call of an application
pub a_call : (m : Mode) (c : Call) → IsCall m (event.Call c)
a_call m c = record { of = call_of m c; stops = refl; needs = refl }

-- each command has the events of the device
pub device_of : (m : Mode) (d : DeviceEvent) → is_of m (event.Device d) ≡ true
device_of mode.Replay d = refl
device_of mode.Filter d = refl

answer_is : (r : Shown) (t : State) (ns : List Notice) → t.filter.notes ≡ ns → t.running.stray ≡ None → answer_in r t ≡ answer_with r ns
answer_is r t ns notes stray =
    ap (λ (l : List Notice). record { notes = l; shown = r; stray = t.running.stray }) notes ∙ ap (λ (o : Option Reply). record { notes = ns; shown = r; stray = o }) stray

pub while_on : (b : Bool) (p : Power) → p ≡ On → no_volume b p ≡ None
while_on false p h = refl
while_on true p h = rw h refl

-- a call while the volume is broken
pub broken_step : (m : Mode) (e : Event) (s : State) → is_of m e ≡ true → needs_volume e ≡ true → s.power ≡ Broken → IsStep m s e (answer_with (shown.Refused code.Broken) []) s
broken_step m e s of needs power = refused_step m s e code.Broken of (rw (needs, power) refl)

-- and while it is off
pub off_step : (m : Mode) (e : Event) (s : State) → is_of m e ≡ true → needs_volume e ≡ true → s.power ≡ Off → IsStep m s e (answer_with (shown.Refused code.Off) []) s
off_step m e s of needs power = refused_step m s e code.Off of (rw (needs, power) refl)

module _ {D A : Type 0} (answers : Answering A) (acts : Acts A) (actor : IsActor answers acts) (state : D → Disk) where
  -- what is left of the state
  abbrev pub LeftTo : Result Shown CallError → A → Held D → State → Type 0
  LeftTo (Ok b) p y z = Stands state y z.filter × acts.sees p z
  LeftTo (Err (No c)) p y z = Stopped state y z.filter × acts.sees p z
  LeftTo (Err OutOfMemory) p y z = Unit {0}

  -- the event was done, or cut off
  pub record Comes (past : Past) (e : Event) (s : State) (r : Result Shown CallError) (p : A) (ns : List Notice) (y : Held D) : Type 0 where
    pub new : State
    pub does : Does (tree_of e s) r new
    pub disk : IsDiskOf state past (state y.disk) new.filter.volume
    pub left : LeftTo r p (noted ns y) new

  ended : (past : Past) (e : Event) (s : State) (b : Shown) (p : A) (ns : List Notice) (y : Held D) → IsCall acts.mode e → s.power ≡ On → y.desk.notes ≡ [] → y.desk.broken ≡ false
      → Comes past e s (Ok b) p ns y → SteppedTo acts.mode (IsOn acts state past) e s (Ok (answer_with b ns)) (record { filter = y; actor = p })
  ended past e s b p ns y call power quiet whole c =
      let t = c.new in
      let at = actor.acting p t c.left.1 in
      let on : OnBy acts state false (record { filter = y; actor = p }) t = (at.power, at.stands, stands_hushed state y ns t.filter quiet c.left.0) in (
        t,
        subst (λ (a : Answer). IsStep acts.mode s e a t) (answer_is b t ns (notes_told state y ns t.filter c.left.0) at.stray)
            (ended_step acts.mode s e b t call.of (while_on (needs_volume e) s.power power) c.does),
        record { mode = at.mode; quiet = quiet; disk = c.disk; is = subst (λ (o : Bool). OnBy acts state o (record { filter = y; actor = p }) t) (sym whole) on },
      )

  stopped : (past : Past) (e : Event) (s : State) (c : Code) (p : A) (ns : List Notice) (y : Held D) → IsCall acts.mode e → s.power ≡ On → y.desk.notes ≡ [] → y.desk.broken ≡ true
      → Comes past e s (Err (No c)) p ns y → SteppedTo acts.mode (IsOn acts state past) e s (Ok (answer_with (shown.Refused c) ns)) (record { filter = y; actor = p })
  stopped past e s c p ns y call power quiet cut d =
      let t = d.new in
      let at = actor.acting p t d.left.1 in
      let after : (broken t).power ≡ Broken = ap broken_by at.power in
      let holds : acts.holds p (broken t) = actor.holds_on p t (broken t) refl refl (actor.stands_held p t at.stands) in
      let on : OnBy acts state true (record { filter = y; actor = p }) (broken t) = (after, holds, stop_policy state y ns t.filter d.left.0, stop_lasts state y ns t.filter d.left.0, stop_shows state y ns t.filter d.left.0) in
      let told : answer_in (shown.Refused code.Device) t ≡ answer_with (shown.Refused c) ns = answer_is (shown.Refused code.Device) t ns (stop_told state y ns t.filter d.left.0) at.stray ∙ ap (λ (k : Code). answer_with (shown.Refused k) ns) (sym d.does.0) in (
        broken t,
        subst (λ (a : Answer). IsStep acts.mode s e a (broken t)) told (stopped_step acts.mode s e t call.of call.stops (while_on (needs_volume e) s.power power) d.does.1),
        record { mode = at.mode; quiet = quiet; disk = d.disk; is = subst (λ (o : Bool). OnBy acts state o (record { filter = y; actor = p }) (broken t)) (sym cut) on },
      )

  -- what a call told is the answer
  pub finished : {B : Type 0} (past : Past) (e : Event) (s : State) (q : Told B) (show : B → Shown) (p : A) (ns : List Notice) (y : Held D) → IsCall acts.mode e → s.power ≡ On → y.desk.notes ≡ [] → y.desk.broken ≡ is_stopped q
      → Comes past e s (shown_by show q) p ns y → SteppedTo acts.mode (IsOn acts state past) e s (answered_by (showing show (answer_of q)) ns) (record { filter = y; actor = p })
  finished past e s (Ok (Ok a)) show p ns y call power quiet whole c = ended past e s (show a) p ns y call power quiet whole c
  finished past e s (Ok (Err k)) show p ns y call power quiet whole c = ended past e s (shown.Refused k) p ns y call power quiet whole c
  finished past e s (Err (No k)) show p ns y call power quiet whole c = stopped past e s k p ns y call power quiet whole c
  finished past e s (Err OutOfMemory) show p ns y call power quiet whole c = record {}
