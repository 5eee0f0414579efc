-- What a read reports, by the report.
use Rattle.std.proofs.Common.{◌≡◌, ◌≤◌, ◌+◌, ℕ, Bool, true, false, List, [], ◌∷◌, ◌++◌, append-nil, refl, sym, ◌∙◌, ap, subst, inl, inr, arith}
use Rattle.std.specs.Prelude.{Option, Some, None, slice_range}
use Rattle.cf_base.specs.declared.answers.Answer.{Answer}
use Rattle.cf_base.specs.declared.answers.Shown.{Shown}
use Rattle.cf_base.specs.declared.events.DeviceEvent.{DeviceEvent}
use Rattle.cf_base.specs.declared.events.DeviceEvent.TheVariants as device
use Rattle.cf_base.specs.declared.events.Event.{Event}
use Rattle.cf_base.specs.declared.events.Event.TheVariants as event
use Rattle.cf_base.specs.declared.ids.WaitId.{WaitId}
use Rattle.cf_base.specs.declared.notices.Notice.{Notice}
use Rattle.cf_base.specs.declared.policies.Mode.TheVariants as mode
use Rattle.cf_model.specs.Events.{answered, begun, needs_volume, no_volume, outcome, tree_of}
use Rattle.cf_model.specs.Growth.{Extends}
use Rattle.cf_model.specs.Lawful.{IsStep, Runs}
use Rattle.cf_model.specs.Missing.{Wait}
use Rattle.cf_model.specs.Restarts.{restart_by}
use Rattle.cf_model.specs.State.{State, start}
use Rattle.cf_model.specs.Store.{Held}
use Rattle.cf_model.specs.Trees.{Choices, Keeps, play}
use Rattle.cf_model.proofs.EpochLaws.{started_in_epoch}
use Rattle.cf_model.proofs.RemoteLaws.{runs_extend}
use Rattle.cf_model.proofs.TreeLaws.{kept_at_end, kept_at_stop}
use Rattle.cf_model_laws.specs.GivenOnce.{IsGiven, Waits}
use Rattle.cf_model_laws.specs.Invariant.{All, Invariant}
use Rattle.cf_model_laws.specs.Premises.{IsFair, IsFresh}
use Rattle.cf_model_laws.proofs.ContentLaws.{run_sound, sound_whole}
use Rattle.cf_model_laws.proofs.EventsGuarded.{runs_keep}
use Rattle.cf_model_laws.proofs.FairBefore.{fair_before}
use Rattle.cf_model_laws.proofs.Gathered.{all_weaker}
use Rattle.cf_model_laws.proofs.Leading.{Ended, led}
use Rattle.cf_model_laws.proofs.LoggedGuarded.{content_grows}
use Rattle.cf_model.specs.Items.{item_of}
use Rattle.cf_model.specs.Logs.{items_of}
use Rattle.cf_model_laws.proofs.RightItems.{no_way}
use Rattle.cf_model_laws.proofs.OpeningLaws.{Opening, restart_leads}
use Rattle.cf_model_headline.specs.Reads.{DataIsRight, IsIn, IsSpanOf, data_shown}
use Rattle.cf_model_headline.specs.Reports.{OfEach, Report, changes_in, is_device, standing}
use Rattle.cf_model_headline.proofs.ReadLines.{EachLine, Known, LineRight, Log, Reading, line_at}
use Rattle.cf_model_headline.proofs.ReadsGuarded.{event_reads}
use Rattle.cf_model_headline.proofs.StandingLaws.{shows_all}
use Rattle.cf_model_headline.proofs.StepCases.{IsCase, IsOver, step_case}

-- an event of the device has no lines

opening_notes : (s : State) → s.filter.notes ≡ [] → Opening (λ t. t.filter.notes ≡ []) (λ r t. t.filter.notes ≡ []) s
opening_notes s none = record { opens = λ p skipped is small. refl; refused = λ r other. none; fails = none }

notes_after : (x : Option Shown × State) → x.1.filter.notes ≡ [] → (outcome x).1.notes ≡ []
notes_after (Some r, t) h = h
notes_after (None, t) h = h

ended_notes : (x : Option Shown × State) → Ended (λ t. t.filter.notes ≡ []) (λ r t. t.filter.notes ≡ []) x → x.1.filter.notes ≡ []
ended_notes (Some r, t) h = h
ended_notes (None, t) h = h

pub device_notes : (s : State) (d : DeviceEvent) (c : Choices) → (answered None c s (event.Device d)).1.notes ≡ []
device_notes s (device.Stop calls) c = refl
device_notes s (device.Crash choice) c = refl
device_notes s device.Restart c =
    notes_after (play c (tree_of (event.Device device.Restart) s))
    (ended_notes (play c (tree_of (event.Device device.Restart) s)) (led (λ t. t.filter.notes ≡ []) (λ r t. t.filter.notes ≡ []) c (restart_by s.power (begun s)) (restart_leads (λ t. t.filter.notes ≡ []) (λ r t. t.filter.notes ≡ []) (begun s) (opening_notes (begun s) refl) s.power)))

pub no_line : {A : Type 0} (ns front back : List Notice) (line : Notice) → ns ≡ [] → ns ≡ front ++ line ∷ back → A
no_line ns [] back line e f = let z : ◌≡◌ {A = List Notice} [] (line ∷ back) = sym e ∙ f in cc
no_line ns (m ∷ front) back line e f = let z : ◌≡◌ {A = List Notice} [] (m ∷ (front ++ line ∷ back)) = sym e ∙ f in cc

-- the waits that are live at first

pub in_itself : (ws : List Wait) → All (λ w. IsIn w ws) ws
in_itself [] = tt
in_itself (w ∷ ws) = (inl refl, all_weaker (λ v. IsIn v ws) (λ v. IsIn v (w ∷ ws)) (λ v h. inr h) ws (in_itself ws))

abbrev ReadingIn : State → State → Type 0
ReadingIn s t = Reading s.filter.volume.log s.filter.waiting.waits s.filter.volume.epoch s.filter.waiting.wait_count (IsFair t.link) t.link.remote t.filter

begun_reading : (s : State) → s.filter.waiting.epoch ≡ s.filter.volume.epoch → ReadingIn s (begun s)
begun_reading s same = record {
  shown = sym (append-nil s.filter.volume.log);
  same = same;
  later = itself s.filter.waiting.wait_count;
  known = all_weaker (λ w. IsIn w s.filter.waiting.waits) (Known s.filter.volume.log s.filter.waiting.waits s.filter.volume.epoch s.filter.waiting.wait_count) (λ w h given. h) s.filter.waiting.waits (in_itself s.filter.waiting.waits);
  lines = λ fair. tt;
}
  where
    itself : (k : ℕ) → k ≤ k
    itself k = omega arith

-- the lines of a state within the event

abbrev EachLineOf : State → State → List Notice → Type 0
EachLineOf s u ms = EachLine (LineRight s.filter.volume.log s.filter.waiting.waits s.filter.volume.epoch s.filter.waiting.wait_count u.link.remote) [] ms

lines_right : (before : Report) (s u : State) (held : Held) (ns : List Notice) → ns ≡ u.filter.notes → s.filter.volume.log ≡ standing before → ReadingIn s u → IsFair u.link → Extends u.link.remote held
    → (front back : List Notice) (line : Notice) (id : WaitId) (bytes : List ℕ) → ns ≡ front ++ line ∷ back → data_shown line ≡ Some (id, bytes) → IsGiven Waits s id.0
    → (w : Wait) × IsIn w s.filter.waiting.waits × (w.id ≡ id) × IsSpanOf held (standing before ++ changes_in front) w.item w.span bytes
lines_right before s u held ns notes log h fair more front back line id bytes parts shows given =
    let base : Log = s.filter.volume.log in
    let all = subst (λ (ms : List Notice). EachLineOf s u ms) (sym notes ∙ parts) (h.lines fair) in
    let x = line_at (LineRight base s.filter.waiting.waits s.filter.volume.epoch s.filter.waiting.wait_count u.link.remote) [] front back line all id bytes shows given in (
      x.0,
      x.1,
      x.2,
      λ i found file.
          let k = x.3 i (subst (λ (l : Log). item_of (items_of (l ++ changes_in front)) x.0.item ≡ Some i) (sym log) found) file in
          k.1 ∙ ap (λ (c : List ℕ). slice_range c x.0.span.start (x.0.span.start + x.0.span.len)) (sym (content_grows u.link.remote held more i k.0)),
    )

pub data_in_event : (remote : Held) (clusters : ℕ) (last : State) → IsFresh remote → IsFair last.link → (before rest : Report) (s : State) (e : Event) (a : Answer) (t : State)
    → Runs mode.Replay (start mode.Replay remote clusters) before s → IsStep mode.Replay s e a t → Runs mode.Replay t rest last → DataIsRight last.link.remote before s a
data_in_event remote clusters last fresh fair before rest s e a t runs is on front back line id bytes parts shows given = by (is_device e) refl where
  sound : Invariant s
  sound = run_sound remote clusters before s runs fresh

  next : Invariant t
  next = runs_keep Invariant sound_whole s ((e, a) ∷ []) t (t, is, refl) sound

  fair_now : IsFair t.link
  fair_now = fair_before t rest last next on fair

  Goal : Type 0
  Goal = (w : Wait) × IsIn w s.filter.waiting.waits × (w.id ≡ id) × IsSpanOf last.link.remote (standing before ++ changes_in front) w.item w.span bytes

  kept : is_device e ≡ false → Keeps (λ u. Invariant u × ReadingIn s u) (tree_of e s)
  kept off = (event_reads s.filter.volume.log s.filter.waiting.waits s.filter.volume.epoch s.filter.waiting.wait_count Invariant sound_whole.closed sound_whole.entering sound_whole.deleting sound_whole.commanding sound_whole.ruling e is.0 off).keeps (begun s)
      (sound_whole.begins s sound, begun_reading s (started_in_epoch mode.Replay remote clusters before s runs))

  log : s.filter.volume.log ≡ standing before
  log = shows_all mode.Replay remote clusters before s fresh runs

  grown : Extends t.link.remote last.link.remote
  grown = runs_extend mode.Replay t rest last on

  over : is_device e ≡ false → IsOver s e (t, a) → Goal
  over off (inl h) = lines_right before s t last.link.remote a.notes (ap (λ (x : Answer). x.notes) h.2) log (kept_at_end (λ u. Invariant u × ReadingIn s u) (tree_of e s) h.0 t (kept off) h.1).1 fair_now grown front back line id bytes parts shows given
  over off (inr h) =
      lines_right before s h.0 last.link.remote a.notes (ap (λ (x : Answer). x.notes) h.3) log (kept_at_stop (λ u. Invariant u × ReadingIn s u) (tree_of e s) h.0 (kept off) h.1).1
      (subst (λ (x : State). IsFair x.link) h.2 fair_now) (subst (λ (x : State). Extends x.link.remote last.link.remote) h.2 grown) front back line id bytes parts shows given

  case : is_device e ≡ false → IsCase s e (t, a) → Goal
  case off (inl h) = no_line a.notes front back line (ap (λ (x : Answer). x.notes) h.3) parts
  case off (inr h) = over off h.1

  on_device : (v : Event) → is_device v ≡ true → e ≡ v → a.notes ≡ []
  on_device (event.Device d) q same = subst (λ (x : State × Answer). x.1.notes ≡ []) is.2 (subst (λ (v : Event). (answered (no_volume (needs_volume v) s.power) is.1 s v).1.notes ≡ []) (sym same) (device_notes s d is.1))
  on_device (event.Call c) q same = no_way q
  on_device (event.Peer p) q same = no_way q
  on_device (event.Engine g) q same = no_way q
  on_device (event.Provider p) q same = no_way q

  by : (b : Bool) → is_device e ≡ b → Goal
  by false off = case off (step_case mode.Replay s e a t is)
  by true q = no_line a.notes front back line (on_device e q refl) parts

pub data_is_right : (remote : Held) (clusters : ℕ) (report : Report) (last : State) → IsFresh remote → IsFair last.link → Runs mode.Replay (start mode.Replay remote clusters) report last
    → OfEach mode.Replay remote clusters report last (λ before s e a t. DataIsRight last.link.remote before s a)
data_is_right remote clusters report last fresh fair runs before rest s e a t parts led is leads = data_in_event remote clusters last fresh fair before rest s e a t led is leads
