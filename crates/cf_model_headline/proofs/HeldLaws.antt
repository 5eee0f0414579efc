-- What a read reports over any provider, by the report.
use Rattle.std.proofs.Common.{◌≡◌, ◌≤◌, ℕ, Bool, true, false, List, [], ◌∷◌, ◌++◌, append-nil, refl, sym, ◌∙◌, ap, subst, inl, inr, arith}
use Rattle.std.specs.Prelude.{Some}
use Rattle.cf_base.specs.declared.answers.Answer.{Answer}
use Rattle.cf_base.specs.declared.events.Event.{Event}
use Rattle.cf_base.specs.declared.events.Event.TheVariants as event
use Rattle.cf_base.specs.declared.ids.WaitId.{WaitId}
use Rattle.cf_base.specs.declared.notices.Notice.{Notice}
use Rattle.cf_base.specs.declared.policies.Mode.{Mode}
use Rattle.cf_model.specs.Events.{answered, begun, needs_volume, no_volume, tree_of}
use Rattle.cf_model.specs.Lawful.{IsStep, Runs}
use Rattle.cf_model.specs.Logs.{items_of}
use Rattle.cf_model.specs.Missing.{Wait}
use Rattle.cf_model.specs.Settling.{bytes_at}
use Rattle.cf_model.specs.State.{State, start}
use Rattle.cf_model.specs.Store.{Held}
use Rattle.cf_model.specs.Trees.{Keeps}
use Rattle.cf_model.proofs.EpochLaws.{started_in_epoch}
use Rattle.cf_model.proofs.OfLogLaws.{started_of_log}
use Rattle.cf_model.proofs.TreeLaws.{kept_at_end, kept_at_stop}
use Rattle.cf_model_laws.specs.GivenOnce.{IsGiven, Waits}
use Rattle.cf_model_laws.specs.Premises.{IsFresh}
use Rattle.cf_model_laws.proofs.Gathered.{all_weaker}
use Rattle.cf_model_laws.proofs.RightItems.{no_way}
use Rattle.cf_model_headline.specs.Reads.{DataIsHeld, IsIn, data_shown}
use Rattle.cf_model_headline.specs.Reports.{Report, changes_in, is_device, standing}
use Rattle.cf_model_headline.proofs.HeldLines.{Holding, Known, LineHeld, lines_held}
use Rattle.cf_model_headline.proofs.ReadLines.{EachLine, Log, line_at}
use Rattle.cf_model_headline.proofs.ReadsLaws.{device_notes, in_itself, no_line}
use Rattle.cf_model_headline.proofs.StandingLaws.{IsReady, event_keeps, run_ready, shows_all, start_ready}
use Rattle.cf_model_headline.proofs.StepCases.{IsCase, IsOver, step_case}

abbrev HoldingIn : State → State → Type 0
HoldingIn s t = Holding s.filter.volume.log s.filter.waiting.waits s.filter.volume.epoch s.filter.waiting.wait_count t.filter

begun_holding : (m : Mode) (remote : Held) (clusters : ℕ) (before : Report) (s : State) → Runs m (start m remote clusters) before s → HoldingIn s (begun s)
begun_holding m remote clusters before s runs = record {
  shown = sym (append-nil s.filter.volume.log);
  made = (started_of_log m remote clusters before s runs).0;
  same = (refl, started_in_epoch m remote clusters before s runs);
  later = itself s.filter.waiting.wait_count;
  known = all_weaker (λ w. IsIn w s.filter.waiting.waits) (Known s.filter.volume.log s.filter.waiting.waits s.filter.volume.epoch s.filter.waiting.wait_count) (λ w h given. h) s.filter.waiting.waits (in_itself s.filter.waiting.waits);
  lines = tt;
}
  where
    itself : (k : ℕ) → k ≤ k
    itself k = omega arith

lines_shown : (before : Report) (s u : State) (ns : List Notice) → ns ≡ u.filter.notes → s.filter.volume.log ≡ standing before → HoldingIn s u → (front back : List Notice) (line : Notice) (id : WaitId) (bytes : List ℕ) → ns ≡ front ++ line ∷ back → data_shown line ≡ Some (id, bytes) → IsGiven Waits s id.0
    → (w : Wait) × IsIn w s.filter.waiting.waits × (w.id ≡ id) × (bytes ≡ bytes_at (items_of (standing before ++ changes_in front)) w.item w.span)
lines_shown before s u ns notes log h front back line id bytes parts shows given =
    let x = line_at (LineHeld s.filter.volume.log s.filter.waiting.waits s.filter.volume.epoch s.filter.waiting.wait_count) [] front back line
    (subst (λ (ms : List Notice). EachLine (LineHeld s.filter.volume.log s.filter.waiting.waits s.filter.volume.epoch s.filter.waiting.wait_count) [] ms) (sym notes ∙ parts) h.lines) id bytes shows given in
    (x.0, x.1, x.2, x.3 ∙ ap (λ (l : Log). bytes_at (items_of (l ++ changes_in front)) x.0.item x.0.span) log)

pub data_is_held : (m : Mode) (remote : Held) (clusters : ℕ) (before : Report) (s : State) (e : Event) (a : Answer) (t : State) → IsFresh remote → Runs m (start m remote clusters) before s → IsStep m s e a t → DataIsHeld before s a
data_is_held m remote clusters before s e a t fresh runs is front back line id bytes parts shows given = by (is_device e) refl where
  Goal : Type 0
  Goal = (w : Wait) × IsIn w s.filter.waiting.waits × (w.id ≡ id) × (bytes ≡ bytes_at (items_of (standing before ++ changes_in front)) w.item w.span)

  ready : IsReady m s
  ready = run_ready m (start m remote clusters) before s (start_ready m remote clusters fresh) runs

  kept : is_device e ≡ false → Keeps (λ u. IsReady m u × HoldingIn s u) (tree_of e s)
  kept off = event_keeps (Holding s.filter.volume.log s.filter.waiting.waits s.filter.volume.epoch s.filter.waiting.wait_count) (lines_held s.filter.volume.log s.filter.waiting.waits s.filter.volume.epoch s.filter.waiting.wait_count) m e s is.0 off ready
      (begun_holding m remote clusters before s runs)

  log : s.filter.volume.log ≡ standing before
  log = shows_all m remote clusters before s fresh runs

  over : is_device e ≡ false → IsOver s e (t, a) → Goal
  over off (inl h) = lines_shown before s t a.notes (ap (λ (x : Answer). x.notes) h.2) log (kept_at_end (λ u. IsReady m u × HoldingIn s u) (tree_of e s) h.0 t (kept off) h.1).1 front back line id bytes parts shows given
  over off (inr h) = lines_shown before s h.0 a.notes (ap (λ (x : Answer). x.notes) h.3) log (kept_at_stop (λ u. IsReady m u × HoldingIn s u) (tree_of e s) h.0 (kept off) h.1).1 front back line id bytes parts shows given

  case : is_device e ≡ false → IsCase s e (t, a) → Goal
  case off (inl h) = no_line a.notes front back line (ap (λ (x : Answer). x.notes) h.3) parts
  case off (inr h) = over off h.1

  on_device : (v : Event) → is_device v ≡ true → e ≡ v → a.notes ≡ []
  on_device (event.Device d) q same = subst (λ (x : State × Answer). x.1.notes ≡ []) is.2 (subst (λ (v : Event). (answered (no_volume (needs_volume v) s.power) is.1 s v).1.notes ≡ []) (sym same) (device_notes s d is.1))
  on_device (event.Call c) q same = no_way q
  on_device (event.Peer p) q same = no_way q
  on_device (event.Engine g) q same = no_way q
  on_device (event.Provider p) q same = no_way q

  by : (b : Bool) → is_device e ≡ b → Goal
  by false off = case off (step_case m s e a t is)
  by true q = no_line a.notes front back line (on_device e q refl) parts
