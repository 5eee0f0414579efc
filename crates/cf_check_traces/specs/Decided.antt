-- What a report decides of an event, from a state that is known but for what no report fixes.
use Rattle.std.specs.Prelude.{◌≡◌, ◌⊎◌, ℕ, Bool, true, List, [], ◌∷◌, ◌++◌}
use Rattle.std.specs.List.{flat_map}
use Rattle.cf_base.specs.declared.answers.Answer.{Answer}
use Rattle.cf_base.specs.declared.answers.Shown.TheVariants as shown
use Rattle.cf_base.specs.declared.codes.Code.TheVariants as code
use Rattle.cf_base.specs.declared.events.DeviceEvent.TheVariants as device
use Rattle.cf_base.specs.declared.events.Event.{Event}
use Rattle.cf_base.specs.declared.events.Event.TheVariants as event
use Rattle.cf_base.specs.declared.messages.Reply.{Reply}
use Rattle.cf_base.specs.declared.notices.Frame.TheVariants as frame
use Rattle.cf_base.specs.declared.notices.Notice.{Notice}
use Rattle.cf_base.specs.declared.notices.Notice.TheVariants as notice
use Rattle.cf_base.specs.declared.policies.Mode.TheVariants as mode
use Rattle.cf_check_model.specs.Reports.{Begins}
use Rattle.cf_check_ways.specs.Ways.{Alike, BothResumed, OneFailed, is_peer, of_state}
use Rattle.cf_model.specs.Events.{answer_in, begun}
use Rattle.cf_model.specs.Lawful.{IsStep}
use Rattle.cf_model.specs.Points.{HasPoints}
use Rattle.cf_model.specs.State.{State}
use Rattle.cf_report.specs.Texts.{notice_line, text}

-- the answer is that of a device that failed
abbrev pub IsStopped : Answer → Type 0
IsStopped a = a.shown ≡ shown.Refused code.Device

abbrev pub NoneStopped : List (Event × Answer) → Type 0
NoneStopped [] = Unit {0}
NoneStopped (p ∷ ps) = (IsStopped p.1 → ⊥) × NoneStopped ps

-- What is premised of a state: points, no opening that failed since the last one.
pub record IsSteady (s : State) : Type 0 where
  pub points : HasPoints s.filter.volume
  pub opens : s.failed_opens ≡ 0

-- both restarts resumed with one count
abbrev pub ResumedAlike : State → State → Event → Answer → State → Answer → State → Type 0
ResumedAlike s o e a t b u =
    (e ≡ event.Device device.Restart) × (a ≡ answer_in a.shown t) × (b ≡ answer_in b.shown u)
    × ((r : BothResumed (begun s) (begun o) a.shown b.shown t u) × (r.point.count ≡ r.other.count))

-- the same answer and alike states, or restarts with one count
abbrev pub IsDecided : State → State → Event → Answer → State → Answer → State → Type 0
IsDecided s o e a t b u = ((a ≡ b) × Alike of_state t u) ⊎ ResumedAlike s o e a t b u

-- The answer has a line of a fault nowhere where the report goes on with the reply, and a reply nowhere where the report goes on
-- with a fault.
pub record MeetsFaults (a : Answer) (rest : List ℕ) : Type 0 where
  pub no_reply : (before after : List Notice) (m n : ℕ) (r : Reply) (lost : Bool) → a.notes ≡ before ++ notice.Fault m ∷ after
      → Begins rest (flat_map notice_line before ++ notice_line (notice.Message (record { message = n; frame = frame.Reply m r; lost = lost }))) → ⊥
  pub no_fault : (before after : List Notice) (m n : ℕ) (r : Reply) (lost : Bool)
      → a.notes ≡ before ++ notice.Message (record { message = n; frame = frame.Reply m r; lost = lost }) ∷ after
      → Begins rest (flat_map notice_line before ++ notice_line (notice.Fault m)) → ⊥

-- No answer from an alike state, with which the report goes on, is RemoteFault where this one is not, or the other way round.
abbrev pub MeetsResult : State → Event → Answer → List ℕ → Type 0
MeetsResult s e a rest =
    is_peer e ≡ true → (o : State) (b : Answer) (u : State) → Alike of_state s o → IsStep mode.Replay o e b u → a.notes ≡ b.notes → Begins rest (text b) → OneFailed a.shown b.shown → ⊥
