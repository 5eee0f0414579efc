-- What a read reports.
use Rattle.std.specs.Prelude.{ℕ, false, List, [], Option, Some, None, Ok, slice_range, ◌+◌, ◌∷◌, ◌++◌, ◌≡◌, ◌≢◌, ◌⊎◌}
use Rattle.cf_base.specs.declared.answers.Answer.{Answer}
use Rattle.cf_base.specs.declared.answers.Shown.TheVariants as shown
use Rattle.cf_base.specs.declared.calls.Call.TheVariants as call
use Rattle.cf_base.specs.declared.changes.Change.{Change}
use Rattle.cf_base.specs.declared.codes.Code.TheVariants as code
use Rattle.cf_base.specs.declared.events.Event.{Event}
use Rattle.cf_base.specs.declared.events.Event.TheVariants as event
use Rattle.cf_base.specs.declared.ids.ItemId.{ItemId}
use Rattle.cf_base.specs.declared.ids.Usn.{Usn}
use Rattle.cf_base.specs.declared.ids.WaitId.{WaitId}
use Rattle.cf_base.specs.declared.notices.Notice.{Notice}
use Rattle.cf_base.specs.declared.notices.Notice.TheVariants as notice
use Rattle.cf_base.specs.declared.policies.Mode.TheVariants as mode
use Rattle.cf_base.specs.declared.spans.Span.{Span}
use Rattle.cf_base.specs.declared.waits.End.TheVariants as end
use Rattle.cf_base.specs.declared.waits.WaitKind.TheVariants as wait_kind
use Rattle.cf_model.specs.Identities.{content}
use Rattle.cf_model.specs.Items.{Item, item_of}
use Rattle.cf_model.specs.Logs.{items_of}
use Rattle.cf_model.specs.Lawful.{IsStep, Runs}
use Rattle.cf_model.specs.LookUp.{find_path}
use Rattle.cf_model.specs.Missing.{Wait, misses, span_of, view_of}
use Rattle.cf_model.specs.Numbers.{no_key}
use Rattle.cf_model.specs.Settling.{bytes_at}
use Rattle.cf_model.specs.State.{On, Open, State, items_now, start}
use Rattle.cf_model.specs.Store.{Held}
use Rattle.cf_model.specs.Waits.{opened_by}
use Rattle.cf_model_laws.specs.GivenOnce.{IsGiven, Waits}
use Rattle.cf_model_headline.specs.Reports.{Report, changes_in, standing}

-- the data that a line `done` shows, and of which wait
abbrev pub data_shown : Notice → Option (WaitId × List ℕ)
data_shown (notice.Done id (end.Data bytes)) = Some (id, bytes)
data_shown _ = None

-- These bytes are a span of a file, cut at the size: of the base version that its identity names, under the local writes that
-- stand after these changes.
abbrev pub IsSpanOf : Held → List (Usn × Change) → ItemId → Span → List ℕ → Type 0
IsSpanOf held log file span bytes = (i : Item) → item_of (items_of log) file ≡ Some i → i.directory ≡ false → bytes ≡ slice_range (content held i) span.start (span.start + span.len)

-- one of these
abbrev pub IsIn : Wait → List Wait → Type 0
IsIn w [] = ⊥
IsIn w (v ∷ vs) = (w ≡ v) ⊎ IsIn w vs

-- Each line with data in an answer, of a wait from before this event: it is the span for which the wait is live, of its file as it
-- is when the line comes, by the changes that stood before and those that the lines above show.
abbrev pub DataIsRight : Held → Report → State → Answer → Type 0
DataIsRight held before s a =
    (front back : List Notice) (line : Notice) (id : WaitId) (bytes : List ℕ) → a.notes ≡ front ++ line ∷ back → data_shown line ≡ Some (id, bytes) → IsGiven Waits s id.0
    → (w : Wait) × IsIn w s.filter.waiting.waits × (w.id ≡ id) × IsSpanOf held (standing before ++ changes_in front) w.item w.span bytes

-- Each line with data in an answer, of a wait from before this event: it is the bytes that its file holds of the span, cut at the
-- size, when the line comes. So it is in both commands, whatever a provider did; a byte that is not here counts as 0.
abbrev pub DataIsHeld : Report → State → Answer → Type 0
DataIsHeld before s a =
    (front back : List Notice) (line : Notice) (id : WaitId) (bytes : List ℕ) → a.notes ≡ front ++ line ∷ back → data_shown line ≡ Some (id, bytes) → IsGiven Waits s id.0
    → (w : Wait) × IsIn w s.filter.waiting.waits × (w.id ≡ id) × (bytes ≡ bytes_at (items_of (standing before ++ changes_in front)) w.item w.span)

-- a read that waits for a span of a file
abbrev pub wait_on : Item → Span → Wait
wait_on i asked = record { id = record { 0 = no_key }; kind = wait_kind.Read; item = i.id; handle = None; span = asked }

-- the file that a read by path or by handle names, in this state
abbrev pub Reads : State → Event → Item → Span → Type 0
Reads s (event.Call (call.Get path offset len)) i asked = (find_path (items_now s) path ≡ Ok i) × (asked ≡ span_of offset len)
Reads s (event.Call (call.Read handle offset len)) i asked = (o : Open) × (opened_by handle s.filter ≡ Some o) × (item_of (items_now s) o.item ≡ Some i) × (asked ≡ span_of offset len)
Reads s _ i asked = ⊥

-- A read of a file whose needed bytes are all here is answered at once: with the span, cut at the size, of the file's content;
-- but for a stop of the device.
abbrev pub ReadsAtOnce : Held → State → Event → Answer → Type 0
ReadsAtOnce held s e a =
    (i : Item) (asked : Span) → Reads s e i asked → i.directory ≡ false → s.power ≡ On → misses (view_of s.filter.policy i) (wait_on i asked) ≡ false → a.shown ≢ shown.Refused code.Device
    → a.shown ≡ shown.Ended (end.Data (slice_range (content held i) asked.start (asked.start + asked.len)))

-- A read that is answered with data in its own call, also where it had to wait there: the data is the span that was asked for, cut
-- at the size, of the content of the file that it named, as the file is behind some first lines of the answer.
abbrev pub ReadsInCall : Held → Report → State → Event → Answer → Type 0
ReadsInCall held before s e a =
    (i : Item) (asked : Span) (bytes : List ℕ) → Reads s e i asked → a.shown ≡ shown.Ended (end.Data bytes)
    → (front : List Notice) × (back : List Notice) × (a.notes ≡ front ++ back) × IsSpanOf held (standing before ++ changes_in front) i.id asked bytes

-- A read in this state was answered `pending`, and a later answer has a line that its wait is done, with data: it is the span
-- that was asked for, cut at the size, of the content of the file that the read named, as it is when the line comes.
abbrev pub AnswersRead : Held → State → Event → Answer → Report → Answer → Type 0
AnswersRead held s ask pending before a =
    (i : Item) (asked : Span) (wait : WaitId) → Reads s ask i asked → pending.shown ≡ shown.Pending wait
    → (front back : List Notice) (line : Notice) (bytes : List ℕ) → a.notes ≡ front ++ line ∷ back → data_shown line ≡ Some (wait, bytes) → IsSpanOf held (standing before ++ changes_in front) i.id asked bytes

-- So it is of each two events of a run.
abbrev pub ReadsAnswered : Held → ℕ → Report → State → Type 0
ReadsAnswered remote clusters report last =
    (early between rest : Report) (s t u v : State) (ask e : Event) (b a : Answer) → report ≡ early ++ (ask, b) ∷ (between ++ (e, a) ∷ rest)
    → Runs mode.Replay (start mode.Replay remote clusters) early s → IsStep mode.Replay s ask b t → Runs mode.Replay t between u → IsStep mode.Replay u e a v → Runs mode.Replay v rest last
    → AnswersRead last.link.remote s ask b (early ++ (ask, b) ∷ between) a
