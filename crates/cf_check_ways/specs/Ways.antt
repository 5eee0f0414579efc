-- Two ways through what an event does, from states that are alike: how they may differ.
--
-- What a report does not fix is left out of what is alike: the points that a restart may open, and how often the remote was
-- asked. Where the remote broke its rules, or numbers of messages are used up, nothing is said.
use Rattle.std.specs.Prelude.{refl, ◌≡◌, ◌⊎◌, ◌≤◌, ◌+◌, ℕ, Bool, true, false, List, [], ◌∷◌, ◌++◌, length, nat_lt, ◌&&◌, filter}
use Rattle.cf_base.specs.declared.answers.Answer.{Answer}
use Rattle.cf_base.specs.declared.changes.Change.{Change}
use Rattle.cf_base.specs.declared.ids.Usn.{Usn}
use Rattle.cf_base.specs.declared.answers.Shown.{Shown}
use Rattle.cf_base.specs.declared.answers.Shown.TheVariants as shown
use Rattle.cf_base.specs.declared.codes.Code.{Code}
use Rattle.cf_base.specs.declared.codes.Code.TheVariants as code
use Rattle.cf_base.specs.declared.events.DeviceEvent.TheVariants as device
use Rattle.cf_base.specs.declared.events.Event.{Event}
use Rattle.cf_base.specs.declared.events.Event.TheVariants as event
use Rattle.cf_base.specs.declared.messages.Reply.{Reply}
use Rattle.cf_base.specs.declared.notices.Frame.TheVariants as frame
use Rattle.cf_base.specs.declared.notices.Notice.{Notice}
use Rattle.cf_base.specs.declared.notices.Notice.TheVariants as notice
use Rattle.cf_model.specs.Arrows.{Arrow}
use Rattle.cf_model.specs.Blocks.{blocks_used}
use Rattle.cf_model.specs.Items.{Item}
use Rattle.cf_model.specs.Logs.{items_of}
use Rattle.cf_model_room.specs.Rooms.{is_heavy, load_since, none_full, sure_count}
use Rattle.cf_model.specs.Events.{answer_in, begun}
use Rattle.cf_model.specs.Numbers.{most}
use Rattle.cf_model.specs.Points.{Opens}
use Rattle.cf_model.specs.Restarts.{epoch_after, resumed, with_opened}
use Rattle.cf_model.specs.State.{Filter, Point, State, Volume}
use Rattle.cf_model.specs.Trees.{Ends, Stops}

-- What commits are made of: the changes, the items, the points, and what is kept since the last.
pub record Core : Type 0 where
  pub clusters : ℕ
  pub log : List (Usn × Change)
  pub items : List Item
  pub items_then : List Item
  pub put_since : ℕ
  pub points : List Point

abbrev pub core_of : Volume → Core
core_of v = record { clusters = v.clusters; log = v.log; items = v.items; items_then = v.items_then; put_since = v.put_since; points = v.points }

-- the points of flushes and uploads
abbrev pub sures : Core → List Point
sures c = filter (λ p. p.sure) c.points

-- What is kept since the last point is at most the load of the log since the last point of a flush or an upload, and each point of a commit for
-- room stands where the log is heavy since then.
pub record IsLaden (c : Core) : Type 0 where
  pub items : c.items ≡ items_of c.log
  pub there : sure_count c.points ≤ length c.log
  pub load : blocks_used c.items_then + c.put_since ≤ load_since (sure_count c.points) c.log
  pub heavy : (p : Point) → Opens c.points p → p.sure ≡ false → is_heavy c.clusters (sure_count c.points) c.log p.count ≡ true

-- The one becomes the other by changes and commits.
pub record BecomesSure (a b : Core) : Type 0 where
  pub holds : b.clusters ≡ a.clusters
  pub longer : (more : List (Usn × Change)) × (b.log ≡ a.log ++ more)
  pub laden : IsLaden a → IsLaden b
  pub later : IsLaden a → sure_count a.points ≤ sure_count b.points

-- The points of flushes and uploads are the same, and those of commits for room are where they have the same count.
pub record SamePoints (a b : Core) : Type 0 where
  pub sure : sures a ≡ sures b
  pub room : (p q : Point) → Opens a.points p → Opens b.points q → p.sure ≡ false → q.sure ≡ false → p.count ≡ q.count → p ≡ q

-- The first change behind the last point of a flush or an upload had room: what is in use there and what it puts do not pass the clusters, as
-- they would where it had to be refused as Full.
abbrev pub FirstFits : Core → Type 0
FirstFits c = is_heavy c.clusters (sure_count c.points) c.log (sure_count c.points) ≡ false

-- Each change of the log had room when it was made: none had to be refused as Full.
pub record HadRoom (c : Core) : Type 0 where
  pub items : c.items ≡ items_of c.log
  pub fits : none_full c.clusters c.log ≡ true

-- What is looked at of a state: what of it is fixed, what happened so far, how many messages there are, how many openings failed
-- since the last one, and whether something is said of it.
pub record View (S : Type 0) : Type 0 where
  pub fixed : S → S
  pub notes : S → List Notice
  pub count : S → ℕ
  pub fails : S → ℕ
  pub good : S → Bool
  pub core : S → Core
  pub told : (s : S) → notes (fixed s) ≡ notes s

-- the volume without its points
abbrev pub without_points : Volume → Volume
without_points v = record v { points = []; items_then = []; put_since = 0 }

abbrev pub of_volume : View Volume
of_volume = record { fixed = without_points; notes = λ v. []; count = λ v. 0; fails = λ v. 0; good = λ v. true; core = core_of; told = λ v. refl }

abbrev pub fixed_filter : Filter → Filter
fixed_filter f = record f { volume = without_points f.volume }

abbrev pub of_filter : View Filter
of_filter = record { fixed = fixed_filter; notes = λ f. f.notes; count = λ f. 0; fails = λ f. 0; good = λ f. true; core = λ f. core_of f.volume; told = λ f. refl }

-- the state without points and the count of asks
abbrev pub fixed_state : State → State
fixed_state s = record s { filter = fixed_filter s.filter; link = record s.link { remote_asks = 0 } }

-- the remote kept its rules or failed, and there are numbers of messages left
abbrev pub is_good : State → Bool
is_good s = s.link.honest && nat_lt (length s.link.messages) most

abbrev pub of_state : View State
of_state = record { fixed = fixed_state; notes = λ s. s.filter.notes; count = λ s. length s.link.messages; fails = λ s. s.failed_opens; good = is_good; core = λ s. core_of s.filter.volume; told = λ s. refl }

abbrev pub Alike : {S : Type 0} → View S → S → S → Type 0
Alike v s t = v.fixed s ≡ v.fixed t

-- What happened before the one state happened before the other, and each new message is one of what happened since; no opening
-- failed; what is said of the other is said of the one.
pub record Grown {S : Type 0} (v : View S) (s t : S) : Type 0 where
  pub notes : (more : List Notice) × (v.notes t ≡ v.notes s ++ more)
  pub counted : v.count t ≤ v.count s + length notes.0
  pub opens : v.fails t ≡ v.fails s
  pub good : v.good t ≡ true → v.good s ≡ true

-- After the same lines the remote failed on a message in the first, and its reply to that message was noted in the second.
pub record FailedIn (first second : List Notice) : Type 0 where
  pub before : List Notice
  pub message : ℕ
  pub number : ℕ
  pub reply : Reply
  pub lost : Bool
  pub after : List Notice
  pub others : List Notice
  pub first_is : first ≡ before ++ notice.Fault message ∷ after
  pub second_is : second ≡ before ++ notice.Message (record { message = number; frame = frame.Reply message reply; lost = lost }) ∷ others

abbrev pub Parted : List Notice → List Notice → Type 0
Parted one other = FailedIn one other ⊎ FailedIn other one

abbrev pub SameEnd : {S A : Type 0} → View S → A → S → A → S → Type 0
SameEnd v a s b t = (a ≡ b) × Alike v s t

-- what happened before the one happened before the other
abbrev pub IsFront : List Notice → List Notice → Type 0
IsFront one other = (more : List Notice) × (other ≡ one ++ more)

-- Its ends from states that are alike have the same result and are alike, or the one has a line of a fault where the other has
-- the reply. What happened before it stays in what happened. Where the device stops it, what happened is a front of what happens
-- in the other, or they part so. Where the points are the same before, they are after. From a state of which so much is known each change has
-- room.
pub record IsSureFrom {S A : Type 0} (v : View S) (May : S → Type 0) (f : Arrow S A) : Type 0 where
  pub grows : (s : S) (a : A) (t : S) → Ends (f s) a t → Grown v s t
  pub one : (s o : S) → Alike v s o → (a b : A) (t u : S) → Ends (f s) a t → Ends (f o) b u → v.good t ≡ true → v.good u ≡ true
      → SameEnd v a t b u ⊎ Parted (v.notes t) (v.notes u)
  pub halts : (s t : S) → Stops (f s) t → Grown v s t
  pub stop : (s o : S) → Alike v s o → (t : S) (b : A) (u : S) → Stops (f s) t → Ends (f o) b u → v.good t ≡ true → v.good u ≡ true
      → IsFront (v.notes t) (v.notes u) ⊎ Parted (v.notes t) (v.notes u)
  pub rooms : (s : S) (a : A) (t : S) → Ends (f s) a t → BecomesSure (v.core s) (v.core t)
  pub keeps : (s o : S) → Alike v s o → IsLaden (v.core s) → IsLaden (v.core o) → SamePoints (v.core s) (v.core o) → (a b : A) (t u : S) → Ends (f s) a t → Ends (f o) b u → v.good t ≡ true → v.good u ≡ true
      → SamePoints (v.core t) (v.core u) ⊎ Parted (v.notes t) (v.notes u)
  pub fits : (s : S) → May s → (a : A) (t : S) → Ends (f s) a t → HadRoom (v.core s) → HadRoom (v.core t)

-- so from each state
abbrev pub IsSure : {S A : Type 0} → View S → Arrow S A → Type 0
IsSure v f = IsSureFrom v (λ s. Unit {0}) f

-- What is read of alike states is the same.
abbrev pub Reads : {S X : Type 0} → View S → (S → X) → Type 0
Reads {S} v get = (s o : S) → Alike v s o → get s ≡ get o

-- Alike states become alike ones.
pub record IsPlain {S : Type 0} (v : View S) (f : S → S) : Type 0 where
  pub grows : (s : S) → Grown v s (f s)
  pub alike : (s o : S) → Alike v s o → Alike v (f s) (f o)
  pub core : (s : S) → v.core (f s) ≡ v.core s

-- Events of another device have no lines of messages: where the remote fails in one, this is its result.

abbrev pub is_fault_code : Code → Bool
is_fault_code code.RemoteFault = true
is_fault_code _ = false

abbrev pub is_fault : Shown → Bool
is_fault (shown.Refused c) = is_fault_code c
is_fault _ = false

-- what such an event may answer
abbrev pub is_of_peer : Shown → Bool
is_of_peer (shown.Refused c) = true
is_of_peer (shown.Remote rid version) = true
is_of_peer _ = false

-- one of them is RemoteFault and the other is not
abbrev pub OneFailed : Shown → Shown → Type 0
OneFailed a b = (is_of_peer a ≡ true) × (is_of_peer b ≡ true) × (((is_fault a ≡ true) × (is_fault b ≡ false)) ⊎ ((is_fault b ≡ true) × (is_fault a ≡ false)))

-- A part of such an event: as a sure one, but that one way may have RemoteFault where the other has not; and it says what state
-- a failing remote leaves.
pub record IsSureOfPeer (left : State → State) (f : Arrow State Shown) : Type 0 where
  pub grows : (s : State) (a : Shown) (t : State) → Ends (f s) a t → Grown of_state s t
  pub answers : (s : State) (a : Shown) (t : State) → Ends (f s) a t → is_of_peer a ≡ true
  pub fails : (s : State) (a : Shown) (t : State) → Ends (f s) a t → is_good t ≡ true → is_fault a ≡ true → Alike of_state t (left s)
  pub one : (s o : State) → Alike of_state s o → (a b : Shown) (t u : State) → Ends (f s) a t → Ends (f o) b u → is_good t ≡ true → is_good u ≡ true
      → SameEnd of_state a t b u ⊎ (Parted t.filter.notes u.filter.notes ⊎ OneFailed a b)

-- Two restarts from alike states resumed: each at a point that it had, in the same epoch.
pub record BothResumed (s o : State) (a b : Shown) (t u : State) : Type 0 where
  pub point : Point
  pub other : Point
  pub opens : Opens s.filter.volume.points point
  pub opens_too : Opens o.filter.volume.points other
  pub resumes : a ≡ resumed point
  pub resumes_too : b ≡ resumed other
  pub left : t ≡ with_opened point (epoch_after 0 s) s
  pub left_too : u ≡ with_opened other (epoch_after 0 o) o

-- a restart may open a point of so many changes: as many as the last sure point has, or so many that the log is heavy there
abbrev pub IsOpenedAt : State → ℕ → Type 0
IsOpenedAt s n = (n ≡ sure_count s.filter.volume.points) ⊎ (is_heavy s.filter.volume.clusters (sure_count s.filter.volume.points) s.filter.volume.log n ≡ true)

-- an event of another device
abbrev pub is_peer : Event → Bool
is_peer (event.Peer e) = true
is_peer _ = false

-- Answers to one event from alike states are the same and leave alike states; or they part where the remote failed in one; or
-- the event is a restart, and both resumed.
abbrev pub AnswersAlike : State → State → Event → Answer → State → Answer → State → Type 0
AnswersAlike s o e a t b u =
    ((a ≡ b) × Alike of_state t u)
    ⊎ (Parted a.notes b.notes
    ⊎ (((is_peer e ≡ true) × (a.notes ≡ b.notes) × OneFailed a.shown b.shown)
    ⊎ ((e ≡ event.Device device.Restart) × (a ≡ answer_in a.shown t) × (b ≡ answer_in b.shown u) × BothResumed (begun s) (begun o) a.shown b.shown t u)))
