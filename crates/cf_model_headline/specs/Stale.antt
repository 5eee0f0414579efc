-- Replies that come too late, and those that do not.
use Rattle.std.specs.Prelude.{ℕ, true, Some, None, ◌≡◌, ◌≢◌, ◌<◌}
use Rattle.cf_base.specs.declared.answers.Answer.{Answer}
use Rattle.cf_base.specs.declared.answers.Shown.TheVariants as shown
use Rattle.cf_base.specs.declared.codes.Code.TheVariants as code
use Rattle.cf_base.specs.declared.events.EngineEvent.TheVariants as engine
use Rattle.cf_base.specs.declared.events.Event.{Event}
use Rattle.cf_base.specs.declared.events.Event.TheVariants as event
use Rattle.cf_base.specs.declared.messages.Reply.{Reply}
use Rattle.cf_base.specs.declared.messages.Reply.TheVariants as reply
use Rattle.cf_base.specs.declared.notices.Frame.TheVariants as frame
use Rattle.cf_model.specs.Messages.{entry_live, message_at}
use Rattle.cf_model.specs.State.{On, State}

-- Nothing waits for the reply any more: it is to a feed, a listing or a fetch that was asked for in an earlier epoch, or to an
-- upload whose token no upload on its way has.
abbrev pub IsLate : State → Reply → Type 0
IsLate s (reply.Feed round clock es) = round.0.epoch < s.filter.volume.epoch
IsLate s (reply.Listing key es) = key.epoch < s.filter.volume.epoch
IsLate s (reply.Bytes key start bytes) = key.epoch < s.filter.volume.epoch
IsLate s (reply.Missing key) = key.epoch < s.filter.volume.epoch
IsLate s (reply.Gone key) = key.epoch < s.filter.volume.epoch
IsLate s (reply.Done token rid version) = entry_live s token ≡ None
IsLate s (reply.Void token) = entry_live s token ≡ None
IsLate s (reply.Refused token w version) = entry_live s token ≡ None

-- this reply is handed to the engine
abbrev pub Delivers : State → Event → Reply → Type 0
Delivers s e r = (m answers : ℕ) × (e ≡ event.Engine (engine.Deliver m)) × (message_at s m ≡ Some (frame.Reply answers r)) × (s.power ≡ On) × (s.filter.connected ≡ true)

-- Then it is refused as Stale.
abbrev pub LateIsStale : State → Event → Answer → Type 0
LateIsStale s e a = (r : Reply) → Delivers s e r → IsLate s r → a.shown ≡ shown.Refused code.Stale

-- an upload that is on its way was not done
abbrev pub IsNotDone : State → Reply → Type 0
IsNotDone s (reply.Void token) = entry_live s token ≢ None
IsNotDone s (reply.Refused token w version) = entry_live s token ≢ None
IsNotDone s _ = ⊥

-- Such a reply is taken.
abbrev pub NotDoneIsTaken : State → Event → Answer → Type 0
NotDoneIsTaken s e a = (r : Reply) → Delivers s e r → IsNotDone s r → a.shown ≢ shown.Refused code.Stale

-- an upload that is on its way was done
abbrev pub IsDone : State → Reply → Type 0
IsDone s (reply.Done token rid version) = entry_live s token ≢ None
IsDone s _ = ⊥

-- Such a reply is taken too.
abbrev pub DoneIsTaken : State → Event → Answer → Type 0
DoneIsTaken s e a = (r : Reply) → Delivers s e r → IsDone s r → a.shown ≢ shown.Refused code.Stale
