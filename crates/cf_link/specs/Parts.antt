-- Parts of what the calls of a link do, which mirror the code: no definitions to believe.
use Rattle.std.specs.Prelude.{◌≡◌, ℕ, Bool, true, not, cond, List, ◌==◌, length, Option, Some, None, Result, Ok, Err}
use Rattle.cf_base.specs.declared.memory.OutOfMemory.{OutOfMemory as NoMemory}
use Rattle.cf_base.specs.declared.messages.Reply.{Reply}
use Rattle.cf_base.specs.declared.messages.Request.{Request}
use Rattle.cf_base.specs.declared.notices.Frame.{Frame}
use Rattle.cf_base.specs.declared.notices.Frame.TheVariants as frame
use Rattle.cf_base.specs.declared.notices.Notice.{Notice}
use Rattle.cf_base.specs.declared.notices.Notice.TheVariants as notice
use Rattle.cf_link.specs.Linked.{Linked, with_line}
use Rattle.cf_link.specs.declared.replies.Answer.{Answer}
use Rattle.cf_link.specs.declared.posts.Posted.{Posted}
use Rattle.cf_model.specs.Messages.{post}
use Rattle.cf_model.specs.State.{Link, State, with_link}
use Rattle.cf_model.specs.Trees.{Tree}
use Rattle.cf_remote.specs.Peers.{Leads}
use Rattle.cf_remote.specs.Told.{Answers, Faults, Told}
use Rattle.cf_remote.specs.declared.ask_errors.AskError.{AskError}
use Rattle.cf_remote.specs.declared.ask_errors.AskError.TheVariants.{Fault, OutOfMemory}
use Rattle.cf_wire.specs.Sending.{IsNet, Kept}
use Rattle.cf_wire.specs.Spelled.{HasRoom, ReplyHasRoom}
use Rattle.cf_wire.specs.declared.failures.WireError.{WireError}
use Rattle.cf_wire.specs.declared.failures.WireError.TheVariants as fail
use Rattle.cf_wire.specs.declared.messages.Sent.{Sent}

abbrev pub linked : {R : Type 0} → Kept → R → Bool → Linked R
linked net remote inline = record { net = net; remote = remote; inline = inline }

-- posting

abbrev pub FrameHasRoom : Frame → Type 0
FrameHasRoom (frame.Request q) = HasRoom q
FrameHasRoom (frame.Reply answers r) = ReplyHasRoom r

-- a message with its line, by what became of it
abbrev pub posted_of : Sent → Frame → Posted
posted_of sent f = record {
  number = sent.number;
  kept = not sent.lost;
  line = cond (sent.number == 0) None (Some (notice.Message (record { message = sent.number; frame = f; lost = sent.lost })));
}

-- the link with other messages
abbrev pub with_messages : List (Option Frame) → ℕ → Link → Link
with_messages ms bytes link = record link { messages = ms; kept_bytes = bytes }

-- the tree of a message's posting from this state on ends so, whatever the remote reports
pub record PostedBy (p : Tree State Bool) (s : State) (posted : Posted) (net : Kept) : Type 0 where
  pub messages : List (Option Frame)
  pub bytes : ℕ
  pub leads : (told : Told) → Leads p told posted.kept (with_line posted.line (with_link (with_messages messages bytes s.link) s)) told
  pub stands : IsNet net (with_messages messages bytes s.link)
  pub number : posted.kept ≡ true → posted.number ≡ length messages

pub record SendsFrame (f : Frame) (old : Kept) (posted : Posted) (new : Kept) : Type 0 where
  pub ends : (s : State) → IsNet old s.link → PostedBy (post f s) s posted new

-- the line is that of a message
abbrev pub IsMessageLine : Option Notice → Type 0
IsMessageLine None = Unit {0}
IsMessageLine (Some (notice.Message m)) = Unit {0}
IsMessageLine (Some n) = ⊥

-- the reply that is told
abbrev pub reply_if : Bool → Reply → Option Reply
reply_if kept r = cond kept (Some r) None

-- asking

abbrev pub IsAsked : Request → Told → Result (Option Reply) NoMemory → Told → Type 0
IsAsked q old (Ok (Some r)) new = Answers q r old new
IsAsked q old (Ok None) new = Faults old new
IsAsked q old (Err e) new = new ≡ old

abbrev pub IsUnanswered : AskError → Result (Option Reply) NoMemory → Type 0
IsUnanswered Fault result = result ≡ Ok None
IsUnanswered OutOfMemory (Ok r) = ⊥
IsUnanswered OutOfMemory (Err e) = Unit {0}

-- looking up

-- what was read of a kept frame
abbrev pub IsRead : {X : Type 0} → Result X WireError → Result (Option X) NoMemory → Type 0
IsRead (Ok x) result = result ≡ Ok (Some x)
IsRead (Err fail.OutOfMemory) (Ok o) = ⊥
IsRead (Err fail.OutOfMemory) (Err e) = Unit {0}
IsRead (Err (fail.Short place)) result = result ≡ Ok None
IsRead (Err (fail.BadField place)) result = result ≡ Ok None

-- the request that the message is, if it is one
abbrev pub IsRequestAt : Option Frame → Option Request → Type 0
IsRequestAt f (Some q) = f ≡ Some (frame.Request q)
IsRequestAt f None = (q : Request) → f ≡ Some (frame.Request q) → ⊥

-- the reply that the message is, if it is one
abbrev pub IsReplyAt : Option Frame → Option Answer → Type 0
IsReplyAt f (Some a) = f ≡ Some (frame.Reply a.answers a.reply)
IsReplyAt f None = (answers : ℕ) (r : Reply) → f ≡ Some (frame.Reply answers r) → ⊥
