-- What a program has of the link, how that stands for the link of the definitions, and what its calls do.
use Rattle.std.specs.Prelude.{◌≡◌, ◌⊎◌, ℕ, ◌+◌, ◌≤◌, ◌==◌, Bool, true, false, not, cond, List, [], ◌∷◌, ◌++◌, length, Option, Some, None, is_some, Result, Ok, Err}
use Rattle.cf_base.specs.declared.answers.Answer.{Answer}
use Rattle.cf_base.specs.declared.answers.Shown.{Shown}
use Rattle.cf_base.specs.declared.answers.Shown.TheVariants as shown
use Rattle.cf_base.specs.declared.codes.Code.TheVariants as code
use Rattle.cf_base.specs.declared.codes.CallError.{CallError}
use Rattle.cf_base.specs.declared.codes.CallError.TheVariants.{No, OutOfMemory}
use Rattle.cf_base.specs.declared.messages.Reply.{Reply}
use Rattle.cf_base.specs.declared.notices.Frame.{Frame}
use Rattle.cf_base.specs.declared.notices.Notice.{Notice}
use Rattle.cf_base.specs.declared.notices.Notice.TheVariants as notice
use Rattle.cf_link.specs.declared.replies.Replied.{Replied}
use Rattle.cf_link.specs.declared.posts.Posted.{Posted}
use Rattle.cf_link.specs.Faults.{Once}
use Rattle.cf_model.specs.Arrows.{Arrow}
use Rattle.cf_model.specs.Messages.{is_stale, post}
use Rattle.cf_model.specs.Passes.{arrive, deliver_now, deliver_unless}
use Rattle.cf_model.specs.State.{Link, State, note, with_link}
use Rattle.cf_model.specs.Trees.{Ret}
use Rattle.cf_remote.specs.Peers.{Begins, IsCount, IsHeld, Leads}
use Rattle.cf_remote.specs.Told.{Told}
use Rattle.cf_wire.specs.Sending.{IsNet, Kept, sending}
use Rattle.cf_wire.specs.declared.messages.Message.{Message}

-- the messages by number, the remote, and whether requests come to it and replies are delivered at once
pub record Linked (R : Type 0) : Type 0 where
  pub net : Kept
  pub remote : R
  pub inline : Bool

-- the same link to another remote
abbrev pub linked_to : {R S : Type 0} → S → Linked R → Linked S
linked_to remote l = record { net = l.net; remote = remote; inline = l.inline }

-- The link of the definitions has the same messages, and what this remote reports. A remote that tells what it holds has kept its
-- rules so far.
pub record IsLink {R : Type 0} (told : R → Told) (l : Linked R) (link : Link) : Type 0 where
  pub net : IsNet l.net link
  pub held : IsHeld (told l.remote).held link.remote
  pub asks : IsCount (told l.remote).asks link.remote_asks
  pub honest : is_some (told l.remote).held ≡ true → link.honest ≡ true
  pub inline : l.inline ≡ link.inline

-- a link without its remote
pub record Boxed : Type 0 where
  pub net : Kept
  pub inline : Bool

-- the two parts of what a link stands for

pub record IsMailbox (m : Boxed) (link : Link) : Type 0 where
  pub net : IsNet m.net link
  pub inline : m.inline ≡ link.inline

pub record IsRemote (told : Told) (link : Link) : Type 0 where
  pub held : IsHeld told.held link.remote
  pub asks : IsCount told.asks link.remote_asks
  pub honest : is_some told.held ≡ true → link.honest ≡ true

-- lines

-- the state with this line at the end of its notes, where there is one
abbrev pub with_line : Option Notice → State → State
with_line None s = s
with_line (Some n) s = note n s

abbrev pub lines_of : Option Notice → List Notice
lines_of None = []
lines_of (Some n) = n ∷ []

-- the remote was asked once, and failed exactly where the line reports that
abbrev pub Rises : Option Notice → Told → Told → Type 0
Rises (Some (notice.Fault m)) old new = Once true old new
Rises _ old new = Once false old new

-- parts of an event

-- From this state on the part may end with this result, in a state that differs by this line, and by a link for which that of the
-- program stands. Its asks are those that led the remote from old to new.
pub record Ended {R A : Type 0} (told : R → Told) (f : Arrow State A) (s : State) (old : Linked R) (a : A) (line : Option Notice) (new : Linked R) : Type 0 where
  pub link : Link
  pub leads : Leads (f s) (told old.remote) a (with_line line (with_link link s)) (told new.remote)
  pub stands : IsLink told new link

-- so it is from each state for whose link that of the program stands
pub record Does {R A : Type 0} (told : R → Told) (f : Arrow State A) (old : Linked R) (a : A) (line : Option Notice) (new : Linked R) : Type 0 where
  pub ends : (s : State) → IsLink told old s.link → Ended told f s old a line new

-- the line of a message that was posted, which is lost where it is not kept; none where it got no number
abbrev pub posted_line : Frame → Posted → Option Notice
posted_line f p = cond (p.number == 0) None (Some (notice.Message (record { message = p.number; frame = f; lost = not p.kept })))

-- The message is posted. One that is kept has the number of the last message.
pub record Posts {R : Type 0} (told : R → Told) (f : Frame) (old : Linked R) (p : Posted) (new : Linked R) : Type 0 where
  pub ends : (s : State) → IsLink told old s.link → (e : Ended told (post f) s old p.kept p.line new) × (p.kept ≡ true → p.number ≡ length e.link.messages)

-- memory ran out in the part: it was begun, and the first of its asks were made, or none
pub record Stopped {R A : Type 0} (told : R → Told) (f : Arrow State A) (old new : Linked R) : Type 0 where
  pub begins : (s : State) → IsLink told old s.link → Begins (f s) (told old.remote) (told new.remote)

-- one message more was sent, at most
abbrev pub Grows : Kept → Kept → Type 0
Grows old new = (new ≡ old) ⊎ ((m : Message) × (new ≡ (sending m old).1))

-- what another device does

-- the state with another link, so many tokens of a peer used up, and this reply that the answer keeps
abbrev pub after_peer : Link → ℕ → Option Reply → State → State
after_peer link tokens stray s = record s { link = link; peer_tokens = tokens; running = record s.running { stray = stray } }

-- From this state on the event may end with this answer, in a state that differs by a link for which that of the program stands, by
-- the token that is next then, and by the reply that the answer keeps. The answer has no lines.
pub record PeerEnded {R : Type 0} (told : R → Told) (f : Arrow State Shown) (s : State) (old : Linked R) (a : Answer) (after : ℕ) (new : Linked R) : Type 0 where
  pub link : Link
  pub tokens : ℕ
  pub leads : Leads (f s) (told old.remote) a.shown (after_peer link tokens a.stray s) (told new.remote)
  pub stands : IsLink told new link
  pub next : after ≡ tokens + 1
  pub notes : a.notes ≡ []

-- so it is from each state that keeps no reply yet and has this next token, and for whose link that of the program stands
pub record DoesPeer {R : Type 0} (told : R → Told) (f : Arrow State Shown) (next : ℕ) (old : Linked R) (a : Answer) (after : ℕ) (new : Linked R) : Type 0 where
  pub ends : (s : State) → s.running.stray ≡ None → next ≡ s.peer_tokens + 1 → IsLink told old s.link → PeerEnded told f s old a after new

-- memory ran out in the event: one token at most is used up, and the first of its asks were made, or none
pub record StopsPeer {R : Type 0} (told : R → Told) (f : Arrow State Shown) (next : ℕ) (old : Linked R) (after : ℕ) (new : Linked R) : Type 0 where
  pub least : next ≤ after
  pub most : after ≤ next + 1
  pub begins : (s : State) → next ≡ s.peer_tokens + 1 → IsLink told old s.link → Begins (f s) (told old.remote) (told new.remote)

-- messages by hand

abbrev pub Arrives : {R : Type 0} → (R → Told) → ℕ → Linked R → List Notice → Result (Unit {0}) CallError → Linked R → List Notice → Type 0
Arrives told m old notes (Ok u) new after =
    (line : Option Notice) × (after ≡ notes ++ lines_of line) × Does told (arrive m) old shown.Done line new × Rises line (told old.remote) (told new.remote)
Arrives told m old notes (Err (No c)) new after = (c ≡ code.NoMessage) × (after ≡ notes) × (new ≡ old) × Does told (arrive m) old (shown.Refused c) None new
Arrives told m old notes (Err OutOfMemory) new after = (after ≡ notes) × Stopped told (arrive m) old new × Grows old.net new.net

-- a reply that is kept, and the request that it answers, with which `deliver` goes on, or why it is refused
abbrev pub Delivers : ℕ → State → Result Replied CallError → Type 0
Delivers m s (Ok r) = deliver_now m s ≡ deliver_unless r.reply (is_stale r.request r.reply s) s
Delivers m s (Err (No c)) = deliver_now m s ≡ Ret (shown.Refused c) s
Delivers m s (Err OutOfMemory) = Unit {0}
