-- What a net keeps, and what sending does.
use Rattle.std.specs.Prelude.{◌≡◌, ℕ, zero, suc, Bool, true, false, cond, List, [], length, Option, Some, None, nat_lt, slice_get, ◌+◌, ◌∷◌, ◌++◌}
use Rattle.cf_base.specs.declared.notices.Frame.{Frame}
use Rattle.cf_base.specs.declared.notices.Frame.TheVariants as frame
use Rattle.cf_model.specs.Messages.{most_kept, next_message, no_bytes, no_number, with_lost, with_message}
use Rattle.cf_model.specs.Numbers.{most}
use Rattle.cf_model.specs.State.{Link, State}
use Rattle.cf_model.specs.Words.{part}
use Rattle.cf_wire.specs.Spelled.{IsReply, IsRequest}
use Rattle.cf_wire.specs.declared.messages.Message.{Message}
use Rattle.cf_wire.specs.declared.messages.Sent.{Sent}

-- messages by number from 1, of a lost one none, and the sum of the lengths of the frames
pub record Kept : Type 0 where
  pub messages : List (Option Message)
  pub bytes : ℕ

abbrev pub no_messages : Kept
no_messages = record { messages = []; bytes = 0 }

abbrev pub message_of : Kept → ℕ → Option Message
message_of net zero = None
message_of net (suc n) = part (λ m. m) None (slice_get net.messages n)

abbrev pub next_number : Kept → ℕ
next_number net = length net.messages + 1

-- After the last number a message gets none. One that would pass the limit of bytes gets its number and is lost.
abbrev pub sending : Message → Kept → Sent × Kept
sending m net =
    cond (nat_lt most (next_number net)) (record { number = 0; lost = true }, net)
    (cond (nat_lt most_kept (net.bytes + length m.frame)) (record { number = next_number net; lost = true }, record net { messages = net.messages ++ None ∷ [] })
    (record { number = next_number net; lost = false }, record { messages = net.messages ++ Some m ∷ []; bytes = net.bytes + length m.frame }))

-- what the definitions keep of the same messages

abbrev pub IsMessage : Message → Frame → Type 0
IsMessage m (frame.Request q) = (m.answers ≡ None) × IsRequest m.frame q
IsMessage m (frame.Reply n r) = (m.answers ≡ Some n) × IsReply m.frame r

abbrev pub IsKept : Option Message → Option Frame → Type 0
IsKept None None = Unit {0}
IsKept (Some m) (Some f) = IsMessage m f
IsKept None (Some f) = ⊥
IsKept (Some m) None = ⊥

abbrev pub AreKept : List (Option Message) → List (Option Frame) → Type 0
AreKept [] [] = Unit {0}
AreKept (m ∷ ms) (f ∷ fs) = IsKept m f × AreKept ms fs
AreKept [] (f ∷ fs) = ⊥
AreKept (m ∷ ms) [] = ⊥

pub record IsNet (net : Kept) (link : Link) : Type 0 where
  pub messages : AreKept net.messages link.messages
  pub bytes : net.bytes ≡ link.kept_bytes

-- the message is posted as the definitions post its frame, by whether no number is left and whether its bytes would pass
abbrev pub IsPosted : Bool → Bool → Frame → State → Sent → Kept → Type 0
IsPosted true b f s sent net = (sent ≡ record { number = 0; lost = true }) × IsNet net s.link
IsPosted false true f s sent net = (sent ≡ record { number = next_message s; lost = true }) × IsNet net (with_lost f s).link
IsPosted false false f s sent net = (sent ≡ record { number = next_message s; lost = false }) × IsNet net (with_message f s).link

abbrev pub Posts : Frame → State → Sent → Kept → Type 0
Posts f s sent net = IsPosted (no_number s) (no_bytes f s) f s sent net
