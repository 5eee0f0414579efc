-- Sending posts as the definitions do.
use Rattle.std.proofs.Common.{◌≡◌, ℕ, zero, suc, Bool, true, false, cond, List, [], length, Option, Some, None, Result, Ok, Err, nat_lt, slice_get, ◌+◌, ◌∷◌, ◌++◌, refl, sym, ap, ◌∙◌, subst}
use Rattle.std.specs.Prelude.{IfOk}
use Rattle.cf_base.specs.declared.memory.OutOfMemory.{OutOfMemory}
use Rattle.cf_base.specs.declared.notices.Frame.{Frame}
use Rattle.cf_base.specs.declared.notices.Frame.TheVariants as frame
use Rattle.cf_model.specs.Frames.{spell_frame}
use Rattle.cf_model.specs.Messages.{message_at, most_kept, next_message, no_bytes, no_number}
use Rattle.cf_model.specs.Numbers.{most}
use Rattle.cf_model.specs.State.{State}
use Rattle.cf_model.specs.Words.{part}
use Rattle.cf_wire.specs.Sending.{AreKept, IsKept, IsMessage, IsNet, IsPosted, Kept, Posts, message_of, next_number, sending}
use Rattle.cf_wire.specs.declared.messages.Message.{Message}
use Rattle.cf_wire.specs.declared.messages.Sent.{Sent}

same_count : (ms : List (Option Message)) (fs : List (Option Frame)) → AreKept ms fs → length ms ≡ length fs
same_count [] [] h = refl
same_count (m ∷ ms) (f ∷ fs) h = ap suc (same_count ms fs h.1)
same_count [] (f ∷ fs) h = absurd h
same_count (m ∷ ms) [] h = absurd h

one_more : (ms : List (Option Message)) (fs : List (Option Frame)) (m : Option Message) (f : Option Frame) → AreKept ms fs → IsKept m f → AreKept (ms ++ m ∷ []) (fs ++ f ∷ [])
one_more [] [] m f h k = (k, tt)
one_more (x ∷ ms) (y ∷ fs) m f h k = (h.0, one_more ms fs m f h.1 k)
one_more [] (y ∷ fs) m f h k = absurd h
one_more (x ∷ ms) [] m f h k = absurd h

at_place : (ms : List (Option Message)) (fs : List (Option Frame)) (n : ℕ) → AreKept ms fs → IsKept (part (λ m. m) None (slice_get ms n)) (part (λ f. f) None (slice_get fs n))
at_place [] [] n h = tt
at_place (m ∷ ms) (f ∷ fs) zero h = h.0
at_place (m ∷ ms) (f ∷ fs) (suc n) h = at_place ms fs n h.1
at_place [] (f ∷ fs) n h = absurd h
at_place (m ∷ ms) [] n h = absurd h

pub kept : (net : Kept) (s : State) (n : ℕ) → IsNet net s.link → IsKept (message_of net n) (message_at s n)
kept net s zero h = tt
kept net s (suc n) h = at_place net.messages s.link.messages n h.messages

same_length : (m : Message) (f : Frame) → IsMessage m f → length m.frame ≡ length (spell_frame f)
same_length m (frame.Request q) h = ap length h.1.spelled
same_length m (frame.Reply n r) h = ap length h.1.spelled

abbrev outcome : Bool → Bool → Message → Kept → Sent × Kept
outcome a b m net =
    cond a (record { number = 0; lost = true }, net)
    (cond b (record { number = next_number net; lost = true }, record net { messages = net.messages ++ None ∷ [] })
    (record { number = next_number net; lost = false }, record { messages = net.messages ++ Some m ∷ []; bytes = net.bytes + length m.frame }))

abbrev sent_as : Bool → ℕ → Sent
sent_as lost n = record { number = n; lost = lost }

by_tests : (a b : Bool) (m : Message) (f : Frame) (net : Kept) (s : State) → IsNet net s.link → IsMessage m f → next_number net ≡ next_message s → IsPosted a b f s (outcome a b m net).0 (outcome a b m net).1
by_tests true b m f net s h k number = (refl, h)
by_tests false true m f net s h k number = (ap (sent_as true) number, record { messages = one_more net.messages s.link.messages None None h.messages tt; bytes = h.bytes })
by_tests false false m f net s h k number =
    (ap (sent_as false) number, record { messages = one_more net.messages s.link.messages (Some m) (Some f) h.messages k; bytes = ap (λ (n : ℕ). n + length m.frame) h.bytes ∙ ap (λ (n : ℕ). s.link.kept_bytes + n) (same_length m f k) })

of_sending : (m : Message) (f : Frame) (net : Kept) (s : State) → IsNet net s.link → IsMessage m f → Posts f s (sending m net).0 (sending m net).1
of_sending m f net s h k =
    let number : next_number net ≡ next_message s = ap (λ (n : ℕ). n + 1) (same_count net.messages s.link.messages h.messages) in
    let bytes : net.bytes + length m.frame ≡ s.link.kept_bytes + length (spell_frame f) = ap (λ (n : ℕ). n + length m.frame) h.bytes ∙ ap (λ (n : ℕ). s.link.kept_bytes + n) (same_length m f k) in
    let P : Bool → Bool → Type 0 = λ a b. IsPosted (no_number s) (no_bytes f s) f s (outcome a b m net).0 (outcome a b m net).1 in
    let first : P (nat_lt most (next_message s)) (nat_lt most_kept (s.link.kept_bytes + length (spell_frame f))) = by_tests (no_number s) (no_bytes f s) m f net s h k number in
    subst (λ (x : ℕ). P (nat_lt most (next_number net)) (nat_lt most_kept x)) (sym bytes) (subst (λ (x : ℕ). P (nat_lt most x) (nat_lt most_kept (s.link.kept_bytes + length (spell_frame f)))) (sym number) first)

one_posted : (m : Message) (f : Frame) (net after : Kept) (s : State) (sent : Sent) → sent ≡ (sending m net).0 → after ≡ (sending m net).1 → IsNet net s.link → IsMessage m f → Posts f s sent after
one_posted m f net after s sent e g h k =
    subst (λ (x : Kept). Posts f s sent x) (sym g) (subst (λ (x : Sent). Posts f s x (sending m net).1) (sym e) (of_sending m f net s h k))

pub posted : (m : Message) (net after : Kept) (r : Result Sent OutOfMemory) → IfOk r (λ sent. (sent ≡ (sending m net).0) × (after ≡ (sending m net).1))
    → (s : State) (f : Frame) → IsNet net s.link → IsMessage m f → IfOk r (λ sent. Posts f s sent after)
posted m net after (Ok sent) e s f h k = one_posted m f net after s sent e.0 e.1 h k
posted m net after (Err x) e s f h k = tt
