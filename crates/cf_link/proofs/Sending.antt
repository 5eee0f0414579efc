-- A message that was sent is posted as the definitions do it.
use Rattle.std.proofs.Common.{◌≡◌, ℕ, ◌+◌, Bool, true, false, not, cond, List, [], ◌∷◌, ◌++◌, ◌==◌, length, refl, sym, ap, subst, arith}
use Rattle.std.specs.Prelude.{Some, None, Result, Ok, Err, IfOk}
use Rattle.std.proofs.lemmas.Bool.Decides.{nat_tests}
use Rattle.std.proofs.lemmas.List.{length-append}
use Rattle.cf_base.specs.declared.notices.Frame.{Frame}
use Rattle.cf_base.specs.declared.notices.Notice.TheVariants as notice
use Rattle.cf_link.specs.Linked.{Linked, Posts, posted_line}
use Rattle.cf_link.specs.Parts.{IsMessageLine, PostedBy, SendsFrame, linked, posted_of, with_messages}
use Rattle.cf_link.specs.declared.posts.Posted.{Posted}
use Rattle.cf_model.specs.Messages.{next_message, no_bytes, no_number, post_by, post_unless, post}
use Rattle.cf_model.specs.Frames.{spell_frame}
use Rattle.cf_model.specs.State.{State}
use Rattle.cf_model.specs.Trees.{Tree}
use Rattle.cf_remote.specs.Told.{Told}
use Rattle.cf_wire.specs.Sending as sending
use Rattle.cf_wire.specs.Sending.{IsMessage, IsNet, IsPosted, Kept}
use Rattle.cf_wire.specs.declared.messages.Message.{Message}
use Rattle.cf_wire.specs.declared.messages.Sent.{Sent}

one_more : {A : Type 0} (xs : List A) (x : A) → length xs + 1 ≡ length (xs ++ x ∷ [])
one_more xs x = sym (length-append xs (x ∷ []))

from_one : (n : ℕ) → (n + 1 == 0) ≡ false
from_one n = grind (arith, nat_tests)

module _ (f : Frame) (s : State) (net : Kept) where
  -- the number of the message is not 0, so that there is a line
  abbrev posted_as : Bool → Bool → Posted
  posted_as b lost = record {
    number = next_message s;
    kept = not lost;
    line = cond b None (Some (notice.Message (record { message = next_message s; frame = f; lost = lost })));
  }

  lined : (p : Tree State Bool) (lost : Bool) → PostedBy p s (posted_as false lost) net → PostedBy p s (posted_as (next_message s == 0) lost) net
  lined p lost h = subst (λ (b : Bool). PostedBy p s (posted_as b lost) net) (sym (from_one (length s.link.messages))) h

  by_bytes : (b : Bool) (sent : Sent) → IsPosted false b f s sent net → PostedBy (post_by f b s) s (posted_of sent f) net
  by_bytes true sent h = subst (λ (x : Sent). PostedBy (post_by f true s) s (posted_of x f) net) (sym h.0) (lined (post_by f true s) true (record {
    messages = s.link.messages ++ None ∷ [];
    bytes = s.link.kept_bytes;
    leads = λ told. (refl, refl, refl);
    stands = h.1;
    number = λ e. cc;
  }))
  by_bytes false sent h = subst (λ (x : Sent). PostedBy (post_by f false s) s (posted_of x f) net) (sym h.0) (lined (post_by f false s) false (record {
    messages = s.link.messages ++ Some f ∷ [];
    bytes = s.link.kept_bytes + length (spell_frame f);
    leads = λ told. (refl, refl, refl);
    stands = h.1;
    number = λ e. one_more s.link.messages (Some f);
  }))

  by_number : (b : Bool) (sent : Sent) → IsPosted b (no_bytes f s) f s sent net → PostedBy (post_unless f b s) s (posted_of sent f) net
  by_number true sent h = subst (λ (x : Sent). PostedBy (post_unless f true s) s (posted_of x f) net) (sym h.0) (record {
    messages = s.link.messages;
    bytes = s.link.kept_bytes;
    leads = λ told. (refl, refl, refl);
    stands = h.1;
    number = λ e. cc;
  })
  by_number false sent h = by_bytes (no_bytes f s) sent h

pub sends : (f : Frame) (old : Kept) (m : Message) (sent : Sent) (p : Posted) (new : Kept) → ((s : State) (g : Frame) → IsNet old s.link → IsMessage m g → sending.Posts g s sent new)
    → IsMessage m f → p ≡ posted_of sent f → SendsFrame f old p new
sends f old m sent p new posts is e = record {
  ends = λ s net. subst (λ (x : Posted). PostedBy (post f s) s x new) (sym e) (by_number f s new (no_number s) sent (posts s f net is));
}

line_of : (b : Bool) (sent : Sent) (f : Frame) → IsMessageLine (cond b None (Some (notice.Message (record { message = sent.number; frame = f; lost = sent.lost }))))
line_of true sent f = tt
line_of false sent f = tt

pub lined_as : (sent : Sent) (p : Posted) (f : Frame) → p ≡ posted_of sent f → IsMessageLine p.line
lined_as sent p f e = subst (λ (x : Posted). IsMessageLine x.line) (sym e) (line_of (sent.number == 0) sent f)

-- the line of each

not_not : (b : Bool) → b ≡ not (not b)
not_not true = refl
not_not false = refl

pub line_is : (sent : Sent) (p : Posted) (f : Frame) → p ≡ posted_of sent f → p.line ≡ posted_line f p
line_is sent p f e = subst (λ (x : Posted). x.line ≡ posted_line f x) (sym e)
    (ap (λ (b : Bool). cond (sent.number == 0) None (Some (notice.Message (record { message = sent.number; frame = f; lost = b })))) (not_not sent.lost))

pub posts : {R E : Type 0} (told : R → Told) (f : Frame) (net : Kept) (remote : R) (inline : Bool) (old : Linked R) (after : Kept) (r : Result Posted E) → linked net remote inline ≡ old
    → IfOk r (λ p. SendsFrame f net p after) → IfOk r (λ p. Posts told f old p (linked after remote inline))
posts told f net remote inline old after (Err e) same h = tt
posts told f net remote inline old after (Ok p) same h = subst (λ (x : Linked _). Posts told f x p (linked after remote inline)) same (record {
  ends = λ s k.
      let d = h.ends s k.net in (
        record {
          link = with_messages d.messages d.bytes s.link;
          leads = d.leads (told remote);
          stands = record { net = d.stands; held = k.held; asks = k.asks; honest = k.honest; inline = k.inline };
        },
        d.number,
      );
})
