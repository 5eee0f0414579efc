-- The link stands for that of the state that an event of another device leaves.
use Rattle.std.proofs.Common.{◌≡◌, ℕ, ◌+◌, Bool, [], sym, ap, subst}
use Rattle.std.specs.Prelude.{Option, Result, Ok, Err, IfErr, IfOk}
use Rattle.cf_base.specs.declared.answers.Answer.{Answer}
use Rattle.cf_base.specs.declared.events.PeerEvent.{PeerEvent}
use Rattle.cf_base.specs.declared.memory.OutOfMemory.{OutOfMemory}
use Rattle.cf_base.specs.declared.messages.Reply.{Reply}
use Rattle.cf_link.specs.Linked.{DoesPeer, IsLink, Linked, PeerEnded, StopsPeer, after_peer}
use Rattle.cf_link.specs.Parts.{linked}
use Rattle.cf_model.specs.Peers.{peer_event}
use Rattle.cf_model.specs.State.{State}
use Rattle.cf_remote.specs.Peers.{Does, Leads, Stands}
use Rattle.cf_remote.specs.Told.{Told}
use Rattle.cf_wire.specs.Sending.{IsNet, Kept}
use Rattle.cf_link.proofs.PeerWalk.{peer_ends, restored}
use Rattle.cf_link.proofs.Ways.{leads_ends}

only : (s t : State) → restored s t ≡ s → t ≡ after_peer t.link t.peer_tokens t.running.stray s
only s t e = ap (after_peer t.link t.peer_tokens t.running.stray) e

same_net : (net : Kept) (s t : State) → restored s t ≡ s → IsNet net s.link → IsNet net t.link
same_net net s t e h =
    let n : IsNet net (restored s t).link = subst (λ (x : State). IsNet net x.link) (sym e) h in
    record { messages = n.messages; bytes = n.bytes }

same_inline : (inline : Bool) (s t : State) → restored s t ≡ s → inline ≡ s.link.inline → inline ≡ t.link.inline
same_inline inline s t e h = subst (λ (x : State). inline ≡ x.link.inline) (sym e) h

-- the link before, and the remote after the event
module _ {R : Type 0} (told : R → Told) (e : PeerEvent) (next : ℕ) (net : Kept) (remote : R) (inline : Bool) (old : Linked R) (same : linked net remote inline ≡ old) (mid : R) (after : ℕ) where
  stands_at : (s : State) → next ≡ s.peer_tokens + 1 → IsLink told (linked net remote inline) s.link → Stands next (told remote) s
  stands_at s token h = record { token = token; held = h.held; asks = h.asks; honest = h.honest }

  ended : (s t : State) (a : Answer) → IsLink told (linked net remote inline) s.link → restored s t ≡ s → Leads (peer_event e s) (told remote) a.shown t (told mid) → Stands after (told mid) t
      → a ≡ record { notes = []; shown = a.shown; stray = t.running.stray } → PeerEnded told (peer_event e) s (linked net remote inline) a after (linked net mid inline)
  ended s t a k is leads stands shows =
      let stray : a.stray ≡ t.running.stray = ap (λ (x : Answer). x.stray) shows in
      record {
        link = t.link;
        tokens = t.peer_tokens;
        leads = subst (λ (o : Option Reply). Leads (peer_event e s) (told remote) a.shown (after_peer t.link t.peer_tokens o s) (told mid)) (sym stray)
            (subst (λ (x : State). Leads (peer_event e s) (told remote) a.shown x (told mid)) (only s t is) leads);
        stands = record { net = same_net net s t is k.net; held = stands.held; asks = stands.asks; honest = stands.honest; inline = same_inline inline s t is k.inline };
        next = stands.token;
        notes = ap (λ (x : Answer). x.notes) shows;
      }

  pub peer_does : (r : Result Answer OutOfMemory) → Does (peer_event e) next (told remote) r after (told mid) → IfOk r (λ a. DoesPeer told (peer_event e) next old a after (linked net mid inline))
  peer_does (Ok a) d = subst (λ (x : Linked R). DoesPeer told (peer_event e) next x a after (linked net mid inline)) same (record {
    ends = λ s none token k.
        let x = d s none (stands_at s token k) in
        ended s x.0 a k (peer_ends s e a.shown x.0 (leads_ends (peer_event e s) (told remote) (told mid) a.shown x.0 x.1)) x.1 x.2 x.3;
  })
  peer_does (Err m) d = tt

  pub peer_stops : (r : Result Answer OutOfMemory) → Does (peer_event e) next (told remote) r after (told mid) → IfErr r (λ m. StopsPeer told (peer_event e) next old after (linked net mid inline))
  peer_stops (Ok a) d = tt
  peer_stops (Err m) d = subst (λ (x : Linked R). StopsPeer told (peer_event e) next x after (linked net mid inline)) same (record {
    least = d.0;
    most = d.1;
    begins = λ s token k. d.2 s (stands_at s token k);
  })
