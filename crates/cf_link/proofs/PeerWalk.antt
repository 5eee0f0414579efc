-- What an event of another device changes of a state: it asks the remote, uses a token up and notes a stray reply.
use Rattle.std.proofs.Common.{◌≡◌, refl}
use Rattle.cf_base.specs.declared.answers.Shown.{Shown}
use Rattle.cf_base.specs.declared.events.PeerEvent.{PeerEvent}
use Rattle.cf_base.specs.declared.messages.Request.{Request}
use Rattle.cf_model.specs.Arrows.{Preserves}
use Rattle.cf_model.specs.Messages.{ask}
use Rattle.cf_model.specs.Peers.{peer_event}
use Rattle.cf_model.specs.State.{State}
use Rattle.cf_model.specs.Trees.{Ends}
use Rattle.cf_model.proofs.MessagesKeep.{asked_keeps}
use Rattle.cf_model.proofs.PeersKeep.{peer_event_keeps}
use Rattle.cf_model.proofs.TreeLaws.{kept_at_end}

-- the state, with what such an event changes as it was in the first
abbrev pub restored : State → State → State
restored base s = record s {
  link = record s.link { remote = base.link.remote; remote_asks = base.link.remote_asks; honest = base.link.honest };
  peer_tokens = base.peer_tokens;
  running = record s.running { stray = base.running.stray };
}

abbrev Same : State → State → Type 0
Same base s = restored base s ≡ base

asks : (base : State) (q : Request) → Preserves (Same base) (ask q)
asks base q = asked_keeps (Same base) (λ s h. h) (λ held s h. h) (λ s h. h) q

pub peer_ends : (base : State) (e : PeerEvent) (a : Shown) (s : State) → Ends (peer_event e base) a s → restored base s ≡ base
peer_ends base e a s h = kept_at_end (Same base) (peer_event e base) a s ((peer_event_keeps (Same base) (asks base) (λ t k. k) (λ r t k. k) e).keeps base refl) h
