-- An engine behind a lane, and one whose remote is away.
use Rattle.std.proofs.Common.{◌≡◌, true, false, refl, sym, ap, subst, ◌∙◌}
use Rattle.std.specs.Prelude.{Option, Some, None, is_some, option_map}
use Rattle.cf_engine.specs.Actors.{Holds, Stands, Syncing, with_remote}
use Rattle.cf_link.specs.Linked.{IsLink, linked_to}
use Rattle.cf_model.specs.State.{State}
use Rattle.cf_model.specs.Store.{Held}
use Rattle.cf_pair_lane.specs.Absences.{told_away}
use Rattle.cf_pair_lane.specs.Lanes.{Laned, told_by}
use Rattle.cf_pair_lane.specs.declared.absences.Away.{Away}
use Rattle.cf_pair_model.proofs.Crossings.{held_twice}
use Rattle.cf_pair_model.specs.Seen.{held_seen}
use Rattle.cf_pair_model.specs.declared.devices.Device.{Device}
use Rattle.cf_pair_model.specs.declared.devices.Device.TheVariants as device
use Rattle.cf_pair_traces.specs.Pairs.{facing}
use Rattle.cf_pair_run.specs.Sharing.{Trusts}
use Rattle.cf_remote.specs.Peers.{IsHeld}
use Rattle.cf_remote.specs.Told.{Told}

-- the lane of the device, new to this remote
abbrev pub new_lane : {R : Type 0} → Device → R → Laned R
new_lane d remote = record { inner = remote; device = d; faults = 0 }

abbrev pub away : Away
away = record {}

-- what is seen of what is held

pub seen_twice : (d : Device) (held : Held) → held_seen d (held_seen d held) ≡ held
seen_twice device.First held = refl
seen_twice device.Second held = held_twice held

pub seen_some : (d : Device) (o : Option Held) → is_some (option_map (held_seen d) o) ≡ is_some o
seen_some d None = refl
seen_some d (Some held) = refl

seen_held : (d : Device) (o : Option Held) (held : Held) → IsHeld o held → IsHeld (option_map (held_seen d) o) (held_seen d held)
seen_held d None held h = tt
seen_held d (Some told) held h = ap (held_seen d) h

-- what is held, by what is seen of it
pub held_back : (d : Device) (o : Option Held) (held : Held) → IsHeld (option_map (held_seen d) o) held → IsHeld o (held_seen d held)
held_back d None held h = tt
held_back d (Some told) held h = ap (held_seen d) h ∙ seen_twice d told

module _ {R : Type 0} (told : R → Told) where
  -- the remote comes

  module _ (d : Device) (remote : R) (held : Held) (x : Syncing Away) (s : State) (is : IsHeld (told remote).held held) (trusts : Trusts (told remote) s) where
    link_comes : IsLink told_away x.engine.agent.link s.link → IsLink (told_by told) (linked_to (new_lane d remote) x.engine.agent.link) (facing (held_seen d held) s).link
    link_comes h = record {
      net = record { messages = h.net.messages; bytes = h.net.bytes };
      held = seen_held d (told remote).held held is;
      asks = tt;
      honest = λ some. trusts (sym (seen_some d (told remote).held) ∙ some);
      inline = h.inline;
    }

    pub holds_comes : Holds told_away x s → Holds (told_by told) (with_remote (new_lane d remote) x) (facing (held_seen d held) s)
    holds_comes h = record { link = link_comes h.link; next = h.next }

    pub stands_comes : Stands told_away x s → Stands (told_by told) (with_remote (new_lane d remote) x) (facing (held_seen d held) s)
    stands_comes h = record { held = holds_comes h.held; volatile = h.volatile }

  -- and goes

  module _ (x : Syncing (Laned R)) (s : State) where
    link_goes : IsLink (told_by told) x.engine.agent.link s.link → IsLink told_away (linked_to away x.engine.agent.link) s.link
    link_goes h = record { net = h.net; held = tt; asks = tt; honest = λ some. let z : false ≡ true = some in absurd cc; inline = h.inline }

    pub holds_goes : Holds (told_by told) x s → Holds told_away (with_remote away x) s
    holds_goes h = record { link = link_goes h.link; next = h.next }

    pub stands_goes : Stands (told_by told) x s → Stands told_away (with_remote away x) s
    stands_goes h = record { held = holds_goes h.held; volatile = h.volatile }

    -- what it leaves of the remote
    pub held_left : (d : Device) → x.engine.agent.link.remote.device ≡ d → Holds (told_by told) x s → IsHeld (told x.engine.agent.link.remote.inner).held (held_seen d s.link.remote)
    held_left d same h =
        subst (λ (e : Device). IsHeld (told x.engine.agent.link.remote.inner).held (held_seen e s.link.remote)) same
        (held_back x.engine.agent.link.remote.device (told x.engine.agent.link.remote.inner).held s.link.remote h.link.held)

    pub trusts_left : Holds (told_by told) x s → Trusts (told x.engine.agent.link.remote.inner) s
    trusts_left h = λ some. h.link.honest (seen_some x.engine.agent.link.remote.device (told x.engine.agent.link.remote.inner).held ∙ some)
