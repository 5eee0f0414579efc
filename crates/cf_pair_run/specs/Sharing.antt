-- How two devices and the remote that they share stand for a pair of the definitions.
use Rattle.std.specs.Prelude.{◌≡◌, true, is_some}
use Rattle.cf_base.specs.declared.policies.Mode.TheVariants as mode
use Rattle.cf_disk.specs.Disk.{State as Disk}
use Rattle.cf_engine.specs.Actors.{Syncing, acts_of}
use Rattle.cf_filter_events.specs.Actors.{Acts}
use Rattle.cf_filter_events.specs.Meaning.{Is}
use Rattle.cf_filter_events.specs.Pasts.{Past}
use Rattle.cf_model.specs.State.{State}
use Rattle.cf_pair_lane.specs.Absences.{told_away}
use Rattle.cf_pair_lane.specs.Lanes.{Laned, told_by}
use Rattle.cf_pair_lane.specs.declared.absences.Away.{Away}
use Rattle.cf_pair_traces.specs.Pairs.{Pair}
use Rattle.cf_pair_run.specs.declared.worlds.PairWorld.{PairWorld}
use Rattle.cf_remote.specs.Peers.{IsHeld}
use Rattle.cf_remote.specs.Told.{Told}

-- a device that rests, and one that has the remote behind its lane

abbrev pub resting : Acts (Syncing Away)
resting = acts_of told_away

abbrev pub laned : {R : Type 0} → (R → Told) → Acts (Syncing (Laned R))
laned told = acts_of (told_by told)

-- A remote that reports what it holds has kept its rules so far, by what this state knows.
abbrev pub Trusts : Told → State → Type 0
Trusts told s = is_some told.held ≡ true → s.link.honest ≡ true

-- the third device has no volume
pub record IsThird (x : Syncing Away) (s : State) : Type 0 where
  pub mode : s.mode ≡ mode.Replay
  pub stands : resting.stands x s

-- Each device stands for its state, after these power cuts, but for what the remote holds. That is the pair's, where the remote
-- reports it.
pub record Shares {D R : Type 0} (state : D → Disk) (told : R → Told) (first second : Past) (w : PairWorld D R) (p : Pair) : Type 0 where
  pub first_is : Is resting state first w.first p.first
  pub second_is : Is resting state second w.second p.second
  pub third_is : IsThird w.third p.third
  pub held : IsHeld (told w.remote).held p.held
  pub first_trusts : Trusts (told w.remote) p.first
  pub second_trusts : Trusts (told w.remote) p.second
  pub third_trusts : Trusts (told w.remote) p.third
