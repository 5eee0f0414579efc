-- The volume of a device makes each commit for room where it is aimed.
use Rattle.std.proofs.Common.{◌≡◌, ℕ, Bool, true, false, Option, sym, subst, ◌∙◌}
use Rattle.cf_check_world.specs.Devices.{Stands, acts, no_past}
use Rattle.cf_check_world.specs.Remotes.{Failing}
use Rattle.cf_check_world.specs.declared.places.Place.{Place}
use Rattle.cf_check_world.specs.declared.places.Place.TheVariants as place
use Rattle.cf_engine.specs.Actors.{Syncing}
use Rattle.cf_filter_events.specs.Actors.{hushed}
use Rattle.cf_filter_events.specs.Meaning.{IsOn, OnBy}
use Rattle.cf_filter_events.specs.declared.places.RunningOn.{RunningOn as Run}
use Rattle.cf_filter_machine.specs.Sensing as sensing
use Rattle.cf_model.specs.State.{Broken, On, State}
use Rattle.cf_volume_plain.specs.Plains.{Blocks, plain_state}
use Rattle.cf_volume_room.specs.Aims.{IsAimedBy}

-- a volume that is on was not broken
pub on_stands : (x : Run Blocks (Syncing Failing)) (s : State) → IsOn acts plain_state no_past x s → s.power ≡ On → acts.stands x.actor s × sensing.Stands plain_state x.filter (hushed s.filter)
on_stands x s on power = by x.filter.desk.broken on.is
  where
    by : (b : Bool) → OnBy acts plain_state b x s → acts.stands x.actor s × sensing.Stands plain_state x.filter (hushed s.filter)
    by true h = let z : On ≡ Broken = sym power ∙ h.0 in absurd cc
    by false h = (h.1, h.2)

-- each commit for room is where the volume is aimed
pub aimed_at : (d : Place) (aim : Option ℕ) (s : State) → Stands d aim s → IsAimedBy aim s.filter.volume
aimed_at (place.On x) aim s h = subst (λ (o : Option ℕ). IsAimedBy o s.filter.volume) h.aims (on_stands x s h.is h.power).1.aimed
aimed_at (place.Off x) aim s h = h.aimed
aimed_at place.Lost aim s h = absurd h
