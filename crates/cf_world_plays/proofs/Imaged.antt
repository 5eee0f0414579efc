-- The bytes of a device whose power was cut.
use Rattle.std.proofs.Common.{◌≡◌, ℕ, List, ◌∙◌, refl, subst, sym}
use Rattle.std.specs.Prelude.{Option}
use Rattle.cf_base.specs.declared.policies.Choice.{Choice}
use Rattle.cf_base.specs.declared.policies.Choice.TheVariants.{Keep}
use Rattle.cf_base.specs.declared.statuses.Status.{Status}
use Rattle.cf_base.specs.declared.statuses.Status.TheVariants as status
use Rattle.cf_disk.specs.Disk.{AddsPower, Keeps, Only, Powers, State as Disk}
use Rattle.cf_world_devices.specs.Migrations.{HandsOut}
use Rattle.cf_world_plays.specs.Outputs.{HandsImage, IsCut}

module _ {D : Type 0} (state : D → Disk) (old cut new : D) (left : (state old).may_leave (state cut).seen) (durable : Only (state cut).seen (state cut)) (powers : Powers Keep (state old) (state cut)) (keeps : Keeps (state cut) (state new)) (same : (state new).powers ≡ (state cut).powers) where
  cut_is : IsCut (state old) (state new) (state new).seen
  cut_is = record {
    left = subst (λ (c : List ℕ). (state old).may_leave c) (sym keeps.seen) left;
    seen = refl;
    only = λ c may. durable c (keeps.crash c may) ∙ sym keeps.seen;
    powers = subst (λ (bytes : List ℕ). AddsPower Keep bytes (state old).powers (state new).powers) (sym keeps.seen) (subst (λ (after : Option (List (Choice × List ℕ))). AddsPower Keep (state cut).seen (state old).powers after) (sym same) powers.adds);
  }

  pub handed_image : (held after : Option (List ℕ)) (s : Status) → HandsOut (state cut) (state new) held after s → HandsImage state old new held after s
  handed_image held after status.Done h = (cut_is, h.1)
  handed_image held after status.SinkFault h = (cut_is, h.1)
  handed_image held after status.DeviceFault h = (h.1, (cut, powers, h.0))
  handed_image held after status.Usage h = absurd h
  handed_image held after status.BadScript h = absurd h
  handed_image held after status.SourceFault h = absurd h
  handed_image held after status.BadDevice h = absurd h
  handed_image held after status.TooLong h = absurd h
  handed_image held after status.OutOfMemory h = absurd h
  handed_image held after status.BadImage h = absurd h
  handed_image held after status.Unlawful h = absurd h
  handed_image held after status.Undecided h = absurd h
  handed_image held after status.Damaged h = absurd h
