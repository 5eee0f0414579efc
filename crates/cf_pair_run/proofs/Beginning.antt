-- A world in which nothing has happened.
use Rattle.std.proofs.Common.{◌≡◌, refl}
use Rattle.cf_base.specs.declared.policies.Mode.TheVariants as mode
use Rattle.cf_disk.specs.Disk.{State as Disk}
use Rattle.cf_engine.specs.Actors.{Syncing}
use Rattle.cf_filter_events.specs.Counted.{GoesOn}
use Rattle.cf_filter_events.specs.Meaning.{Is}
use Rattle.cf_filter_events.specs.Pasts.{Past}
use Rattle.cf_filter_events.specs.Stepped.{disk_of}
use Rattle.cf_filter_events.specs.declared.places.Acting.{Acting}
use Rattle.cf_model.specs.State.{start}
use Rattle.cf_model.specs.Store.{Held}
use Rattle.cf_pair_lane.specs.declared.absences.Away.{Away}
use Rattle.cf_pair_run.specs.Sharing.{resting}
use Rattle.cf_pair_run.specs.Steps.{Begun}
use Rattle.cf_remote.specs.Told.{Told}
use Rattle.cf_volume_points.specs.Standing.{clusters_for}

pub begun : {D R : Type 0} (state : D → Disk) (told : R → Told) (first second : D) (remote : R) (ours theirs : Acting D (Syncing Away)) (third : Syncing Away)
    → ((held : Held) (past : Past) → past.told ≡ (state first).powers → Is resting state past ours (start mode.Replay held (clusters_for (state first))))
    → ((held : Held) (past : Past) → past.told ≡ (state second).powers → Is resting state past theirs (start mode.Replay held (clusters_for (state second))))
    → GoesOn (state first) (state (disk_of ours)) → GoesOn (state second) (state (disk_of theirs)) → ((held : Held) → resting.stands third (start mode.Replay held 0))
    → Begun state told first second remote (record { first = ours; second = theirs; third = third; remote = remote })
begun state told first second remote ours theirs third one two goes on stands = record {
  shares = λ held a b is p q. record {
    first_is = one held a p;
    second_is = two held b q;
    third_is = record { mode = refl; stands = stands held };
    held = is;
    first_trusts = λ some. refl;
    second_trusts = λ some. refl;
    third_trusts = λ some. refl;
  };
  first_goes = goes;
  second_goes = on;
  same = refl;
}
