-- A new volume on a ground that no crash leaves.
use Rattle.std.proofs.Common.{◌≡◌, ℕ, ◌*◌, ◌≤◌, true, List, [], length, map, replicate, Option, None, refl, sym, ◌∙◌, ap, arith}
use Rattle.std.specs.Prelude.{All, false}
use Rattle.std.proofs.lemmas.List.{ext_get_or, get_or-map, length-map, length-replicate}
use Rattle.cf_base.specs.declared.ids.Usn.{Usn}
use Rattle.cf_clusters.specs.Roles.{Opens, committed, use_of}
use Rattle.cf_clusters.specs.declared.uses.Use.{Use}
use Rattle.cf_clusters.specs.declared.uses.Use.TheVariants.{Free, Held}
use Rattle.cf_disk.specs.Disk.{size_of}
use Rattle.cf_journal.specs.declared.journals.Journal.{Journal}
use Rattle.cf_model.specs.Numbers.{above, no_usn, usn_after}
use Rattle.cf_model.specs.State.{new_volume}
use Rattle.cf_table.specs.Changing.{IsNext}
use Rattle.cf_table.specs.Spelling.{HasRoom}
use Rattle.cf_table.specs.Tables.{AreTableRows, RisesFrom}
use Rattle.cf_volume.specs.Steady.{Steady}
use Rattle.cf_volume_commit.proofs.NewVolume.{created_at, created_sound, first_parts, raised_first}
use Rattle.cf_volume_commit.specs.Loaded.{first_image, known_of}
use Rattle.cf_volume_commit.specs.declared.parts.Parts.{Parts}
use Rattle.cf_volume_image.specs.Contents.{image_of}
use Rattle.cf_volume_image.specs.Spelled.{AreRecordsFrom}
use Rattle.cf_volume_image.specs.declared.contents.Contents.{Contents}
use Rattle.cf_volume_plain.proofs.PlainSteps.{size_is}
use Rattle.cf_volume_plain.specs.Plains.{Blocks, plain_state}
use Rattle.cf_volume_points.specs.At.{At}
use Rattle.cf_volume_points.specs.Clusters.{IsGroundSize}
use Rattle.cf_volume_points.specs.Standing.{clusters_for, clusters_on}

-- three clusters for each that the volume may use
pub new_long : (b : Blocks) (limit : ℕ) (aim : Option ℕ) → b ≡ record { bytes = replicate (4096 * (3 * limit)) 0; quota = limit; aim = aim } → length b.bytes ≡ 4096 * (3 * limit)
new_long b limit aim is = ap (λ (x : Blocks). length x.bytes) is ∙ length-replicate {A = ℕ} (4096 * (3 * limit)) 0

-- of which it may use a third
pub new_clusters : (b : Blocks) (limit : ℕ) (aim : Option ℕ) → b ≡ record { bytes = replicate (4096 * (3 * limit)) 0; quota = limit; aim = aim } → clusters_for (plain_state b) ≡ limit
new_clusters b limit aim is =
    let quota : b.quota ≡ limit = ap (λ (x : Blocks). x.quota) is in
    let long : length b.bytes ≡ 4096 * (3 * limit) = new_long b limit aim is in
    omega (arith, quota, long, size_is b)

-- clusters that are all free are those of a commit
all_free : (n : ℕ) (uses : List Use) → Opens n [] uses → uses ≡ map committed uses
all_free n uses opens = ext_get_or Held uses (map committed uses) (sym (length-map uses committed))
    (λ k lt.
    let free : use_of uses k ≡ Free = opens.each k (omega (arith, lt, opens.size)) in
    free ∙ sym (get_or-map committed uses k Held Held lt ∙ ap committed free))

module _ (j : Journal) (uses : List Use) (c : Contents) (limit : ℕ) (b : Blocks) (few : limit ≤ 65536) (long : length b.bytes ≡ 4096 * (3 * limit)) (opens : Opens (3 * limit) [] uses) (is : image_of c ≡ first_image 0) (room : All HasRoom c.rows.rows)
    (rises : RisesFrom 0 c.rows.rows) (kept : AreTableRows c.rows.rows) where
  abbrev parts : Parts
  parts = first_parts j uses c limit

  fit : IsGroundSize (size_of (plain_state b))
  fit = (omega (arith, size_is b), omega (arith, size_is b, long, few))

  number : 3 * limit ≡ clusters_on (plain_state b).seen
  number = omega (arith, size_is b, long)

  pub plain_at : AreRecordsFrom None c.records → At (plain_state b) (known_of parts) (new_volume limit)
  plain_at keys = created_at (plain_state b) parts (3 * limit) fit number (raised_first c is) room opens limit refl (omega arith) rises kept parts (plain_state b) refl (all_free (3 * limit) uses opens) refl
      (λ image left. absurd left) keys refl (λ image left. absurd left) refl

  pub plain_steady : ((n : Usn) → above n no_usn ≡ true → IsNext n c.rows.rows) → j.broken ≡ false → Steady (size_of (plain_state b)) (known_of parts)
  plain_steady later usable =
      let sound = created_sound (plain_state b) parts (3 * limit) fit number (raised_first c is) room opens limit refl (omega arith) rises kept parts refl (all_free (3 * limit) uses opens) refl in
      record { fit = sound.fit; clusters = sound.clusters; inside = sound.inside; room = sound.room; later = later (usn_after 1 0) refl; earlier = omega arith; usable = usable }
