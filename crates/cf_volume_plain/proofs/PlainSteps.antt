-- What the calls of a ground do that no crash leaves.
use Rattle.std.proofs.Common.{◌≡◌, ℕ, ◌+◌, ◌*◌, ◌<◌, ◌≤◌, max, List, ◌++◌, length, refl, sym, ◌∙◌, ap, subst, arith}
use Rattle.std.proofs.lemmas.List.{length-append, length-replicate}
use Rattle.cf_clusters.proofs.Writes.{staged, staged_same}
use Rattle.cf_clusters.specs.Area.{SameWhere, place}
use Rattle.cf_clusters.specs.Roles.{IsUsed, use_of}
use Rattle.cf_clusters.specs.declared.uses.Use.{Use}
use Rattle.cf_clusters.specs.declared.uses.Use.TheVariants.{Free}
use Rattle.cf_disk.specs.Disk.{Holds, Leaves, part, size_of}
use Rattle.cf_disk.specs.Fronts.{filled}
use Rattle.cf_disk.specs.Splice.{length-over, over}
use Rattle.cf_volume_plain.proofs.Behind.{length-zeroed, over_behind, part_behind, zeroed_again, zeroed_over}
use Rattle.cf_volume_plain.specs.Plains.{Blocks, IsFront, no_journal, plain_state}
use Rattle.cf_volume_points.specs.Runs.{Ran}
use Rattle.cf_volume_points.specs.Standing.{cluster_on}

journal_long : length no_journal ≡ 3145728
unfolding no_journal
journal_long = length-replicate {A = ℕ} 3145728 0

pub size_is : (b : Blocks) → size_of (plain_state b) ≡ 3145728 + length b.bytes
size_is b = omega (arith, length-append no_journal b.bytes, journal_long)

pub plain_leaves : (a b : Blocks) (P : List ℕ → Type 0) → Leaves (plain_state a) (plain_state b) P
plain_leaves a b P = record { later = omega arith; now = λ c left. absurd left; since = λ t c le left. absurd left }

pub plain_ran : (n : ℕ) (a b : Blocks) (bytes : List ℕ) → length bytes ≡ length a.bytes → b ≡ record a { bytes = bytes } → Ran n (plain_state a) (plain_state b)
plain_ran n a b bytes long is = subst (λ (c : Blocks). Ran n (plain_state a) (plain_state c)) (sym is) (record {
  size = omega (arith, size_is a, size_is (record a { bytes = bytes }), long);
  powers = refl;
  settings = refl;
  faults = omega arith;
  calm = omega arith;
  written = omega arith;
})

-- a block put into a cluster

behind : (k : ℕ) → place k ≡ length no_journal + 4096 * k
behind k = omega (arith, journal_long)

module _ (a b : Blocks) (k : ℕ) (block : List ℕ) (long : length block ≡ 4096) (room : 4096 * k + 4096 ≤ length a.bytes) (is : b ≡ record a { bytes = over (4096 * k) block a.bytes }) where
  put_holds : Holds (place k) block (no_journal ++ a.bytes) (no_journal ++ b.bytes)
  put_holds =
      ap (λ (c : Blocks). no_journal ++ c.bytes) is
      ∙ sym (ap (λ (n : ℕ). over n block (no_journal ++ a.bytes)) (behind k) ∙ over_behind no_journal a.bytes block (4096 * k))

  inside : place k + length block ≤ length (no_journal ++ a.bytes)
  inside = omega (arith, long, room, length-append no_journal a.bytes, journal_long)

  pub put_wrote : cluster_on (plain_state b).seen k ≡ block
  put_wrote = staged k block (no_journal ++ a.bytes) (no_journal ++ b.bytes) long inside put_holds

  pub put_same : (uses : List Use) → use_of uses k ≡ Free → SameWhere IsUsed uses (plain_state a).seen (plain_state b).seen
  put_same uses is_free = staged_same uses k block (no_journal ++ a.bytes) (no_journal ++ b.bytes) is_free long inside put_holds

  pub put_ran : Ran 4096 (plain_state a) (plain_state b)
  put_ran = plain_ran 4096 a b (over (4096 * k) block a.bytes) (length-over 0 (4096 * k) block a.bytes (omega (arith, long, room))) is

-- a block read
pub read_got : (a : Blocks) (k : ℕ) → part (4096 * k) 4096 a.bytes ≡ cluster_on (plain_state a).seen k
read_got a k = sym (ap (λ (n : ℕ). part n 4096 (no_journal ++ a.bytes)) (behind k) ∙ part_behind no_journal a.bytes (4096 * k) 4096)

-- the room of a volume is that of the blocks
pub room_in : (a : Blocks) (uses : List Use) (k : ℕ) → place (length uses) ≤ size_of (plain_state a) → k < length uses → 4096 * k + 4096 ≤ length a.bytes
room_in a uses k room lt = omega (arith, room, size_is a, lt)

-- what lies in memory

pub front_long : (clusters room : ℕ) (bytes : List ℕ) → IsFront clusters room bytes → length (filled (4096 * clusters) 0 bytes) ≡ 4096 * clusters
front_long clusters room bytes front = omega (arith, length-zeroed (4096 * clusters) bytes, front.whole, front.fits)

module _ (clusters room k : ℕ) (bytes block : List ℕ) (front : IsFront clusters room bytes) (long : length block ≡ 4096) (low : 4096 * k + 4096 ≤ 4096 * clusters) where
  reached : length (filled (4096 * k + 4096) 0 bytes) ≡ max (4096 * k + 4096) (length bytes)
  reached = length-zeroed (4096 * k + 4096) bytes

  pub front_put : filled (4096 * clusters) 0 (over (4096 * k) block (filled (4096 * k + 4096) 0 bytes)) ≡ over (4096 * k) block (filled (4096 * clusters) 0 bytes)
  front_put =
      zeroed_over (4096 * clusters) (4096 * k) block (filled (4096 * k + 4096) 0 bytes) (omega (arith, long, reached))
      ∙ ap (λ (l : List ℕ). over (4096 * k) block l) (zeroed_again (4096 * k + 4096) (4096 * clusters) bytes low (omega (arith, front.whole, front.fits)))

  pub front_after : (room' : ℕ) → room ≤ room' → IsFront clusters room' (over (4096 * k) block (filled (4096 * k + 4096) 0 bytes))
  front_after room' more = record {
    blocks = max (k + 1) front.blocks;
    whole = omega (arith, length-over 0 (4096 * k) block (filled (4096 * k + 4096) 0 bytes) (omega (arith, long, reached)), reached, front.whole);
    fits = omega (arith, low, front.fits);
    small = front.small;
    room_is = omega (arith, more, front.room_is);
  }
