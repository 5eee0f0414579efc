-- What a disk in memory holds, what its calls do to that, and which images a crash may leave of it.
use Rattle.std.specs.Prelude.{◌+◌, ◌≡◌, ℕ, Bool, true, false, List, length, get_or, replicate, take, drop, ◌*◌, ◌/◌, ◌%◌, ◌^◌, ◌==◌, if◌then◌else◌, [], ◌∷◌, ◌++◌}
use Rattle.cf_base.specs.declared.policies.Choice.{Choice}
use Rattle.cf_base.specs.declared.policies.Choice.TheVariants.{Keep, Drop, Mix}
use Rattle.cf_disk.specs.Splice.{over}

-- what a read gives, what the last sync left, and which places were written since
pub record Held : Type 0 where
  pub bytes : List ℕ
  pub synced : List ℕ
  pub pending : List Bool

abbrev pub written : ℕ → List ℕ → Held → Held
written at bytes h = record {
  bytes = over at bytes h.bytes;
  synced = h.synced;
  pending = over at (replicate (length bytes) true) h.pending;
}

-- these bytes, all of them durable
abbrev pub durable : List ℕ → Held
durable bytes = record { bytes = bytes; synced = bytes; pending = replicate (length bytes) false }

-- the synced bytes, but for those that are pending
pub record IsImage (h : Held) (image : List ℕ) : Type 0 where
  pub size : length image ≡ length h.synced
  pub stays : (i : ℕ) → get_or h.pending i false ≡ false → get_or image i 0 ≡ get_or h.synced i 0

-- a flag a byte, and the bytes that a read gives are an image
pub record IsWhole (h : Held) : Type 0 where
  pub flags : length h.pending ≡ length h.synced
  pub reads_one : IsImage h h.bytes

-- the next number of the generator
unfoldable pub stirred : ℕ → ℕ
stirred s = (s * 6364136223846793005 + 1442695040888963407) % 2 ^ 64

-- what a power cut makes of a pending byte, by a number of the generator
unfoldable pub mixed_byte : ℕ → ℕ → ℕ → ℕ
mixed_byte s synced written =
    if s / 2 ^ 62 == 0 then synced else if s / 2 ^ 62 == 1 then written else if s / 2 ^ 62 == 2 then 0 else s / 2 ^ 32 % 256

-- the pending bytes by a generator that stands at s
abbrev pub mixed : ℕ → List ℕ → List ℕ → List Bool → List ℕ
mixed s (w ∷ written) (y ∷ synced) (true ∷ pending) = mixed_byte (stirred s) y w ∷ mixed (stirred s) written synced pending
mixed s (w ∷ written) (y ∷ synced) (false ∷ pending) = w ∷ mixed s written synced pending
mixed s written synced pending = written

-- the generator behind them
abbrev pub stirs : ℕ → List Bool → ℕ
stirs s [] = s
stirs s (true ∷ pending) = stirs (stirred s) pending
stirs s (false ∷ pending) = stirs s pending

-- the same from a place on, before which all stays
abbrev pub mixed_after : ℕ → ℕ → List ℕ → List ℕ → List Bool → List ℕ
mixed_after i s written synced pending = take i written ++ mixed s (drop i written) (drop i synced) (drop i pending)

-- the bytes that a power cut leaves
abbrev pub left_by : Choice → Held → List ℕ
left_by Keep h = h.bytes
left_by Drop h = h.synced
left_by (Mix n) h = mixed n h.bytes h.synced h.pending
