-- Bytes at places, as tests, and blocks of them.
use Rattle.std.specs.Prelude.{ℕ, Bool, true, false, cond, List, [], Option, Some, None, length, filter, min, ◌≡◌, ◌<◌, ◌+◌, ◌*◌, ◌-◌, ◌^◌, ◌≤◌, ◌==◌}
use Rattle.cf_base.specs.declared.changes.Change.{Change}
use Rattle.cf_base.specs.declared.changes.Change.TheVariants as change
use Rattle.cf_base.specs.declared.spans.Span.{Span}
use Rattle.std.specs.List.{list_any}
use Rattle.cf_model.specs.Blocks.{blocks_of, lacks_in}
use Rattle.cf_model.specs.Words.{passes_at, within}
use Rattle.cf_ranges.specs.Positions.{contains}

abbrev pub byte_is : ℕ → Option ℕ → Bool
byte_is v None = false
byte_is v (Some b) = b == v

-- the byte v is held at place p
abbrev pub holds_at : List (Option ℕ) → ℕ → ℕ → Bool
holds_at held p v = passes_at (byte_is v) held p

-- the byte v stands at place p
abbrev pub has_at : List ℕ → ℕ → ℕ → Bool
has_at bytes p v = passes_at (λ b. b == v) bytes p

-- each byte that is held in block b stands at its place in the block
abbrev pub HoldsBlock : List (Option ℕ) → ℕ → List ℕ → Type 0
HoldsBlock held b bytes = (q v : ℕ) → q < 4096 → holds_at held (4096 * b + q) v ≡ true → has_at bytes q v ≡ true

-- In a block bytes from a place of the file on are laid over those before.
pub record Lays (number at : ℕ) (bytes old new : List ℕ) : Type 0 where
  pub size : length new ≡ length old
  pub each : (q v : ℕ) → q < 4096 → has_at new q v ≡ cond (within at (at + length bytes) (4096 * number + q)) (has_at bytes (4096 * number + q - at) v) (has_at old q v)

-- In a block the places of the file from one to another are zero.
pub record Clears (number from to : ℕ) (old new : List ℕ) : Type 0 where
  pub size : length new ≡ length old
  pub each : (q v : ℕ) → q < 4096 → has_at new q v ≡ cond (within from to (4096 * number + q)) (0 == v) (has_at old q v)

-- In a block the places of a set have the bytes that begin at a place of the file.
pub record LaysIn (places : List Span) (number at : ℕ) (bytes old new : List ℕ) : Type 0 where
  pub size : length new ≡ length old
  pub each : (q v : ℕ) → q < 4096 → has_at new q v ≡ cond (contains places (4096 * number + q)) (has_at bytes (4096 * number + q - at) v) (has_at old q v)

-- the bytes of the change and the file that it makes end by 2 ^ 40
abbrev pub HasEnd : Change → Type 0
HasEnd (change.Write item at bytes) = at + length bytes ≤ 2 ^ 40
HasEnd (change.Size item size) = size ≤ 2 ^ 40
HasEnd (change.Filled item start bytes) = start + length bytes ≤ 2 ^ 40
HasEnd _ = Unit {0}

-- The blocks into which a change of one item puts bytes, by what the item holds before. A copy puts bytes into a new item.
abbrev pub puts_in : Change → List (Option ℕ) → List ℕ
puts_in (change.Write item at bytes) held = blocks_of (min at (length held)) (at + length bytes - min at (length held))
puts_in (change.Size item size) held = blocks_of (length held) (size - length held)
puts_in (change.Filled item start bytes) held = filter (lacks_in start (start + length bytes) held) (blocks_of start (length bytes))
puts_in _ held = []

-- a block of the list
abbrev pub is_among : List ℕ → ℕ → Bool
is_among blocks b = list_any (λ c. c == b) blocks
