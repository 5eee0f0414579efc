-- The identities that an engine gives, as numbers.
use Rattle.std.specs.Prelude.{◌≡◌, ◌⊎◌, ℕ, List, [], length, take, drop}
use Rattle.cf_engine_queue.specs.declared.identities.Numbers.{Numbers}
use Rattle.cf_model.specs.Items.{Item}
use Rattle.cf_model.specs.Words.{number_of}

-- none, or of 24 bytes
abbrev pub IsOurs : List ℕ → Type 0
IsOurs identity = (identity ≡ []) ⊎ (length identity ≡ 24)

abbrev pub HasOurs : Item → Type 0
HasOurs i = IsOurs i.identity

-- the target, and the item and version of the base
abbrev pub numbers_of : List ℕ → Numbers
numbers_of identity = record { target = number_of (take 8 identity); base = number_of (take 8 (drop 8 identity)); version = number_of (drop 16 identity) }
