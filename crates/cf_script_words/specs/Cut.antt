-- Words in parts.
use Rattle.std.specs.Prelude.{ℕ, ◌<◌, ◌≢◌, List, length, slice_index}
use Rattle.cf_base.specs.declared.ids.Key.{Key}
use Rattle.cf_script_words.specs.Words.{IsNumber}

-- bytes that a text does not have
abbrev pub HasNo : ℕ → List ℕ → Type 0
HasNo c bytes = (i : ℕ) → i < length bytes → slice_index bytes i ≢ c

-- what stands before and after the dot
abbrev pub IsKeyParts : List ℕ → List ℕ → Key → Type 0
IsKeyParts first second key = IsNumber first key.epoch × IsNumber second key.number
