-- The bytes that the remote holds of an item.
use Rattle.std.specs.Prelude.{ℕ, Bool, cond, List, [], ◌∷◌, ◌++◌, Option, Some, None, length, max, sum_by, ◌+◌, ◌-◌}
use Rattle.cf_model.specs.Store.{Stored, trimmed, versions_held}

-- how many bytes of an item are held
abbrev pub held_len : Stored → ℕ
held_len s = sum_by length (versions_held s)

-- a file with one more version
abbrev pub grown : Option ℕ → List ℕ → ℕ → Stored → Stored
grown keep bytes clock s = trimmed keep (record s { versions = s.versions ++ bytes ∷ []; changed = clock })

-- the least version that is held of an item with n versions, where only the last ones are held
abbrev pub least_kept : Option ℕ → Bool → ℕ → ℕ → ℕ
least_kept None directory least n = least
least_kept (Some count) directory least n = cond directory least (max least (n + 1 - count))
