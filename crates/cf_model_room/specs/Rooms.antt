-- Directly before which changes of a log a run may make a commit for room.
use Rattle.std.specs.Prelude.{ℕ, Bool, List, [], ◌∷◌, ◌+◌, ◌&&◌, cond, drop, length, max, nat_le, nat_lt, not, take, true}
use Rattle.cf_base.specs.declared.changes.Change.{Change}
use Rattle.cf_base.specs.declared.ids.Usn.{Usn}
use Rattle.cf_model.specs.Blocks.{blocks_used, is_full, puts_into}
use Rattle.cf_model.specs.Effects.{effect}
use Rattle.cf_model.specs.Items.{Item, root}
use Rattle.cf_model.specs.Logs.{items_of}
use Rattle.cf_model.specs.State.{Point}

-- how many changes are in the last point of a flush or an upload, which no restart leaves out
abbrev pub sure_count : List Point → ℕ
sure_count [] = 0
sure_count (p ∷ ps) = cond p.sure p.count (sure_count ps)

-- the blocks into which the changes put bytes, counted for each of them
abbrev pub puts_from : List Item → List (Usn × Change) → ℕ
puts_from items [] = 0
puts_from items (c ∷ cs) = length (puts_into items c.1) + puts_from (effect items c.1 c.0) cs

-- from the state with the first n changes on
abbrev pub puts_since : ℕ → List (Usn × Change) → ℕ
puts_since n log = puts_from (items_of (take n log)) (drop n log)

-- the blocks into which the first of the changes puts bytes
abbrev pub first_puts : List Item → List (Usn × Change) → ℕ
first_puts items [] = 0
first_puts items (c ∷ cs) = length (puts_into items c.1)

-- Blocks that are kept until the next commit, and those into which the changes put bytes. Where the items use more after a change than that, it
-- is what they use.
abbrev pub load_from : List Item → ℕ → List (Usn × Change) → ℕ
load_from items load [] = load
load_from items load (c ∷ cs) = load_from (effect items c.1 c.0) (max (load + length (puts_into items c.1)) (blocks_used (effect items c.1 c.0))) cs

-- The most blocks that may be kept at the end of the log, where the first n changes were committed: those in use then, and those into which
-- the changes since put bytes. No run keeps more, whatever commits for room it makes.
abbrev pub load_since : ℕ → List (Usn × Change) → ℕ
load_since n log = load_from (items_of (take n log)) (blocks_used (items_of (take n log))) (drop n log)

-- A commit may be made directly before the first of the changes behind, which are not done yet: it puts bytes, and with all since the first n
-- changes it passes the clusters.
abbrev pub is_heavy_at : ℕ → ℕ → ℕ → List (Usn × Change) → List (Usn × Change) → Bool
is_heavy_at clusters n k front behind =
    nat_le n k && (nat_lt 0 (first_puts (items_of front) behind) && nat_lt clusters (load_since n front + first_puts (items_of front) behind))

-- A run whose last sure point has n changes may make a commit for room when it has made k changes of the log.
abbrev pub is_heavy : ℕ → ℕ → List (Usn × Change) → ℕ → Bool
is_heavy clusters n log k = is_heavy_at clusters n k (take k log) (drop k log)

-- no change had to be refused as Full

abbrev pub none_full_from : ℕ → List Item → List (Usn × Change) → Bool
none_full_from clusters items [] = true
none_full_from clusters items (c ∷ cs) = not (is_full clusters items c.1) && none_full_from clusters (effect items c.1 c.0) cs

abbrev pub none_full : ℕ → List (Usn × Change) → Bool
none_full clusters log = none_full_from clusters (root ∷ []) log
