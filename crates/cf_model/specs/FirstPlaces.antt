-- Where format 1 has the parts of a volume. Its two halves and the clusters begin where those of format 2 do; a slot is
-- shorter and a journal longer.
use Rattle.std.specs.Prelude.{ℕ, List, [], ◌∷◌}

-- CFVOL01, behind the gate of a slot
abbrev pub letters : List ℕ
letters = 67 ∷ 70 ∷ 86 ∷ 79 ∷ 76 ∷ 48 ∷ 49 ∷ []

-- how many bytes a slot has; the journal of its half stands behind it
abbrev pub slot_len : ℕ
slot_len = 1048576

abbrev pub journal_len : ℕ
journal_len = 524288

-- the most bytes of an image
abbrev pub most_image : ℕ
most_image = 1044480
