-- The lines of a report.
use Rattle.std.specs.Prelude.{◌≡◌, ℕ, Bool, false, ◌&&◌, List, [], ◌∷◌, ◌++◌, ◌==◌, cond, codes, filter, Some, slice_get}

-- the byte goes before the first line; where there is none it is one
abbrev pub onto_first : ℕ → List (List ℕ) → List (List ℕ)
onto_first b [] = (b ∷ []) ∷ []
onto_first b (line ∷ more) = (b ∷ line) ∷ more

-- the lines in order, each with the byte 10 that ends it; the last may lack it
abbrev pub lines_of : List ℕ → List (List ℕ)
lines_of [] = []
lines_of (b ∷ bs) = cond (b == 10) ((b ∷ []) ∷ lines_of bs) (onto_first b (lines_of bs))

-- the line begins with an equals sign and a space
abbrev pub is_result_line : List ℕ → Bool
is_result_line (a ∷ b ∷ rest) = (a == 61) && (b == 32)
is_result_line _ = false

-- the lines that tell a result, in order
abbrev pub result_lines : List ℕ → List (List ℕ)
result_lines report = filter is_result_line (lines_of report)

-- the line of an answer that the device cut off, whole
abbrev pub device_line : List ℕ
device_line = codes "= refused Device" ++ 10 ∷ []

-- after so many result lines the next one is that of a device that failed
abbrev pub DeviceFails : List ℕ → ℕ → Type 0
DeviceFails report before = slice_get (result_lines report) before ≡ Some device_line

-- the report begins with these bytes
abbrev pub Begins : List ℕ → List ℕ → Type 0
Begins report front = (rest : List ℕ) × (report ≡ front ++ rest)
