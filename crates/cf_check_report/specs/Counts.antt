-- How many changes a restart resumes, as the report says and as the device beside it answers.
use Rattle.std.specs.Prelude.{ℕ, List, [], ◌∷◌, ◌+◌, ◌-◌, ◌*◌, cond, drop}
use Rattle.std.specs.Char.{is_ascii_digit}
use Rattle.cf_base.specs.declared.answers.Shown.{Shown}
use Rattle.cf_base.specs.declared.answers.Shown.TheVariants as shown

-- the number that digits write behind these, up to the first byte that is none
abbrev pub number_from : ℕ → List ℕ → ℕ
number_from n [] = n
number_from n (b ∷ bs) = cond (is_ascii_digit b) (number_from (n * 10 + (b - 48)) bs) n

-- in the line of a restart that resumed
abbrev pub count_told : List ℕ → ℕ
count_told rest = number_from 0 (drop 10 rest)

-- in an answer
abbrev pub count_of : Shown → ℕ
count_of (shown.Resumed n k) = n
count_of _ = 0
