-- What the code computes, as functions on lists of runs.
use Rattle.std.specs.Prelude.{ℕ, suc, ◌+◌, ◌-◌, ◌/◌, cond, List, [], ◌∷◌, max, min, nat_le, nat_lt}
use Rattle.cf_base.specs.declared.spans.Span.{Span}

abbrev pub span : ℕ → ℕ → Span
span start end = record { start = start; len = end - start }

-- the runs with those from start to end
abbrev pub added : ℕ → ℕ → List Span → List Span
added start end [] = span start end ∷ []
added start end (r ∷ rs) =
    cond (nat_lt (r.start + r.len) start) (r ∷ added start end rs)
    (cond (nat_lt end r.start) (span start end ∷ r ∷ rs)
    (added (min start r.start) (max end (r.start + r.len)) rs))

-- a run in front, if it is not empty
abbrev pub piece : ℕ → ℕ → List Span → List Span
piece from to rest = cond (nat_lt from to) (span from to ∷ rest) rest

-- the runs without those from start to end
abbrev pub cut_of : ℕ → ℕ → List Span → List Span
cut_of start end [] = []
cut_of start end (r ∷ rs) = piece r.start (min (r.start + r.len) start) (piece (max r.start end) (r.start + r.len) (cut_of start end rs))

-- the runs from at to end that are left between the others
abbrev pub missing_of : ℕ → ℕ → List Span → List Span
missing_of at end [] = piece at end []
missing_of at end (r ∷ rs) = piece at (min r.start end) (missing_of (max at (r.start + r.len)) end rs)

-- how many blocks from next on the runs touch
abbrev pub blocks_from : ℕ → List Span → ℕ
blocks_from next [] = 0
blocks_from next (r ∷ rs) = ((r.start + r.len + 4095) / 4096 - max next (r.start / 4096)) + blocks_from ((r.start + r.len + 4095) / 4096) rs

-- how many runs begin by the position
abbrev pub begun : ℕ → List Span → ℕ
begun at [] = 0
begun at (r ∷ rs) = cond (nat_le r.start at) (suc (begun at rs)) 0

-- how many runs end before the position
abbrev pub ended : ℕ → List Span → ℕ
ended at [] = 0
ended at (r ∷ rs) = cond (nat_lt (r.start + r.len) at) (suc (ended at rs)) 0
