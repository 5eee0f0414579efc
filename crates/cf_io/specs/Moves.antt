-- What moves between a source, a sink and the program, and how often they failed.
use Rattle.std.specs.Prelude.{◌≡◌, ℕ, ◌-◌, ◌<◌, ◌≤◌, ◌^◌, List, [], ◌++◌, length, take, Option, Some, None}

-- A source or a sink in memory: the bytes that are left or held, and the faults so far.
pub record Store : Type 0 where
  pub bytes : List ℕ
  pub faults : ℕ

-- A fault came. At its greatest value the count stays, and nothing is said.
abbrev pub Rose : ℕ → ℕ → Type 0
Rose old new = old < 2 ^ 64 - 1 → old < new

-- No fault came.
abbrev pub IsQuiet : ℕ → ℕ → Type 0
IsQuiet old new = (new ≡ old) × (old < 2 ^ 64 - 1)

-- The bytes were taken from the front of what was left. Where a source reports nothing, nothing is said.
abbrev pub Takes : Option (List ℕ) → Option (List ℕ) → List ℕ → Type 0
Takes None new bytes = Unit {0}
Takes (Some left) new bytes = (rest : List ℕ) × (new ≡ Some rest) × (left ≡ bytes ++ rest)

-- No bytes come only at the end.
abbrev pub EndsWell : Option (List ℕ) → List ℕ → Type 0
EndsWell None bytes = Unit {0}
EndsWell (Some left) bytes = bytes ≡ [] → left ≡ []

-- The bytes were put behind what a sink held. Where a sink reports nothing, nothing is said.
abbrev pub Adds : Option (List ℕ) → Option (List ℕ) → List ℕ → Type 0
Adds None new bytes = Unit {0}
Adds (Some held) new bytes = new ≡ Some (held ++ bytes)

-- Some front of the bytes was put there.
abbrev pub AddsFront : Option (List ℕ) → Option (List ℕ) → List ℕ → Type 0
AddsFront old new bytes = (front rest : List ℕ) × (bytes ≡ front ++ rest) × Adds old new front

-- The text is all that a source had left.
abbrev pub IsWhole : Option (List ℕ) → List ℕ → Type 0
IsWhole None text = Unit {0}
IsWhole (Some left) text = text ≡ left

-- The text is the first `most` bytes that a source had left, or all where there were fewer.
abbrev pub IsFront : ℕ → Option (List ℕ) → List ℕ → Type 0
IsFront most None text = Unit {0}
IsFront most (Some left) text = text ≡ take most left

-- So many bytes, at most `room`, were taken and stand behind the text; none only at the end.
pub record AddsPiece (room : ℕ) (old new : Option (List ℕ)) (before after : List ℕ) (n : ℕ) : Type 0 where
  pub piece : List ℕ
  pub takes : Takes old new piece
  pub ends : EndsWell old piece
  pub behind : after ≡ before ++ piece
  pub count : length piece ≡ n
  pub fits : n ≤ room

-- A source had more bytes left than the limit.
abbrev pub IsLonger : Option (List ℕ) → ℕ → Type 0
IsLonger None limit = Unit {0}
IsLonger (Some left) limit = limit < length left
