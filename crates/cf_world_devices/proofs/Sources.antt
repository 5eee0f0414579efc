-- What a source may have had left.
use Rattle.std.proofs.Common.{◌<◌, ◌+◌, ℕ, List, length, refl, arith}
use Rattle.std.specs.Prelude.{Option, Some, None}
use Rattle.std.proofs.Math.ListN.{replicate}
use Rattle.std.proofs.lemmas.List.{length-replicate}
use Rattle.cf_io.specs.Moves.{IsLonger, IsQuiet, IsWhole, Rose}

-- what the source has left, or a text of some length where it reports nothing
abbrev pub some_text : ℕ → Option (List ℕ) → List ℕ
some_text n None = replicate n 0
some_text n (Some left) = left

pub whole_text : (n : ℕ) (left : Option (List ℕ)) → IsWhole left (some_text n left)
whole_text n None = tt
whole_text n (Some left) = refl

pub long_text : (n : ℕ) (left : Option (List ℕ)) → IsLonger left n → n < length (some_text (n + 1) left)
long_text n None h = rw (length-replicate {A = ℕ} (n + 1) 0) (omega arith)
long_text n (Some left) h = h

pub not_quiet : (old new : ℕ) → Rose old new → IsQuiet old new → ⊥
not_quiet old new rose quiet = omega (arith, rose quiet.1, quiet.0)
