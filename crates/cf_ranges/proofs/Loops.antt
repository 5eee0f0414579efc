-- What is left of a list in a loop.
use Rattle.std.proofs.Common.{◌≡◌, ℕ, ◌+◌, ◌<◌, List, ◌∷◌, length, drop, get_or, drop-cons, add-one}
use Rattle.cf_base.specs.declared.spans.Span.{Span}

pub next : (i : ℕ) (runs : List Span) (d : Span) → i < length runs → drop i runs ≡ get_or runs i d ∷ drop (i + 1) runs
next i runs d h = rw add-one (drop-cons runs i d h)
