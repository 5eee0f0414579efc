-- A sink that is left.
use Rattle.std.proofs.Common.{ℕ, List, [], ap, append-nil, sym}
use Rattle.std.specs.Prelude.{None, Option, Some}
use Rattle.cf_io.specs.Moves.{Adds}

pub adds_nothing : (held : Option (List ℕ)) → Adds held held []
adds_nothing None = tt
adds_nothing (Some h) = ap (λ l. Some l) (sym (append-nil h))
