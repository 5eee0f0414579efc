-- The blocks of runs, in order.
use Rattle.std.specs.Prelude.{ℕ, List, [], ◌∷◌, ◌++◌}
use Rattle.cf_base.specs.declared.spans.Span.{Span}
use Rattle.cf_model.specs.Words.{counting}

abbrev pub places : List Span → List ℕ
places [] = []
places (s ∷ ss) = counting s.start s.len ++ places ss
