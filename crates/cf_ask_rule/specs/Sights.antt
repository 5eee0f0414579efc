-- What the code sees of an item, as the view of the definitions.
use Rattle.std.specs.Prelude.{ℕ, Bool, true, false, not, List, map, max, min, nat_lt, ◌+◌, ◌||◌}
use Rattle.std.specs.List.{list_any}
use Rattle.cf_base.specs.declared.spans.Span.{Span}
use Rattle.cf_model.specs.Missing.{View}
use Rattle.cf_ask_rule.specs.declared.views.View.{View as Looks}
use Rattle.cf_model.specs.Words.{counting}
use Rattle.cf_ranges.specs.Positions.{contains}

-- of each position below the size, whether the runs have it
abbrev pub flags_of : List Span → ℕ → List Bool
flags_of runs size = map (contains runs) (counting 0 size)

-- the position is not here, or, where that is asked for, nobody vouches for it
abbrev pub is_lacking : Bool → List Span → List Span → List Span → ℕ → Bool
is_lacking true here valid modified p = not (contains here p) || not (contains valid p || contains modified p)
is_lacking false here valid modified p = not (contains here p)

-- the definitions' view of an item whose byte sets and numbers are these
abbrev pub seen : (here valid modified : List Span) (size base : ℕ) (validate full populated : Bool) → View
seen here valid modified size base validate full populated = record {
  absent = map (λ p. not (contains here p)) (counting 0 size);
  lacks = map (is_lacking validate here valid modified) (counting 0 size);
  base = base;
  whole = full;
  populated = populated;
}

-- what a caller shows of an item, as the definitions' view
abbrev pub shown : Looks → View
shown v = seen v.here.now v.valid.now v.modified.now v.size v.base v.validate v.full v.populated

-- some position of one of the runs lies from start up to end
abbrev pub meets : List Span → ℕ → ℕ → Bool
meets runs start end = list_any (λ r. nat_lt (max r.start start) (min (r.start + r.len) end)) runs
