-- Kinds of items.
use Rattle.std.specs.Prelude.{Bool, cond}
use Rattle.cf_base.specs.declared.items.Kind.{Kind}
use Rattle.cf_base.specs.declared.items.Kind.TheVariants as kind
use Rattle.cf_table.specs.declared.rows.Row.{Row}

abbrev pub kind_by : Bool → Bool → Bool → Kind
kind_by directory populated placeholder = cond directory (cond populated (cond placeholder kind.PlaceholderDir kind.Dir) kind.UnpopulatedDir) (cond placeholder kind.PlaceholderFile kind.File)

abbrev pub kind_in : Row → Kind
kind_in r = kind_by r.dir r.populated r.placeholder
