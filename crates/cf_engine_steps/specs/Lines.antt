-- Lines that a step adds to the notes of an event, which mirror the code: no definitions to believe.
use Rattle.std.specs.Prelude.{Bool, true, false, Option, Some, None, [], ◌∷◌}
use Rattle.cf_base.specs.declared.codes.Code.{Code}
use Rattle.cf_base.specs.declared.notices.Notice.{Notice}
use Rattle.cf_base.specs.declared.notices.Notice.TheVariants as notice
use Rattle.cf_model.specs.State.{Filter, with_notes}

-- the filter with the line of a step that is left out, where such lines stand
abbrev pub with_skip : Bool → Code → Filter → Filter
with_skip true c s = with_notes (notice.Skipped c ∷ []) s
with_skip false c s = s

-- the filter with this line at the end of its notes, where there is one
abbrev pub with_line_if : Option Notice → Filter → Filter
with_line_if None s = s
with_line_if (Some n) s = with_notes (n ∷ []) s
