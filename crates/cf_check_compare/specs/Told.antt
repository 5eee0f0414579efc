-- Which requests failed, by the rest of a report.
use Rattle.std.specs.Prelude.{Bool, not, codes, List, ℕ, ◌&&◌}
use Rattle.cf_check_judge.specs.Judge.{before_result, tellings_in}
use Rattle.cf_check_model.specs.Reports.{lines_of}
use Rattle.cf_check_traces.specs.Tests.{begins}
use Rattle.cf_model.specs.Trees.{Telling}
use Rattle.cf_model.specs.Words.{is_empty}

-- by the lines before the next result
abbrev pub tellings_before_result : List ℕ → List Telling
tellings_before_result rest = tellings_in (before_result (lines_of rest))

-- a line is left, and it is none of a result
abbrev pub goes_on : List ℕ → Bool
goes_on left = not (is_empty left) && not (begins (codes "= ") left)
