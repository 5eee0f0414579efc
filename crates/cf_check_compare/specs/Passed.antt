-- An answer that is held against the rest of a report.
use Rattle.std.specs.Prelude.{◌≡◌, ◌<◌, ◌^◌, ℕ, Bool, true, false, not, List, length, ◌++◌, ◌&&◌, ◌||◌}
use Rattle.cf_base.specs.declared.answers.Answer.{Answer}
use Rattle.cf_base.specs.declared.answers.Shown.{Shown}
use Rattle.cf_base.specs.declared.events.Event.{Event}
use Rattle.cf_base.specs.declared.events.Event.TheVariants as event
use Rattle.cf_base.specs.declared.notices.Notice.{Notice}
use Rattle.std.specs.List.{flat_map, list_all}
use Rattle.cf_check_compare.specs.Alone.{asks_none}
use Rattle.cf_check_compare.specs.declared.comparisons.Comparison.{Comparison}
use Rattle.cf_check_compare.specs.declared.comparisons.Comparison.TheVariants.{Differs, GoesOn, Lost}
use Rattle.cf_check_text.specs.Clean.{clean_notice, clean_shown, is_clean}
use Rattle.cf_check_traces.specs.Tests.{begins, fault_line_of_peer, is_device, meets_lines, same_flag}
use Rattle.cf_check_ways.specs.Ways.{is_fault}
use Rattle.cf_model.specs.Words.{is_empty}
use Rattle.cf_report.specs.Texts.{notice_line, result_line, text}

-- the answer has no lines, and is RemoteFault exactly where the report says so
abbrev pub plainly : Answer → List ℕ → Bool
plainly a rest = is_empty a.notes && same_flag (is_fault a.shown) (begins fault_line_of_peer rest)

-- the result of an event of another device meets what the report tells of its request
abbrev pub meets_peer : Event → Answer → List ℕ → Bool
meets_peer (event.Peer e) a rest = plainly a rest || asks_none e
meets_peer _ a rest = true

-- the answer passes the tests that each answer passes which is given by what the report tells of the remote
abbrev pub is_passed : Event → Answer → List ℕ → Bool
is_passed e a rest = not (is_device a.shown) && is_clean a && meets_peer e a rest && meets_lines a.notes rest

-- the text is that of an answer with these lines, and no name in it has the byte 10
abbrev pub IsTextOf : List Notice → List ℕ → Type 0
IsTextOf ns t = (s : Shown) × (list_all clean_notice ns ≡ true) × (clean_shown s ≡ true) × (t ≡ flat_map notice_line ns ++ result_line s)

-- whether the report goes on with the text of these lines and a result
abbrev pub IsCompared : List Notice → List ℕ → List ℕ → Comparison → Type 0
IsCompared ns expected rest (GoesOn n) = (meets_lines ns rest ≡ true) × (n ≡ length expected) × (n < 2 ^ 31) × (begins expected rest ≡ true)
IsCompared ns expected rest Differs = (meets_lines ns rest ≡ true) × (length expected < 2 ^ 31) × (begins expected rest ≡ false)
IsCompared ns expected rest Lost = meets_lines ns rest ≡ false

-- so of the text of an answer that passes, and lost where it does not
abbrev pub IsComparison : Event → Answer → List ℕ → Comparison → Type 0
IsComparison e a rest Lost = is_passed e a rest ≡ false
IsComparison e a rest c = (is_passed e a rest ≡ true) × IsCompared a.notes (text a) rest c
