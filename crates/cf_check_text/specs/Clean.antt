-- Answers in which no name has the byte 10, so that each of their lines is one line of a report.
use Rattle.std.specs.Prelude.{ℕ, Bool, true, not, List, ◌==◌, ◌&&◌}
use Rattle.std.specs.List.{list_all}
use Rattle.cf_base.specs.declared.answers.Answer.{Answer}
use Rattle.cf_base.specs.declared.answers.Shown.{Shown}
use Rattle.cf_base.specs.declared.answers.Shown.TheVariants as shown
use Rattle.cf_base.specs.declared.changes.Change.{Change}
use Rattle.cf_base.specs.declared.changes.Change.TheVariants as change
use Rattle.cf_base.specs.declared.notices.Notice.{Notice}
use Rattle.cf_base.specs.declared.notices.Notice.TheVariants as notice
use Rattle.cf_base.specs.declared.waits.End.{End}
use Rattle.cf_base.specs.declared.waits.End.TheVariants as end

abbrev pub is_not_ten : ℕ → Bool
is_not_ten b = not (b == 10)

abbrev pub has_no_ten : List ℕ → Bool
has_no_ten bytes = list_all is_not_ten bytes

abbrev pub clean_change : Change → Bool
clean_change (change.Make item parent name kind size identity) = has_no_ten name
clean_change (change.Move item parent name) = has_no_ten name
clean_change (change.Copy item from parent name) = has_no_ten name
clean_change _ = true

abbrev pub clean_end : End → Bool
clean_end (end.Listed items) = list_all (λ i. has_no_ten i.name) items
clean_end _ = true

abbrev pub clean_notice : Notice → Bool
clean_notice (notice.Change number c) = clean_change c
clean_notice (notice.Done wait how) = clean_end how
clean_notice _ = true

abbrev pub clean_shown : Shown → Bool
clean_shown (shown.Ended how) = clean_end how
clean_shown _ = true

abbrev pub is_clean : Answer → Bool
is_clean a = list_all clean_notice a.notes && clean_shown a.shown
