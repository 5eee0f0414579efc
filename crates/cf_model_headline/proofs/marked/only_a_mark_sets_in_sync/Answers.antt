-- They are the laws of Marks.
use Rattle.cf_model_headline.proofs.MarkedLaws.{marks_give, shown_by_mark}
use Rattle.cf_model_headline.proofs.marked.only_a_mark_sets_in_sync.Goals as goal

pub returns-clause-mark : goal.returns-clause-mark
returns-clause-mark c = shown_by_mark

pub returns-clause-number : goal.returns-clause-number
returns-clause-number c = marks_give
