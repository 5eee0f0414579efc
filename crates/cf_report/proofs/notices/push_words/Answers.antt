use Rattle.std.proofs.Common.{refl, append_assoc}
use Rattle.std.proofs.lemmas.List.{append-nil}
use Rattle.cf_base.specs.declared.notices.Notice.TheVariants as notice
use Rattle.cf_report.specs.Texts.{notice_words}
use Rattle.cf_report.specs.Words.{spaced}
use Rattle.cf_report.proofs.Joins.{joined}
use Rattle.cf_report.proofs.notices.push_words.Goals as goal

pub returns-in_ok-push_named-in-Background : goal.returns-in_ok-push_named-in-Background
returns-in_ok-push_named-in-Background c =
    let whole = spaced (notice_words (notice.Background c.in-Background.wait c.in-Background.item)) in
    rw c.in-Background.is (joined _ _ _ _ _ _ whole c.in_ok-push_named-in-Background.ensures (simp (append_assoc, append-nil) refl) c.push_labelled.ensures)
