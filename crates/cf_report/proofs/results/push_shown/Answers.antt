use Rattle.std.proofs.Common.{◌≡◌, arith, ℕ, List, ◌∷◌, ◌++◌, append_assoc}
use Rattle.std.proofs.lemmas.List.{append-nil}
use Rattle.cf_base.specs.declared.answers.Shown.TheVariants as shown
use Rattle.cf_report.specs.Texts.{shown_words, sync_word}
use Rattle.std.specs.Prelude.{codes}
use Rattle.cf_report.specs.Changes.{kind_word, pin_word}
use Rattle.cf_report.specs.Words.{bytes_text, decimal, spaced, usn_text}
use Rattle.cf_report.proofs.Joins.{added, joined}
use Rattle.cf_report.proofs.results.push_shown.Goals as goal

pub returns-in_ok-push_what-in-Info : goal.returns-in_ok-push_what-in-Info
returns-in_ok-push_what-in-Info c =
    let i = c.in-Info in
    let whole = spaced (shown_words (shown.Info i.item i.kind i.size i.pin i.in_sync i.number i.identity)) in
    let named : List ℕ = 32 ∷ codes "info" ++ (32 ∷ decimal i.item.0) in
    let what : List ℕ = 32 ∷ kind_word i.kind ++ (32 ∷ decimal i.size) in
    let front = added _ _ _ named what c.in_ok-push_labelled-in-Info.ensures c.in_ok-push_what-in-Info.ensures in
    let standing : List ℕ = 32 ∷ pin_word i.pin ++ (32 ∷ sync_word i.in_sync ++ (32 ∷ usn_text i.number ++ (32 ∷ bytes_text i.identity))) in
    let same : (named ++ what) ++ standing ≡ whole = grind (arith, append_assoc, append-nil) in
    rw i.is (joined _ _ _ _ (named ++ what) standing whole front same c.push_standing.ensures)
