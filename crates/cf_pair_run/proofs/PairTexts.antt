-- The report of one more answer.
use Rattle.std.proofs.Common.{◌≡◌, List, [], ◌∷◌, ◌++◌, append_assoc, sym, ap, ◌∙◌}
use Rattle.std.proofs.lemmas.List.{append-nil, map-append}
use Rattle.cf_pair_events.specs.declared.answers.PairAnswer.{PairAnswer}
use Rattle.cf_pair_events.specs.declared.events.PairEvent.{PairEvent}
use Rattle.cf_pair_report.specs.Texts.{text, texts}
use Rattle.cf_pair_run.specs.Runs.{Trace, answers_of, report_of}

texts_push : (answers : List PairAnswer) (a : PairAnswer) → texts (answers ++ a ∷ []) ≡ texts answers ++ text a
texts_push [] a = append-nil (text a)
texts_push (b ∷ bs) a = ap (λ t. text b ++ t) (texts_push bs a) ∙ sym (append_assoc (text b) (texts bs) (text a))

pub next_report : (trace : Trace) (e : PairEvent) (a : PairAnswer) → report_of (trace ++ (e, a) ∷ []) ≡ report_of trace ++ text a
next_report trace e a =
    let answers : answers_of (trace ++ (e, a) ∷ []) ≡ answers_of trace ++ a ∷ [] = map-append _ trace ((e, a) ∷ []) in
    ap texts answers ∙ texts_push (answers_of trace) a
