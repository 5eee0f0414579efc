use Rattle.std.proofs.Common.{◌++◌, ◌∷◌, ◌∙◌, [], List, ap, append-nil, append_assoc, sym}
use Rattle.cf_base.specs.declared.answers.AuxRecord.{AuxRecord}
use Rattle.cf_filter_events.proofs.books.copies.Goals as goal

pub loop-record-init : goal.loop-record-init
loop-record-init c = ap (λ (l : List AuxRecord). l ++ c.iter-items.result) c.new-copies.ensures ∙ c.iter-items.ensures.value

pub loop-record-preserved : goal.loop-record-preserved
loop-record-preserved c =
    ap (λ (l : List AuxRecord). l ++ c.next.new.self) c.in_ok-push.ensures.ok ∙ append_assoc c.loop-record.copies (c.in_ok-copied.field-0 ∷ []) c.next.new.self
    ∙ ap (λ (r : AuxRecord). c.loop-record.copies ++ r ∷ c.next.new.self) c.in_ok-copied.ensures ∙ ap (λ (l : List AuxRecord). c.loop-record.copies ++ l) (sym c.in-Some.ensures) ∙ c.loop-record.invariant

pub returns : goal.returns
returns c = sym (append-nil c.loop-record.copies) ∙ ap (λ (l : List AuxRecord). c.loop-record.copies ++ l) (sym c.in_default.ensures) ∙ c.loop-record.invariant
