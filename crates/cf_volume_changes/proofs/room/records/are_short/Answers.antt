use Rattle.std.proofs.Common.{◌≡◌, ◌+◌, refl, ◌++◌, ◌∷◌, [], ◌∙◌, ap, sym, subst, take, List}
use Rattle.std.specs.Prelude.{All}
use Rattle.std.proofs.lemmas.Bool.{true≢false}
use Rattle.std.proofs.lemmas.List.{take_all, take_more}
use Rattle.std.proofs.lemmas.List.Elements.{All-get_or, All-nil, All-push}
use Rattle.cf_base.specs.declared.answers.AuxRecord.{AuxRecord}
use Rattle.cf_volume_image.specs.RecordLists.{IsShort}
use Rattle.cf_volume_changes.proofs.room.records.are_short.Goals as goal

pub loop-aux-init : goal.loop-aux-init
loop-aux-init c = All-nil (λ (r : AuxRecord). IsShort r)

pub returns-then-not-is_short : goal.returns-then-not-is_short
returns-then-not-is_short c = record {
  yes = λ is. absurd (true≢false (sym is));
  no = λ all. absurd (true≢false (sym (c.is_short.ensures.no (subst IsShort (sym c.aux-item.is) (All-get_or (λ (r : AuxRecord). IsShort r) c.args.records.now c.loop-aux.aux-index c.aux-item.result c.loop-aux-test.true all))) ∙ c.if-not-is_short.true));
}

pub loop-aux-preserved : goal.loop-aux-preserved
loop-aux-preserved c =
    let shape : take (c.loop-aux.aux-index + 1) c.args.records.now ≡ take c.loop-aux.aux-index c.args.records.now ++ c.aux-item.result ∷ []
    = take_more c.args.records.now c.loop-aux.aux-index c.aux-item.result c.loop-aux-test.true ∙ ap (λ (r : AuxRecord). take c.loop-aux.aux-index c.args.records.now ++ r ∷ []) (sym c.aux-item.is) in
    subst (λ (l : List AuxRecord). All IsShort l) (sym shape) (All-push (λ (r : AuxRecord). IsShort r) (take c.loop-aux.aux-index c.args.records.now) c.aux-item.result c.loop-aux.invariant (c.is_short.ensures.yes c.if-not-is_short.false))

pub returns : goal.returns
returns c = record {
  yes = λ is. subst (λ (l : List AuxRecord). All IsShort l) (take_all c.loop-aux.aux-index c.args.records.now c.loop-aux-test.false) c.loop-aux.invariant;
  no = λ all. refl;
}
