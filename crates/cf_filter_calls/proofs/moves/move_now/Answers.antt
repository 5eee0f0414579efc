use Rattle.std.proofs.Common.{Bool, [], ◌∷◌, sym, ◌∙◌, ap, List, ℕ}
use Rattle.std.specs.Prelude.{not}
use Rattle.cf_base.specs.declared.changes.Change.TheVariants as change
use Rattle.cf_base.specs.declared.codes.CallError.TheVariants as fail
use Rattle.cf_model.specs.Calls.{changing, move_of}
use Rattle.cf_model.specs.Operations.{done}
use Rattle.cf_model.specs.Words.{when}
use Rattle.cf_filter_calls.specs.Moved.{MayMoveAt}
use Rattle.cf_filter_steps.proofs.Laws.{no_memory, with_err}
use Rattle.cf_filter_calls.proofs.Moved.{moved_by}
use Rattle.cf_filter_calls.proofs.moves.move_now.Goals as goal

pub returns-then-stands_there : goal.returns-then-stands_there
returns-then-stands_there g c = moved_by g.S.Steps.sense c.args.id c.args.parent c.args.name.now c.stands_there.result [] c.args.s.now c.make_all.new.s c.make_all.result c.stands_there.ensures
    (ap (λ (b : Bool). when (not b) (change.Move c.args.id c.args.parent c.args.name.now ∷ [])) (sym c.if-stands_there.true)) c.make_all.ensures

pub returns-in_err-copy : goal.returns-in_err-copy
returns-in_err-copy g c = λ i p. with_err g.S.Steps.sense (MayMoveAt c.args.id c.args.parent c.args.name.now i p) (changing (move_of i p) done) c.args.s.now c.args.s.now fail.OutOfMemory c.from_residual.result c.from_residual.ensures.1
    (no_memory g.S.Steps.sense (MayMoveAt c.args.id c.args.parent c.args.name.now i p) (changing (move_of i p) done) c.args.s.now)

pub returns : goal.returns
returns g c = moved_by g.S.Steps.sense c.args.id c.args.parent c.args.name.now c.stands_there.result c.from_ref.result.now c.args.s.now c.make_all-made.new.s c.make_all-made.result c.stands_there.ensures
    (c.from_ref.ensures.value ∙ ap (λ (name : List ℕ). change.Move c.args.id c.args.parent name ∷ []) c.in_ok-copy.ensures
    ∙ ap (λ (b : Bool). when (not b) (change.Move c.args.id c.args.parent c.args.name.now ∷ [])) (sym c.if-stands_there.false)) c.make_all-made.ensures
