use Rattle.std.proofs.Common.{◌≤◌, ◌∙◌, List, ℕ, Option, arith, length, refl, subst, sym}
use Rattle.std.specs.Prelude.{MatchOption}
use Rattle.std.proofs.lemmas.Bool.{true≢false}
use Rattle.cf_base.specs.declared.changes.Change.TheVariants as change
use Rattle.cf_base.specs.declared.codes.CallError.{CallError}
use Rattle.cf_base.specs.declared.codes.CallError.TheVariants.{OutOfMemory}
use Rattle.cf_disk.specs.Disk.{Leaves}
use Rattle.cf_filter_machine.specs.Graves.{IsGraveOf}
use Rattle.cf_filter_machine.proofs.AnswerSteps.{on_ok_map}
use Rattle.cf_engine_queue.specs.Records.{FitsUsn}
use Rattle.cf_engine_queue.proofs.StaysKeepable.{change_kept, short_ids}
use Rattle.cf_filter_machine.proofs.Buried.{no_grave, no_reason, none_fits, not_yet, one_fits, one_grave}
use Rattle.cf_filter_machine.proofs.ChangeSteps.{not_refused}
use Rattle.cf_filter_machine.proofs.ReadSteps.{err_map, memory_alone, still, stops_by}
use Rattle.cf_filter_machine.proofs.RemoveSteps.{gone_at, other_own, row_there, was_gone}
use Rattle.cf_filter_machine.proofs.Shown.{memory_left, same_left}
use Rattle.cf_filter_machine.specs.Showing.{StaysBy}
use Rattle.cf_model.specs.Books.{with_tombstone}
use Rattle.cf_model.specs.Calls.{tombstone_for}
use Rattle.cf_model.specs.Changes.{next_number, put_change}
use Rattle.cf_volume_points.specs.At.{StandsLast}
use Rattle.cf_filter_steps.proofs.Laws.{ok_map}
use Rattle.cf_volume.specs.Calls.{Runs, StopsOnly}
use Rattle.cf_filter_machine.proofs.removals.remove_item.Goals as goal

pub returns-in_err-grave-clause-crash : goal.returns-in_err-grave-clause-crash
returns-in_err-grave-clause-crash g c = λ v at. still (g.G.Ground.state c.args.volume.now.disk) v (λ m left. c.last_point.ensures v at m left)

pub returns-in_err-grave-clause-only : goal.returns-in_err-grave-clause-only
returns-in_err-grave-clause-only g c = λ v at left whole. memory_alone c.from_residual.result c.from_residual.ensures.1

pub returns-in_err-number-clause-only : goal.returns-in_err-number-clause-only
returns-in_err-number-clause-only g c = λ v at left whole.
    stops_by c.from_residual-in_err-number.result c.in_err-number.field-0.0 c.from_residual-in_err-number.ensures.1
    (not_refused (change.Remove c.args.item) v c.args.volume.now c.apply.new.self c.in_err-number.field-0.0 (no_reason v c.args.item left) (c.in_err-number.ensures.why v at (λ may. absurd (true≢false (sym may))) whole))

pub returns-in_err-number-clause-crash : goal.returns-in_err-number-clause-crash
returns-in_err-number-clause-crash g c = λ v at. c.in_err-number.ensures.kept_crash v at refl

pub put_grave-requires : goal.put_grave-requires
put_grave-requires g c = subst (λ (o : Option (List ℕ)). MatchOption o (Unit {0}) (λ value. length value ≤ 65535)) c.in-Some.is c.in_ok-grave.ensures.short

pub returns-in-None-clause-crash : goal.returns-in-None-clause-crash
returns-in-None-clause-crash g c = λ v at. c.in_ok-number.ensures.kept_crash v at refl

pub returns-in-None-clause-done : goal.returns-in-None-clause-done
returns-in-None-clause-done g c = λ v i at there other keeps graves.
    let grave = c.in_ok-grave.ensures.grave i (row_there (g.G.Ground.state c.args.volume.now.disk) c.args.volume.now.known v c.args.item i _ c.row.ensures at there) (other_own v.items c.args.item i there other) in
    gone_at (g.G.Ground.state c.apply.new.self.disk) c.apply.new.self.known c.args.bury c.args.item i v (put_change (change.Remove c.args.item) v).book
    (sym (no_grave c.args.bury i (next_number v) (put_change (change.Remove c.args.item) v).book (subst (IsGraveOf c.args.bury i) c.in-None.is grave)))
    (was_gone (g.G.Ground.state c.apply.new.self.disk) c.apply.new.self.known c.args.item v (c.in_ok-number.ensures.ok v at (short_ids v.book keeps) (λ may. absurd (true≢false (sym may)))))

pub returns-in-Some-clause-crash : goal.returns-in-Some-clause-crash
returns-in-Some-clause-crash g c = λ v at.
    subst (λ (z : _). Leaves (g.G.Ground.state c.args.volume.now.disk) (g.G.Ground.state z) (StandsLast v)) (sym c.put_grave.ensures.disk) (c.in_ok-number.ensures.kept_crash v at refl)

pub returns-in-Some-clause-only : goal.returns-in-Some-clause-only
returns-in-Some-clause-only g c = λ v at left whole. err_map c.put_grave.result _ StopsOnly (λ e memory. subst StopsOnly (sym memory) (record {})) c.put_grave.ensures.memory

pub returns-in-Some-clause-number : goal.returns-in-Some-clause-number
returns-in-Some-clause-number g c = λ v at. ok_map c.put_grave.result _ _ (λ n same. same ∙ c.in_ok-number.ensures.number v at) c.put_grave.ensures.number

pub returns-in-Some-clause-done : goal.returns-in-Some-clause-done
returns-in-Some-clause-done g c = λ v i at there other keeps graves.
    let grave = subst (IsGraveOf c.args.bury i) c.in-Some.is (c.in_ok-grave.ensures.grave i (row_there (g.G.Ground.state c.args.volume.now.disk) c.args.volume.now.known v c.args.item i _ c.row.ensures at there) (other_own v.items c.args.item i there other)) in
    on_ok_map c.put_grave.result
    (λ done. gone_at (g.G.Ground.state c.put_grave.new.volume.disk) c.put_grave.new.volume.known c.args.bury c.args.item i v (with_tombstone (tombstone_for i (next_number v)) (put_change (change.Remove c.args.item) v).book)
    (one_grave c.args.bury i (next_number v) (put_change (change.Remove c.args.item) v).book grave.0) done)
    (c.put_grave.ensures.ok (put_change (change.Remove c.args.item) v) (tombstone_for i (next_number v))
    (was_gone (g.G.Ground.state c.apply.new.self.disk) c.apply.new.self.known c.args.item v (c.in_ok-number.ensures.ok v at (short_ids v.book keeps) (λ may. absurd (true≢false (sym may)))))
    (sym (c.in_ok-number.ensures.number v at)) grave.1 (change_kept v.book (change.Remove c.args.item) keeps) (not_yet (next_number v) v.book.tombstones graves))

pub returns-in-None-clause-fits : goal.returns-in-None-clause-fits
returns-in-None-clause-fits g c = λ v i at there other keeps graves.
    let grave = c.in_ok-grave.ensures.grave i (row_there (g.G.Ground.state c.args.volume.now.disk) c.args.volume.now.known v c.args.item i _ c.row.ensures at there) (other_own v.items c.args.item i there other) in
    none_fits c.args.bury c.args.item i v keeps (subst (IsGraveOf c.args.bury i) c.in-None.is grave)

pub returns-in-Some-clause-fits : goal.returns-in-Some-clause-fits
returns-in-Some-clause-fits g c = λ v i at there other keeps graves.
    let grave = subst (IsGraveOf c.args.bury i) c.in-Some.is (c.in_ok-grave.ensures.grave i (row_there (g.G.Ground.state c.args.volume.now.disk) c.args.volume.now.known v c.args.item i _ c.row.ensures at there) (other_own v.items c.args.item i there other)) in
    on_ok_map c.put_grave.result (λ usable. one_fits c.args.bury c.args.item i v keeps grave.0 grave.2 (subst FitsUsn (c.in_ok-number.ensures.number v at) c.put_grave.ensures.fits) graves) c.put_grave.ensures.usable

pub returns-in_err-grave-clause-runs : goal.returns-in_err-grave-clause-runs
returns-in_err-grave-clause-runs g c = record { size = refl; settings = refl; powers = refl; faults = omega arith; calm = omega arith }

pub returns-in-Some-clause-runs : goal.returns-in-Some-clause-runs
returns-in-Some-clause-runs g c = subst (λ (z : _). Runs (g.G.Ground.state c.args.volume.now.disk) (g.G.Ground.state z)) (sym c.put_grave.ensures.disk) c.in_ok-number.ensures.runs

pub returns-in_err-grave-clause-stays : goal.returns-in_err-grave-clause-stays
returns-in_err-grave-clause-stays g c = memory_left c.from_residual.result OutOfMemory _ _ c.from_residual.ensures.1 (record {})

pub returns-in_err-number-clause-stays : goal.returns-in_err-number-clause-stays
returns-in_err-number-clause-stays g c = same_left c.from_residual-in_err-number.result _ _ c.in_err-number.ensures.stays

pub returns-in-Some-clause-stays : goal.returns-in-Some-clause-stays
returns-in-Some-clause-stays g c =
    err_map c.put_grave.result _ (λ e. StaysBy e c.args.volume.now.known c.put_grave.new.volume.known) (λ e memory. subst (λ (q : CallError). StaysBy q c.args.volume.now.known c.put_grave.new.volume.known) (sym memory) (record {})) c.put_grave.ensures.memory
