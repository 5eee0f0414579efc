use Rattle.std.proofs.Common.{◌≤◌, ◌-◌, length, arith}
use Rattle.cf_world_plays.proofs.Drafted.{add_early, drafted_more, drafted_stops, drafted_stops_here, front_more}
use Rattle.cf_world_plays.proofs.Errs.{err_if}
use Rattle.cf_world_plays.specs.Runs.{most_report}
use Rattle.cf_world_plays.specs.Steps.{AddFails}
use Rattle.cf_world_plays.specs.declared.play_errors.PlayError.TheVariants.{SinkFault}
use Rattle.cf_world_plays.proofs.drafts.add.Goals as goal

pub returns-in_err-write_all-clause-err : goal.returns-in_err-write_all-clause-err
returns-in_err-write_all-clause-err g c = λ text old h.
    let new = g.K.Sink.held c.write_all.new.sink in
    let written = rw c.as_slice.ensures.value at c.in_err-write_all.ensures.err in
    err_if (AddFails text c.args.piece.now old new) c.from_residual.result SinkFault c.from_residual.ensures.1
    (front_more text c.args.piece.now old new (drafted_stops_here text c.args.waiting.now.items c.args.made old (g.K.Sink.held c.args.sink.now) new h written))

pub returns-in_err-hand-clause-err : goal.returns-in_err-hand-clause-err
returns-in_err-hand-clause-err g c = λ text old h.
    let now = g.K.Sink.held c.args.sink.now in
    let new = g.K.Sink.held c.hand.new.sink in
    err_if (AddFails text c.args.piece.now old new) c.from_residual-in_err-hand.result c.in_err-hand.field-0.0 c.from_residual-in_err-hand.ensures.1
    (add_early text c.args.piece.now old new c.in_err-hand.field-0.0 c.in_err-hand.ensures.only
    (drafted_stops text c.args.piece.now c.args.waiting.now.items c.args.made old now new h c.in_err-hand.ensures.err))

pub returns-clause-ok : goal.returns-clause-ok
returns-clause-ok g c = λ text old h.
    let now = g.K.Sink.held c.args.sink.now in
    let new = g.K.Sink.held c.hand.new.sink in
    let fits : length c.args.piece.now ≤ most_report - c.args.made = omega (arith, c.if-piece-saturating_sub.false, c.saturating_sub.ensures) in
    drafted_more text c.args.piece.now c.args.waiting.now.items c.hand.new.waiting.items c.args.made old now new h fits c.in_ok-hand.ensures.ok
