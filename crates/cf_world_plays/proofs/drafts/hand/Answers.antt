use Rattle.std.proofs.Common.{◌++◌}
use Rattle.cf_io.specs.Moves.{Adds, AddsFront}
use Rattle.cf_world_plays.proofs.Drafted.{both_handed, front_behind, front_more}
use Rattle.cf_world_plays.proofs.Errs.{err_on}
use Rattle.cf_world_plays.proofs.drafts.hand.Goals as goal

pub returns-in_err-write_all-clause-err : goal.returns-in_err-write_all-clause-err
returns-in_err-write_all-clause-err g c =
    let now = g.K.Sink.held c.args.sink.now in
    let new = g.K.Sink.held c.write_all.new.sink in
    let all = c.args.waiting.now.items ++ c.args.piece.now in
    let written : AddsFront now new c.args.waiting.now.items = rw c.as_slice.ensures.value at c.in_err-write_all.ensures.err in
    err_on (AddsFront now new all) c.from_residual-in_err-write_all.result (front_more c.args.waiting.now.items c.args.piece.now now new written)

pub returns-in_err-write_all-2-clause-err : goal.returns-in_err-write_all-2-clause-err
returns-in_err-write_all-2-clause-err g c =
    let now = g.K.Sink.held c.args.sink.now in
    let mid = g.K.Sink.held c.write_all.new.sink in
    let new = g.K.Sink.held c.write_all-2.new.sink in
    let all = c.args.waiting.now.items ++ c.args.piece.now in
    let first : Adds now mid c.args.waiting.now.items = rw c.as_slice.ensures.value at c.in_ok-write_all.ensures.ok in
    err_on (AddsFront now new all) c.from_residual-in_err-write_all-2.result (front_behind c.args.waiting.now.items c.args.piece.now now mid new first c.in_err-write_all-2.ensures.err)

pub returns-clause-ok : goal.returns-clause-ok
returns-clause-ok g c =
    let now = g.K.Sink.held c.args.sink.now in
    let mid = g.K.Sink.held c.write_all.new.sink in
    let new = g.K.Sink.held c.write_all-2.new.sink in
    let first : Adds now mid c.args.waiting.now.items = rw c.as_slice.ensures.value at c.in_ok-write_all.ensures.ok in
    both_handed c.args.waiting.now.items c.args.piece.now c.clear.new.self.items now mid new first c.in_ok-write_all-2.ensures.ok c.clear.ensures.items
