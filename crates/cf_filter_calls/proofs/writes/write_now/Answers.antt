use Rattle.cf_model.specs.Arrows.{then_do}
use Rattle.cf_model.specs.Books.{with_access}
use Rattle.cf_model.specs.Calls.{write_now}
use Rattle.cf_model.specs.Changes.{change_with}
use Rattle.cf_model.specs.Operations.{done}
use Rattle.cf_model.specs.Requests.{Nothing}
use Rattle.cf_model.specs.Settling.{settle}
use Rattle.cf_filter_steps.specs.Putting.{ReadyOn}
use Rattle.cf_filter_steps.proofs.Laws.{stops_first, with_err}
use Rattle.cf_filter_calls.proofs.Wrote.{put_fails, put_then}
use Rattle.cf_filter_calls.proofs.writes.write_now.Goals as goal

pub returns-in_err-put : goal.returns-in_err-put
returns-in_err-put g c = with_err g.S.Steps.sense (ReadyOn c.args.item c.args.change) (write_now c.args.item c.args.change) c.args.s.now c.put.new.self c.in_err-put.field-0.0 c.from_residual.result c.from_residual.ensures.1
    (stops_first g.S.Steps.sense (ReadyOn c.args.item c.args.change) (change_with (with_access c.args.item) c.args.change) (then_do (settle c.args.item Nothing) done) c.args.s.now c.put.new.self c.in_err-put.field-0.0 c.in_err-put.ensures.does)

pub returns-in_err-settle : goal.returns-in_err-settle
returns-in_err-settle g c = with_err g.S.Steps.sense (ReadyOn c.args.item c.args.change) (write_now c.args.item c.args.change) c.args.s.now c.settle.new.s c.in_err-settle.field-0.0 c.from_residual-in_err-settle.result c.from_residual-in_err-settle.ensures.1
    (put_fails g.S.Steps.sense c.args.item c.args.change c.args.s.now c.put.new.self c.settle.new.s c.in_ok-put.field-0 c.in_err-settle.field-0.0 c.in_ok-put.ensures.does c.in_err-settle.ensures)

pub returns : goal.returns
returns g c = put_then g.S.Steps.sense c.args.item c.args.change c.args.s.now c.put.new.self c.settle.new.s c.in_ok-put.field-0 c.in_ok-settle.field-0 c.in_ok-put.ensures.does c.in_ok-settle.ensures
