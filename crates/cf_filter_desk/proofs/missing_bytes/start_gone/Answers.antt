use Rattle.std.proofs.Common.{subst}
use Rattle.cf_filter_desk.proofs.Beginnings.{begins_err}
use Rattle.cf_model.specs.Missing.{View}
use Rattle.cf_model.specs.Settling.{no_view}
use Rattle.cf_waits.specs.Steps.{Begins, background_id, begun, limits_by}
use Rattle.cf_filter_desk.proofs.missing_bytes.start_gone.Goals as goal

pub returns-clause-begins : goal.returns-clause-begins
returns-clause-begins c =
    subst (λ (v : View). Begins (limits_by c.args.need.now.kind) (background_id c.args.need.now.background c.args.need.now.item c.args.requests.now) (begun c.args.need.now.kind c.args.need.now.item c.args.need.now.handle c.args.need.now.span c.args.need.now.background v c.args.requests.now) c.args.requests.now c.start.result c.start.new.self) c.no_view-v.ensures.shows c.start.ensures

pub returns-clause-err : goal.returns-clause-err
returns-clause-err c = begins_err (limits_by c.args.need.now.kind) (background_id c.args.need.now.background c.args.need.now.item c.args.requests.now) (begun c.args.need.now.kind c.args.need.now.item c.args.need.now.handle c.args.need.now.span c.args.need.now.background no_view c.args.requests.now) c.args.requests.now c.start.result c.start.new.self (returns-clause-begins c)
