use Rattle.std.specs.Prelude.{Result}
use Rattle.cf_base.specs.declared.ids.Token.{Token}
use Rattle.cf_base.specs.declared.messages.Request.TheVariants as request
use Rattle.cf_model.specs.Numbers.{no_rid, no_version}
use Rattle.cf_model.specs.Peers.{request_with}
use Rattle.cf_remote.specs.LookUps.{Comes, finish}
use Rattle.cf_remote.specs.declared.stops.Plan.{Plan}
use Rattle.cf_remote.specs.declared.stops.Stop.{Stop}
use Rattle.cf_remote.specs.declared.stops.Stop.TheVariants as stop
use Rattle.cf_remote.proofs.PeerParts.{comes_lost, sends_as, with_stop}
use Rattle.cf_remote.proofs.plans.plan_file.Goals as goal

pub returns-in_err-name-clause-plans : goal.returns-in_err-name-clause-plans
returns-in_err-name-clause-plans c next s told e st =
    with_stop (λ (r : Result Plan Stop). Comes {A = Plan} (request_with (λ (t : Token). request.Put t no_rid no_version c.args.parent c.args.name.now c.args.bytes.now)) finish next s told r told) c.from_residual.result stop.OutOfMemory c.from_residual.ensures.1
    (comes_lost (request_with (λ (t : Token). request.Put t no_rid no_version c.args.parent c.args.name.now c.args.bytes.now)) finish next s told)

pub returns-in_err-bytes-clause-plans : goal.returns-in_err-bytes-clause-plans
returns-in_err-bytes-clause-plans c next s told e st =
    with_stop (λ (r : Result Plan Stop). Comes {A = Plan} (request_with (λ (t : Token). request.Put t no_rid no_version c.args.parent c.args.name.now c.args.bytes.now)) finish next s told r told) c.from_residual-in_err-bytes.result stop.OutOfMemory c.from_residual-in_err-bytes.ensures.1
    (comes_lost (request_with (λ (t : Token). request.Put t no_rid no_version c.args.parent c.args.name.now c.args.bytes.now)) finish next s told)

pub returns-clause-plans : goal.returns-clause-plans
returns-clause-plans c next s told e st =
    sends_as (λ (t : Token). request.Put t no_rid no_version c.args.parent c.args.name.now c.args.bytes.now) (request.Put c.args.token no_rid no_version c.args.parent c.in_ok-name.name c.in_ok-bytes.bytes) c.args.token next s told
    (λ i. request.Put c.args.token no_rid no_version c.args.parent (c.in_ok-name.ensures i) (c.in_ok-bytes.ensures i)) e st
