use Rattle.std.proofs.Common.{Bool, [], ap, ◌∙◌}
use Rattle.std.specs.Prelude.{Ok, Result}
use Rattle.cf_base.specs.declared.codes.Code.TheVariants as code
use Rattle.cf_base.specs.declared.ids.Token.{Token}
use Rattle.cf_base.specs.declared.messages.Request.TheVariants as request
use Rattle.cf_model.specs.Arrows.{choose}
use Rattle.cf_model.specs.Numbers.{no_rid}
use Rattle.cf_model.specs.Peers.{put_over, refused, request_with}
use Rattle.cf_remote.specs.LookUps.{Comes, finish}
use Rattle.cf_remote.specs.declared.stops.Plan.{Plan}
use Rattle.cf_remote.specs.declared.stops.Plan.TheVariants as plan
use Rattle.cf_remote.specs.declared.stops.Stop.{Stop}
use Rattle.cf_remote.specs.declared.stops.Stop.TheVariants as stop
use Rattle.cf_remote.proofs.PeerParts.{comes_as, comes_lost, sends_as, with_stop}
use Rattle.cf_remote.proofs.plans.plan_version.Goals as goal

pub returns-in_err-bytes-clause-plans : goal.returns-in_err-bytes-clause-plans
returns-in_err-bytes-clause-plans c next s told e st =
    with_stop (λ (r : Result Plan Stop). Comes {A = Plan} (put_over c.args.bytes.now c.args.entry.now) finish next s told r told) c.from_residual.result stop.OutOfMemory c.from_residual.ensures.1
    (comes_lost (put_over c.args.bytes.now c.args.entry.now) finish next s told)

pub returns-clause-plans : goal.returns-clause-plans
returns-clause-plans c next s told e st =
    comes_as (put_over c.args.bytes.now c.args.entry.now) (request_with (λ (t : Token). request.Put t c.args.entry.now.rid c.args.entry.now.version no_rid [] c.args.bytes.now)) finish next s told
    (Ok (plan.Send (request.Put c.args.token c.args.entry.now.rid c.args.entry.now.version no_rid c.from_vec-name.result c.in_ok-bytes.bytes))) told
    (ap (λ (b : Bool). choose b (refused code.IsDirectory) (request_with (λ (t : Token). request.Put t c.args.entry.now.rid c.args.entry.now.version no_rid [] c.args.bytes.now))) c.if-entry.false)
    (sends_as (λ (t : Token). request.Put t c.args.entry.now.rid c.args.entry.now.version no_rid [] c.args.bytes.now) (request.Put c.args.token c.args.entry.now.rid c.args.entry.now.version no_rid c.from_vec-name.result c.in_ok-bytes.bytes) c.args.token next s told
    (λ i. request.Put c.args.token c.args.entry.now.rid c.args.entry.now.version no_rid ((c.from_vec-name.ensures ∙ c.new.ensures.items) i) (c.in_ok-bytes.ensures i)) e st)
