use Rattle.std.proofs.Common.{ap, refl}
use Rattle.std.specs.Prelude.{Ok}
use Rattle.cf_base.specs.declared.ids.Token.{Token}
use Rattle.cf_base.specs.declared.messages.Request.TheVariants as request
use Rattle.cf_model.specs.Peers.{peer_event, request_with}
use Rattle.cf_remote.specs.LookUps.{finish}
use Rattle.cf_remote.specs.declared.stops.Plan.TheVariants as plan
use Rattle.cf_remote.proofs.PeerParts.{comes_as, sends_as}
use Rattle.cf_remote.proofs.plans.plan.Goals as goal

pub returns-in-Keep-clause-plans : goal.returns-in-Keep-clause-plans
returns-in-Keep-clause-plans g c next s e st =
    comes_as (peer_event c.args.e.now) (request_with (λ (t : Token). request.Keep t c.in-Keep.count)) finish next s (g.R.Remote.told c.args.remote.now) (Ok (plan.Send (request.Keep c.args.token c.in-Keep.count))) (g.R.Remote.told c.args.remote.now) (ap peer_event c.in-Keep.is)
    (sends_as (λ (t : Token). request.Keep t c.in-Keep.count) (request.Keep c.args.token c.in-Keep.count) c.args.token next s (g.R.Remote.told c.args.remote.now) refl e st)
