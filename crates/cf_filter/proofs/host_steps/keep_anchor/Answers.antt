use Rattle.cf_filter.proofs.Booked.{numbered_done}
use Rattle.cf_filter.proofs.Called.{seen_from}
use Rattle.cf_filter.proofs.host_steps.keep_anchor.Goals as goal

pub returns : goal.returns
returns g c = λ i. numbered_done g.G.Ground.state c.args.filter.now _ c.args.item i c.put_anchor.result (seen_from c.filter.view_is (c.put_anchor.ensures i))
