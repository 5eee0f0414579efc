use Rattle.cf_engine_steps.proofs.Recorded.{anchor_kept}
use Rattle.cf_engine_steps.proofs.books.keep_anchor.Goals as goal

pub returns : goal.returns
returns g c = anchor_kept g.S.Steps.sense g.R.Remote.told c.args.s.now c.keep_anchor.new.self c.args.e.now c.args.item c.args.number c.keep_anchor.result c.in_ok-check_number.ensures c.keep_anchor.ensures
