use Rattle.cf_engine_steps.proofs.Rebased.{rebase_by}
use Rattle.cf_engine_steps.proofs.suited_changes.rebase_suits.Goals as goal

pub returns : goal.returns
returns g c = rebase_by g.S.Steps.sense c.args.item c.args.identity.now c.args.len c.args.at c.args.s.now c.takes_writes_in.result (c.is_short.ensures c.if-not-is_short.false) c.if-len-gt-MOST_FILE_BYTES.false c.takes_writes_in.ensures
