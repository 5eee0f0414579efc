use Rattle.cf_filter_calls.proofs.Entered.{list_reads}
use Rattle.cf_filter_calls.proofs.directory_entries.refuse_list.Goals as goal

pub returns : goal.returns
returns g c = list_reads g.S.Steps.sense c.args.s.now c.args.dir c.args.list.now c.in_ok-named.named c.is_too_deep-deep.result c.policy-policy.result c.in_ok-why.why c.list_code.result c.in_ok-named.ensures c.policy-policy.ensures c.in_ok-why.ensures c.is_too_deep-deep.ensures c.list_code.ensures
