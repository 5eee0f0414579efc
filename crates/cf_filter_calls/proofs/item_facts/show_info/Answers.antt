use Rattle.cf_filter_calls.proofs.Shown.{info_is}
use Rattle.cf_filter_calls.proofs.item_facts.show_info.Goals as goal

pub returns : goal.returns
returns c = λ i m. info_is c.args.row.now c.kind_of.result c.in_ok-identity.identity i c.kind_of.ensures c.in_ok-identity.ensures m
