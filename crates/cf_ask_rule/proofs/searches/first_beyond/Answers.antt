use Rattle.std.proofs.Common.{refl}
use Rattle.cf_ask_rule.proofs.Following.{point_none, point_some}
use Rattle.cf_ask_rule.proofs.searches.first_beyond.Goals as goal

pub returns-then-next-runs : goal.returns-then-next-runs
returns-then-next-runs c = point_none c.args.from c.place_beyond-next.result c.args.runs.now c.place_beyond-next.ensures c.if-next-runs.true

pub returns : goal.returns
returns c = point_some c.args.from c.place_beyond-next.result c.args.runs.now _ _ c.requires c.place_beyond-next.ensures c.if-next-runs.false refl
