use Rattle.std.proofs.Common.{refl}
use Rattle.cf_waits.proofs.Skipped.{near_first, whole_waits}
use Rattle.cf_waits.proofs.near_waits.near_of.Goals as goal

pub returns : goal.returns
returns c = near_first c.args.item c.args.v.now c.args.span.start c.args.span.end c.args.waits.now _ _ c.count_far-first.result c.count_near-count.result (whole_waits c.args.waits.now c.count_far-first.result) c.count_far-first.ensures.far refl c.count_near-count.ensures.far
