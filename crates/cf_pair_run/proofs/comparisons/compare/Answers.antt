use Rattle.std.proofs.Common.{subst}
use Rattle.cf_filter_events.specs.Meaning.{Is}
use Rattle.cf_filter_events.specs.declared.places.Acting.{Acting}
use Rattle.cf_pair_run.specs.Sharing.{resting}
use Rattle.cf_pair_run.proofs.comparisons.compare.Goals as goal

pub returns : goal.returns
returns g c = λ a b s t p q.
    c.compare_open.ensures a b s t (subst (λ (x : Acting _ _). Is resting g.D.Disk.state a x s) c.in-On.is p) (subst (λ (x : Acting _ _). Is resting g.D.Disk.state b x t) c.in-On-second.is q)
