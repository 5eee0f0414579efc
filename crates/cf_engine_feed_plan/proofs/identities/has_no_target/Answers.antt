use Rattle.std.proofs.Common.{◌∙◌, List, ℕ, ap, eqb, take}
use Rattle.std.specs.Prelude.{min}
use Rattle.cf_model.specs.Words.{number_of}
use Rattle.cf_engine_feed_plan.proofs.Capped.{capped_zero}
use Rattle.cf_engine_feed_plan.proofs.identities.has_no_target.Goals as goal

pub returns : goal.returns
returns c =
    ap (λ (n : ℕ). eqb n 0) (c.number_of-target.ensures ∙ ap (λ (l : List ℕ). min 18446744073709551615 (number_of l)) (c.before-2.ensures ∙ ap (take 8) c.as_slice.ensures))
    ∙ capped_zero (number_of (take 8 c.args.identity.now))
