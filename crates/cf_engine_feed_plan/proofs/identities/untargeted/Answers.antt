use Rattle.std.proofs.Common.{◌∙◌, ◌++◌, ap, drop}
use Rattle.cf_engine_feed_plan.proofs.identities.untargeted.Goals as goal

pub returns : goal.returns
returns c =
    c.in_ok-identity.ensures ∙ c.as_slice-2.ensures.value ∙ c.in_ok-extend_from_slice.ensures.items
    ∙ (λ j. c.in_ok-bytes.ensures.items j ++ (c.after.ensures ∙ ap (drop 8) c.as_slice.ensures) j)
