use Rattle.std.proofs.Common.{◌∙◌, List, ℕ, ap, arith, drop}
use Rattle.std.specs.Prelude.{min, nat_lt}
use Rattle.cf_model.specs.Words.{number_of}
use Rattle.cf_engine_feed_plan.proofs.Capped.{capped_less}
use Rattle.cf_engine_feed_plan.proofs.identities.is_older.Goals as goal

pub returns : goal.returns
returns c =
    ap (λ (n : ℕ). nat_lt n c.args.version) (c.number_of-base.ensures ∙ ap (λ (l : List ℕ). min 18446744073709551615 (number_of l)) (c.after.ensures ∙ ap (drop 16) c.as_slice.ensures))
    ∙ capped_less (number_of (drop 16 c.args.identity.now)) c.args.version (omega arith)
