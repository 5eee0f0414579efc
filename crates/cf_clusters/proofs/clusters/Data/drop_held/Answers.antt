use Rattle.std.proofs.Common.{List, set, ap, ◌∙◌}
use Rattle.cf_clusters.specs.declared.uses.Use.{Use}
use Rattle.cf_clusters.specs.declared.uses.Use.TheVariants.{Free, Staged, Dropped}
use Rattle.cf_clusters.proofs.Moves.{set_again}
use Rattle.cf_clusters.proofs.clusters.Data.drop_held.Goals as goal

pub returns : goal.returns
returns c =
    c.lower_free.ensures
    ∙ ap (λ (v : List Use). set v c.args.cluster Dropped) (c.lower_staged.ensures ∙ ap (λ (v : List Use). set v c.args.cluster Free) c.lower_held.ensures ∙ set_again c.args.self.now c.args.cluster Staged Free)
    ∙ set_again c.args.self.now c.args.cluster Free Dropped
