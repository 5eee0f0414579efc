use Rattle.std.proofs.Common.{Bool, List, ap, ◌∙◌, arith}
use Rattle.std.specs.List.{position_or_len}
use Rattle.std.proofs.lemmas.List.{get_or_read}
use Rattle.cf_clusters.proofs.TreeRoots.{root_is}
use Rattle.cf_clusters.proofs.number_trees.NumberTree.least.Goals as goal

pub returns : goal.returns
returns c =
    let least = c.self.inside.least.items in
    get_or_read least 1 c.index.result.now (omega (arith, c.self.invariant.size)) c.index.ensures 0
    ∙ root_is c.self.inside.count least c.self.invariant
    ∙ ap (λ (l : List Bool). position_or_len (λ b. b) l) c.self.view_is
