use Rattle.std.proofs.Common.{◌<◌, Bool, true, List, length, set, ap, ◌∙◌, arith}
use Rattle.std.proofs.lemmas.Bool.{lt-ltb}
use Rattle.cf_clusters.proofs.TreeRoots.{flags_put, length-flags}
use Rattle.cf_clusters.proofs.number_trees.NumberTree.insert.Goals as goal

pub returns : goal.returns
returns c =
    let count = c.self.inside.count in
    let least = c.self.inside.least.items in
    let inside : c.args.number < count = omega (arith, c.requires, ap (λ (l : List Bool). length l) c.self.view_is, length-flags count least c.self.invariant.size) in
    flags_put count c.args.number c.args.number least c.put_vec.new.least.items c.self.invariant inside c.put_vec.ensures.size c.put_vec.ensures.leaves true (lt-ltb c.args.number count inside)
    ∙ ap (λ (l : List Bool). set l c.args.number true) c.self.view_is
