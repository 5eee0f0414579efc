use Rattle.cf_clusters.proofs.TreeRoots.{full_flags}
use Rattle.cf_clusters.proofs.number_trees.NumberTree.all.Goals as goal

pub returns : goal.returns
returns c = full_flags c.args.count c.put_all_vec.new.least.items c.put_all_vec.ensures.size c.put_all_vec.ensures.leaves
