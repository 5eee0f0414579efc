use Rattle.std.proofs.Common.{rules}
use Rattle.std.proofs.lemmas.List.Sorted.{answers_always}
use Rattle.cf_pair_trees.proofs.SortedRows.{comes, comes_ranks, permuted_same, sorted_rises}
use Rattle.cf_pair_trees.proofs.orders.sort.Goals as goal

pub returns-clause-rises : goal.returns-clause-rises
returns-clause-rises c = λ apart.
    sorted_rises c.args.rows.now.items c.sort_unstable_by.new.self.items c.sort_unstable_by.ensures.permutation (c.sort_unstable_by.ensures.sorted comes comes_ranks (answers_always _ _ _ (λ f a r q k. search rules))) apart

pub returns-clause-same : goal.returns-clause-same
returns-clause-same c = λ apart. permuted_same c.args.rows.now.items c.sort_unstable_by.new.self.items c.sort_unstable_by.ensures.permutation apart
