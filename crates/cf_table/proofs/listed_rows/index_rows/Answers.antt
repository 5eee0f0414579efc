use Rattle.std.proofs.Common.{◌≡◌, ◌∙◌, List, rules, subst}
use Rattle.std.specs.List.Sorted.{IsPermutation}
use Rattle.std.proofs.lemmas.List.Sorted.{answers_always}
use Rattle.std.proofs.lemmas.Result.{IfOk-weaker}
use Rattle.cf_table.specs.Index.{entries_of, index_of, stands_before}
use Rattle.cf_table.specs.declared.entries.Entry.{Entry}
use Rattle.cf_table.proofs.SortedEntries.{order_ranks, sorted_at_once}
use Rattle.cf_table.proofs.listed_rows.index_rows.Goals as goal

pub returns : goal.returns
returns c =
    let perm : IsPermutation (entries_of c.args.rows.now) c.sort_unstable_by.new.self.items =
    subst (λ (l : List Entry). IsPermutation l c.sort_unstable_by.new.self.items) c.in_ok-entries.ensures c.sort_unstable_by.ensures.permutation in
    let up = c.sort_unstable_by.ensures.sorted stands_before order_ranks (answers_always _ _ _ (λ f a r q k. search rules)) in
    IfOk-weaker c.from_vec.result (λ l. l ≡ c.sort_unstable_by.new.self.items) (λ l. l ≡ index_of c.args.rows.now)
    (λ l is. is ∙ sorted_at_once c.args.rows.now c.sort_unstable_by.new.self.items c.requires perm up) c.from_vec.ensures
