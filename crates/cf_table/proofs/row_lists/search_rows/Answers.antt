use Rattle.std.proofs.Common.{rules}
use Rattle.std.proofs.lemmas.List.Sorted.{answers_always}
use Rattle.cf_table.proofs.Searched.{searched}
use Rattle.cf_table.proofs.row_lists.search_rows.Goals as goal

-- the closure gives a row's id
pub returns : goal.returns
returns c =
    let facts = c.binary_search_by_key.ensures in
    let by_key = facts.position (λ row. row.id.0) (answers_always _ _ _ (λ f a r g called. search rules)) in
    searched _ c.requires c.args.id _ facts.bound by_key
