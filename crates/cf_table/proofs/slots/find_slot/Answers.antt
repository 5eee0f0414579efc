use Rattle.std.proofs.Common.{rules}
use Rattle.std.proofs.lemmas.List.Sorted.{answers_always}
use Rattle.cf_table.proofs.RowSlots.{slot_searched}
use Rattle.cf_table.proofs.slots.find_slot.Goals as goal

pub returns-clause-found : goal.returns-clause-found
returns-clause-found c =
    (slot_searched c.args.slots.now c.requires c.args.id c.binary_search_by_key.result c.binary_search_by_key.ensures.bound
    (c.binary_search_by_key.ensures.position (λ s. s.row.id.0) (answers_always _ _ _ (λ f a r g called. search rules)))).found

pub returns-clause-absent : goal.returns-clause-absent
returns-clause-absent c =
    (slot_searched c.args.slots.now c.requires c.args.id c.binary_search_by_key.result c.binary_search_by_key.ensures.bound
    (c.binary_search_by_key.ensures.position (λ s. s.row.id.0) (answers_always _ _ _ (λ f a r g called. search rules)))).absent
