use Rattle.std.proofs.Common.{◌≡◌, drop}
use Rattle.std.specs.List.{list_all}
use Rattle.cf_base.specs.declared.items.ListedItem.{ListedItem}
use Rattle.cf_check_text.specs.Clean.{has_no_ten}
use Rattle.cf_check_compare.proofs.answers.are_clean_items.Given as goal

abbrev pub invariant-loop-item : goal.invariant-loop-item
invariant-loop-item l = list_all (λ (j : ListedItem). has_no_ten j.name) l.items ≡ list_all (λ (j : ListedItem). has_no_ten j.name) (drop l.item-index l.items)
