use Rattle.std.proofs.Common.{refl, ◌∙◌, sym, ap}
use Rattle.cf_base.specs.declared.items.ListedItem.{ListedItem}
use Rattle.cf_check_text.specs.Clean.{has_no_ten}
use Rattle.cf_check_compare.proofs.Alls.{all_next}
use Rattle.cf_check_compare.proofs.answers.are_clean_items.Goals as goal

pub loop-item-init : goal.loop-item-init
loop-item-init c = refl

pub loop-item-preserved : goal.loop-item-preserved
loop-item-preserved c = c.loop-item.invariant ∙ all_next (λ (j : ListedItem). has_no_ten j.name) c.args.items.now c.loop-item.item-index c.item-item.result c.item-item.is c.loop-item-test.true (ap has_no_ten (sym c.as_slice.ensures) ∙ sym c.has_no_ten.ensures ∙ c.if-not-has_no_ten.false)
