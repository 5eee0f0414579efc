use Rattle.std.proofs.Common.{◌≡◌, sym, subst, Some}
use Rattle.cf_base.specs.declared.ids.ItemId.{ItemId}
use Rattle.cf_base.specs.declared.items.Pin.{Pin}
use Rattle.cf_model.specs.Items.{Item}
use Rattle.cf_table.specs.Applied.{item_effect}
use Rattle.cf_table.specs.Changing.{item_of_change, pin_for}
use Rattle.cf_table.specs.Means.{IsLater, Means}
use Rattle.std.specs.Prelude.{IfOk}
use Rattle.cf_table.specs.Tables.{row_of}
use Rattle.cf_volume_changes.proofs.Puts.{found_fits, found_of, found_table, plans_of}
use Rattle.cf_volume_changes.proofs.plans.plan_change.Goals as goal

pub plan_item-requires-clause-fits : goal.plan_item-requires-clause-fits
plan_item-requires-clause-fits c = found_fits c.args.change.now c.args.rows.now.rows c.in-Some.row.now c.requires.kind c.requires.fits
    (subst (λ (n : ItemId). row_of c.args.rows.now.rows n ≡ Some c.in-Some.row.now) c.item_of.ensures.of (sym c.in-Some.ensures))

pub plan_item-requires-clause-later : goal.plan_item-requires-clause-later
plan_item-requires-clause-later c = found_of (λ x. IsLater c.args.number x) c.args.rows.now.rows c.item_of.result c.in-Some.row.now c.requires.later (sym c.in-Some.ensures)

pub returns : goal.returns
returns c = plans_of c.plan_item.result c.args.change.now (pin_for c.args.change.now c.args.rows.now.rows) c.args.number c.in-Some.row.now
    (found_table c.args.rows.now.rows c.item_of.result c.in-Some.row.now c.image_len.ensures.kept (sym c.in-Some.ensures)).spellable
    (subst (λ (p : Pin). IfOk c.plan_item.result (λ x. (i : Item) → Means c.in-Some.row.now i → Means x.row (item_effect c.args.change.now p c.args.number i))) c.pin_for-pin.ensures c.plan_item.ensures.means)
    c.plan_item.ensures.rest c.plan_item.ensures.later c.plan_item.ensures.stored c.plan_item.ensures.spellable c.plan_item.ensures.blocks
    c.args.rows.now.rows (item_of_change c.args.change.now) (subst (λ (n : ItemId). row_of c.args.rows.now.rows n ≡ Some c.in-Some.row.now) c.item_of.ensures.of (sym c.in-Some.ensures))
