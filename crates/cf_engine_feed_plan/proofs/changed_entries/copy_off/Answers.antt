use Rattle.std.proofs.Common.{◌∙◌, Option, Some, ap, subst, sym}
use Rattle.std.specs.Prelude.{option_copied, option_map}
use Rattle.cf_base.specs.declared.changes.Change.{Change}
use Rattle.cf_model.specs.Items.{Item, item_of}
use Rattle.cf_table.specs.declared.rows.Row.{Row}
use Rattle.cf_engine_feed_plan.specs.Lists.{copied_off}
use Rattle.cf_engine_feed_plan.specs.Premises.{FoundAs}
use Rattle.cf_engine_feed_plan.proofs.FoundRows.{found_by_id, found_none, found_some}
use Rattle.cf_engine_feed_plan.proofs.changed_entries.copy_off.Goals as goal

pub returns-in-None : goal.returns-in-None
returns-in-None c = λ items m.
    sym (ap (λ (o : Option Item). option_map (copied_off c.args.rows.now.next items) o) (found_none (item_of items c.args.item)
    (subst (λ (q : Option Row). FoundAs q (item_of items c.args.item)) (sym c.get.ensures ∙ ap option_copied c.in-None.is) (found_by_id c.args.rows.now.rows items c.args.item m))))

pub returns-in_ok-change-in-Some : goal.returns-in_ok-change-in-Some
returns-in_ok-change-in-Some c = λ items m.
    let f = found_some c.in-Some.row.now (item_of items c.args.item) (subst (λ (q : Option Row). FoundAs q (item_of items c.args.item)) (sym c.get.ensures ∙ ap option_copied c.in-Some.is) (found_by_id c.args.rows.now.rows items c.args.item m)) in
    ap (λ (d : Change). Some d) (c.in_ok-change-in-Some.ensures items f.item m f.means) ∙ sym (ap (λ (o : Option Item). option_map (copied_off c.args.rows.now.next items) o) f.is)
