use Rattle.std.proofs.Common.{sym, ap, ◌∙◌}
use Rattle.std.specs.Prelude.{option_copied}
use Rattle.cf_model.specs.Calls.{info_of}
use Rattle.cf_filter_calls.proofs.Shown.{shown_at, shown_none}
use Rattle.cf_filter_calls.proofs.item_facts.info_item.Goals as goal

pub returns-in-Some : goal.returns-in-Some
returns-in-Some g c = shown_at g.S.Steps.sense c.args.s.now c.rows.result.now c.args.id c.in-Some.row.now info_of c.show_info.result c.rows.ensures.means (sym c.get.ensures ∙ ap option_copied c.in-Some.is) (λ i m small. c.show_info.ensures i m)

pub returns-in-None : goal.returns-in-None
returns-in-None g c = shown_none g.S.Steps.sense c.args.s.now c.rows.result.now c.args.id info_of _ c.rows.ensures.means (sym c.get.ensures ∙ ap option_copied c.in-None.is)
