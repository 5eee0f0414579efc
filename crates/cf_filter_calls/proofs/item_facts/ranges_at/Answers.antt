use Rattle.std.proofs.Common.{sym, ap, ◌∙◌}
use Rattle.std.specs.Prelude.{option_copied}
use Rattle.cf_base.specs.declared.answers.Shown.TheVariants as shown
use Rattle.cf_model.specs.Calls.{class_flags}
use Rattle.cf_model.specs.Images.{runs_of}
use Rattle.cf_filter_calls.proofs.Shown.{shown_at, shown_none}
use Rattle.cf_filter_calls.proofs.item_facts.ranges_at.Goals as goal

pub returns-in-Some : goal.returns-in-Some
returns-in-Some g c = shown_at g.S.Steps.sense c.args.s.now c.rows.result.now c.args.id c.in-Some.row.now (λ i. shown.Ranges (runs_of (class_flags c.args.class i))) c.show_ranges.result c.rows.ensures.means (sym c.get.ensures ∙ ap option_copied c.in-Some.is) c.show_ranges.ensures

pub returns-in-None : goal.returns-in-None
returns-in-None g c = shown_none g.S.Steps.sense c.args.s.now c.rows.result.now c.args.id (λ i. shown.Ranges (runs_of (class_flags c.args.class i))) _ c.rows.ensures.means (sym c.get.ensures ∙ ap option_copied c.in-None.is)
