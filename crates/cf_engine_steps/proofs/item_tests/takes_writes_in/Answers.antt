use Rattle.std.proofs.Common.{sym, ap, ◌∙◌}
use Rattle.std.specs.Prelude.{option_copied}
use Rattle.cf_engine_steps.proofs.Rebased.{takes_by, takes_none}
use Rattle.cf_engine_steps.proofs.item_tests.takes_writes_in.Goals as goal

pub returns-in-Some : goal.returns-in-Some
returns-in-Some g c = takes_by g.S.Steps.sense c.args.s.now c.rows.result.now c.args.item c.args.len c.args.at c.in-Some.row.now c.anchor.result c.takes_writes.result c.rows.ensures.means (sym c.get.ensures ∙ ap option_copied c.in-Some.is) c.anchor.ensures c.takes_writes.ensures

pub returns-in-None : goal.returns-in-None
returns-in-None g c = takes_none g.S.Steps.sense c.args.s.now c.rows.result.now c.args.item c.args.len c.args.at c.rows.ensures.means (sym c.get.ensures ∙ ap option_copied c.in-None.is)
