use Rattle.cf_engine_uploads.proofs.Drafted.{the_item, was_read}
use Rattle.std.proofs.Common.{ap, sym, ◌∙◌}
use Rattle.std.specs.Prelude.{option_copied}
use Rattle.cf_engine_uploads.proofs.entries.draft_of.Goals as goal

pub returns : goal.returns
returns g c = record {
  entry = λ s i m at next. c.in_ok-entry.ensures s i (was_read g.S.Steps.sense c.args.s.now c.in-Some.row.now c.args.token c.in_ok-target.target c.in_ok-parent.parent s i m (the_item g.S.Steps.sense c.args.s.now c.rows.result.now c.args.id c.in-Some.row.now c.rows.ensures.means (sym c.get.ensures ∙ ap option_copied c.in-Some.is) s i m at) next c.in_ok-target.ensures c.in_ok-parent.ensures);
  expect = λ s i m at. c.in_ok-expect.ensures.is i (the_item g.S.Steps.sense c.args.s.now c.rows.result.now c.args.id c.in-Some.row.now c.rows.ensures.means (sym c.get.ensures ∙ ap option_copied c.in-Some.is) s i m at);
}
