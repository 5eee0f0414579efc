use Rattle.std.proofs.Common.{◌∙◌, ap}
use Rattle.cf_base.specs.Names.{is_name}
use Rattle.cf_engine_steps.proofs.Suited.{place_by}
use Rattle.cf_engine_steps.proofs.item_tests.is_place.Goals as goal

pub returns : goal.returns
returns g c = place_by g.S.Steps.sense c.args.parent c.args.name.now c.args.s.now c.is_name.result c.is_open_directory.result c.is_high.result c.is_free.result c.if-not-is_name.false (c.is_name.ensures ∙ ap is_name c.as_slice.ensures)
    c.if-not-is_open_directory.false c.is_open_directory.ensures c.if-not-is_high.false c.is_high.ensures c.is_free.ensures
