use Rattle.std.proofs.Common.{ap, sym, ◌∙◌}
use Rattle.std.specs.Prelude.{option_copied}
use Rattle.cf_engine_space.proofs.Freed.{file_gone, file_there}
use Rattle.cf_engine_space.proofs.spaces.dehydrate_whole.Goals as goal

pub returns-in_default : goal.returns-in_default
returns-in_default g c = file_gone g.S.Steps.sense g.R.Remote.told c.args.s.now c.args.e.now c.rows.result.now c.args.id c.rows.ensures.means (sym c.get.ensures ∙ ap option_copied c.in_default.is)

pub returns : goal.returns
returns g c = file_there g.S.Steps.sense g.R.Remote.told c.args.s.now c.dehydrate.new.s c.args.e.now c.dehydrate.new.e c.rows.result.now c.args.id c.in-Some._row.now c.dehydrate.result c.rows.ensures.means (sym c.get.ensures ∙ ap option_copied c.in-Some.is) c.dehydrate.ensures
