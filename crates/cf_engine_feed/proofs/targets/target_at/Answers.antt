use Rattle.std.proofs.Common.{ap, sym, ◌∙◌}
use Rattle.std.specs.Prelude.{option_copied}
use Rattle.cf_base.specs.declared.ids.Rid.{Rid}
use Rattle.cf_engine_feed.proofs.IndexFinds.{target_none, target_some}
use Rattle.cf_engine_feed.proofs.targets.target_at.Goals as goal

pub returns-in_ok-rid-in-Some : goal.returns-in_ok-rid-in-Some
returns-in_ok-rid-in-Some c = target_some c.args.rows.now.rows c.args.item c.in-Some.row.now c.in_ok-rid-in-Some.rid.0 (sym c.get.ensures ∙ ap option_copied c.in-Some.is) (λ i m. ap (λ (r : Rid). r.0) (c.in_ok-rid-in-Some.ensures.is i m))

pub returns-in-None : goal.returns-in-None
returns-in-None c = target_none c.args.rows.now.rows c.args.item (sym c.get.ensures ∙ ap option_copied c.in-None.is)
