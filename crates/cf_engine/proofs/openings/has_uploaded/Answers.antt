use Rattle.std.proofs.Common.{None, Some, ap, subst, sym, ◌∙◌, ◌<◌}
use Rattle.std.specs.Prelude.{option_copied}
use Rattle.std.proofs.lemmas.Bool.{lt-ltb}
use Rattle.cf_base.specs.declared.ids.ItemId.{ItemId}
use Rattle.cf_engine.proofs.FitRecords.{has_of}
use Rattle.cf_engine.proofs.openings.has_uploaded.Goals as goal

pub returns-in-Some : goal.returns-in-Some
returns-in-Some c = c.is_uploaded.ensures
    ∙ has_of c.args.rows.now.rows c.args.rows.now.next c.args.item c.args.directory c.args.number (Some c.in-Some.row.now) (lt-ltb c.args.item.0 c.args.rows.now.next.0 (subst (λ (n : ItemId). c.args.item.0 < n.0) c.next.ensures c.if-item-next.false)) (sym (ap option_copied c.in-Some.is) ∙ c.get.ensures)

pub returns-in-None : goal.returns-in-None
returns-in-None c = has_of c.args.rows.now.rows c.args.rows.now.next c.args.item c.args.directory c.args.number None (lt-ltb c.args.item.0 c.args.rows.now.next.0 (subst (λ (n : ItemId). c.args.item.0 < n.0) c.next.ensures c.if-item-next.false)) (sym (ap option_copied c.in-None.is) ∙ c.get.ensures)
