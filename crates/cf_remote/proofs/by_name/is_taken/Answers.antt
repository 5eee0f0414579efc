use Rattle.std.proofs.Common.{◌∙◌, ap, not, sym, ◌==◌}
use Rattle.std.specs.Prelude.{Some, None}
use Rattle.cf_base.specs.declared.ids.Rid.{Rid}
use Rattle.cf_remote.proofs.Taken.{taken_found}
use Rattle.cf_remote.proofs.by_name.is_taken.Goals as goal

pub returns-in-Some : goal.returns-in-Some
returns-in-Some c = ap (λ (r : Rid). not (r.0 == c.args.but.0)) c.rid.ensures
    ∙ sym (taken_found c.args.parent c.args.name.now c.args.but c.args.items.now c.args.by_name.now c.requires.ordered c.requires.is (Some c.in-Some.item.now) (c.in-Some.ensures c.requires.ordered c.requires.is))

pub returns-in-None : goal.returns-in-None
returns-in-None c = sym (taken_found c.args.parent c.args.name.now c.args.but c.args.items.now c.args.by_name.now c.requires.ordered c.requires.is None (c.in-None.ensures c.requires.ordered c.requires.is))
