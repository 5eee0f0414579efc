use Rattle.std.proofs.Common.{ap, arith, ◌∙◌}
use Rattle.cf_model.specs.Numbers.{no_rid}
use Rattle.cf_model.specs.Store.{Stored, stored_at}
use Rattle.cf_model.specs.Words.{says}
use Rattle.cf_remote.specs.Held.{held_len}
use Rattle.cf_remote.specs.Stores.{holding}
use Rattle.cf_remote.proofs.Accepted.{dir_inside, item_free, new_dir}
use Rattle.cf_remote.proofs.stores.Store.add_dir.Goals as goal

pub add-requires-clause-free : goal.add-requires-clause-free
add-requires-clause-free c = item_free c.self.inside.shelf c.args.parent c.directory-item.result.parent c.args.name c.directory-item.result.name no_rid
    (ap (λ (s : Stored). s.parent) c.directory-item.ensures) (ap (λ (s : Stored). s.name) c.directory-item.ensures)
    (new_dir (holding c.self.inside.shelf c.self.inside.clock c.self.inside.tokens c.self.inside.keep) c.args.parent c.args.name (rw (← c.self.view_is) at c.requires.accepted))

pub add-requires-clause-fits : goal.add-requires-clause-fits
add-requires-clause-fits c = omega (arith, c.next_rid-rid.ensures.within, ap held_len c.directory-item.ensures)

pub add-requires-clause-inside : goal.add-requires-clause-inside
add-requires-clause-inside c = ap (λ (s : Stored). says (λ t. t.directory) (stored_at c.self.inside.shelf s.parent)) c.directory-item.ensures
    ∙ dir_inside (holding c.self.inside.shelf c.self.inside.clock c.self.inside.tokens c.self.inside.keep) c.args.parent c.args.name (rw (← c.self.view_is) at c.requires.accepted)
