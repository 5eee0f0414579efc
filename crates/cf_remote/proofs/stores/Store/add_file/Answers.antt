use Rattle.std.proofs.Common.{ap, arith, ◌∙◌}
use Rattle.cf_model.specs.Numbers.{no_rid}
use Rattle.cf_model.specs.Store.{Stored, stored_at}
use Rattle.cf_model.specs.Words.{says}
use Rattle.cf_remote.specs.Stores.{holding}
use Rattle.cf_remote.proofs.Accepted.{file_fits, item_free, new_file}
use Rattle.cf_remote.proofs.stores.Store.add_file.Goals as goal

pub file-requires-clause-small : goal.file-requires-clause-small
file-requires-clause-small c =
    omega (arith, (new_file (holding c.self.inside.shelf c.self.inside.clock c.self.inside.tokens c.self.inside.keep) c.args.parent c.args.name c.args.bytes (rw (← c.self.view_is) at c.requires.accepted)).small)

pub add-requires-clause-free : goal.add-requires-clause-free
add-requires-clause-free c = item_free c.self.inside.shelf c.args.parent c.in_ok-item.item.parent c.args.name c.in_ok-item.item.name no_rid
    (ap (λ (s : Stored). s.parent) c.in_ok-item.ensures) (ap (λ (s : Stored). s.name) c.in_ok-item.ensures)
    (new_file (holding c.self.inside.shelf c.self.inside.clock c.self.inside.tokens c.self.inside.keep) c.args.parent c.args.name c.args.bytes (rw (← c.self.view_is) at c.requires.accepted)).free

pub add-requires-clause-fits : goal.add-requires-clause-fits
add-requires-clause-fits c =
    file_fits (holding c.self.inside.shelf c.self.inside.clock c.self.inside.tokens c.self.inside.keep) c.args.parent c.args.name c.args.bytes c.in_ok-item.item (ap (λ (s : Stored). s.versions) c.in_ok-item.ensures) (ap (λ (s : Stored). s.least) c.in_ok-item.ensures)
    (new_file (holding c.self.inside.shelf c.self.inside.clock c.self.inside.tokens c.self.inside.keep) c.args.parent c.args.name c.args.bytes (rw (← c.self.view_is) at c.requires.accepted)).fits

pub add-requires-clause-inside : goal.add-requires-clause-inside
add-requires-clause-inside c = ap (λ (s : Stored). says (λ t. t.directory) (stored_at c.self.inside.shelf s.parent)) c.in_ok-item.ensures
    ∙ (new_file (holding c.self.inside.shelf c.self.inside.clock c.self.inside.tokens c.self.inside.keep) c.args.parent c.args.name c.args.bytes (rw (← c.self.view_is) at c.requires.accepted)).inside
