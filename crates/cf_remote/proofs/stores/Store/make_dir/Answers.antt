use Rattle.std.proofs.Common.{ap, sym, ◌∙◌}
use Rattle.cf_model.specs.Numbers.{no_version}
use Rattle.cf_model.specs.Store.{make_dir, why_new_dir}
use Rattle.cf_remote.specs.Stores.{holding}
use Rattle.cf_remote.proofs.Doing.{accepted_gives, none_told, refused_gives}
use Rattle.cf_remote.proofs.stores.Store.make_dir.Goals as goal

pub add_dir-requires-clause-accepted : goal.add_dir-requires-clause-accepted
add_dir-requires-clause-accepted c = rw (← c.self.view_is)
    (sym (c.in_ok-why.ensures c.self.inside.clock c.self.inside.tokens c.self.inside.keep ∙ ap (why_new_dir (holding c.self.inside.shelf c.self.inside.clock c.self.inside.tokens c.self.inside.keep) c.args.parent) c.as_slice.ensures) ∙ c.in-None.is)

pub returns-in-Some : goal.returns-in-Some
returns-in-Some c = refused_gives c.args.self.now c.args.token (make_dir c.args.self.now c.args.parent c.args.name) c.in-Some.why no_version c.refuse.result c.refuse.new.self
    (rw (← c.self.view_is) (sym (c.in_ok-why.ensures c.self.inside.clock c.self.inside.tokens c.self.inside.keep ∙ ap (why_new_dir (holding c.self.inside.shelf c.self.inside.clock c.self.inside.tokens c.self.inside.keep) c.args.parent) c.as_slice.ensures) ∙ c.in-Some.is))
    (sym (none_told c.in-Some.why)) c.refuse.ensures.reply c.refuse.ensures.ok c.refuse.ensures.err

pub returns-in-None : goal.returns-in-None
returns-in-None c = accepted_gives c.args.self.now c.args.token (make_dir c.args.self.now c.args.parent c.args.name) c.add_dir.result c.add_dir.new.self
    (rw (← c.self.view_is) (sym (c.in_ok-why.ensures c.self.inside.clock c.self.inside.tokens c.self.inside.keep ∙ ap (why_new_dir (holding c.self.inside.shelf c.self.inside.clock c.self.inside.tokens c.self.inside.keep) c.args.parent) c.as_slice.ensures) ∙ c.in-None.is)) c.add_dir.ensures
