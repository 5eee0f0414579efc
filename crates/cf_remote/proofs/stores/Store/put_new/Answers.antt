use Rattle.std.proofs.Common.{sym, ◌∙◌}
use Rattle.cf_model.specs.Numbers.{no_version}
use Rattle.cf_model.specs.Store.{put_new, why_new_file}
use Rattle.cf_remote.specs.Stores.{holding}
use Rattle.cf_remote.proofs.Doing.{accepted_gives, none_told, refused_gives}
use Rattle.cf_remote.proofs.stores.Store.put_new.Goals as goal

pub add_file-requires-clause-accepted : goal.add_file-requires-clause-accepted
add_file-requires-clause-accepted c = rw (← c.self.view_is)
    (sym (c.in_ok-why.ensures c.self.inside.clock c.self.inside.tokens c.self.inside.keep ∙ (λ i. why_new_file (holding c.self.inside.shelf c.self.inside.clock c.self.inside.tokens c.self.inside.keep) c.args.parent (c.as_slice.ensures i) (c.as_slice-2.ensures i))) ∙ c.in-None.is)

pub returns-in-Some : goal.returns-in-Some
returns-in-Some c = refused_gives c.args.self.now c.args.token (put_new c.args.self.now c.args.parent c.args.name c.args.bytes) c.in-Some.why no_version c.refuse.result c.refuse.new.self
    (rw (← c.self.view_is) (sym (c.in_ok-why.ensures c.self.inside.clock c.self.inside.tokens c.self.inside.keep ∙ (λ i. why_new_file (holding c.self.inside.shelf c.self.inside.clock c.self.inside.tokens c.self.inside.keep) c.args.parent (c.as_slice.ensures i) (c.as_slice-2.ensures i))) ∙ c.in-Some.is))
    (sym (none_told c.in-Some.why)) c.refuse.ensures.reply c.refuse.ensures.ok c.refuse.ensures.err

pub returns-in-None : goal.returns-in-None
returns-in-None c = accepted_gives c.args.self.now c.args.token (put_new c.args.self.now c.args.parent c.args.name c.args.bytes) c.add_file.result c.add_file.new.self
    (rw (← c.self.view_is) (sym (c.in_ok-why.ensures c.self.inside.clock c.self.inside.tokens c.self.inside.keep ∙ (λ i. why_new_file (holding c.self.inside.shelf c.self.inside.clock c.self.inside.tokens c.self.inside.keep) c.args.parent (c.as_slice.ensures i) (c.as_slice-2.ensures i))) ∙ c.in-None.is)) c.add_file.ensures
