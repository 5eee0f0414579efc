use Rattle.std.proofs.Common.{ap, sym, ◌∙◌}
use Rattle.cf_base.specs.declared.ids.Version.{Version}
use Rattle.cf_model.specs.Store.{remove_at, version_told}
use Rattle.cf_remote.proofs.Doing.{accepted_gives, refused_gives, version_is}
use Rattle.cf_remote.proofs.stores.Store.remove.Goals as goal

pub end-requires-clause-accepted : goal.end-requires-clause-accepted
end-requires-clause-accepted c = rw (← c.self.view_is) (sym (c.why_remove.ensures c.self.inside.clock c.self.inside.tokens c.self.inside.keep) ∙ c.in-None.is)

pub returns-in-Some : goal.returns-in-Some
returns-in-Some c = refused_gives c.args.self.now c.args.token (remove_at c.args.self.now c.args.rid c.args.expect) c.in-Some.why c.version_told-version.result c.refuse.result c.refuse.new.self
    (rw (← c.self.view_is) (sym (c.why_remove.ensures c.self.inside.clock c.self.inside.tokens c.self.inside.keep) ∙ c.in-Some.is))
    (rw (← c.self.view_is) (c.version_told-version.ensures ∙ ap (λ (v : Version). version_told v c.in-Some.why) (version_is c.latest_of.result _ c.latest_of.ensures.latest)))
    c.refuse.ensures.reply c.refuse.ensures.ok c.refuse.ensures.err

pub returns-in-None : goal.returns-in-None
returns-in-None c = accepted_gives c.args.self.now c.args.token (remove_at c.args.self.now c.args.rid c.args.expect) c.end.result c.end.new.self
    (rw (← c.self.view_is) (sym (c.why_remove.ensures c.self.inside.clock c.self.inside.tokens c.self.inside.keep) ∙ c.in-None.is)) c.end.ensures
