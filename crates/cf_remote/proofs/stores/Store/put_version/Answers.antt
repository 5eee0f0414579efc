use Rattle.std.proofs.Common.{ap, sym, ◌∙◌}
use Rattle.cf_base.specs.declared.ids.Version.{Version}
use Rattle.cf_model.specs.Store.{put_version, version_told, why_version}
use Rattle.cf_remote.specs.Stores.{holding}
use Rattle.cf_remote.proofs.Doing.{accepted_gives, refused_gives, version_is}
use Rattle.cf_remote.proofs.stores.Store.put_version.Goals as goal

pub returns-in-Some : goal.returns-in-Some
returns-in-Some c = refused_gives c.args.self.now c.args.token (put_version c.args.self.now c.args.rid c.args.expect c.args.bytes) c.in-Some.why c.version_told-version.result c.refuse.result c.refuse.new.self
    (rw (← c.self.view_is) (sym (c.why_version.ensures c.self.inside.clock c.self.inside.tokens ∙ ap (why_version (holding c.self.inside.shelf c.self.inside.clock c.self.inside.tokens c.self.inside.keep) c.args.rid c.args.expect) c.as_slice.ensures) ∙ c.in-Some.is))
    (rw (← c.self.view_is) (c.version_told-version.ensures ∙ ap (λ (v : Version). version_told v c.in-Some.why) (version_is c.latest_of.result _ c.latest_of.ensures.latest)))
    c.refuse.ensures.reply c.refuse.ensures.ok c.refuse.ensures.err

pub returns-in-None : goal.returns-in-None
returns-in-None c = accepted_gives c.args.self.now c.args.token (put_version c.args.self.now c.args.rid c.args.expect c.args.bytes) c.add_version.result c.add_version.new.self
    (rw (← c.self.view_is) (sym (c.why_version.ensures c.self.inside.clock c.self.inside.tokens ∙ ap (why_version (holding c.self.inside.shelf c.self.inside.clock c.self.inside.tokens c.self.inside.keep) c.args.rid c.args.expect) c.as_slice.ensures) ∙ c.in-None.is)) c.add_version.ensures
