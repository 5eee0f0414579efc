use Rattle.std.proofs.Common.{◌≡◌}
use Rattle.cf_filter.specs.Calling.{noted}
use Rattle.cf_engine.proofs.SessionSteps.{session, unless_err}
use Rattle.cf_engine.proofs.sessions.session.Goals as goal

pub returns : goal.returns
returns g c =
    session g.G.Ground.state g.R.Remote.told c.args.event c.args.filter.now c.begin.new.self c.part-told.new.host c.finish_with-told.new.self c.args.engine.now c.part-told.new.engine c.new-notes.result c.begin.new.notes c.finish_with-told.new.notes
    c.part-told.result c.finish_with-told.result c.said.result c.answered.result c.requires c.new-notes.ensures
    (unless_err c.begin.result c.is_err.result (c.begin.new.self ≡ noted c.new-notes.result c.args.filter.now) c.is_err.ensures.value c.if-is_err.false c.begin.ensures.ok)
    (unless_err c.begin.result c.is_err.result (c.begin.new.notes ≡ c.args.filter.now.desk.notes) c.is_err.ensures.value c.if-is_err.false c.begin.ensures.kept)
    c.part-told.ensures c.said.ensures c.finish_with-told.ensures.answer c.finish_with-told.ensures.new c.finish_with-told.ensures.notes c.answered.ensures
