use Rattle.std.proofs.Common.{sym, ◌∙◌}
use Rattle.cf_model.specs.Store.{put_new, recorded_at}
use Rattle.cf_remote.proofs.Doing.{file_gives, none_from, room_of, version_gives}
use Rattle.cf_remote.proofs.stores.Store.put.Goals as goal

pub returns-in-None-clause-step : goal.returns-in-None-clause-step
returns-in-None-clause-step c = file_gives c.args.self.now c.args.token c.args.rid c.args.expect c.args.parent c.args.name c.args.bytes c.put_new.result c.put_new.new.self
    (none_from c.args.token (recorded_at c.args.self.now.tokens c.args.token) (sym c.in-None.is ∙ c.recall.ensures)) c.if-rid-eq0.true c.put_new.ensures

pub returns-in-None-clause-room : goal.returns-in-None-clause-room
returns-in-None-clause-room c = room_of c.args.self.now c.args.token (put_new c.args.self.now c.args.parent c.args.name c.args.bytes) c.put_new.result c.put_new.new.self c.put_new.ensures

pub returns-in-None-2-clause-step : goal.returns-in-None-2-clause-step
returns-in-None-2-clause-step c = version_gives c.args.self.now c.args.token c.args.rid c.args.expect c.args.parent c.args.name c.args.bytes c.put_version.result c.put_version.new.self
    (none_from c.args.token (recorded_at c.args.self.now.tokens c.args.token) (sym c.in-None.is ∙ c.recall.ensures)) c.if-rid-eq0.false c.put_version.ensures
