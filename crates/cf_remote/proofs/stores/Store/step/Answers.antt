use Rattle.std.proofs.Common.{sym, ◌∙◌}
use Rattle.cf_model.specs.Store.{make_dir, move_to, recorded_at}
use Rattle.cf_remote.proofs.Doing.{new_gives, none_from, room_of}
use Rattle.cf_remote.proofs.stores.Store.step.Goals as goal

pub returns-in-None-clause-step : goal.returns-in-None-clause-step
returns-in-None-clause-step c = rw c.in-MakeDir.is (new_gives c.args.self.now c.in-MakeDir.token (make_dir c.args.self.now c.in-MakeDir.parent c.in-MakeDir.name) c.make_dir.result c.make_dir.new.self
    (none_from c.in-MakeDir.token (recorded_at c.args.self.now.tokens c.in-MakeDir.token) (sym c.in-None.is ∙ c.recall.ensures)) c.make_dir.ensures)

pub returns-in-None-clause-room : goal.returns-in-None-clause-room
returns-in-None-clause-room c = room_of c.args.self.now c.in-MakeDir.token (make_dir c.args.self.now c.in-MakeDir.parent c.in-MakeDir.name) c.make_dir.result c.make_dir.new.self c.make_dir.ensures

pub returns-in-None-recall-clause-step : goal.returns-in-None-recall-clause-step
returns-in-None-recall-clause-step c = rw c.in-Move.is (new_gives c.args.self.now c.in-Move.token (move_to c.args.self.now c.in-Move.rid c.in-Move.parent c.in-Move.name) c.move_to.result c.move_to.new.self
    (none_from c.in-Move.token (recorded_at c.args.self.now.tokens c.in-Move.token) (sym c.in-None-recall.is ∙ c.recall-in-Move.ensures)) c.move_to.ensures)

pub returns-in-None-recall-clause-room : goal.returns-in-None-recall-clause-room
returns-in-None-recall-clause-room c = room_of c.args.self.now c.in-Move.token (move_to c.args.self.now c.in-Move.rid c.in-Move.parent c.in-Move.name) c.move_to.result c.move_to.new.self c.move_to.ensures
