use Rattle.cf_filter_calls.proofs.Valued.{plain_as}
use Rattle.cf_filter_calls.proofs.calls.make.Goals as goal

pub returns-in-OpenFile : goal.returns-in-OpenFile
returns-in-OpenFile g c = plain_as g.S.Steps.sense _ _ _ c.args.call _ c.in-OpenFile.is c.open_file.ensures

pub returns-in-Flush : goal.returns-in-Flush
returns-in-Flush g c = plain_as g.S.Steps.sense _ _ _ c.args.call _ c.in-Flush.is c.flush.ensures

pub returns-in-SetPolicy : goal.returns-in-SetPolicy
returns-in-SetPolicy g c = plain_as g.S.Steps.sense _ _ _ c.args.call _ c.in-SetPolicy.is c.set_policy.ensures

pub returns-in-Connect : goal.returns-in-Connect
returns-in-Connect g c = plain_as g.S.Steps.sense _ _ _ c.args.call _ c.in-Connect.is c.connect.ensures

pub returns-in-Create : goal.returns-in-Create
returns-in-Create g c = plain_as g.S.Steps.sense _ _ _ c.args.call _ c.in-Create.is c.create.ensures

pub returns-in-Convert : goal.returns-in-Convert
returns-in-Convert g c = plain_as g.S.Steps.sense _ _ _ c.args.call _ c.in-Convert.is c.convert.ensures

pub returns-in-Revert : goal.returns-in-Revert
returns-in-Revert g c = plain_as g.S.Steps.sense _ _ _ c.args.call _ c.in-Revert.is c.revert.ensures

pub returns-in-Update : goal.returns-in-Update
returns-in-Update g c = plain_as g.S.Steps.sense _ _ _ c.args.call _ c.in-Update.is c.update.ensures

pub returns-in-Unmark : goal.returns-in-Unmark
returns-in-Unmark g c = plain_as g.S.Steps.sense _ _ _ c.args.call _ c.in-Unmark.is c.unmark.ensures

pub returns-in-Delete : goal.returns-in-Delete
returns-in-Delete g c = plain_as g.S.Steps.sense _ _ _ c.args.call _ c.in-Delete.is c.delete.ensures

pub returns-in-Rename : goal.returns-in-Rename
returns-in-Rename g c = plain_as g.S.Steps.sense _ _ _ c.args.call _ c.in-Rename.is c.rename.ensures

pub returns-in-SetPin : goal.returns-in-SetPin
returns-in-SetPin g c = plain_as g.S.Steps.sense _ _ _ c.args.call _ c.in-SetPin.is c.set_pin.ensures
