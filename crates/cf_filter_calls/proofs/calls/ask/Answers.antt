use Rattle.cf_filter_calls.proofs.Valued.{asking_as}
use Rattle.cf_filter_calls.proofs.calls.ask.Goals as goal

pub returns-in-Close : goal.returns-in-Close
returns-in-Close g c = asking_as g.S.Steps.sense _ _ _ c.args.call _ c.in-Close.is c.close.ensures

pub returns-in-Cancel : goal.returns-in-Cancel
returns-in-Cancel g c = asking_as g.S.Steps.sense _ _ _ c.args.call _ c.in-Cancel.is c.cancel.ensures

pub returns-in-Tick : goal.returns-in-Tick
returns-in-Tick g c = asking_as g.S.Steps.sense _ _ _ c.args.call _ c.in-Tick.is c.tick.ensures

pub returns-in-Read : goal.returns-in-Read
returns-in-Read g c = asking_as g.S.Steps.sense _ _ _ c.args.call _ c.in-Read.is c.read.ensures

pub returns-in-Get : goal.returns-in-Get
returns-in-Get g c = asking_as g.S.Steps.sense _ _ _ c.args.call _ c.in-Get.is c.get.ensures

pub returns-in-List : goal.returns-in-List
returns-in-List g c = asking_as g.S.Steps.sense _ _ _ c.args.call _ c.in-List.is c.list.ensures

pub returns-in-Hydrate : goal.returns-in-Hydrate
returns-in-Hydrate g c = asking_as g.S.Steps.sense _ _ _ c.args.call _ c.in-Hydrate.is c.hydrate.ensures

pub returns-in-Dehydrate : goal.returns-in-Dehydrate
returns-in-Dehydrate g c = asking_as g.S.Steps.sense _ _ _ c.args.call _ c.in-Dehydrate.is c.dehydrate.ensures

pub returns-in-Write : goal.returns-in-Write
returns-in-Write g c = asking_as g.S.Steps.sense _ _ _ c.args.call _ c.in-Write.is c.write.ensures

pub returns-in-SetSize : goal.returns-in-SetSize
returns-in-SetSize g c = asking_as g.S.Steps.sense _ _ _ c.args.call _ c.in-SetSize.is c.set_size.ensures

pub returns-in-SetInSync : goal.returns-in-SetInSync
returns-in-SetInSync g c = asking_as g.S.Steps.sense _ _ _ c.args.call _ c.in-SetInSync.is c.set_in_sync.ensures

pub returns-in-KeepFull : goal.returns-in-KeepFull
returns-in-KeepFull g c = asking_as g.S.Steps.sense _ _ _ c.args.call _ c.in-KeepFull.is c.keep_full.ensures
