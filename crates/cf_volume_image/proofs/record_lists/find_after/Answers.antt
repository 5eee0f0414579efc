use Rattle.cf_volume_image.proofs.RecordPlaces.{found_after, none_after_it, split_after}
use Rattle.cf_volume_image.proofs.record_lists.find_after.Goals as goal

pub from-requires : goal.from-requires
from-requires c = split_after c.args.key.now c.args.records.now c.requires

pub returns-in-Some : goal.returns-in-Some
returns-in-Some c = found_after c.args.key.now c.args.records.now c.from.result c.next.new.self c.in-Some.aux.now c.from.ensures c.in-Some.ensures

pub returns-in-None : goal.returns-in-None
returns-in-None c = none_after_it c.args.key.now c.args.records.now c.from.result c.from.ensures c.in-None.ensures
