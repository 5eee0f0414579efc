use Rattle.cf_volume_image.proofs.RecordPlaces.{found_there, none_found, split}
use Rattle.cf_volume_image.proofs.record_lists.find_record.Goals as goal

pub from-requires : goal.from-requires
from-requires c = split c.args.key.now c.args.records.now c.requires

pub returns-in-Some : goal.returns-in-Some
returns-in-Some c = found_there c.args.key.now c.args.records.now c.requires c.from.result c.next.new.self c.in-Some.aux.now _ c.from.ensures c.in-Some.ensures c.if_named.ensures

pub returns-in-None : goal.returns-in-None
returns-in-None c = none_found c.args.key.now c.args.records.now c.requires c.from.result c.from.ensures c.in-None.ensures
