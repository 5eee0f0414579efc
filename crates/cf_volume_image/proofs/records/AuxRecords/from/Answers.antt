use Rattle.cf_volume_image.proofs.RecordPlaces.{split}
use Rattle.cf_volume_image.proofs.records.AuxRecords.from.Goals as goal

pub from-requires : goal.from-requires
from-requires c = split c.args.key.now c.self.inside.records c.self.invariant.0.rise
