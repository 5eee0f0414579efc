use Rattle.cf_volume_image.proofs.RecordPlaces.{put_there, some_behind, split}
use Rattle.cf_volume_image.proofs.record_lists.replace_record.Goals as goal

pub replace_in-before-requires-clause-split : goal.replace_in-before-requires-clause-split
replace_in-before-requires-clause-split c = split c.args.aux.key c.args.records.now c.requires.rise

pub replace_in-before-requires-clause-there : goal.replace_in-before-requires-clause-there
replace_in-before-requires-clause-there c = some_behind c.args.aux.key c.args.records.now c.requires.rise c.requires.there

pub returns : goal.returns
returns c = put_there c.args.aux c.args.records.now c.requires.rise c.replace_in-before.new.self c.requires.there c.replace_in-before.ensures.items
