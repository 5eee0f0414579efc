use Rattle.std.proofs.Common.{None, ap}
use Rattle.cf_model.specs.Images.{aux_len}
use Rattle.std.specs.Prelude.{option_map}
use Rattle.cf_volume_image.proofs.PayloadPuts.{short_of}
use Rattle.cf_volume_image.proofs.RecordPlaces.{len_found}
use Rattle.cf_volume_image.proofs.record_lists.len_at.Goals as goal

pub len_of-requires : goal.len_of-requires
len_of-requires c = short_of None c.args.records.now c.args.key.now c.in-Some.aux.now c.requires c.in-Some.ensures

pub returns-in-Some : goal.returns-in-Some
returns-in-Some c = len_found _ c.in-Some.aux.now c.len_of.result c.in-Some.ensures c.len_of.ensures.value

pub returns-in-None : goal.returns-in-None
returns-in-None c = ap (option_map aux_len) c.in-None.ensures
