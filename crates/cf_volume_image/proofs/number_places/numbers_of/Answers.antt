use Rattle.std.proofs.Common.{◌∙◌, sym}
use Rattle.cf_volume_image.proofs.CountsKept.{both_numbers}
use Rattle.cf_volume_image.proofs.number_places.numbers_of.Goals as goal

pub returns : goal.returns
returns c =
    both_numbers c.args.aux.now c.as_slice.result.now c.as_slice-value.result.now c.field_at.result.now c.field_at-2.result.now c.number_of.result c.number_of-2.result c.as_slice.ensures c.as_slice-value.ensures (sym c.is_numbered.ensures ∙ c.if-not-is_numbered.false) c.field_at.ensures c.field_at-2.ensures c.number_of.ensures c.number_of-2.ensures
