use Rattle.std.proofs.Common.{◌∙◌, sym}
use Rattle.cf_model.proofs.NameLaws.{name_is}
use Rattle.cf_volume_image.proofs.sound_rows.is_item_name.Goals as goal

pub returns : goal.returns
returns c = c.is_name.ensures ∙ sym (name_is c.args.name.now)
