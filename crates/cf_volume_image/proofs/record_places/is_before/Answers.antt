use Rattle.std.proofs.Common.{◌∙◌, ap, sym}
use Rattle.std.specs.Ordering.{is_lt}
use Rattle.cf_volume_image.proofs.Keys.{before_is}
use Rattle.cf_volume_image.proofs.record_places.is_before.Goals as goal

pub returns : goal.returns
returns c = c.is_lt.ensures ∙ ap is_lt c.cmp.ensures ∙ sym (before_is c.args.key.now c.args.other.now)
