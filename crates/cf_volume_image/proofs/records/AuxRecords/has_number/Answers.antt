use Rattle.std.proofs.Common.{◌∙◌, ap, nat_lt}
use Rattle.std.specs.List.{list_any}
use Rattle.cf_volume_image.specs.Numbers.{has_number}
use Rattle.cf_volume_image.proofs.CountsKept.{some_counted}
use Rattle.cf_volume_image.proofs.records.AuxRecords.has_number.Goals as goal

pub returns-clause-has : goal.returns-clause-has
returns-clause-has c =
    c.has.ensures ∙ ap (nat_lt 0) (c.self.invariant.1 c.args.place c.args.number c.ranges.number.fits)
    ∙ some_counted (has_number c.args.place c.args.number) c.self.inside.records ∙ ap (list_any (has_number c.args.place c.args.number)) c.self.view_is
