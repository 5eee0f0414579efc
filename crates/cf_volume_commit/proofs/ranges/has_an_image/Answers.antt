use Rattle.std.proofs.Common.{◌<◌, ◌^◌, subst}
use Rattle.cf_base.specs.declared.ids.ItemId.{ItemId}
use Rattle.cf_volume_commit.proofs.ImageFits.{image_fits}
use Rattle.cf_volume_commit.proofs.ranges.has_an_image.Goals as goal

pub returns-clause-image : goal.returns-clause-image
returns-clause-image c = λ can pins.
    let h = c.header_fits.ensures in
    image_fits c.args.contents.now (h.0, h.1, subst (λ (n : ItemId). n.0 < 2 ^ 64) c.next.ensures h.2, h.3) can c.image_len.ensures.rises c.image_len.ensures.kept c.image_len-2.ensures.rise pins
