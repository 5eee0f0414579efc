use Rattle.std.proofs.Common.{ℕ, List, length, ◌∙◌, ap, arith}
use Rattle.cf_disk.specs.Images.{durable}
use Rattle.cf_disk.proofs.FrontLaws.{filled_none}
use Rattle.cf_disk.proofs.MediumLaws.{clean_held}
use Rattle.cf_disk.proofs.media.Medium.new.Goals as goal

pub returns-in-Ok : goal.returns-in-Ok
returns-in-Ok c =
    clean_held c.args.size c.in-Ok.bytes.items c.in_ok-pages.pages c.in_ok-pages.ensures.clean (omega (arith, ap length c.in-Ok.ensures.items))
    ∙ ap (λ (l : List ℕ). durable l) (filled_none 0 c.args.size c.in-Ok.bytes.items c.in-Ok.ensures.items)
