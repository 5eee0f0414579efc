use Rattle.std.proofs.Common.{◌≡◌, List, ℕ, [], replicate, sym, ◌∙◌, ap, subst}
use Rattle.cf_disk.specs.Images.{Held, IsImage, durable}
use Rattle.cf_disk.specs.Trails.{Trail}
use Rattle.cf_disk.proofs.ImageLaws.{one_image}
use Rattle.cf_disk.proofs.TraceLaws.{run_none}
use Rattle.cf_disk.proofs.trace_disks.TraceDisk.new.Goals as goal

pub invariant_of-result-clause-traced : goal.invariant_of-result-clause-traced
invariant_of-result-clause-traced c =
    let none : c.in-Ok.past.calls.calls ≡ [] = ap (λ (t : Trail). t.calls) c.in-Ok.ensures.calls in
    let zeros : c.in-Ok.past.start.items ≡ replicate c.args.size 0 = c.in-Ok.ensures.start in
    rw (none, zeros) (c.in_ok-medium.ensures ∙ sym (run_none (durable (replicate c.args.size 0))))

pub returns-in-Ok-clause-durable : goal.returns-in-Ok-clause-durable
returns-in-Ok-clause-durable c = λ (image : List ℕ). λ is.
    let one = one_image _ image (subst (λ (h : Held). IsImage h image) c.in_ok-medium.ensures is) in
    subst (λ (h : Held). image ≡ h.bytes) (sym c.in_ok-medium.ensures) one
