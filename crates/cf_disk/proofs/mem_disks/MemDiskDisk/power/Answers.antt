use Rattle.std.proofs.Common.{◌≡◌, List, ℕ, length, refl, sym, ◌∙◌, ap, subst, arith}
use Rattle.cf_disk.specs.Images.{Held, IsImage}
use Rattle.cf_disk.proofs.ImageLaws.{left_image, one_image}
use Rattle.cf_disk.proofs.mem_disks.MemDiskDisk.power.Goals as goal

pub returns-clause-left : goal.returns-clause-left
returns-clause-left c = rw c.power.ensures.is (left_image c.args.choice c.args.self.now.medium c.args.self.now.whole)

pub returns-clause-durable : goal.returns-clause-durable
returns-clause-durable c = λ (image : List ℕ). λ is.
    let one = one_image _ image (subst (λ (h : Held). IsImage h image) c.power.ensures.is is) in
    subst (λ (h : Held). image ≡ h.bytes) (sym c.power.ensures.is) one

pub returns-clause-powers : goal.returns-clause-powers
returns-clause-powers c = record {
  size = ap (λ (h : Held). length h.bytes) c.power.ensures.is ∙ (left_image c.args.choice c.args.self.now.medium c.args.self.now.whole).size ∙ sym c.args.self.now.whole.reads_one.size;
  later = omega arith;
  since = λ t image le left. absurd left;
  adds = tt;
  written = refl;
  faults = refl;
  armed = refl;
  settings = refl;
}
