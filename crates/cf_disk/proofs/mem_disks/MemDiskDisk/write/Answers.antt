use Rattle.std.proofs.Common.{List, ℕ, subst}
use Rattle.cf_disk.specs.Images.{Held, IsImage}
use Rattle.cf_disk.proofs.ImageLaws.{image_near}
use Rattle.cf_disk.proofs.mem_disks.MemDiskDisk.write.Goals as goal

pub returns-then-is_spent-clause-crash : goal.returns-then-is_spent-clause-crash
returns-then-is_spent-clause-crash c = λ (image : List ℕ). λ is. image_near c.args.at c.args.bytes.now image c.args.self.now.medium c.requires c.args.self.now.whole
    (subst (λ (h : Held). IsImage h image) c.write.ensures.is is)

pub returns-clause-crash : goal.returns-clause-crash
returns-clause-crash c = λ (image : List ℕ). λ is. image_near c.args.at c.args.bytes.now image c.args.self.now.medium c.requires c.args.self.now.whole
    (subst (λ (h : Held). IsImage h image) c.write.ensures.is is)
