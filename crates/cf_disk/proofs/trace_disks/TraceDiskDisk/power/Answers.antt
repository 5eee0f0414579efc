use Rattle.std.proofs.Common.{◌≡◌, List, ℕ, ◌≤◌, [], length, refl, sym, ◌∙◌, ap, subst, arith}
use Rattle.cf_disk.specs.declared.trails.Head.{Head}
use Rattle.cf_disk.specs.Images.{Held, IsImage, durable, left_by}
use Rattle.cf_disk.specs.PowerBooks.{PowerBook}
use Rattle.cf_disk.specs.Trails.{Trail}
use Rattle.cf_disk.specs.TraceState.{Since, moment_of}
use Rattle.cf_disk.proofs.ImageLaws.{left_image, one_image, durable_whole}
use Rattle.cf_disk.proofs.TraceLaws.{run_none, moment_power, since_power, adds_power}
use Rattle.cf_disk.proofs.trace_disks.TraceDiskDisk.power.Goals as goal

pub copy_to-requires : goal.copy_to-requires
copy_to-requires c =
    let left = ap (λ (h : Held). length h.bytes) c.power.ensures.is ∙ (left_image c.args.choice c.args.self.now.medium c.args.self.now.whole).size in
    omega (arith, c.args.self.now.same, left, c.args.self.now.whole.reads_one.size)

pub add-requires : goal.add-requires
add-requires c =
    let left = ap (λ (h : Held). length h.bytes) c.power.ensures.is ∙ (left_image c.args.choice c.args.self.now.medium c.args.self.now.whole).size in
    omega (arith, c.args.self.now.same, c.args.self.now.sizes, left, ap length c.copy_to.ensures, ap length c.deref.ensures.value, c.args.self.now.whole.reads_one.size)

pub invariant_of-self-clause-whole : goal.invariant_of-self-clause-whole
invariant_of-self-clause-whole c = rw c.power.ensures.is (durable_whole (left_by c.args.choice c.args.self.now.medium))

pub invariant_of-self-clause-traced : goal.invariant_of-self-clause-traced
invariant_of-self-clause-traced c =
    let start : c.copy_to.new.out.items ≡ left_by c.args.choice c.args.self.now.medium = c.copy_to.ensures ∙ ap (λ (h : Held). h.bytes) c.power.ensures.is in
    let none : c.clear.new.self.calls ≡ [] = ap (λ (t : Trail). t.calls) c.clear.ensures in
    rw (c.power.ensures.is, none, start) (sym (run_none (durable (left_by c.args.choice c.args.self.now.medium))))

pub invariant_of-self-clause-sizes : goal.invariant_of-self-clause-sizes
invariant_of-self-clause-sizes c =
    let left = ap (λ (h : Held). length h.bytes) c.power.ensures.is ∙ (left_image c.args.choice c.args.self.now.medium c.args.self.now.whole).size in
    omega (arith, ap (λ (b : PowerBook). b.size) c.add.ensures, c.args.self.now.same, c.args.self.now.sizes, left, ap length c.copy_to.ensures, c.args.self.now.whole.reads_one.size)

pub returns-clause-left : goal.returns-clause-left
returns-clause-left c = rw c.power.ensures.is (left_image c.args.choice c.args.self.now.medium c.args.self.now.whole)

pub returns-clause-durable : goal.returns-clause-durable
returns-clause-durable c = λ (image : List ℕ). λ is.
    let one = one_image _ image (subst (λ (h : Held). IsImage h image) c.power.ensures.is is) in
    subst (λ (h : Held). image ≡ h.bytes) (sym c.power.ensures.is) one

pub returns-clause-powers : goal.returns-clause-powers
returns-clause-powers c = record {
  size = ap (λ (h : Held). length h.bytes) c.power.ensures.is ∙ (left_image c.args.choice c.args.self.now.medium c.args.self.now.whole).size ∙ sym c.args.self.now.whole.reads_one.size;
  later =
      let none : length c.clear.new.self.calls ≡ 0 = ap (λ (t : Trail). length t.calls) c.clear.ensures in
      rw (none, sym c.len.ensures) (moment_power c.args.self.now.before c.moments_after-self.result c.len.result c.len.type_inv c.moments_after-self.ensures.small c.moments_after-self.ensures.moves);
  since = λ (t : ℕ). λ (image : List ℕ). λ le left.
      let none : c.clear.new.self.calls ≡ [] = ap (λ (u : Trail). u.calls) c.clear.ensures in
      absurd (since_power c.args.self.now.before c.moments_after-self.result (durable c.copy_to.new.out.items) c.len.result t image
      (subst (λ (n : ℕ). t ≤ moment_of c.args.self.now.before n) (sym c.len.ensures) le) c.moments_after-self.ensures.moves
      (subst (λ (l : List (Head × List ℕ)). Since c.moments_after-self.result (durable c.copy_to.new.out.items) l t image) none left));
  adds = adds_power c.args.choice c.deref.result.now c.power.new.self.bytes c.args.self.now.powers c.add.new.self c.add.ensures (c.deref.ensures.value ∙ c.copy_to.ensures);
  written = refl;
  faults = refl;
  armed = refl;
  settings = refl;
}
