use Rattle.std.proofs.Common.{◌+◌, ◌*◌, ◌≤◌, ℕ, List, length, ◌∙◌, ap, arith, sym, subst}
use Rattle.cf_disk.specs.Fronts.{filled}
use Rattle.cf_disk.specs.Splice.{over}
use Rattle.cf_volume_plain.proofs.PlainSteps.{front_after, front_long, front_put}
use Rattle.cf_volume_plain.specs.Plains.{Blocks, IsFront}
use Rattle.std.specs.Vec.{vec_capacity}
use Rattle.cf_volume_plain.proofs.plains.Plain.put.Goals as goal

pub invariant_of-self : goal.invariant_of-self
invariant_of-self c =
    let i = c.self.inside in
    let low : 4096 * c.args.cluster + 4096 ≤ 4096 * i.clusters = omega (arith, c.requires, ap (λ (b : Blocks). length b.bytes) c.self.view_is, front_long i.clusters (vec_capacity i.bytes) i.bytes.items c.self.invariant) in
    subst (λ (l : List ℕ). IsFront i.clusters (vec_capacity c.put_block.new.bytes) l) (sym c.put_block.ensures.items)
    (front_after i.clusters (vec_capacity i.bytes) c.args.cluster i.bytes.items c.args.block.now c.self.invariant c.told-block low (vec_capacity c.put_block.new.bytes) c.put_block.ensures.capacity)

pub returns : goal.returns
returns c =
    let i = c.self.inside in
    let low : 4096 * c.args.cluster + 4096 ≤ 4096 * i.clusters = omega (arith, c.requires, ap (λ (b : Blocks). length b.bytes) c.self.view_is, front_long i.clusters (vec_capacity i.bytes) i.bytes.items c.self.invariant) in
    let bytes =
    ap (filled (4096 * i.clusters) 0) c.put_block.ensures.items
    ∙ front_put i.clusters (vec_capacity i.bytes) c.args.cluster i.bytes.items c.args.block.now c.self.invariant c.told-block low
    ∙ ap (λ (b : Blocks). over (4096 * c.args.cluster) c.args.block.now b.bytes) c.self.view_is in
    λ j. record { bytes = bytes j; quota = (c.self.view_is j).quota; aim = (c.self.view_is j).aim }
