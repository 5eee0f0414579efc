use Rattle.std.proofs.Common.{List, ℕ, ◌∙◌, ap, arith}
use Rattle.std.specs.Prelude.{vec_capacity}
use Rattle.cf_disk.specs.Images.{Held, durable, left_by}
use Rattle.cf_disk.proofs.MediumLaws.{clean_held, clean_medium, now_whole}
use Rattle.cf_disk.proofs.media.Medium.power.Goals as goal

pub cut_vec-requires : goal.cut_vec-requires
cut_vec-requires c = c.self.invariant.sound

pub clear-requires : goal.clear-requires
clear-requires c = c.self.invariant.sound

pub invariant_of-self : goal.invariant_of-self
invariant_of-self c =
    let i = c.self.inside in
    clean_medium i.size c.cut_vec.new.bytes.items c.clear.new.self c.clear.ensures.clean (omega (arith, c.self.invariant.fits, c.cut_vec.ensures.size)) (vec_capacity c.cut_vec.new.bytes) c.clear.ensures.sound
    (omega (arith, c.self.invariant.inside, c.clear.ensures.most)) (omega (arith, c.self.invariant.room_is, c.cut_vec.ensures.capacity))

pub returns-clause-is : goal.returns-clause-is
returns-clause-is c =
    let i = c.self.inside in
    clean_held i.size c.cut_vec.new.bytes.items c.clear.new.self c.clear.ensures.clean (omega (arith, c.self.invariant.fits, c.cut_vec.ensures.size))
    ∙ ap (λ (l : List ℕ). durable l) (c.cut_vec.ensures.items i.size (vec_capacity i.bytes) c.self.invariant ∙ ap (λ (h : Held). left_by c.args.choice h) c.self.view_is)

pub returns-clause-whole : goal.returns-clause-whole
returns-clause-whole c =
    let i = c.self.inside in
    now_whole i.size (vec_capacity i.bytes) i.bytes.items i.pages c.self.invariant c.args.self.now c.self.view_is
