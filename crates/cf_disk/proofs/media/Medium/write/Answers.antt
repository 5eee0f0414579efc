use Rattle.std.proofs.Common.{◌+◌, length, refl, sym, ◌∙◌, ap, subst, arith}
use Rattle.std.specs.Prelude.{vec_capacity}
use Rattle.cf_disk.specs.Images.{Held, IsWhole, written}
use Rattle.cf_disk.proofs.FrontLaws.{length-filled}
use Rattle.cf_disk.proofs.ImageLaws.{written_whole}
use Rattle.cf_disk.proofs.MediumLaws.{now_size, now_whole, written_held, written_medium}
use Rattle.cf_disk.proofs.media.Medium.write.Goals as goal

pub overflow_add-end : goal.overflow_add-end
overflow_add-end c =
    let i = c.self.inside in
    omega (arith, now_size i.size (vec_capacity i.bytes) i.bytes.items i.pages c.self.invariant c.args.self.now c.self.view_is, c.requires, c.self.invariant.inside, c.self.invariant.sound.small)

pub fill_up-requires : goal.fill_up-requires
fill_up-requires c =
    let i = c.self.inside in
    omega (arith, now_size i.size (vec_capacity i.bytes) i.bytes.items i.pages c.self.invariant c.args.self.now c.self.view_is, c.requires, c.self.invariant.room_is)

pub keep-requires-clause-sound : goal.keep-requires-clause-sound
keep-requires-clause-sound c = c.self.invariant.sound

pub keep-requires-clause-inside : goal.keep-requires-clause-inside
keep-requires-clause-inside c =
    let i = c.self.inside in
    omega (arith, now_size i.size (vec_capacity i.bytes) i.bytes.items i.pages c.self.invariant c.args.self.now c.self.view_is, c.requires, c.self.invariant.inside)

pub mark-requires-clause-sound : goal.mark-requires-clause-sound
mark-requires-clause-sound c = c.keep.ensures.sound

pub mark-requires-clause-inside : goal.mark-requires-clause-inside
mark-requires-clause-inside c =
    let i = c.self.inside in
    omega (arith, now_size i.size (vec_capacity i.bytes) i.bytes.items i.pages c.self.invariant c.args.self.now c.self.view_is, c.requires, c.self.invariant.inside, c.keep.ensures.keeps.most)

pub mark-requires-clause-kept : goal.mark-requires-clause-kept
mark-requires-clause-kept c = c.keep.ensures.keeps.kept

pub put_vec-requires : goal.put_vec-requires
put_vec-requires c = omega (arith, ap length c.fill_up.ensures.items, length-filled 0 (c.args.at + length c.args.bytes.now) c.self.inside.bytes.items)

pub invariant_of-self : goal.invariant_of-self
invariant_of-self c =
    let i = c.self.inside in
    let size = now_size i.size (vec_capacity i.bytes) i.bytes.items i.pages c.self.invariant c.args.self.now c.self.view_is in
    written_medium i.size (vec_capacity i.bytes) i.bytes.items i.pages c.self.invariant c.args.at (c.args.at + length c.args.bytes.now) c.args.bytes.now
    c.deref.result.now c.fill_up.new.items.items c.put_vec.new.bytes.items c.keep.new.self c.mark.new.self (omega (arith, size, c.requires)) refl c.deref.ensures.value
    c.keep.ensures.keeps c.fill_up.ensures.items c.mark.ensures.marks c.put_vec.ensures.items
    (vec_capacity c.put_vec.new.bytes) c.mark.ensures.sound (omega (arith, c.self.invariant.room_is, c.fill_up.ensures.capacity, c.put_vec.ensures.capacity))

pub returns-clause-is : goal.returns-clause-is
returns-clause-is c =
    let i = c.self.inside in
    let size = now_size i.size (vec_capacity i.bytes) i.bytes.items i.pages c.self.invariant c.args.self.now c.self.view_is in
    written_held i.size (vec_capacity i.bytes) i.bytes.items i.pages c.self.invariant c.args.at (c.args.at + length c.args.bytes.now) c.args.bytes.now
    c.deref.result.now c.fill_up.new.items.items c.put_vec.new.bytes.items c.keep.new.self c.mark.new.self (omega (arith, size, c.requires)) refl c.deref.ensures.value
    c.keep.ensures.keeps c.fill_up.ensures.items c.mark.ensures.marks c.put_vec.ensures.items
    ∙ ap (λ (h : Held). written c.args.at c.args.bytes.now h) c.self.view_is

pub returns-clause-whole : goal.returns-clause-whole
returns-clause-whole c =
    let i = c.self.inside in
    let whole = now_whole i.size (vec_capacity i.bytes) i.bytes.items i.pages c.self.invariant c.args.self.now c.self.view_is in
    let size = now_size i.size (vec_capacity i.bytes) i.bytes.items i.pages c.self.invariant c.args.self.now c.self.view_is in
    let is =
    written_held i.size (vec_capacity i.bytes) i.bytes.items i.pages c.self.invariant c.args.at (c.args.at + length c.args.bytes.now) c.args.bytes.now
    c.deref.result.now c.fill_up.new.items.items c.put_vec.new.bytes.items c.keep.new.self c.mark.new.self (omega (arith, size, c.requires)) refl c.deref.ensures.value
    c.keep.ensures.keeps c.fill_up.ensures.items c.mark.ensures.marks c.put_vec.ensures.items
    ∙ ap (λ (h : Held). written c.args.at c.args.bytes.now h) c.self.view_is in
    (whole, subst (λ (h : Held). IsWhole h) (sym is) (written_whole c.args.at c.args.bytes.now c.args.self.now c.requires whole))
