use Rattle.std.proofs.Common.{◌≡◌, ◌++◌, ◌∙◌, arith}
use Rattle.std.specs.Prelude.{vec_capacity}
use Rattle.cf_disk.proofs.PowerLaws.{size_is, image_fits, images_added, book_added, book_full}
use Rattle.cf_disk.proofs.powers.KeptPowers.add.Goals as goal

pub unwrap-requires : goal.unwrap-requires
unwrap-requires c =
    let i = c.self.inside in
    let size = size_is i.choices.items i.images.items i.size i.most (vec_capacity i.choices) (vec_capacity i.images) i.told c.self.invariant c.args.self.now c.self.view_is in
    let fits = image_fits i.choices.items i.images.items i.size i.most (vec_capacity i.choices) (vec_capacity i.images) i.told c.self.invariant c.args.self.now c.self.view_is
    (omega (arith, c.if-len-self.true, c.len.ensures, i.choices.ok)) in
    c.extend_from_slice.ensures.succeeds (omega (arith, i.images.ok, fits, size, c.requires))

pub invariant_of-self : goal.invariant_of-self
invariant_of-self c =
    let i = c.self.inside in
    let size = size_is i.choices.items i.images.items i.size i.most (vec_capacity i.choices) (vec_capacity i.images) i.told c.self.invariant c.args.self.now c.self.view_is in
    let more : c.extend_from_slice.new.self.items ≡ i.images.items ++ c.args.image.now = rw c.unwrap.ensures at c.extend_from_slice.ensures.items in
    images_added i.choices.items i.images.items i.size i.most (vec_capacity i.choices) (vec_capacity i.images) i.told c.self.invariant c.args.self.now c.self.view_is
    c.args.choice c.args.image.now c.push_reserved.new.self.items c.extend_from_slice.new.self.items (vec_capacity c.push_reserved.new.self) (vec_capacity c.extend_from_slice.new.self)
    (omega (arith, c.if-len-self.true, c.len.ensures, i.choices.ok)) (c.requires ∙ size) c.push_reserved.ensures.items more (omega (arith, c.push_reserved.ensures.capacity)) c.extend_from_slice.ensures.capacity

pub returns-then-len-self : goal.returns-then-len-self
returns-then-len-self c =
    let i = c.self.inside in
    let size = size_is i.choices.items i.images.items i.size i.most (vec_capacity i.choices) (vec_capacity i.images) i.told c.self.invariant c.args.self.now c.self.view_is in
    let more : c.extend_from_slice.new.self.items ≡ i.images.items ++ c.args.image.now = rw c.unwrap.ensures at c.extend_from_slice.ensures.items in
    book_added i.choices.items i.images.items i.size i.most (vec_capacity i.choices) (vec_capacity i.images) i.told c.self.invariant c.args.self.now c.self.view_is
    c.args.choice c.args.image.now c.push_reserved.new.self.items c.extend_from_slice.new.self.items
    (omega (arith, c.if-len-self.true, c.len.ensures, i.choices.ok)) (c.requires ∙ size) c.push_reserved.ensures.items more

pub returns-else-len-self : goal.returns-else-len-self
returns-else-len-self c =
    let i = c.self.inside in
    book_full i.choices.items i.images.items i.size i.most (vec_capacity i.choices) (vec_capacity i.images) i.told c.self.invariant c.args.self.now c.self.view_is
    c.args.choice c.args.image.now (omega (arith, c.if-len-self.false, c.len.ensures, i.choices.ok))
