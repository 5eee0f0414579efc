use Rattle.std.proofs.Common.{◌<◌, length, refl, ap, arith}
use Rattle.std.specs.Prelude.{vec_capacity}
use Rattle.std.proofs.lemmas.List.{length-map}
use Rattle.cf_disk.specs.Writing.{flags_of, Written}
use Rattle.cf_disk.proofs.WritingLaws.{pushed_writing, written_same}
use Rattle.cf_disk.proofs.written_bytes.WrittenBytes.add_clean.Goals as goal

pub invariant_of-self : goal.invariant_of-self
invariant_of-self c =
    let i = c.self.inside in
    let free : length i.marks.items < i.most =
    omega (arith, c.requires, ap (λ (w : Written). length w.pages) c.self.view_is, ap (λ (w : Written). w.most) c.self.view_is, length-map i.marks.items (flags_of i.flags.items)) in
    written_same i.most (vec_capacity i.marks) (vec_capacity i.flags) _ _ _ _ _ _ (pushed_writing i.most (vec_capacity i.marks) (vec_capacity i.flags) i.marks.items i.flags.items c.self.invariant free)
    c.push_reserved.ensures.items refl (omega (arith, c.push_reserved.ensures.capacity)) (omega arith)
