use Rattle.std.proofs.Common.{◌≡◌, ◌+◌, ◌-◌, ◌<◌, ℕ, true, false, replicate, [], length, take, drop, get_or, refl, sym, ◌∙◌, ap, arith}
use Rattle.std.specs.Prelude.{vec_capacity}
use Rattle.std.proofs.lemmas.List.{length-map}
use Rattle.cf_disk.specs.Writing.{flags_of, Written}
use Rattle.cf_disk.specs.declared.written_bytes.PageMark.TheVariants.{Clean, Whole, Part}
use Rattle.cf_disk.proofs.WritingLaws.{read_page, read_room}
use Rattle.cf_disk.proofs.written_bytes.WrittenBytes.copy_flags.Goals as goal

pub overflow_add-start : goal.overflow_add-start
overflow_add-start c =
    let i = c.self.inside in
    let lt : c.args.page < length i.marks.items = omega (arith, c.requires.page, ap (λ (w : Written). length w.pages) c.self.view_is, length-map i.marks.items (flags_of i.flags.items)) in
    let room = read_room i.most (vec_capacity i.marks) (vec_capacity i.flags) i.marks.items i.flags.items c.self.invariant c.args.page c.index.result.now (Part c.in-Part.start) lt c.index.ensures c.in-Part.is c.in-Part.start refl in
    omega (arith, room.0, room.1)

pub slice_bounds-copy_from_slice-end : goal.slice_bounds-copy_from_slice-end
slice_bounds-copy_from_slice-end c =
    let i = c.self.inside in
    let lt : c.args.page < length i.marks.items = omega (arith, c.requires.page, ap (λ (w : Written). length w.pages) c.self.view_is, length-map i.marks.items (flags_of i.flags.items)) in
    let room = read_room i.most (vec_capacity i.marks) (vec_capacity i.flags) i.marks.items i.flags.items c.self.invariant c.args.page c.index.result.now (Part c.in-Part.start) lt c.index.ensures c.in-Part.is c.in-Part.start refl in
    omega (arith, room.0, ap length c.deref.ensures.value)

pub returns-in-Clean : goal.returns-in-Clean
returns-in-Clean c =
    let i = c.self.inside in
    let lt : c.args.page < length i.marks.items = omega (arith, c.requires.page, ap (λ (w : Written). length w.pages) c.self.view_is, length-map i.marks.items (flags_of i.flags.items)) in
    c.fill.ensures
    ∙ ap (λ (n : ℕ). replicate n false) c.requires.size
    ∙ sym (read_page i.most (vec_capacity i.marks) (vec_capacity i.flags) i.marks.items i.flags.items c.self.invariant c.args.page c.index.result.now Clean lt c.index.ensures c.in-Clean.is)
    ∙ ap (λ (w : Written). get_or w.pages c.args.page []) c.self.view_is

pub returns-in-Whole : goal.returns-in-Whole
returns-in-Whole c =
    let i = c.self.inside in
    let lt : c.args.page < length i.marks.items = omega (arith, c.requires.page, ap (λ (w : Written). length w.pages) c.self.view_is, length-map i.marks.items (flags_of i.flags.items)) in
    c.fill-in-Whole.ensures
    ∙ ap (λ (n : ℕ). replicate n true) c.requires.size
    ∙ sym (read_page i.most (vec_capacity i.marks) (vec_capacity i.flags) i.marks.items i.flags.items c.self.invariant c.args.page c.index.result.now Whole lt c.index.ensures c.in-Whole.is)
    ∙ ap (λ (w : Written). get_or w.pages c.args.page []) c.self.view_is

pub returns-in-Part : goal.returns-in-Part
returns-in-Part c =
    let i = c.self.inside in
    let lt : c.args.page < length i.marks.items = omega (arith, c.requires.page, ap (λ (w : Written). length w.pages) c.self.view_is, length-map i.marks.items (flags_of i.flags.items)) in
    let long : c.in-Part.start + 4096 - c.in-Part.start ≡ 4096 = omega arith in
    c.copy_from_slice.ensures.after
    ∙ (λ j. take (long j) (drop c.in-Part.start (c.deref.ensures.value j)))
    ∙ sym (read_page i.most (vec_capacity i.marks) (vec_capacity i.flags) i.marks.items i.flags.items c.self.invariant c.args.page c.index.result.now (Part c.in-Part.start) lt c.index.ensures c.in-Part.is)
    ∙ ap (λ (w : Written). get_or w.pages c.args.page []) c.self.view_is
