use Rattle.std.proofs.Common.{◌-◌, ◌<◌, Bool, true, List, [], length, map, get_or, set, replicate, refl, sym, ◌∙◌, ap, arith}
use Rattle.std.specs.Prelude.{vec_capacity}
use Rattle.std.proofs.lemmas.List.{length-map}
use Rattle.cf_disk.specs.Splice.{over}
use Rattle.cf_disk.specs.Writing.{flags_of, Written}
use Rattle.cf_disk.specs.declared.written_bytes.PageMark.{PageMark}
use Rattle.cf_disk.specs.declared.written_bytes.PageMark.TheVariants.{Clean, Whole, Part}
use Rattle.cf_disk.proofs.WritingLaws.{clean_page, clean_writing, mark_at, part_page, part_room, part_writing, started_room, whole_again, whole_page, whole_writing, written_same}
use Rattle.cf_disk.proofs.written_bytes.WrittenBytes.note.Goals as goal

pub invariant_of-self : goal.invariant_of-self
invariant_of-self c =
    let i = c.self.inside in
    let lt : c.args.page < length i.marks.items = omega (arith, c.requires.page, ap (λ (w : Written). length w.pages) c.self.view_is, length-map i.marks.items (flags_of i.flags.items)) in
    written_same i.most (vec_capacity i.marks) (vec_capacity i.flags) _ _ _ _ _ _ (whole_writing i.most (vec_capacity i.marks) (vec_capacity i.flags) i.marks.items i.flags.items c.self.invariant c.args.page lt)
    c.put_at_vec.ensures.items refl (omega (arith, c.put_at_vec.ensures.capacity)) (omega arith)

pub returns-then-to-from-eq-PAGE : goal.returns-then-to-from-eq-PAGE
returns-then-to-from-eq-PAGE c =
    let i = c.self.inside in
    let lt : c.args.page < length i.marks.items = omega (arith, c.requires.page, ap (λ (w : Written). length w.pages) c.self.view_is, length-map i.marks.items (flags_of i.flags.items)) in
    (λ j. record {
      most = i.most;
      pages = (
          ap (λ (l : List PageMark). map (flags_of i.flags.items) l) c.put_at_vec.ensures.items
          ∙ whole_page i.most (vec_capacity i.marks) (vec_capacity i.flags) i.marks.items i.flags.items c.self.invariant c.args.page c.args.from c.args.to lt c.requires.order c.requires.inside c.if-to-from-eq-PAGE.true
          ) j;
    })
    ∙ ap (λ (w : Written). record { most = w.most; pages = set w.pages c.args.page (over c.args.from (replicate (c.args.to - c.args.from) true) (get_or w.pages c.args.page [])) }) c.self.view_is

pub overflow_add-start : goal.overflow_add-start
overflow_add-start c =
    let i = c.self.inside in
    let lt : c.args.page < length i.marks.items = omega (arith, c.requires.page, ap (λ (w : Written). length w.pages) c.self.view_is, length-map i.marks.items (flags_of i.flags.items)) in
    let is = mark_at i.marks.items c.args.page c.index.result.now (Part c.in-Part.start) lt c.index.ensures c.in-Part.is in
    omega (arith, c.self.invariant.inside c.args.page c.in-Part.start is, c.self.invariant.few, c.self.invariant.fits, c.self.invariant.small, c.requires.order, c.requires.inside)

pub mark_vec-requires : goal.mark_vec-requires
mark_vec-requires c =
    let i = c.self.inside in
    let lt : c.args.page < length i.marks.items = omega (arith, c.requires.page, ap (λ (w : Written). length w.pages) c.self.view_is, length-map i.marks.items (flags_of i.flags.items)) in
    let is = mark_at i.marks.items c.args.page c.index.result.now (Part c.in-Part.start) lt c.index.ensures c.in-Part.is in
    part_room i.most (vec_capacity i.marks) (vec_capacity i.flags) i.marks.items i.flags.items c.self.invariant c.args.page c.in-Part.start c.args.from c.args.to lt is c.requires.order c.requires.inside

pub invariant_of-self-in-Part : goal.invariant_of-self-in-Part
invariant_of-self-in-Part c =
    let i = c.self.inside in
    let lt : c.args.page < length i.marks.items = omega (arith, c.requires.page, ap (λ (w : Written). length w.pages) c.self.view_is, length-map i.marks.items (flags_of i.flags.items)) in
    let is = mark_at i.marks.items c.args.page c.index.result.now (Part c.in-Part.start) lt c.index.ensures c.in-Part.is in
    written_same i.most (vec_capacity i.marks) (vec_capacity i.flags) _ _ _ _ _ _
    (part_writing i.most (vec_capacity i.marks) (vec_capacity i.flags) i.marks.items i.flags.items c.self.invariant c.args.page c.in-Part.start c.args.from c.args.to lt is c.requires.order c.requires.inside)
    refl c.mark_vec.ensures.items (omega arith) (omega (arith, c.mark_vec.ensures.capacity))

pub fill_up-requires : goal.fill_up-requires
fill_up-requires c =
    let i = c.self.inside in
    let lt : c.args.page < length i.marks.items = omega (arith, c.requires.page, ap (λ (w : Written). length w.pages) c.self.view_is, length-map i.marks.items (flags_of i.flags.items)) in
    let is = mark_at i.marks.items c.args.page c.index.result.now Clean lt c.index.ensures c.in-Clean.is in
    omega (arith, started_room i.most (vec_capacity i.marks) (vec_capacity i.flags) i.marks.items i.flags.items c.self.invariant c.args.page lt is, c.len-start.ensures, i.flags.ok)

pub invariant_of-self-in-Clean : goal.invariant_of-self-in-Clean
invariant_of-self-in-Clean c =
    let i = c.self.inside in
    let lt : c.args.page < length i.marks.items = omega (arith, c.requires.page, ap (λ (w : Written). length w.pages) c.self.view_is, length-map i.marks.items (flags_of i.flags.items)) in
    let is = mark_at i.marks.items c.args.page c.index.result.now Clean lt c.index.ensures c.in-Clean.is in
    written_same i.most (vec_capacity i.marks) (vec_capacity i.flags) _ _ _ _ _ _
    (clean_writing i.most (vec_capacity i.marks) (vec_capacity i.flags) i.marks.items c.put_at_vec-in-Clean.new.items.items i.flags.items c.fill_up.new.items.items c.mark_vec-in-Clean.new.flags.items
    c.self.invariant c.args.page c.len-start.result c.args.from c.args.to lt is c.requires.order c.requires.inside (omega (arith, c.len-start.ensures, i.flags.ok)) c.put_at_vec-in-Clean.ensures.items
    c.fill_up.ensures.items c.mark_vec-in-Clean.ensures.items)
    refl refl (omega (arith, c.put_at_vec-in-Clean.ensures.capacity)) (omega (arith, c.fill_up.ensures.capacity, c.mark_vec-in-Clean.ensures.capacity))

pub returns-in-Whole : goal.returns-in-Whole
returns-in-Whole c =
    let i = c.self.inside in
    let lt : c.args.page < length i.marks.items = omega (arith, c.requires.page, ap (λ (w : Written). length w.pages) c.self.view_is, length-map i.marks.items (flags_of i.flags.items)) in
    let is = mark_at i.marks.items c.args.page c.index.result.now Whole lt c.index.ensures c.in-Whole.is in
    sym c.self.view_is
    ∙ (λ j. record {
      most = i.most;
      pages = whole_again i.most (vec_capacity i.marks) (vec_capacity i.flags) i.marks.items i.flags.items c.self.invariant c.args.page c.args.from c.args.to lt c.requires.order c.requires.inside is j;
    })
    ∙ ap (λ (w : Written). record { most = w.most; pages = set w.pages c.args.page (over c.args.from (replicate (c.args.to - c.args.from) true) (get_or w.pages c.args.page [])) }) c.self.view_is

pub returns-in-Part : goal.returns-in-Part
returns-in-Part c =
    let i = c.self.inside in
    let lt : c.args.page < length i.marks.items = omega (arith, c.requires.page, ap (λ (w : Written). length w.pages) c.self.view_is, length-map i.marks.items (flags_of i.flags.items)) in
    let is = mark_at i.marks.items c.args.page c.index.result.now (Part c.in-Part.start) lt c.index.ensures c.in-Part.is in
    (λ j. record {
      most = i.most;
      pages = (
          ap (λ (l : List Bool). map (flags_of l) i.marks.items) c.mark_vec.ensures.items
          ∙ part_page i.most (vec_capacity i.marks) (vec_capacity i.flags) i.marks.items i.flags.items c.self.invariant c.args.page c.in-Part.start c.args.from c.args.to lt is c.requires.order c.requires.inside
          ) j;
    })
    ∙ ap (λ (w : Written). record { most = w.most; pages = set w.pages c.args.page (over c.args.from (replicate (c.args.to - c.args.from) true) (get_or w.pages c.args.page [])) }) c.self.view_is

pub returns-in-Clean : goal.returns-in-Clean
returns-in-Clean c =
    let i = c.self.inside in
    let lt : c.args.page < length i.marks.items = omega (arith, c.requires.page, ap (λ (w : Written). length w.pages) c.self.view_is, length-map i.marks.items (flags_of i.flags.items)) in
    let is = mark_at i.marks.items c.args.page c.index.result.now Clean lt c.index.ensures c.in-Clean.is in
    (λ j. record {
      most = i.most;
      pages = clean_page i.most (vec_capacity i.marks) (vec_capacity i.flags) i.marks.items c.put_at_vec-in-Clean.new.items.items i.flags.items c.fill_up.new.items.items c.mark_vec-in-Clean.new.flags.items
          c.self.invariant c.args.page c.len-start.result c.args.from c.args.to lt is c.requires.order c.requires.inside (omega (arith, c.len-start.ensures, i.flags.ok)) c.put_at_vec-in-Clean.ensures.items
          c.fill_up.ensures.items c.mark_vec-in-Clean.ensures.items
          j;
    })
    ∙ ap (λ (w : Written). record { most = w.most; pages = set w.pages c.args.page (over c.args.from (replicate (c.args.to - c.args.from) true) (get_or w.pages c.args.page [])) }) c.self.view_is
