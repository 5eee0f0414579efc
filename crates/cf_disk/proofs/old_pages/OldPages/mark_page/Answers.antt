use Rattle.std.proofs.Common.{◌≡◌, ℕ, suc, ◌-◌, List, get_or, refl, ap, arith}
use Rattle.cf_disk.proofs.MarkLaws.{mark_marks, mark_sound}
use Rattle.cf_disk.proofs.old_pages.OldPages.mark_page.Goals as goal

pub note-requires-clause-page : goal.note-requires-clause-page
note-requires-clause-page c =
    let o = c.args.self.now in
    let used : get_or o.slots.items c.args.page 0 ≡ suc (c.number_at-number.result - 1) =
    omega (arith, c.number_at-number.ensures, ap (λ (l : List ℕ). get_or l c.args.page 0) c.deref.ensures.value, c.requires.kept) in
    omega (arith, (c.requires.sound.back c.args.page (c.number_at-number.result - 1) used).0, c.requires.sound.written_size)

pub returns-clause-sound : goal.returns-clause-sound
returns-clause-sound c =
    let o = c.args.self.now in
    let used : get_or o.slots.items c.args.page 0 ≡ suc (c.number_at-number.result - 1) =
    omega (arith, c.number_at-number.ensures, ap (λ (l : List ℕ). get_or l c.args.page 0) c.deref.ensures.value, c.requires.kept) in
    mark_sound o _ c.args.page (c.number_at-number.result - 1) c.args.from c.args.to c.requires.sound used c.requires.low c.requires.order c.requires.high
    refl refl refl refl c.note.ensures refl (omega arith) (omega arith) (omega arith) (omega arith)

pub returns-clause-marks : goal.returns-clause-marks
returns-clause-marks c =
    let o = c.args.self.now in
    let used : get_or o.slots.items c.args.page 0 ≡ suc (c.number_at-number.result - 1) =
    omega (arith, c.number_at-number.ensures, ap (λ (l : List ℕ). get_or l c.args.page 0) c.deref.ensures.value, c.requires.kept) in
    mark_marks o _ c.args.page (c.number_at-number.result - 1) c.args.from c.args.to c.requires.sound used c.requires.low c.requires.order c.requires.high
    refl refl refl refl c.note.ensures refl
