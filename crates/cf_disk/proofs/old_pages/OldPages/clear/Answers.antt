use Rattle.std.proofs.Common.{refl, arith}
use Rattle.cf_disk.proofs.MarkLaws.{page_inside, clear_clean, clear_sound}
use Rattle.cf_disk.proofs.old_pages.OldPages.clear.Goals as goal

pub free_slots_vec-requires : goal.free_slots_vec-requires
free_slots_vec-requires c = page_inside c.args.self.now c.requires

pub cut_back-requires : goal.cut_back-requires
cut_back-requires c = c.requires.bytes_least

pub returns-clause-clean : goal.returns-clause-clean
returns-clause-clean c = clear_clean c.args.self.now c.free_slots_vec.new.slots.items c.requires c.free_slots_vec.ensures.freed c.free_slots_vec.ensures.others

pub returns-clause-sound : goal.returns-clause-sound
returns-clause-sound c = clear_sound c.args.self.now _ c.requires
    (clear_clean c.args.self.now c.free_slots_vec.new.slots.items c.requires c.free_slots_vec.ensures.freed c.free_slots_vec.ensures.others)
    c.free_slots_vec.ensures.size c.clear.ensures.items c.clear-2.ensures.items c.cut_back.ensures.size c.cut_back.ensures.stays c.forget.ensures refl
    (omega (arith, c.free_slots_vec.ensures.capacity)) (omega (arith, c.clear.ensures.capacity)) (omega (arith, c.clear-2.ensures.capacity)) c.cut_back.ensures.capacity
