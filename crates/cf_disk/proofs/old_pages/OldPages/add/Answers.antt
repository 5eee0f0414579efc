use Rattle.std.proofs.Common.{◌≡◌, suc, length, refl, arith}
use Rattle.cf_disk.proofs.PoolLaws.{add_keeps, add_sound, room_page}
use Rattle.cf_disk.proofs.old_pages.OldPages.add.Goals as goal

pub push_reserved-requires : goal.push_reserved-requires
push_reserved-requires c =
    let o = c.args.self.now in
    omega (arith, o.pages.ok, c.requires.sound.pages_room, room_page o c.args.page c.requires.sound c.requires.reached c.requires.is_free)

pub store_page-start-requires-clause-room : goal.store_page-start-requires-clause-room
store_page-start-requires-clause-room c =
    let o = c.args.self.now in
    omega (arith, c.requires.sound.bytes_most, c.requires.sound.bytes_room, room_page o c.args.page c.requires.sound c.requires.reached c.requires.is_free)

pub push_reserved-requires-2 : goal.push_reserved-requires-2
push_reserved-requires-2 c =
    let o = c.args.self.now in
    omega (arith, o.starts.ok, c.requires.sound.starts_size, c.requires.sound.starts_room, room_page o c.args.page c.requires.sound c.requires.reached c.requires.is_free)

pub add_clean-requires : goal.add_clean-requires
add_clean-requires c =
    let o = c.args.self.now in
    omega (arith, c.requires.sound.written_size, c.requires.sound.written_most, room_page o c.args.page c.requires.sound c.requires.reached c.requires.is_free)

pub returns-clause-sound : goal.returns-clause-sound
returns-clause-sound c =
    let o = c.args.self.now in
    let used : c.len-slot.result ≡ suc (length o.pages.items) = omega (arith, o.pages.ok, c.len-slot.ensures, c.push_reserved.ensures.len) in
    add_sound o _ c.args.bytes.now c.args.page (length o.pages.items) c.len-slot.result c.store_page-start.result c.requires.sound refl used c.requires.reached c.requires.is_free
    c.store_page-start.ensures.stores c.put_at_vec.ensures.items c.push_reserved.ensures.items c.push_reserved-2.ensures.items c.add_clean.ensures refl
    (omega (arith, c.put_at_vec.ensures.capacity)) (omega (arith, c.push_reserved.ensures.capacity)) (omega (arith, c.push_reserved-2.ensures.capacity))
    c.store_page-start.ensures.capacity

pub returns-clause-keeps : goal.returns-clause-keeps
returns-clause-keeps c =
    let o = c.args.self.now in
    let used : c.len-slot.result ≡ suc (length o.pages.items) = omega (arith, o.pages.ok, c.len-slot.ensures, c.push_reserved.ensures.len) in
    add_keeps o _ c.args.bytes.now c.args.page (length o.pages.items) c.len-slot.result c.store_page-start.result c.requires.sound refl used c.requires.reached c.requires.is_free
    c.store_page-start.ensures.stores c.put_at_vec.ensures.items c.push_reserved.ensures.items c.push_reserved-2.ensures.items c.add_clean.ensures refl
