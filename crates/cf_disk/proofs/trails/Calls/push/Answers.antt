use Rattle.std.proofs.Common.{◌≡◌, length, ◌++◌, arith}
use Rattle.std.specs.Prelude.{vec_capacity}
use Rattle.cf_disk.proofs.TrailLaws.{room_calls, room_bytes, parts_pushed, trail_pushed}
use Rattle.cf_disk.proofs.trails.Calls.push.Goals as goal

pub push_reserved-requires : goal.push_reserved-requires
push_reserved-requires c =
    let i = c.self.inside in
    omega (
      arith,
      i.heads.ok,
      c.self.invariant.room_is,
      room_calls i.heads.items i.bytes.items i.most i.most_bytes (vec_capacity i.heads) (vec_capacity i.bytes) c.self.invariant c.args.self.now c.self.view_is (length c.args.bytes.now) c.requires.room,
    )

pub unwrap-requires : goal.unwrap-requires
unwrap-requires c =
    let i = c.self.inside in
    c.extend_from_slice.ensures.succeeds (omega (
      arith,
      i.bytes.ok,
      c.self.invariant.bytes_room_is,
      room_bytes i.heads.items i.bytes.items i.most i.most_bytes (vec_capacity i.heads) (vec_capacity i.bytes) c.self.invariant c.args.self.now c.self.view_is (length c.args.bytes.now) c.requires.room,
    ))

pub invariant_of-self : goal.invariant_of-self
invariant_of-self c =
    let i = c.self.inside in
    let added : c.extend_from_slice.new.self.items ≡ i.bytes.items ++ c.args.bytes.now = rw c.unwrap.ensures at c.extend_from_slice.ensures.items in
    parts_pushed i.heads.items i.bytes.items i.most i.most_bytes (vec_capacity i.heads) (vec_capacity i.bytes) c.self.invariant c.args.self.now c.self.view_is
    c.args.head c.args.bytes.now c.push_reserved.new.self.items c.extend_from_slice.new.self.items (vec_capacity c.push_reserved.new.self) (vec_capacity c.extend_from_slice.new.self)
    c.requires.room c.requires.size c.push_reserved.ensures.items added (omega (arith, c.push_reserved.ensures.capacity)) c.extend_from_slice.ensures.capacity

pub returns : goal.returns
returns c =
    let i = c.self.inside in
    let added : c.extend_from_slice.new.self.items ≡ i.bytes.items ++ c.args.bytes.now = rw c.unwrap.ensures at c.extend_from_slice.ensures.items in
    trail_pushed i.heads.items i.bytes.items i.most i.most_bytes (vec_capacity i.heads) (vec_capacity i.bytes) c.self.invariant c.args.self.now c.self.view_is
    c.args.head c.args.bytes.now c.push_reserved.new.self.items c.extend_from_slice.new.self.items c.requires.size c.push_reserved.ensures.items added
