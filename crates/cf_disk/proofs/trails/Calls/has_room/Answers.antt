use Rattle.std.proofs.Common.{arith}
use Rattle.std.specs.Prelude.{vec_capacity}
use Rattle.std.proofs.lemmas.Bool.{leb-true, le-leb, ltb-true}
use Rattle.cf_disk.proofs.TrailLaws.{gives_room, room_calls, room_bytes}
use Rattle.cf_disk.proofs.trails.Calls.has_room.Goals as goal

pub returns-then-len-self : goal.returns-then-len-self
returns-then-len-self c =
    let i = c.self.inside in (
      λ yes. gives_room i.heads.items i.bytes.items i.most i.most_bytes (vec_capacity i.heads) (vec_capacity i.bytes) c.self.invariant c.args.self.now c.self.view_is c.args.len
          (omega (arith, c.if-len-self.true, c.len.ensures, i.heads.ok))
          (omega (arith, leb-true _ _ yes, c.len-then-len-self.ensures, i.bytes.ok)),
      λ has. le-leb _ _ (omega (
        arith,
        c.len-then-len-self.ensures,
        i.bytes.ok,
        room_bytes i.heads.items i.bytes.items i.most i.most_bytes (vec_capacity i.heads) (vec_capacity i.bytes) c.self.invariant c.args.self.now c.self.view_is c.args.len has,
      )),
    )

pub returns-else-len-self : goal.returns-else-len-self
returns-else-len-self c =
    let i = c.self.inside in (
      λ yes. absurd (omega (arith, ltb-true _ _ yes, c.if-len-self.false)),
      λ has. absurd (omega (
        arith,
        c.if-len-self.false,
        c.len.ensures,
        i.heads.ok,
        room_calls i.heads.items i.bytes.items i.most i.most_bytes (vec_capacity i.heads) (vec_capacity i.bytes) c.self.invariant c.args.self.now c.self.view_is c.args.len has,
      )),
    )
