use Rattle.std.proofs.Common.{arith}
use Rattle.std.specs.Prelude.{vec_capacity}
use Rattle.cf_disk.proofs.TrailLaws.{calls_are}
use Rattle.cf_disk.proofs.trails.Calls.len.Goals as goal

pub returns : goal.returns
returns c = omega (arith, c.len.ensures, c.self.inside.heads.ok, calls_are c.self.inside.heads.items c.self.inside.bytes.items c.self.inside.most c.self.inside.most_bytes (vec_capacity c.self.inside.heads) (vec_capacity c.self.inside.bytes) c.self.invariant c.args.self.now c.self.view_is)
