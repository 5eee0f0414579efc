use Rattle.std.specs.Prelude.{vec_capacity}
use Rattle.cf_disk.proofs.MediumLaws.{now_whole}
use Rattle.cf_disk.proofs.media.Medium.len.Goals as goal

pub returns-clause-whole : goal.returns-clause-whole
returns-clause-whole c =
    let i = c.self.inside in
    now_whole i.size (vec_capacity i.bytes) i.bytes.items i.pages c.self.invariant c.args.self.now c.self.view_is
