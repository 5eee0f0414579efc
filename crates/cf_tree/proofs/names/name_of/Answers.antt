use Rattle.std.proofs.Common.{refl}
use Rattle.cf_tree.proofs.Cuts.{read_refuses}
use Rattle.cf_tree.proofs.names.name_of.Goals as goal

pub unreachable-requires : goal.unreachable-requires
unreachable-requires c = read_refuses c.in-Err-No.field-0 c.in-Err-No.field-0-0 c.args.bytes.now c.args.bytes.now c.in-Err-No.field-0-is refl c.requires c.in-Err-No.ensures.bad
