use Rattle.std.proofs.Common.{refl, arith}
use Rattle.cf_disk.proofs.PoolLaws.{reach_sound}
use Rattle.cf_disk.proofs.old_pages.OldPages.reach.Goals as goal

pub returns-clause-sound : goal.returns-clause-sound
returns-clause-sound c = reach_sound c.args.self.now _ c.args.pages c.fill_up.ensures.items refl refl refl refl refl c.requires.sound c.requires.most c.fill_up.ensures.capacity (omega arith) (omega arith) (omega arith)
