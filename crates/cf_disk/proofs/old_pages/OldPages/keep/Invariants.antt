use Rattle.std.proofs.Common.{◌/◌}
use Rattle.cf_disk.specs.Keeping.{IsSound, KeepsPages}
use Rattle.cf_disk.proofs.old_pages.OldPages.keep.Given as goal

abbrev pub invariant-loop-page : goal.invariant-loop-page
invariant-loop-page l = record {
  sound : IsSound l.self;
  keeps : KeepsPages l.bytes (l.at / 4096) l.page l.fn.self l.self;
}
