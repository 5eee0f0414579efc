use Rattle.std.proofs.Common.{◌*◌, min, max}
use Rattle.cf_disk.specs.Keeping.{IsSound, Marks}
use Rattle.cf_disk.proofs.old_pages.OldPages.mark.Given as goal

abbrev pub invariant-loop-page : goal.invariant-loop-page
invariant-loop-page l = record {
  sound : IsSound l.self;
  marks : Marks l.at (max l.at (min l.end (l.page * 4096))) l.fn.self l.self;
}
