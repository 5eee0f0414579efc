use Rattle.cf_disk.specs.Keeping.{PutsPages}
use Rattle.cf_disk.proofs.power_cuts.drop_pages.Given as goal

abbrev pub invariant-loop-number : goal.invariant-loop-number
invariant-loop-number l = PutsPages l.pages l.number l.fn.bytes l.bytes
