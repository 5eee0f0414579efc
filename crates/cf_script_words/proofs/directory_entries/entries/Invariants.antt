use Rattle.std.proofs.Common.{length, map}
use Rattle.cf_script_words.proofs.EntriesRead.{Continues}
use Rattle.cf_script_words.proofs.directory_entries.entries.Given as goal

abbrev pub invariant-loop-rest : goal.invariant-loop-rest
invariant-loop-rest l = Continues (map (λ w. w.now) l.words) l.list.items (map (λ w. w.now) l.rest)

abbrev pub decreases-loop-rest : goal.decreases-loop-rest
decreases-loop-rest l = length l.rest
