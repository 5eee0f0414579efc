-- How often the remote failed, by the lines of an event and by its asks.
use Rattle.std.proofs.Common.{◌≡◌, ℕ, ◌+◌, arith}
use Rattle.cf_link.specs.Faults.{AsksFailed, faults_in}
use Rattle.cf_link.proofs.FaultCounts as counts
use Rattle.cf_model.specs.State.{Filter}
use Rattle.cf_remote.specs.Told.{Told}

-- the lines of the event that report that the remote failed
abbrev pub fault_lines : Filter → ℕ
fault_lines s = faults_in s.notes

-- There are some such lines more, and as many of the remote's asks failed.
pub record Rose (old new : Told) (before after : ℕ) : Type 0 where
  pub more : ℕ
  pub lines : after ≡ before + more
  pub failed : AsksFailed more old new

pub rose_none : (t : Told) (lines after : ℕ) → after ≡ lines → Rose t t lines after
rose_none t lines after same = record { more = 0; lines = omega (arith, same); failed = counts.failed_none t }

pub rose_both : (a b c : Told) (i j k : ℕ) → Rose a b i j → Rose b c j k → Rose a c i k
rose_both a b c i j k h g = record { more = h.more + g.more; lines = omega (arith, h.lines, g.lines); failed = counts.failed_both h.more g.more a b c h.failed g.failed }
