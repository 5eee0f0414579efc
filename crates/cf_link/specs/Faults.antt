-- How often the remote failed, by lines, by its asks, and by what it counts.
use Rattle.std.specs.Prelude.{◌≡◌, ℕ, Bool, cond, List, [], ◌∷◌, ◌+◌, ◌-◌, ◌^◌, ◌≤◌, is_some, min}
use Rattle.cf_base.specs.declared.notices.Notice.{Notice}
use Rattle.cf_base.specs.declared.notices.Notice.TheVariants as notice
use Rattle.cf_remote.specs.Told.{Counts, Told}

abbrev pub fault_of : Notice → ℕ
fault_of (notice.Fault message) = 1
fault_of _ = 0

-- the lines among these that report that the remote failed
abbrev pub faults_in : List Notice → ℕ
faults_in [] = 0
faults_in (n ∷ ns) = fault_of n + faults_in ns

-- the most that a remote counts
abbrev pub most_faults : ℕ
most_faults = 2 ^ 64 - 1

-- the count rose by n at least, or to the most that is counted
abbrev pub RoseBy : ℕ → ℕ → ℕ → Type 0
RoseBy n old new = min (old + n) most_faults ≤ new

-- One ask, which failed or not: it fails exactly where it is one of those that the remote reports as failing. Where it failed the
-- count rose. A remote that reports what it holds goes on with that, and no other begins.
pub record Once (failed : Bool) (old new : Told) : Type 0 where
  pub counts : Counts failed old new
  pub rose : RoseBy (cond failed 1 0) old.faults new.faults
  pub tells : is_some new.held ≡ is_some old.held

-- asks in turn, each of which failed or not
abbrev pub Went : List Bool → Told → Told → Type 0
Went [] old new = new ≡ old
Went (failed ∷ more) old new = (mid : Told) × Once failed old mid × Went more mid new

-- how many of them failed
abbrev pub failures : List Bool → ℕ
failures [] = 0
failures (failed ∷ more) = cond failed 1 0 + failures more

-- Asks led the remote from the one to the other, and n of them failed.
pub record AsksFailed (n : ℕ) (old new : Told) : Type 0 where
  pub asks : List Bool
  pub failed : failures asks ≡ n
  pub went : Went asks old new
