-- How the answers of a run report that asks of the remote failed.
use Rattle.std.specs.Prelude.{◌≡◌, ◌<◌, ◌+◌, ◌-◌, ◌^◌, ℕ, List, [], ◌∷◌, Option, None}
use Rattle.cf_base.specs.declared.answers.Answer.{Answer}
use Rattle.cf_base.specs.declared.events.Event.{Event}
use Rattle.cf_base.specs.declared.policies.Choice.{Choice}
use Rattle.cf_base.specs.declared.policies.Mode.{Mode}
use Rattle.cf_base.specs.declared.policies.Mode.TheVariants.{Filter, Replay}
use Rattle.cf_filter_events.specs.Faulted.{faults_shown}
use Rattle.cf_filter_events.specs.Pasts.{StandsFor}
use Rattle.cf_link.specs.Listed.{Lists, listed}
use Rattle.cf_model.specs.Powers.{RunsOver}
use Rattle.cf_model.specs.State.{State}
use Rattle.cf_remote.specs.Told.{Told}

-- how often the answers of a trace report that the remote failed: each line of a fault, and each result RemoteFault
abbrev pub faults_by : List (Event × Answer) → ℕ
faults_by [] = 0
faults_by (p ∷ ps) = faults_shown p.1 + faults_by ps

-- Each event of the run reports as many faults as asks with these numbers were made in it. The states before and after the event count
-- the asks. A remote counts to the greatest u64, so an event that leaves it at that number is not spoken of.
abbrev pub ReportsListed : (fails : List ℕ) (m : Mode) (last : Option (List ℕ)) (s : State) (trace : List (Event × Answer)) (powers : List (Choice × List ℕ)) (t : State)
    → RunsOver StandsFor m last s trace powers t → Type 0
ReportsListed fails m last s [] powers t runs = Unit {0}
ReportsListed fails m last s (p ∷ ps) powers t runs =
    (runs.0.link.remote_asks < 2 ^ 64 - 1 → listed fails s.link.remote_asks + faults_shown p.1 ≡ listed fails runs.0.link.remote_asks)
    × ReportsListed fails m runs.1 runs.0 ps runs.2 t runs.5

-- Where the remote that a run of `replay` begins with lists the asks that fail, the answers report exactly these. In `filter` no answer
-- reports a fault.
abbrev pub ReportsExactly : (m : Mode) (first : Told) (s : State) (trace : List (Event × Answer)) (powers : List (Choice × List ℕ)) (t : State)
    → RunsOver StandsFor m None s trace powers t → Type 0
ReportsExactly Replay first s trace powers t runs = (fails : List ℕ) → Lists fails first → ReportsListed fails Replay None s trace powers t runs
ReportsExactly Filter first s trace powers t runs = faults_by trace ≡ 0
