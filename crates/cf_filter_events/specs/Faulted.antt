-- How the asks of the remote that failed go with the answers of events.
use Rattle.std.specs.Prelude.{ℕ, ◌+◌, Bool, true, false, cond, Result, Ok, Err}
use Rattle.cf_filter_events.specs.Pasts.{Past}
use Rattle.cf_base.specs.declared.answers.Answer.{Answer}
use Rattle.cf_base.specs.declared.answers.Shown.{Shown}
use Rattle.cf_base.specs.declared.answers.Shown.TheVariants as shown
use Rattle.cf_base.specs.declared.codes.Code.{Code}
use Rattle.cf_base.specs.declared.codes.Code.TheVariants as code
use Rattle.cf_base.specs.declared.memory.OutOfMemory.{OutOfMemory as NoMemory}
use Rattle.cf_link.specs.Faults.{AsksFailed, faults_in}
use Rattle.cf_model.specs.State.{State}
use Rattle.cf_remote.specs.Told.{Told}

abbrev pub is_remote_fault : Code → Bool
is_remote_fault code.RemoteFault = true
is_remote_fault _ = false

-- a result that reports that the remote failed
abbrev pub meets_remote : Shown → Bool
meets_remote (shown.Refused c) = is_remote_fault c
meets_remote _ = false

-- how often an answer reports that the remote failed: by its lines of faults, and by its result
abbrev pub faults_shown : Answer → ℕ
faults_shown a = faults_in a.notes + cond (meets_remote a.shown) 1 0

-- As many of the asks that were made failed. Where memory ran out nothing is said.
abbrev pub FaultsTo : Result Answer NoMemory → Told → Told → Type 0
FaultsTo (Ok a) before after = AsksFailed (faults_shown a) before after
FaultsTo (Err m) before after = Unit {0}

-- the same of the lines alone
abbrev pub LinesTo : Result Answer NoMemory → Told → Told → Type 0
LinesTo (Ok a) before after = AsksFailed (faults_in a.notes) before after
LinesTo (Err m) before after = Unit {0}

-- in each state that the world stands for
pub record Faults {X : Type 0} (Is : Past → X → State → Type 0) (old : X) (r : Result Answer NoMemory) (before after : Told) : Type 0 where
  pub failed : (past : Past) (s : State) → Is past old s → FaultsTo r before after

-- an answer that does not report by its result that the remote failed, or none

abbrev pub local_as : Bool → Answer → Result Answer NoMemory
local_as true a = Err (record {})
local_as false a = Ok a

abbrev pub local_by : Result Answer NoMemory → Result Answer NoMemory
local_by (Ok a) = local_as (meets_remote a.shown) a
local_by (Err m) = Err m
