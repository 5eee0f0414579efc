-- What a user of the product may rely on.
use Rattle.std.specs.Prelude.{ℕ, ◌≡◌, ◌≢◌}
use Rattle.cf_base.specs.declared.answers.Answer.{Answer}
use Rattle.cf_base.specs.declared.answers.Shown.TheVariants as shown
use Rattle.cf_base.specs.declared.codes.Code.TheVariants as code
use Rattle.cf_base.specs.declared.events.Event.{Event}
use Rattle.cf_base.specs.declared.policies.Mode.{Mode}
use Rattle.cf_base.specs.declared.policies.Mode.TheVariants as mode
use Rattle.cf_model.specs.State.{State}
use Rattle.cf_model.specs.Store.{Held}
use Rattle.cf_model_laws.specs.Openings.{restarting}
use Rattle.cf_model_laws.specs.Premises.{IsFair, IsFresh}
use Rattle.cf_model_headline.specs.Dehydrated.{DehydratesExactly}
use Rattle.cf_model_headline.specs.KeptBytes.{FlushedIsKept}
use Rattle.cf_model_headline.specs.Marked.{InSyncByMark, MarksGiveNumbers}
use Rattle.cf_model_headline.specs.Reads.{DataIsHeld, DataIsRight, ReadsAnswered, ReadsAtOnce, ReadsInCall}
use Rattle.cf_model_headline.specs.Refusals.{RefusalsLeave}
use Rattle.cf_model_headline.specs.Reports.{OfEach, Report, standing}
use Rattle.cf_model_headline.specs.Resumed.{ResumesRight}
use Rattle.cf_model_headline.specs.Stale.{DoneIsTaken, LateIsStale, NotDoneIsTaken}
use Rattle.cf_model_headline.specs.Tokens.{OneVersionEach}

-- a restart finds a volume
abbrev pub FindsVolume : Event → Answer → Type 0
FindsVolume e a = e ≡ restarting → a.shown ≢ shown.Refused code.NotAVolume

-- In both commands, over any provider and whatever a remote replies. The run began with this remote, and left this state.
pub record Promises (m : Mode) (remote : Held) (clusters : ℕ) (report : Report) (last : State) : Type 0 where
  pub changes : last.filter.volume.log ≡ standing report
  pub restarts : ResumesRight report
  pub opens : OfEach m remote clusters report last (λ before s e a t. FindsVolume e a)
  pub refusals : OfEach m remote clusters report last (λ before s e a t. RefusalsLeave s e a t)
  pub stale : OfEach m remote clusters report last (λ before s e a t. LateIsStale s e a)
  pub held_data : OfEach m remote clusters report last (λ before s e a t. DataIsHeld before s a)
  pub in_sync : InSyncByMark report
  pub dehydrations : OfEach m remote clusters report last (λ before s e a t. DehydratesExactly s e a)
  pub tokens : OneVersionEach remote last.link.remote

-- In `replay`, over a remote that keeps its rules: besides.
pub record Headline (remote : Held) (clusters : ℕ) (report : Report) (last : State) : Type 0 where
  pub promises : Promises mode.Replay remote clusters report last
  pub answers : ReadsAnswered remote clusters report last
  pub data_lines : OfEach mode.Replay remote clusters report last (λ before s e a t. DataIsRight last.link.remote before s a)
  pub reads : OfEach mode.Replay remote clusters report last (λ before s e a t. ReadsAtOnce last.link.remote s e a)
  pub reads_in_call : OfEach mode.Replay remote clusters report last (λ before s e a t. ReadsInCall last.link.remote before s e a)
  pub marks : MarksGiveNumbers report
  pub not_done : OfEach mode.Replay remote clusters report last (λ before s e a t. NotDoneIsTaken s e a)
  pub done : OfEach mode.Replay remote clusters report last (λ before s e a t. DoneIsTaken s e a)
  pub flushed : FlushedIsKept report last.link.remote

-- What it rests on. The remote that was handed in had recorded no token, and its items were numbered from 1. So far it replied
-- as its rules say, and the numbers of its items and versions are below 2^64.
pub record Premises (remote : Held) (last : State) : Type 0 where
  pub fresh : IsFresh remote
  pub fair : IsFair last.link
