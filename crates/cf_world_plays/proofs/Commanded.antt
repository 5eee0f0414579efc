-- What the events of a script leave, in the words of the command that it is for.
use Rattle.std.proofs.Common.{◌≡◌, ℕ, List, inl, inr}
use Rattle.std.specs.Prelude.{None, Option}
use Rattle.cf_filter_events.specs.Actors.{Acts}
use Rattle.cf_base.specs.declared.answers.Answer.{Answer}
use Rattle.cf_base.specs.declared.events.Event.{Event}
use Rattle.cf_base.specs.declared.policies.Choice.{Choice}
use Rattle.cf_base.specs.declared.policies.Mode.TheVariants.{Replay}
use Rattle.cf_base.specs.declared.policies.Mode.{Mode}
use Rattle.cf_base.specs.declared.statuses.Status.{Status}
use Rattle.cf_base.specs.declared.statuses.Status.TheVariants as status
use Rattle.cf_disk.specs.Disk.{State as Disk}
use Rattle.cf_link.specs.Faults.{RoseBy}
use Rattle.cf_link.specs.Linked.{IsRemote}
use Rattle.cf_link.specs.Listed.{Lists}
use Rattle.cf_model.specs.Lawful.{Runs}
use Rattle.cf_model.specs.Powers.{RunsOver}
use Rattle.cf_model.specs.State.{State, start}
use Rattle.cf_model.specs.Store.{Held}
use Rattle.cf_model_headline.proofs.HeadlineLaws.{headline, promised}
use Rattle.cf_model_settling.proofs.Settled.{each_settles}
use Rattle.cf_remote.specs.Told.{Told}
use Rattle.cf_volume_points.specs.Standing.{clusters_for}
use Rattle.cf_io.specs.Moves.{Adds, AddsFront}
use Rattle.cf_world_plays.proofs.Ends.{long_said, writes_said}
use Rattle.cf_world_plays.proofs.OverPowers.{over_runs}
use Rattle.cf_world_plays.specs.Led.{Begins, IsLawful, Leads, LeadsActor, LeadsDisk, LeavesActor, LeavesRemote, Stood}
use Rattle.cf_world_plays.specs.RemoteFaults.{ReportsExactly, ReportsListed, faults_by}
use Rattle.cf_world_plays.specs.Outputs.{Concludes, ConcludesBy, ConcludesOf, Ended, EndsFailed, SaysBy, SaysIn, WritesAs, WritesAsBy}
use Rattle.cf_world_plays.specs.Runs.{WritesOf}
use Rattle.cf_world_plays.specs.Steps.{IsLawfulFrom, WritesBy}
use Rattle.cf_world_plays.specs.declared.outputs.Ending.{Ending}
use Rattle.cf_world_plays.specs.declared.outputs.Ending.TheVariants as ending
use Rattle.cf_world_plays.specs.declared.outputs.Output.{Output}
use Rattle.cf_world_plays.specs.declared.outputs.Output.TheVariants as output
use Rattle.cf_filter_events.specs.Pasts.{StandsFor}

-- what a run of `replay` leaves of the remote, where the last state's link has what that reports
pub replay_leaves : {R : Type 0} (told : R → Told) (held : Held) (clusters : ℕ) (trace : List (Event × Answer)) (s : State) (left : R) → IsRemote (told left) s.link → Runs Replay (start Replay held clusters) trace s → LeavesRemote told Replay held clusters trace s left
replay_leaves told held clusters trace s left holds runs = record { holds = holds; headline = λ premises. headline held clusters trace s premises runs; settles = λ premises tidy. each_settles held clusters trace s runs premises.fresh tidy premises.fair }

-- what is left of a script says as much of another trace
module _ (P Q : List (Event × Answer) → List ℕ → Type 0) (F G : List (Event × Answer) → Type 0) (K L X Y : Type 0) (m : Mode) (text : List ℕ) (old new : Option (List ℕ)) (said : (trace : List (Event × Answer)) (last : List ℕ) → P trace last → Q trace last) (led : (trace : List (Event × Answer)) → F trace → G trace) (kept : K → L) (failed : X → Y) where
  ended_said : (Written : List ℕ → Type 0) → Ended P Written m text → Ended Q Written m text
  ended_said Written h = record { events = h.events; spelled = h.spelled; trace = h.trace; each = h.each; short = h.short; last = h.last; said = said h.trace h.last h.said; written = h.written }

  concludes_said : (s : Status) → Concludes P F K X m text old new s → Concludes Q G L Y m text old new s
  concludes_said status.Done h = ended_said (Adds old new) h
  concludes_said status.BadScript h = h
  concludes_said status.SinkFault (inl h) = inl (h.0, kept h.1)
  concludes_said status.SinkFault (inr h) = inr (ended_said (AddsFront old new) h)
  concludes_said status.OutOfMemory (inl h) = inl h
  concludes_said status.OutOfMemory (inr h) = inr (h.0, kept h.1)
  concludes_said status.Usage h = h
  concludes_said status.SourceFault h = h
  concludes_said status.TooLong (none, inl h) = (none, inl (h.0, kept h.1))
  concludes_said status.TooLong (none, inr h) = (none, inr (h.0, record { events = h.1.events; spelled = h.1.spelled; played = long_said F G h.1.events None None led h.1.played }))
  concludes_said status.BadDevice h = h
  concludes_said status.DeviceFault h = (h.0, h.1, failed h.2)
  concludes_said status.BadImage h = absurd h
  concludes_said status.Unlawful h = absurd h
  concludes_said status.Undecided h = absurd h
  concludes_said status.Damaged h = absurd h

module _ {D R A : Type 0} (state : D → Disk) (told : R → Told) (W : Acts A) (disk back : D) (first left : R) (actor after : A)
    -- the actor stands for each remote of the definitions that the run may begin with
    (stands : (held : Held) → Begins told W.mode first held → Stood W (clusters_for (state disk)) actor held)
    -- and what is left of it says what is left of the remote
    (leaves : (held : Held) (trace : List (Event × Answer)) (s : State) → W.holds after s → Runs W.mode (start W.mode held (clusters_for (state disk))) trace s → LeavesRemote told W.mode held (clusters_for (state disk)) trace s left)
    (kept : after ≡ actor → left ≡ first)
    -- and its count of faults rose as the remote's did
    (counts : (n : ℕ) → RoseBy n (W.remote actor).faults (W.remote after).faults → RoseBy n (told first).faults (told left).faults)
    -- and the answers report of the one remote what they report of the other
    (exactly : (s t : State) (trace : List (Event × Answer)) (powers : List (Choice × List ℕ)) (runs : RunsOver StandsFor W.mode None s trace powers t) → RoseBy (faults_by trace) (W.remote actor).faults (W.remote after).faults
    → ((fails : List ℕ) → Lists fails (W.remote actor) → ReportsListed fails W.mode None s trace powers t runs) → ReportsExactly W.mode (told first) s trace powers t runs) where
  leads_at : (d : D) (trace : List (Event × Answer)) (held : Held) → LeadsActor state W held disk actor trace d after → LeadsDisk state told W.mode held disk first trace d left
  leads_at d trace held r =
      let runs = over_runs StandsFor W.mode None (start W.mode held (clusters_for (state disk))) r.left trace r.powers r.runs in
      record {
        left = r.left;
        powers = r.powers;
        runs = r.runs;
        gains = r.gains;
        met = r.met;
        armed = r.armed;
        reports = r.reports;
        faulted = counts (faults_by trace) r.faulted;
        exactly = exactly (start W.mode held (clusters_for (state disk))) r.left trace r.powers r.runs r.faulted r.exactly;
        lasts = r.lasts;
        few = r.few;
        promises = λ fresh. promised W.mode held (clusters_for (state disk)) trace r.left fresh runs;
        remote = leaves held trace r.left r.holds runs;
      }

  leads_from : (d : D) (trace : List (Event × Answer)) → LeavesActor state W disk actor trace d after → Leads state told W.mode disk first trace d left
  leads_from d trace h held begins = leads_at d trace held (h held (stands held begins))

  leads : (trace : List (Event × Answer)) → LeavesActor state W disk actor trace back after → Leads state told W.mode disk first trace back left
  leads trace = leads_from back trace

  says : (o : Ending) (trace : List (Event × Answer)) (last : List ℕ) → SaysBy state W o disk actor back after trace last → SaysIn state told o W.mode disk first back left trace last
  unfolding leads_at
  says ending.State trace last h held begins = let r = h held (stands held begins) in (leads_at back trace held r.0, r.1)
  says ending.Summary trace last h held begins = let r = h held (stands held begins) in (leads_at back trace held r.0, r.1)
  says ending.Image trace last h held begins = let r = h held (stands held begins) in (r.0, leads_at r.0 trace held r.1, r.2, r.3)

  -- what was written
  pub written : (text : List ℕ) (old new : Option (List ℕ)) (end : Status) → WritesBy state W disk actor text old new end back after → WritesOf state told W.mode disk first text old new end back left
  written text old new end h =
      writes_said (λ trace. LeavesActor state W disk actor trace back after) (λ trace. Leads state told W.mode disk first trace back left) (IsLawfulFrom W (clusters_for (state disk)) actor) (IsLawful W.mode (Begins told W.mode first) (clusters_for (state disk)))
      W.mode text old new leads (λ trace l held begins. l held (stands held begins)) ((back ≡ disk) × (after ≡ actor)) ((back ≡ disk) × (left ≡ first)) (λ k. (k.0, kept k.1)) end h

  -- a device that failed

  abbrev Before : List ℕ → Type 0
  Before text = EndsFailed state (λ trace d. LeavesActor state W disk actor trace d after) W.mode text disk back (after ≡ actor)

  abbrev After : List ℕ → Type 0
  After text = EndsFailed state (λ trace d. Leads state told W.mode disk first trace d left) W.mode text disk back (left ≡ first)

  failed : (text : List ℕ) → Before text → After text
  failed text (inl h) = inl (h.0, kept h.1)
  failed text (inr h) = inr (record { trace = h.trace; spelled = h.spelled; end = h.end; leads = leads_from h.end h.trace h.leads; cut = h.cut; power = h.power; failed = h.failed })

  -- and what is left of a script
  concluded : (o : Ending) (text : List ℕ) (old new : Option (List ℕ)) (end : Status) → ConcludesBy state W o disk actor text old new end back after → ConcludesOf state told o W.mode disk first text old new end back left
  concluded o text old new end h =
      concludes_said (SaysBy state W o disk actor back after) (SaysIn state told o W.mode disk first back left) (λ trace. LeavesActor state W disk actor trace back after) (λ trace. Leads state told W.mode disk first trace back left)
      ((back ≡ disk) × (after ≡ actor)) ((back ≡ disk) × (left ≡ first)) (Before text) (After text)
      W.mode text old new (says o) leads (λ k. (k.0, kept k.1)) (failed text) end h

  pub written_as : (o : Output) (text : List ℕ) (old new : Option (List ℕ)) (end : Status) → WritesAsBy state W o disk actor text old new end back after → WritesAs state told o W.mode disk first text old new end back left
  written_as output.Report text old new end h = written text old new end h
  written_as (output.Ending o) text old new end h = concluded o text old new end h
