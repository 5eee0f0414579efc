-- What is written of what a script leaves.
use Rattle.std.proofs.Common.{◌≡◌, ◌<◌, ◌≤◌, ℕ, List, [], length, inl, inr, refl, subst, sym, arith}
use Rattle.std.specs.Prelude.{IfOk, None, Option, Result, Ok, Err}
use Rattle.cf_base.specs.declared.answers.Answer.{Answer}
use Rattle.cf_base.specs.declared.codes.CallError.{CallError}
use Rattle.cf_base.specs.declared.codes.CallError.TheVariants as fail
use Rattle.cf_base.specs.declared.events.Event.{Event}
use Rattle.cf_base.specs.declared.memory.OutOfMemory.{OutOfMemory as NoMemory}
use Rattle.cf_base.specs.declared.policies.Mode.{Mode}
use Rattle.cf_base.specs.declared.statuses.Status.{Status}
use Rattle.cf_base.specs.declared.statuses.Status.TheVariants as status
use Rattle.cf_disk.specs.Disk.{State as Disk}
use Rattle.cf_filter_events.specs.Actors.{Acts}
use Rattle.cf_filter_events.specs.declared.places.Acting.{Acting}
use Rattle.cf_gen.specs.Summaries.{counts_of, summary}
use Rattle.cf_gen.specs.declared.summaries.Counts.{Counts}
use Rattle.cf_io.specs.Moves.{Adds, AddsFront, Rose}
use Rattle.cf_model.specs.State.{State}
use Rattle.cf_script.specs.Script.{IsScript}
use Rattle.cf_world_plays.specs.States.{state_text, used_blocks}
use Rattle.cf_volume.specs.Calls.{IsCause, StopsOnly}
use Rattle.cf_world_devices.proofs.Adding.{adds_nothing}
use Rattle.cf_world_plays.proofs.Ends.{long_said, refusal_written}
use Rattle.cf_remote.specs.Told.{Told}
use Rattle.cf_volume_points.specs.Standing.{clusters_for}
use Rattle.cf_io.specs.declared.faults.ReadError.{ReadError}
use Rattle.cf_io.specs.declared.faults.ReadError.TheVariants as reading
use Rattle.cf_world_plays.specs.Led.{Begins, HasRunOn, IsLawful, Leads, LeavesActor, LeavesText}
use Rattle.cf_world_plays.specs.Outputs.{Concludes, ConcludesBy, Ended, EndsFailed, HandsImage, IsEnding, PutsEnd, PutsText, SaysBy, SaysIn, WritesAs}
use Rattle.cf_world_plays.specs.Runs.{IsGood, WritesRefusal, answers_of, most_script}
use Rattle.cf_world_plays.specs.Steps.{AllPlayed, SomePlayed, early_status, read_status, start_status}
use Rattle.cf_world_plays.specs.declared.outputs.Ending.{Ending}
use Rattle.cf_world_plays.specs.declared.outputs.Ending.TheVariants as ending
use Rattle.cf_world_plays.specs.declared.outputs.Output.{Output}
use Rattle.cf_world_plays.specs.declared.outputs.Output.TheVariants as output
use Rattle.cf_world_plays.specs.declared.play_errors.PlayError.{PlayError}
use Rattle.cf_world_plays.specs.declared.play_errors.PlayError.TheVariants as plays

-- an ending that is said of a text that was made

made_is : (made : Result (List ℕ) NoMemory) (Is : List ℕ → Type 0) (last : List ℕ) → made ≡ Ok last → IfOk made Is → Is last
made_is (Ok x) Is last is h = let e : x ≡ last = (let z : ◌≡◌ {A = Result (List ℕ) NoMemory} (Ok x) (Ok last) = is in cc) in subst Is e h
made_is (Err m) Is last is h = let z : ◌≡◌ {A = Result (List ℕ) NoMemory} (Err m) (Ok last) = is in absurd cc

module _ {D A : Type 0} (state : D → Disk) (W : Acts A) (disk back : D) (first actor : A) (trace : List (Event × Answer)) (old new : Option (List ℕ)) where
  pub puts_state : (made : Result (List ℕ) NoMemory) (s : Status) → PutsText made old new s → LeavesText state W disk first trace back actor (λ t. IfOk made (λ b. b ≡ state_text t)) → PutsEnd state W ending.State disk first trace old new s back actor
  puts_state made status.Done p leaves = (p.0, λ held stood. let l = leaves held stood in (l.0, made_is made (λ b. b ≡ state_text l.0.left) p.0 p.1 l.1), p.2)
  puts_state made status.SinkFault p leaves = (p.0, λ held stood. let l = leaves held stood in (l.0, made_is made (λ b. b ≡ state_text l.0.left) p.0 p.1 l.1), p.2)
  puts_state made status.OutOfMemory p leaves = p
  puts_state made status.Usage p leaves = absurd p
  puts_state made status.BadScript p leaves = absurd p
  puts_state made status.SourceFault p leaves = absurd p
  puts_state made status.BadDevice p leaves = absurd p
  puts_state made status.TooLong p leaves = absurd p
  puts_state made status.DeviceFault p leaves = absurd p
  puts_state made status.BadImage p leaves = absurd p
  puts_state made status.Unlawful p leaves = absurd p
  puts_state made status.Undecided p leaves = absurd p
  puts_state made status.Damaged p leaves = absurd p

  summed : (made : Result (List ℕ) NoMemory) (blocks : ℕ) (t : State) (last : List ℕ) → made ≡ Ok last → IfOk made (λ b. b ≡ summary trace blocks) → blocks ≡ used_blocks t → last ≡ summary trace (used_blocks t)
  summed made blocks t last is sums used = subst (λ (n : ℕ). last ≡ summary trace n) used (made_is made (λ b. b ≡ summary trace blocks) last is sums)

  pub puts_summary : (made : Result (List ℕ) NoMemory) (blocks : ℕ) (s : Status) → PutsText made old new s → IfOk made (λ b. b ≡ summary trace blocks) → LeavesText state W disk first trace back actor (λ t. blocks ≡ used_blocks t) → PutsEnd state W ending.Summary disk first trace old new s back actor
  puts_summary made blocks status.Done p sums leaves = (p.0, λ held stood. let l = leaves held stood in (l.0, summed made blocks l.0.left p.0 p.1 sums l.1), p.2)
  puts_summary made blocks status.SinkFault p sums leaves = (p.0, λ held stood. let l = leaves held stood in (l.0, summed made blocks l.0.left p.0 p.1 sums l.1), p.2)
  puts_summary made blocks status.OutOfMemory p sums leaves = p
  puts_summary made blocks status.Usage p sums leaves = absurd p
  puts_summary made blocks status.BadScript p sums leaves = absurd p
  puts_summary made blocks status.SourceFault p sums leaves = absurd p
  puts_summary made blocks status.BadDevice p sums leaves = absurd p
  puts_summary made blocks status.TooLong p sums leaves = absurd p
  puts_summary made blocks status.DeviceFault p sums leaves = absurd p
  puts_summary made blocks status.BadImage p sums leaves = absurd p
  puts_summary made blocks status.Unlawful p sums leaves = absurd p
  puts_summary made blocks status.Undecided p sums leaves = absurd p
  puts_summary made blocks status.Damaged p sums leaves = absurd p

  -- the disk's bytes, where `back` is what is left of the disk whose power was cut
  pub puts_image : (d : D) (s : Status) → HandsImage state d back old new s → LeavesActor state W disk first trace d actor → PutsEnd state W ending.Image disk first trace old new s back actor
  puts_image d status.Done h leaves = ((state back).seen, λ held stood. let l = leaves held stood in (d, l, h.0, l.lasts (state back).seen h.0.left), h.1)
  puts_image d status.SinkFault h leaves = ((state back).seen, λ held stood. let l = leaves held stood in (d, l, h.0, l.lasts (state back).seen h.0.left), h.1)
  puts_image d status.OutOfMemory h leaves = h
  puts_image d status.DeviceFault h leaves = (h.0, (d, h.1.0, leaves, h.1.1, h.1.2))
  puts_image d status.Usage h leaves = absurd h
  puts_image d status.BadScript h leaves = absurd h
  puts_image d status.SourceFault h leaves = absurd h
  puts_image d status.BadDevice h leaves = absurd h
  puts_image d status.TooLong h leaves = absurd h
  puts_image d status.BadImage h leaves = absurd h
  puts_image d status.Unlawful h leaves = absurd h
  puts_image d status.Undecided h leaves = absurd h
  puts_image d status.Damaged h leaves = absurd h

-- how an ending ends

pub ends_text : (o : Ending) (made : Result (List ℕ) NoMemory) (old new : Option (List ℕ)) (s : Status) → PutsText made old new s → IsEnding o s
ends_text o made old new status.Done p = tt
ends_text o made old new status.SinkFault p = tt
ends_text o made old new status.OutOfMemory p = tt
ends_text o made old new status.Usage p = absurd p
ends_text o made old new status.BadScript p = absurd p
ends_text o made old new status.SourceFault p = absurd p
ends_text o made old new status.BadDevice p = absurd p
ends_text o made old new status.TooLong p = absurd p
ends_text o made old new status.DeviceFault p = absurd p
ends_text o made old new status.BadImage p = absurd p
ends_text o made old new status.Unlawful p = absurd p
ends_text o made old new status.Undecided p = absurd p
ends_text o made old new status.Damaged p = absurd p

pub ends_image : {D : Type 0} (state : D → Disk) (d e : D) (old new : Option (List ℕ)) (s : Status) → HandsImage state d e old new s → IsEnding ending.Image s
ends_image state d e old new status.Done h = tt
ends_image state d e old new status.SinkFault h = tt
ends_image state d e old new status.OutOfMemory h = tt
ends_image state d e old new status.DeviceFault h = refl
ends_image state d e old new status.Usage h = absurd h
ends_image state d e old new status.BadScript h = absurd h
ends_image state d e old new status.SourceFault h = absurd h
ends_image state d e old new status.BadDevice h = absurd h
ends_image state d e old new status.TooLong h = absurd h
ends_image state d e old new status.BadImage h = absurd h
ends_image state d e old new status.Unlawful h = absurd h
ends_image state d e old new status.Undecided h = absurd h
ends_image state d e old new status.Damaged h = absurd h

-- a script that was read

module _ {D A : Type 0} (state : D → Disk) (W : Acts A) (o : Ending) (disk back : D) (first actor : A) (text : List ℕ) (events : List Event) (old new : Option (List ℕ)) (script : IsScript W.mode text events) (short : length text ≤ most_script) where
  ended_by : (w : Option (Acting D A)) (counts : Counts) (Written : List ℕ → Type 0) (all : AllPlayed state W disk first events None None w counts) (last : List ℕ) → SaysBy state W o disk first back actor all.trace last → Written last → Ended (SaysBy state W o disk first back actor) Written W.mode text
  ended_by w counts Written all last said written = record { events = events; spelled = script; trace = all.trace; each = all.each; short = all.short; last = last; said = said; written = written }

  -- all events were done
  pub all_concluded : (w : Option (Acting D A)) (counts : Counts) (s : Status) → AllPlayed state W disk first events None None w counts → ((trace : List (Event × Answer)) → counts ≡ counts_of (answers_of trace) → HasRunOn state W disk first trace w → PutsEnd state W o disk first trace old new s back actor)
      → ConcludesBy state W o disk first text old new s back actor
  all_concluded w counts s all puts = by s (puts all.trace all.counted all.run)
    where
      by : (s : Status) → PutsEnd state W o disk first all.trace old new s back actor → ConcludesBy state W o disk first text old new s back actor
      by status.Done p = ended_by w counts (Adds old new) all p.0 p.1 p.2
      by status.SinkFault p = inr (ended_by w counts (λ last. AddsFront old new last) all p.0 p.1 p.2)
      by status.OutOfMemory p = inl p
      by status.DeviceFault p = ((events, script), p.0, inr (record { trace = all.trace; spelled = subst (λ (es : List Event). IsScript W.mode text es) (sym all.each) script; end = p.1.0; leads = p.1.2; cut = p.1.1; power = p.1.3; failed = p.1.4 }))
      by status.Usage p = absurd p
      by status.BadScript p = absurd p
      by status.SourceFault p = absurd p
      by status.BadDevice p = absurd p
      by status.TooLong p = absurd p
      by status.BadImage p = absurd p
      by status.Unlawful p = absurd p
      by status.Undecided p = absurd p
      by status.Damaged p = absurd p

  -- they were not: the report would be too long, or memory ran out
  pub not_concluded : (w : Option (Acting D A)) (e : PlayError) → old ≡ new → (e ≡ plays.SinkFault → Rose 0 0) → SomePlayed state W disk first events None None w e → ((trace : List (Event × Answer)) → HasRunOn state W disk first trace w → LeavesActor state W disk first trace back actor)
      → ConcludesBy state W o disk first text old new (early_status e) back actor
  not_concluded w plays.SinkFault same fault some leads = absurd (omega (arith, fault refl))
  not_concluded w plays.OutOfMemory same fault some leads = inl (subst (λ (x : Option (List ℕ)). Adds old x []) same (adds_nothing old))
  not_concluded w plays.TooLong same fault some leads = (
    subst (λ (x : Option (List ℕ)). Adds old x []) same (adds_nothing old),
    inr (short, record { events = events; spelled = script; played = long_said (λ trace. HasRunOn state W disk first trace w) (λ trace. LeavesActor state W disk first trace back actor) events None None leads some }),
  )

  -- nothing was begun
  pub not_started : (e : CallError) → old ≡ new → actor ≡ first → StopsOnly e → IsCause e (state disk) (state back) → ConcludesBy state W o disk first text old new (start_status e) back actor
  not_started fail.OutOfMemory same kept only cause = inl (subst (λ (x : Option (List ℕ)). Adds old x []) same (adds_nothing old))
  not_started (fail.No c) same kept only cause = ((events, script), subst (λ (x : Option (List ℕ)). Adds old x []) same (adds_nothing old), inl (cause only, kept))

-- a script that was not

refused_end : (Said : List (Event × Answer) → List ℕ → Type 0) (Led : List (Event × Answer) → Type 0) (Kept Failed : Type 0) (m : Mode) (text : List ℕ) (old new : Option (List ℕ)) (s : Status) → Kept → WritesRefusal m text old new s → Concludes Said Led Kept Failed m text old new s
refused_end Said Led Kept Failed m text old new status.BadScript kept h = h
refused_end Said Led Kept Failed m text old new status.SinkFault kept h = inl (h, kept)
refused_end Said Led Kept Failed m text old new status.OutOfMemory kept (inl h) = inl h
refused_end Said Led Kept Failed m text old new status.OutOfMemory kept (inr h) = inr (h, kept)
refused_end Said Led Kept Failed m text old new status.Done kept h = absurd h
refused_end Said Led Kept Failed m text old new status.Usage kept h = absurd h
refused_end Said Led Kept Failed m text old new status.SourceFault kept h = absurd h
refused_end Said Led Kept Failed m text old new status.TooLong kept h = absurd h
refused_end Said Led Kept Failed m text old new status.BadDevice kept h = absurd h
refused_end Said Led Kept Failed m text old new status.DeviceFault kept h = absurd h
refused_end Said Led Kept Failed m text old new status.BadImage kept h = absurd h
refused_end Said Led Kept Failed m text old new status.Unlawful kept h = absurd h
refused_end Said Led Kept Failed m text old new status.Undecided kept h = absurd h
refused_end Said Led Kept Failed m text old new status.Damaged kept h = absurd h

module _ {D R : Type 0} (state : D → Disk) (told : R → Told) (m : Mode) (disk : D) (remote : R) (text : List ℕ) (old new : Option (List ℕ)) where
  -- why it was not read
  pub refused_as : (o : Output) (s : Status) → WritesRefusal m text old new s → WritesAs state told o m disk remote text old new s disk remote
  refused_as output.Report s h =
      refusal_written (λ trace. Leads state told m disk remote trace disk remote) (IsLawful m (Begins told m remote) (clusters_for (state disk))) ((disk ≡ disk) × (remote ≡ remote)) m text old new s (refl, refl) h
  refused_as (output.Ending o) s h =
      refused_end (SaysIn state told o m disk remote disk remote) (λ trace. Leads state told m disk remote trace disk remote) ((disk ≡ disk) × (remote ≡ remote)) (EndsFailed state (λ trace d. Leads state told m disk remote trace d remote) m text disk disk (remote ≡ remote)) m text old new s (refl, refl) h

  -- a device that is not fit
  pub unfit_as : (o : Output) (back : D) (left : R) → IsGood m text → Adds old new [] → WritesAs state told o m disk remote text old new status.BadDevice back left
  unfit_as output.Report back left good none = (good, none)
  unfit_as (output.Ending o) back left good none = (good, none)

  -- a text that was not read
  pub unread_as : (o : Output) (fail : ReadError) → (fail ≡ reading.TooLong → most_script < length text) → Adds old new [] → WritesAs state told o m disk remote text old new (read_status fail) disk remote
  unread_as output.Report reading.Fault long none = none
  unread_as output.Report reading.TooLong long none = inl (long refl, none, (refl, refl))
  unread_as output.Report reading.OutOfMemory long none = inl none
  unread_as (output.Ending o) reading.Fault long none = none
  unread_as (output.Ending o) reading.TooLong long none = (none, inl (long refl, (refl, refl)))
  unread_as (output.Ending o) reading.OutOfMemory long none = inl none

  -- a script that was not made
  pub unmade_as : (o : Ending) → Adds old new [] → WritesAs state told (output.Ending o) m disk remote text old new status.OutOfMemory disk remote
  unmade_as o none = inl none
