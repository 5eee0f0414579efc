-- The text of a run: the one that was read, or one that the source may have had left.
use Rattle.std.proofs.Common.{◌≡◌, ◌<◌, ◌≤◌, ℕ, List, [], length, refl, arith}
use Rattle.std.specs.Prelude.{Option}
use Rattle.cf_base.specs.declared.events.Event.{Event}
use Rattle.cf_base.specs.declared.policies.Mode.{Mode}
use Rattle.cf_base.specs.declared.statuses.Status.{Status}
use Rattle.cf_base.specs.declared.statuses.Status.TheVariants as status
use Rattle.cf_disk.specs.Disk.{State as Disk, size_of}
use Rattle.cf_io.specs.Moves.{Adds, IsLonger, IsQuiet, IsWhole, Rose}
use Rattle.cf_io.specs.declared.faults.ReadError.{ReadError}
use Rattle.cf_io.specs.declared.faults.ReadError.TheVariants as reading
use Rattle.cf_remote.specs.Told.{Told}
use Rattle.cf_script.specs.Script.{IsScript}
use Rattle.cf_world_plays.proofs.Concluded.{unread_as}
use Rattle.cf_world_plays.specs.Outputs.{OfText, WritesAs}
use Rattle.cf_world_plays.specs.Runs.{IsAfterReading, IsComplete, IsLength, IsUnfit, most_script}
use Rattle.cf_world_devices.proofs.Sources.{long_text, not_quiet, some_text, whole_text}
use Rattle.cf_world_devices.specs.Sizes.{IsFit}
use Rattle.cf_world_plays.specs.declared.outputs.Output.{Output}
use Rattle.cf_world_plays.specs.Steps.{read_status}

pub short_enough : (s : Status) (text : List ℕ) → length text ≤ most_script → IsAfterReading s → IsLength s text
short_enough status.Done text short h = short
short_enough status.BadScript text short h = short
short_enough status.SinkFault text short h = short
short_enough status.BadDevice text short h = short
short_enough status.DeviceFault text short h = short
short_enough status.TooLong text short h = tt
short_enough status.OutOfMemory text short h = tt
short_enough status.Usage text short h = absurd h
short_enough status.SourceFault text short h = absurd h
short_enough status.BadImage text short h = absurd h
short_enough status.Unlawful text short h = absurd h
short_enough status.Undecided text short h = absurd h
short_enough status.Damaged text short h = absurd h

module _ {D R : Type 0} (state : D → Disk) (told : R → Told) (o : Output) (m : Mode) (disk : D) (remote : R) (old new : Option (List ℕ)) (Unwritten : Type 0) (a b c d : ℕ) where
  abbrev Quiet : Type 0
  Quiet = IsQuiet a b × IsQuiet c d

  -- the text was read
  pub read_text : (text : List ℕ) (s : Status) (back : D) (left : R) → length text ≤ most_script → IsAfterReading s → WritesAs state told o m disk remote text old new s back left → (s ≡ status.BadScript → (events : List Event) → IsScript m text events → ⊥)
      → ((IsFit (size_of (state disk)) → ⊥) → (events : List Event) → IsScript m text events → IsUnfit s) → (IsQuiet c d → IsFit (size_of (state disk)) → (events : List Event) → IsScript m text events → IsComplete s)
      → OfText state told o m disk remote text old new Unwritten Quiet s back left
  read_text text s back left short after writes bad unfit complete = record {
    writes = writes;
    lengths = short_enough s text short after;
    bad = bad;
    unfit = λ none l. unfit none;
    long = λ e l. absurd (omega (arith, short, l));
    complete = λ quiet fit l. complete quiet.1 fit;
  }

  -- it was not
  pub unread_text : (left : Option (List ℕ)) (fail : ReadError) → (fail ≡ reading.TooLong → IsLonger left most_script) → (fail ≡ reading.Fault → Rose a b) → Adds old new [] → Unwritten
      → (text : List ℕ) × IsWhole left text × OfText state told o m disk remote text old new Unwritten Quiet (read_status fail) disk remote
  unread_text left reading.Fault long rose adds none = (
    some_text 0 left,
    whole_text 0 left,
    record {
      writes = unread_as state told m disk remote (some_text 0 left) old new o reading.Fault (λ e. let z : reading.Fault ≡ reading.TooLong = e in absurd cc) adds;
      lengths = tt;
      bad = λ e. let z : status.SourceFault ≡ status.BadScript = e in cc;
      unfit = λ n l events built. tt;
      long = λ e. let z : status.SourceFault ≡ status.TooLong = e in cc;
      complete = λ quiet. absurd (not_quiet a b (rose refl) quiet.0);
    },
  )
  unread_text left reading.TooLong long rose adds none =
      let more : most_script < length (some_text 16777217 left) = long_text most_script left (long refl) in (
        some_text 16777217 left,
        whole_text 16777217 left,
        record {
          writes = unread_as state told m disk remote (some_text 16777217 left) old new o reading.TooLong (λ e. more) adds;
          lengths = tt;
          bad = λ e. let z : status.TooLong ≡ status.BadScript = e in cc;
          unfit = λ n l. absurd (omega (arith, more, l));
          long = λ e l. none;
          complete = λ quiet fit l events built. tt;
        },
      )
  unread_text left reading.OutOfMemory long rose adds none = (
    some_text 0 left,
    whole_text 0 left,
    record {
      writes = unread_as state told m disk remote (some_text 0 left) old new o reading.OutOfMemory (λ e. let z : reading.OutOfMemory ≡ reading.TooLong = e in absurd cc) adds;
      lengths = tt;
      bad = λ e. let z : status.OutOfMemory ≡ status.BadScript = e in cc;
      unfit = λ n l events built. tt;
      long = λ e. let z : status.OutOfMemory ≡ status.TooLong = e in cc;
      complete = λ quiet fit l events built. tt;
    },
  )
