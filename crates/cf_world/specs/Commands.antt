-- What the commands of a run do.
use Rattle.std.specs.Prelude.{◌≡◌, ℕ, List, Option}
use Rattle.cf_base.specs.declared.policies.Mode.TheVariants as mode
use Rattle.cf_base.specs.declared.statuses.Status.{Status}
use Rattle.cf_base.specs.declared.statuses.Status.TheVariants as status
use Rattle.cf_cli.specs.declared.commands.Command.{Command}
use Rattle.cf_cli.specs.declared.commands.Command.TheVariants as command
use Rattle.cf_cli.specs.declared.commands.WordsError.{WordsError}
use Rattle.cf_cli.specs.declared.commands.WordsError.TheVariants as words
use Rattle.cf_disk.specs.Disk.{State as Disk}
use Rattle.cf_gen.specs.Scripts.{made_script}
use Rattle.cf_io.specs.Moves.{IsFront, IsWhole}
use Rattle.cf_remote.specs.Told.{Told}
use Rattle.cf_world.specs.Checks.{OfCheck}
use Rattle.cf_world_devices.specs.Migrations.{OfDevice}
use Rattle.cf_world_plays.specs.Outputs.{OfText}
use Rattle.cf_world_devices.specs.Scrubs.{OfScrub, most_judged}
use Rattle.cf_world_plays.specs.declared.outputs.Ending.TheVariants as ending
use Rattle.cf_world_plays.specs.declared.outputs.Output.TheVariants as output

-- All that holds of what the source had left, where it reports that, by how the run ended: of a script, of the bytes of a device, or
-- of a script that was made without the source. Only `filter`, `migrate`, `scrub` and `check` do not use the remote, and only `scrub` and
-- `check` do not use the disk.
abbrev pub OfCommand : {D R : Type 0} → (D → Disk) → (R → Told) → Command → D → R → (Unread : Type 0) → (left old new : Option (List ℕ)) → (Unwritten Quiet : Type 0) → Status → D → R → Type 0
OfCommand state told command.Replay disk remote Unread left old new Unwritten Quiet end back after =
    (text : List ℕ) × IsWhole left text × OfText state told output.Report mode.Replay disk remote text old new Unwritten Quiet end back after
OfCommand state told command.Filter disk remote Unread left old new Unwritten Quiet end back after =
    (text : List ℕ) × IsWhole left text × OfText state told output.Report mode.Filter disk remote text old new Unwritten Quiet end back after × (after ≡ remote)
OfCommand state told command.State disk remote Unread left old new Unwritten Quiet end back after =
    (text : List ℕ) × IsWhole left text × OfText state told (output.Ending ending.State) mode.Replay disk remote text old new Unwritten Quiet end back after
OfCommand state told command.Image disk remote Unread left old new Unwritten Quiet end back after =
    (text : List ℕ) × IsWhole left text × OfText state told (output.Ending ending.Image) mode.Replay disk remote text old new Unwritten Quiet end back after
OfCommand state told (command.Gen n) disk remote Unread left old new Unwritten Quiet end back after =
    Unread × OfText state told (output.Ending ending.Summary) mode.Replay disk remote (made_script n) old new Unwritten Quiet end back after
OfCommand state told command.Migrate disk remote Unread left old new Unwritten Quiet end back after =
    (bytes : List ℕ) × IsWhole left bytes × OfDevice (state disk) (state back) bytes old new Quiet end × (after ≡ remote)
OfCommand state told command.Scrub disk remote Unread left old new Unwritten Quiet end back after =
    (bytes : List ℕ) × IsFront most_judged left bytes × OfScrub bytes old new Quiet end × (back ≡ disk) × (after ≡ remote)
OfCommand state told command.Check disk remote Unread left old new Unwritten Quiet end back after =
    (text : List ℕ) × IsWhole left text × OfCheck text old new Unwritten Quiet end × (back ≡ disk) × (after ≡ remote)

-- the status where the words are no command
abbrev pub words_status : WordsError → Status
words_status words.Usage = status.Usage
words_status words.OutOfMemory = status.OutOfMemory
