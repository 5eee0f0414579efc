-- The first words that one mode alone has.
use Rattle.std.specs.Prelude.{Bool, true, false}
use Rattle.cf_base.specs.declared.policies.Mode.{Mode}
use Rattle.cf_base.specs.declared.policies.Mode.TheVariants as mode
use Rattle.cf_script_words.specs.declared.commands.Command.{Command}
use Rattle.cf_script_words.specs.declared.commands.Command.TheVariants as command
use Rattle.cf_script_words.specs.declared.commands.BareCommand.TheVariants as bare
use Rattle.cf_script_words.specs.declared.commands.PathCommand.TheVariants as on_path
use Rattle.cf_script_words.specs.declared.commands.NumberCommand.TheVariants as on_number
use Rattle.cf_script_words.specs.declared.commands.WordCommand.TheVariants as on_word
use Rattle.cf_script_words.specs.declared.commands.TwoWordCommand.TheVariants as on_two
use Rattle.cf_script_words.specs.declared.commands.LongCommand.TheVariants as long
use Rattle.cf_script_words.specs.declared.commands.OtherCommand.TheVariants as other

-- the words of the engine and of another device
abbrev pub is_for_engine : Command → Bool
is_for_engine (command.Bare bare.Work) = true
is_for_engine (command.Bare bare.Sync) = true
is_for_engine (command.OnNumber on_number.Deliver) = true
is_for_engine (command.OnNumber on_number.Arrive) = true
is_for_engine (command.OnNumber on_number.Space) = true
is_for_engine (command.Other other.Peer) = true
is_for_engine (command.OnWord on_word.Link) = true
is_for_engine c = false

-- the words of a scripted provider
abbrev pub is_for_provider : Command → Bool
is_for_provider (command.OnPath on_path.Revert) = true
is_for_provider (command.OnPath on_path.Unmark) = true
is_for_provider (command.Other other.Place) = true
is_for_provider (command.Long long.PlaceDir) = true
is_for_provider (command.OnTwo on_two.Convert) = true
is_for_provider (command.Other other.Update) = true
is_for_provider (command.OnTwo on_two.Mark) = true
is_for_provider (command.Long long.Do) = true
is_for_provider (command.Long long.Plan) = true
is_for_provider c = false

-- the words that the other mode alone has
abbrev pub is_foreign : Mode → Command → Bool
is_foreign mode.Replay c = is_for_provider c
is_foreign mode.Filter c = is_for_engine c
