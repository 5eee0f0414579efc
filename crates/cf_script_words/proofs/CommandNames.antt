-- A word is one command.
use Rattle.std.proofs.Common.{◌≡◌, ℕ, List, [], ◌∷◌, refl, sym, ap, ◌∙◌, Option, Some, None, cond}
use Rattle.std.specs.Str.{bytes_eq}
use Rattle.cf_script_words.specs.declared.commands.Command.{Command}
use Rattle.cf_script_words.specs.declared.commands.Command.TheVariants as command
use Rattle.cf_script_words.specs.declared.commands.BareCommand.TheVariants as bare
use Rattle.cf_script_words.specs.declared.commands.PathCommand.TheVariants as on_path
use Rattle.cf_script_words.specs.declared.commands.NumberCommand.TheVariants as on_number
use Rattle.cf_script_words.specs.declared.commands.WordCommand.TheVariants as on_word
use Rattle.cf_script_words.specs.declared.commands.TwoWordCommand.TheVariants as on_two
use Rattle.cf_script_words.specs.declared.commands.ThreeWordCommand.TheVariants as on_three
use Rattle.cf_script_words.specs.declared.commands.LongCommand.TheVariants as long
use Rattle.cf_script_words.specs.declared.commands.OtherCommand.TheVariants as other
use Rattle.cf_script_words.specs.Names.{command_name}

abbrev commands : List Command
commands = (command.Bare bare.Flush) ∷ (command.Bare bare.Df) ∷ (command.Bare bare.Connect) ∷ (command.Bare bare.Disconnect) ∷ (command.Bare bare.Restart) ∷ (command.Bare bare.Work) ∷ (command.Bare bare.Sync) ∷ (command.OnPath on_path.Open) ∷ (command.OnPath on_path.Create) ∷ (command.OnPath on_path.Mkdir) ∷ (command.OnPath on_path.Delete) ∷ (command.OnPath on_path.List) ∷ (command.OnPath on_path.Hydrate) ∷ (command.OnPath on_path.Info) ∷ (command.OnPath on_path.Used) ∷ (command.OnPath on_path.Revert) ∷ (command.OnPath on_path.Unmark) ∷ (command.OnNumber on_number.Stop) ∷ (command.OnNumber on_number.Deliver) ∷ (command.OnNumber on_number.Arrive) ∷ (command.OnNumber on_number.Space) ∷ (command.OnWord on_word.Close) ∷ (command.OnWord on_word.Cancel) ∷ (command.OnWord on_word.Tick) ∷ (command.OnThree on_three.Read) ∷ (command.OnThree on_three.Get) ∷ (command.OnThree on_three.Write) ∷ (command.OnTwo on_two.Size) ∷ (command.OnTwo on_two.Rename) ∷ (command.Long long.Pin) ∷ (command.Other other.Dehydrate) ∷ (command.OnTwo on_two.Ranges) ∷ (command.Long long.Policy) ∷ (command.OnTwo on_two.Keep) ∷ (command.Other other.Crash) ∷ (command.Other other.Peer) ∷ (command.OnWord on_word.Link) ∷ (command.Other other.Place) ∷ (command.Long long.PlaceDir) ∷ (command.OnTwo on_two.Convert) ∷ (command.Other other.Update) ∷ (command.OnTwo on_two.Mark) ∷ (command.Long long.Do) ∷ (command.Long long.Plan) ∷ []

abbrev found : List ℕ → List Command → Option Command
found word [] = None
found word (c ∷ cs) = cond (bytes_eq (command_name c) word) (Some c) (found word cs)

-- each command is found by its name
found_again : (c : Command) → found (command_name c) commands ≡ Some c
found_again (command.Bare bare.Flush) = refl
found_again (command.Bare bare.Df) = refl
found_again (command.Bare bare.Connect) = refl
found_again (command.Bare bare.Disconnect) = refl
found_again (command.Bare bare.Restart) = refl
found_again (command.Bare bare.Work) = refl
found_again (command.Bare bare.Sync) = refl
found_again (command.OnPath on_path.Open) = refl
found_again (command.OnPath on_path.Create) = refl
found_again (command.OnPath on_path.Mkdir) = refl
found_again (command.OnPath on_path.Delete) = refl
found_again (command.OnPath on_path.List) = refl
found_again (command.OnPath on_path.Hydrate) = refl
found_again (command.OnPath on_path.Info) = refl
found_again (command.OnPath on_path.Used) = refl
found_again (command.OnPath on_path.Revert) = refl
found_again (command.OnPath on_path.Unmark) = refl
found_again (command.OnNumber on_number.Stop) = refl
found_again (command.OnNumber on_number.Deliver) = refl
found_again (command.OnNumber on_number.Arrive) = refl
found_again (command.OnNumber on_number.Space) = refl
found_again (command.OnWord on_word.Close) = refl
found_again (command.OnWord on_word.Cancel) = refl
found_again (command.OnWord on_word.Tick) = refl
found_again (command.OnThree on_three.Read) = refl
found_again (command.OnThree on_three.Get) = refl
found_again (command.OnThree on_three.Write) = refl
found_again (command.OnTwo on_two.Size) = refl
found_again (command.OnTwo on_two.Rename) = refl
found_again (command.Long long.Pin) = refl
found_again (command.Other other.Dehydrate) = refl
found_again (command.OnTwo on_two.Ranges) = refl
found_again (command.Long long.Policy) = refl
found_again (command.OnTwo on_two.Keep) = refl
found_again (command.Other other.Crash) = refl
found_again (command.Other other.Peer) = refl
found_again (command.OnWord on_word.Link) = refl
found_again (command.Other other.Place) = refl
found_again (command.Long long.PlaceDir) = refl
found_again (command.OnTwo on_two.Convert) = refl
found_again (command.Other other.Update) = refl
found_again (command.OnTwo on_two.Mark) = refl
found_again (command.Long long.Do) = refl
found_again (command.Long long.Plan) = refl

pub command_once : (c d : Command) → command_name c ≡ command_name d → c ≡ d
command_once c d e = let h : Some c ≡ Some d = sym (found_again c) ∙ ap (λ w. found w commands) e ∙ found_again d in cc
