-- The command line as clap sees it, and what it names.
use Rattle.std.specs.Prelude.{◌≡◌, ℕ, true, List, [], ◌∷◌, codes, Option, Some, None}
use Rattle.clap.specs.Faults.{fault_of}
use Rattle.clap.specs.Simple.{App, Shape, new_rule, new_shape, subcommand_of, with_subcommand}
use Rattle.clap.specs.Walk.{Row, Rule, Text, first_of}
use Rattle.cf_script_words.specs.Words.{IsNumber}
use Rattle.cf_cli.specs.declared.commands.Command.{Command}
use Rattle.cf_cli.specs.declared.commands.Command.TheVariants.{Check, Filter, Gen, Image, Migrate, Replay, Scrub, State}

-- the program itself: a subcommand is required, and there is neither help nor version
abbrev pub top : Shape
top = record (new_shape (codes "cloudfiles")) {
  no_binary_name = true;
  disable_help_flag = true;
  disable_help_subcommand = true;
  disable_version_flag = true;
  subcommand_required = true;
}

abbrev pub name_of : Command → List ℕ
name_of Replay = codes "replay"
name_of Filter = codes "filter"
name_of State = codes "state"
name_of Image = codes "image"
name_of (Gen n) = codes "gen"
name_of Scrub = codes "scrub"
name_of Migrate = codes "migrate"
name_of Check = codes "check"

-- a command of one word
abbrev pub IsAlone : Command → Type 0
IsAlone (Gen n) = ⊥
IsAlone c = Unit {0}

-- the text after `gen`, which has to be there
abbrev pub number_rule : Rule
number_rule = record (new_rule (codes "number")) { required = true }

abbrev pub gen_shape : Shape
gen_shape = record (new_shape (codes "gen")) { rules = number_rule ∷ [] }

-- the command line with more and more subcommands: those that write a report, those that write what a script leads to, and all

abbrev pub of_reports : App
of_reports = with_subcommand (with_subcommand (record { top = top; subs = [] }) (new_shape (codes "replay"))) (new_shape (codes "filter"))

abbrev pub of_scripts : App
of_scripts = with_subcommand (with_subcommand (with_subcommand of_reports (new_shape (codes "state"))) (new_shape (codes "image"))) gen_shape

abbrev pub account : App
account = with_subcommand (with_subcommand (with_subcommand of_scripts (new_shape (codes "scrub"))) (new_shape (codes "migrate"))) (new_shape (codes "check"))

-- the text of `gen` is a number by the rule of scripts; no other command has a text
abbrev pub HasNumber : Command → List Row → Type 0
HasNumber (Gen n) rows = (text : Text) × (first_of (codes "number") rows ≡ Some text) × IsNumber text n
HasNumber c rows = Unit {0}

-- what clap met, by its name and its matches, is this command
abbrev pub IsMet : Option (Text × List Row) → Command → Type 0
IsMet None c = ⊥
IsMet (Some met) c = (met.0 ≡ name_of c) × HasNumber c met.1

-- clap takes the words
abbrev pub AreParsed : List (List ℕ) → Type 0
AreParsed words = fault_of account words ≡ []

-- clap takes the words, and they name this command
abbrev pub Names : List (List ℕ) → Command → Type 0
Names words c = AreParsed words × IsMet (subcommand_of account words) c

-- the words name a command
abbrev pub AreTaken : List (List ℕ) → Type 0
AreTaken words = (c : Command) × Names words c
