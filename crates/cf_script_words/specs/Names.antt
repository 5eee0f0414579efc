-- The fixed words of a script.
use Rattle.std.specs.Prelude.{ℕ, Bool, true, false, List, [], ◌∷◌, ◌++◌, codes}
use Rattle.std.specs.Str.{bytes_eq}
use Rattle.cf_base.specs.declared.items.Pin.{Pin}
use Rattle.cf_base.specs.declared.items.Pin.TheVariants as pin
use Rattle.cf_base.specs.declared.items.Reach.{Reach}
use Rattle.cf_base.specs.declared.items.Reach.TheVariants as reach
use Rattle.cf_base.specs.declared.policies.Class.{Class}
use Rattle.cf_base.specs.declared.policies.Class.TheVariants as class
use Rattle.cf_base.specs.declared.policies.Hydration.{Hydration}
use Rattle.cf_base.specs.declared.policies.Hydration.TheVariants as hydration
use Rattle.cf_base.specs.declared.policies.Population.{Population}
use Rattle.cf_base.specs.declared.policies.Population.TheVariants as population
use Rattle.cf_script_words.specs.declared.commands.Command.{Command}
use Rattle.cf_script_words.specs.declared.commands.Command.TheVariants as command
use Rattle.cf_script_words.specs.declared.commands.BareCommand.{BareCommand}
use Rattle.cf_script_words.specs.declared.commands.BareCommand.TheVariants as bare
use Rattle.cf_script_words.specs.declared.commands.PathCommand.{PathCommand}
use Rattle.cf_script_words.specs.declared.commands.PathCommand.TheVariants as on_path
use Rattle.cf_script_words.specs.declared.commands.NumberCommand.{NumberCommand}
use Rattle.cf_script_words.specs.declared.commands.NumberCommand.TheVariants as on_number
use Rattle.cf_script_words.specs.declared.commands.WordCommand.{WordCommand}
use Rattle.cf_script_words.specs.declared.commands.WordCommand.TheVariants as on_word
use Rattle.cf_script_words.specs.declared.commands.TwoWordCommand.{TwoWordCommand}
use Rattle.cf_script_words.specs.declared.commands.TwoWordCommand.TheVariants as on_two
use Rattle.cf_script_words.specs.declared.commands.ThreeWordCommand.{ThreeWordCommand}
use Rattle.cf_script_words.specs.declared.commands.ThreeWordCommand.TheVariants as on_three
use Rattle.cf_script_words.specs.declared.commands.LongCommand.{LongCommand}
use Rattle.cf_script_words.specs.declared.commands.LongCommand.TheVariants as long
use Rattle.cf_script_words.specs.declared.commands.OtherCommand.{OtherCommand}
use Rattle.cf_script_words.specs.declared.commands.OtherCommand.TheVariants as other
use Rattle.cf_script_words.specs.declared.commands.PeerCommand.{PeerCommand}
use Rattle.cf_script_words.specs.declared.commands.PeerCommand.TheVariants as peer
use Rattle.cf_script_words.specs.declared.commands.OperationCommand.{OperationCommand}
use Rattle.cf_script_words.specs.declared.commands.OperationCommand.TheVariants as operation

abbrev pub bare_name : BareCommand → List ℕ
bare_name bare.Flush = codes "flush"
bare_name bare.Df = codes "df"
bare_name bare.Connect = codes "connect"
bare_name bare.Disconnect = codes "disconnect"
bare_name bare.Restart = codes "restart"
bare_name bare.Work = codes "work"
bare_name bare.Sync = codes "sync"

abbrev pub path_name : PathCommand → List ℕ
path_name on_path.Open = codes "open"
path_name on_path.Create = codes "create"
path_name on_path.Mkdir = codes "mkdir"
path_name on_path.Delete = codes "delete"
path_name on_path.List = codes "list"
path_name on_path.Hydrate = codes "hydrate"
path_name on_path.Info = codes "info"
path_name on_path.Used = codes "used"
path_name on_path.Revert = codes "revert"
path_name on_path.Unmark = codes "unmark"

abbrev pub number_name : NumberCommand → List ℕ
number_name on_number.Stop = codes "stop"
number_name on_number.Deliver = codes "deliver"
number_name on_number.Arrive = codes "arrive"
number_name on_number.Space = codes "space"

-- a word with one word after it
abbrev pub word_name : WordCommand → List ℕ
word_name on_word.Close = codes "close"
word_name on_word.Cancel = codes "cancel"
word_name on_word.Tick = codes "tick"
word_name on_word.Link = codes "link"

-- a word with two words after it
abbrev pub two_word_name : TwoWordCommand → List ℕ
two_word_name on_two.Size = codes "size"
two_word_name on_two.Rename = codes "rename"
two_word_name on_two.Ranges = codes "ranges"
two_word_name on_two.Keep = codes "keep"
two_word_name on_two.Convert = codes "convert"
two_word_name on_two.Mark = codes "mark"

-- a word with three words after it
abbrev pub three_word_name : ThreeWordCommand → List ℕ
three_word_name on_three.Read = codes "read"
three_word_name on_three.Get = codes "get"
three_word_name on_three.Write = codes "write"

-- a word with two words after it, or more
abbrev pub long_name : LongCommand → List ℕ
long_name long.Pin = codes "pin"
long_name long.Policy = codes "policy"
long_name long.PlaceDir = codes "placedir"
long_name long.Do = codes "do"
long_name long.Plan = codes "plan"

-- a word with words after it in a number of its own
abbrev pub other_name : OtherCommand → List ℕ
other_name other.Dehydrate = codes "dehydrate"
other_name other.Crash = codes "crash"
other_name other.Peer = codes "peer"
other_name other.Place = codes "place"
other_name other.Update = codes "update"

-- the first word of a line
abbrev pub command_name : Command → List ℕ
command_name (command.Bare c) = bare_name c
command_name (command.OnPath c) = path_name c
command_name (command.OnNumber c) = number_name c
command_name (command.OnWord c) = word_name c
command_name (command.OnTwo c) = two_word_name c
command_name (command.OnThree c) = three_word_name c
command_name (command.Long c) = long_name c
command_name (command.Other c) = other_name c

-- the word after `peer`
abbrev pub peer_name : PeerCommand → List ℕ
peer_name peer.Put = codes "put"
peer_name peer.Mkdir = codes "mkdir"
peer_name peer.Move = codes "move"
peer_name peer.Remove = codes "remove"
peer_name peer.Stat = codes "stat"
peer_name peer.Keep = codes "keep"

-- the word after `do` or `plan`
abbrev pub operation_name : OperationCommand → List ℕ
operation_name operation.Transfer = codes "transfer"
operation_name operation.Fail = codes "fail"
operation_name operation.Retrieve = codes "retrieve"
operation_name operation.Ack = codes "ack"
operation_name operation.Rehydrate = codes "rehydrate"
operation_name operation.Entries = codes "entries"
operation_name operation.AckDehydrate = codes "ackdehydrate"

abbrev pub pin_name : Pin → List ℕ
pin_name pin.Unspecified = codes "unspecified"
pin_name pin.Pinned = codes "pinned"
pin_name pin.Unpinned = codes "unpinned"
pin_name pin.Excluded = codes "excluded"
pin_name pin.Inherit = codes "inherit"

-- one word, or none for the item alone
abbrev pub reach_words : Reach → List (List ℕ)
reach_words reach.One = []
reach_words reach.Recurse = codes "recurse" ∷ []
reach_words reach.RecurseOnly = codes "recurse-only" ∷ []

abbrev pub class_name : Class → List ℕ
class_name class.OnDisk = codes "ondisk"
class_name class.Validated = codes "validated"
class_name class.Modified = codes "modified"

abbrev pub hydration_name : Hydration → List ℕ
hydration_name hydration.Partial = codes "partial"
hydration_name hydration.Progressive = codes "progressive"
hydration_name hydration.Full = codes "full"
hydration_name hydration.AlwaysFull = codes "always-full"

abbrev pub population_name : Population → List ℕ
population_name population.Partial = codes "partial"
population_name population.Full = codes "full"
population_name population.AlwaysFull = codes "always-full"

-- the word where the flag is set
abbrev pub flag_words : List ℕ → Bool → List (List ℕ)
flag_words word true = word ∷ []
flag_words word false = []

-- whether the words begin with this one
abbrev pub begins : List ℕ → List (List ℕ) → Bool
begins word [] = false
begins word (w ∷ ws) = bytes_eq w word

-- the modifiers that are set, in this order
abbrev pub modifier_words : Bool → Bool → Bool → List (List ℕ)
modifier_words validate restart auto = flag_words (codes "validate") validate ++ (flag_words (codes "restart") restart ++ flag_words (codes "auto") auto)

abbrev pub yes_name : Bool → List ℕ
yes_name true = codes "yes"
yes_name false = codes "no"

abbrev pub good_name : Bool → List ℕ
good_name true = codes "ok"
good_name false = codes "no"

abbrev pub link_name : Bool → List ℕ
link_name true = codes "inline"
link_name false = codes "queued"

-- a power cut that leaves all, or nothing
abbrev pub kept_name : Bool → List ℕ
kept_name true = codes "keep"
kept_name false = codes "drop"

-- a directory, or a file
abbrev pub entry_kind : Bool → List ℕ
entry_kind true = codes "dir"
entry_kind false = codes "file"
