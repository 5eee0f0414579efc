-- A word that is of no kind begins no line.
use Rattle.std.proofs.Common.{◌≢◌, ℕ, List}
use Rattle.cf_script_words.specs.declared.commands.Command.{Command}
use Rattle.cf_script_words.specs.declared.commands.Command.TheVariants as command
use Rattle.cf_script_words.specs.Names.{bare_name, path_name, number_name, word_name, two_word_name, three_word_name, long_name, other_name, command_name}

-- none of a kind is written so
abbrev IsNone : {C : Type 0} → (C → List ℕ) → List ℕ → Type 0
IsNone {C} name word = (c : C) → word ≢ name c

pub none_begins : (word : List ℕ) → IsNone bare_name word → IsNone path_name word → IsNone number_name word → IsNone word_name word → IsNone two_word_name word → IsNone three_word_name word → IsNone long_name word → IsNone other_name word
    → (c : Command) → word ≢ command_name c
none_begins word bare path number one two three long other (command.Bare c) = bare c
none_begins word bare path number one two three long other (command.OnPath c) = path c
none_begins word bare path number one two three long other (command.OnNumber c) = number c
none_begins word bare path number one two three long other (command.OnWord c) = one c
none_begins word bare path number one two three long other (command.OnTwo c) = two c
none_begins word bare path number one two three long other (command.OnThree c) = three c
none_begins word bare path number one two three long other (command.Long c) = long c
none_begins word bare path number one two three long other (command.Other c) = other c
