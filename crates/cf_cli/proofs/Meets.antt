-- What the command line takes.
use Rattle.std.proofs.Common.{◌≡◌, ◌==◌, ℕ, ◌<◌, ◌^◌, true, false, List, [], ◌∷◌, refl, arith}
use Rattle.std.specs.Prelude.{codes, None}
use Rattle.std.specs.Fmt.{decimal}
use Rattle.std.specs.Str.Parse.{AllDigits}
use Rattle.std.proofs.lemmas.Bool.{ne_eqb}
use Rattle.std.proofs.lemmas.Fmt.{decimal_is_IsNumeral}
use Rattle.std.proofs.lemmas.Str.Parse.{digit_from_value}
use Rattle.std.specs.Str.{bytes_eq}
use Rattle.clap.specs.Lexer.{long_of, short_of}
use Rattle.clap.proofs.OnLiterals.{clap_on_literals}
use Rattle.clap.specs.Faults.{is_simple_and_free}
use Rattle.clap.specs.Simple.{is_simple, subcommand_of}
use Rattle.cf_script_words.specs.Words.{IsNumber}
use Rattle.cf_cli.specs.Accounts.{AreParsed, AreTaken, IsAlone, IsMet, Names, account, name_of}
use Rattle.cf_cli.specs.declared.commands.Command.{Command}
use Rattle.cf_cli.specs.declared.commands.Command.TheVariants.{Check, Filter, Gen, Image, Migrate, Replay, Scrub, State}

pub is_free : is_simple_and_free account ≡ true
unfolding clap_on_literals
is_free = refl

pub simple : is_simple account ≡ true
unfolding clap_on_literals
simple = refl

pub none_taken : AreTaken [] → ⊥
unfolding clap_on_literals
none_taken h = absurd cc

-- the words of a command are taken as it

replay_taken : Names (codes "replay" ∷ []) Replay
unfolding clap_on_literals
replay_taken = (refl, (refl, tt))

filter_taken : Names (codes "filter" ∷ []) Filter
unfolding clap_on_literals
filter_taken = (refl, (refl, tt))

state_taken : Names (codes "state" ∷ []) State
unfolding clap_on_literals
state_taken = (refl, (refl, tt))

image_taken : Names (codes "image" ∷ []) Image
unfolding clap_on_literals
image_taken = (refl, (refl, tt))

scrub_taken : Names (codes "scrub" ∷ []) Scrub
unfolding clap_on_literals
scrub_taken = (refl, (refl, tt))

migrate_taken : Names (codes "migrate" ∷ []) Migrate
unfolding clap_on_literals
migrate_taken = (refl, (refl, tt))

check_taken : Names (codes "check" ∷ []) Check
unfolding clap_on_literals
check_taken = (refl, (refl, tt))

pub taken : (c : Command) → IsAlone c → Names (name_of c ∷ []) c
taken Replay alone = replay_taken
taken Filter alone = filter_taken
taken State alone = state_taken
taken Image alone = image_taken
taken (Gen n) alone = absurd alone
taken Scrub alone = scrub_taken
taken Migrate alone = migrate_taken
taken Check alone = check_taken

-- `gen` and a number

gen_parsed : (word : List ℕ) → bytes_eq word (45 ∷ 45 ∷ []) ≡ false → long_of word ≡ None → short_of word ≡ None → AreParsed (codes "gen" ∷ word ∷ [])
unfolding clap_on_literals
gen_parsed word plain not_long not_short = rw (plain, not_long, not_short) refl

gen_met : (word : List ℕ) (n : ℕ) → bytes_eq word (45 ∷ 45 ∷ []) ≡ false → long_of word ≡ None → short_of word ≡ None → IsNumber word n → IsMet (subcommand_of account (codes "gen" ∷ word ∷ [])) (Gen n)
unfolding clap_on_literals
gen_met word n plain not_long not_short is = (refl, (word, (rw (plain, not_long, not_short) refl), is))

-- digits do not begin with a hyphen (45)
no_flag : (word : List ℕ) → AllDigits 10 word → (bytes_eq word (45 ∷ 45 ∷ []) ≡ false) × (long_of word ≡ None) × (short_of word ≡ None)
no_flag [] digits = (refl, refl, refl)
no_flag (b ∷ bs) digits =
    let other : (b == 45) ≡ false = ne_eqb b 45 (λ e. omega (arith, digit_from_value b digits.0)) in
    (rw other refl, rw other refl, rw other refl)

pub number_taken : (n : ℕ) → n < 2 ^ 32 → Names (codes "gen" ∷ decimal n ∷ []) (Gen n)
number_taken n small =
    let none = no_flag (decimal n) (decimal_is_IsNumeral n (omega arith)).0.1 in
    (gen_parsed (decimal n) none.0 none.1 none.2, gen_met (decimal n) n none.0 none.1 none.2 (small, refl))
