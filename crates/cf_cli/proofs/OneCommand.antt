-- Words name one command at most.
use Rattle.std.proofs.Common.{◌≡◌, ℕ, List, refl, sym, ap, subst, ◌∙◌}
use Rattle.std.specs.Prelude.{if◌then◌else◌, codes, Option, Some, None}
use Rattle.std.specs.Str.{bytes_eq}
use Rattle.clap.specs.Walk.{Row, Text}
use Rattle.clap.specs.Simple.{subcommand_of}
use Rattle.cf_script_words.proofs.NumberMeans.{number_once}
use Rattle.cf_script_words.specs.Words.{IsNumber}
use Rattle.cf_cli.specs.Accounts.{HasNumber, IsMet, Names, account, name_of}
use Rattle.cf_cli.specs.declared.commands.Command.{Command}
use Rattle.cf_cli.specs.declared.commands.Command.TheVariants.{Check, Filter, Gen, Image, Migrate, Replay, Scrub, State}

-- the command of a name and of the number that it has, if it has one
abbrev named : List ℕ → ℕ → Command
named name n =
    if bytes_eq name (codes "replay") then Replay
    else if bytes_eq name (codes "filter") then Filter
    else if bytes_eq name (codes "state") then State
    else if bytes_eq name (codes "image") then Image
    else if bytes_eq name (codes "scrub") then Scrub
    else if bytes_eq name (codes "migrate") then Migrate
    else if bytes_eq name (codes "check") then Check
    else Gen n

abbrev number_of : Command → ℕ
number_of (Gen n) = n
number_of c = 0

named_again : (c : Command) → named (name_of c) (number_of c) ≡ c
named_again Replay = refl
named_again Filter = refl
named_again State = refl
named_again Image = refl
named_again (Gen n) = refl
named_again Scrub = refl
named_again Migrate = refl
named_again Check = refl

same_number : (n m : ℕ) (rows : List Row) → HasNumber (Gen n) rows → HasNumber (Gen m) rows → n ≡ m
same_number n m rows a b =
    let same : b.0 ≡ a.0 = cc in
    number_once a.0 m n (subst (λ (t : Text). IsNumber t m) same b.2) a.2

-- two commands that are met have the same name, and then the same number
one_number : (c d : Command) (rows : List Row) → name_of c ≡ name_of d → HasNumber c rows → HasNumber d rows → number_of c ≡ number_of d
one_number (Gen n) (Gen m) rows e a b = same_number n m rows a b
one_number (Gen n) d rows e a b = absurd cc
one_number c (Gen m) rows e a b = absurd cc
one_number c d rows e a b = refl

one_met : (met : Option (Text × List Row)) (c d : Command) → IsMet met c → IsMet met d → c ≡ d
one_met None c d a b = absurd a
one_met (Some p) c d a b =
    let e : name_of c ≡ name_of d = sym a.0 ∙ b.0 in
    sym (named_again c) ∙ ap (λ name. named name (number_of c)) e ∙ ap (λ n. named (name_of d) n) (one_number c d p.1 e a.1 b.1) ∙ named_again d

pub one_command : (words : List (List ℕ)) (c d : Command) → Names words c → Names words d → c ≡ d
one_command words c d a b = one_met (subcommand_of account words) c d a.1 b.1
