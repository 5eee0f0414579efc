-- The text after `gen`, and what clap met.
use Rattle.std.proofs.Common.{◌≡◌, ◌≢◌, ℕ, List, sym, ap, ◌∙◌}
use Rattle.std.specs.Prelude.{codes, Option, Some, None, option_map}
use Rattle.std.specs.Borrow.{Bor}
use Rattle.clap.proofs.WalkLemmas.{first_value-rows}
use Rattle.clap.specs.Matches.{first_value}
use Rattle.clap.specs.Walk.{Row, Text, first_of, rows_of}
use Rattle.clap.specs.declared.parser.matches.Found.{Found}
use Rattle.cf_script_words.specs.Words.{IsNumber}
use Rattle.cf_cli.specs.Accounts.{HasNumber, IsAlone, IsMet, name_of}
use Rattle.cf_cli.specs.declared.commands.Command.{Command}
use Rattle.cf_cli.specs.declared.commands.Command.TheVariants.{Check, Filter, Gen, Image, Migrate, Replay, Scrub, State}

-- what the getter gives is the first text of the rows
pub text_of : (f : Found) (o : Option (Bor Text)) → option_map (λ s. s.now) o ≡ first_value f (codes "number") → first_of (codes "number") (rows_of f) ≡ option_map (λ s. s.now) o
text_of f o e = sym (first_value-rows f (codes "number")) ∙ sym e

pub without_text : (f : Found) (o : Option (Bor Text)) → option_map (λ s. s.now) o ≡ first_value f (codes "number") → o ≡ None → (n : ℕ) → HasNumber (Gen n) (rows_of f) → ⊥
without_text f o e none n h =
    let z : option_map (λ s. s.now) o ≡ Some h.0 = sym (text_of f o e) ∙ h.1 in
    let impossible : None ≡ Some h.0 = rw none at z in absurd cc

pub other_text : (f : Found) (o : Option (Bor Text)) (word : Bor Text) → option_map (λ s. s.now) o ≡ first_value f (codes "number") → o ≡ Some word → ((n : ℕ) → IsNumber word.now n → ⊥) → (n : ℕ) → HasNumber (Gen n) (rows_of f) → ⊥
other_text f o word e some none n h =
    let z : option_map (λ s. s.now) o ≡ Some h.0 = sym (text_of f o e) ∙ h.1 in
    let given : Some word.now ≡ Some h.0 = rw some at z in
    let same : h.0 ≡ word.now = cc in
    none n (h.2.0, sym same ∙ h.2.1)

-- `gen` without a number is none of what clap met
pub gen_alone : (name : List ℕ) (rows : List Row) → name ≡ codes "gen" → ((n : ℕ) → HasNumber (Gen n) rows → ⊥) → (c : Command) → IsMet (Some (name, rows)) c → ⊥
gen_alone name rows is none (Gen n) met = none n met.1
gen_alone name rows is none c met = absurd cc

-- a name of no command is none of what clap met
pub no_name : (name : List ℕ) (rows : List Row) → name ≢ codes "gen" → ((c : Command) → IsAlone c → name ≢ name_of c) → (c : Command) → IsMet (Some (name, rows)) c → ⊥
no_name name rows other none Replay met = none Replay tt met.0
no_name name rows other none Filter met = none Filter tt met.0
no_name name rows other none State met = none State tt met.0
no_name name rows other none Image met = none Image tt met.0
no_name name rows other none (Gen n) met = other met.0
no_name name rows other none Scrub met = none Scrub tt met.0
no_name name rows other none Migrate met = none Migrate tt met.0
no_name name rows other none Check met = none Check tt met.0

-- a command of one word has no number
pub is_met : (name : List ℕ) (rows : List Row) (c : Command) → IsAlone c → name ≡ name_of c → IsMet (Some (name, rows)) c
is_met name rows Replay alone is = (is, tt)
is_met name rows Filter alone is = (is, tt)
is_met name rows State alone is = (is, tt)
is_met name rows Image alone is = (is, tt)
is_met name rows (Gen n) alone is = absurd alone
is_met name rows Scrub alone is = (is, tt)
is_met name rows Migrate alone is = (is, tt)
is_met name rows Check alone is = (is, tt)

-- the name and the rows of what clap met are what it met
pub both_parts : (met : Option (Text × List Row)) (name : Text) (rows : List Row) → option_map (λ p. p.0) met ≡ Some name → option_map (λ p. p.1) met ≡ Some rows → met ≡ Some (name, rows)
both_parts None name rows a b = absurd cc
both_parts (Some p) name rows a b =
    let same : p.0 ≡ name = cc in
    let rest : p.1 ≡ rows = cc in
    ap (λ (x : Text). Some (x, p.1)) same ∙ ap (λ (y : List Row). Some (name, y)) rest
