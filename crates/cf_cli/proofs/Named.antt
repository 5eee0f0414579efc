-- Words that clap takes name one of the subcommands.
use Rattle.std.proofs.Common.{◌≡◌, Bool, true, false, List, [], ◌∷◌, refl, inl, inr}
use Rattle.std.specs.Prelude.{◌⊎◌, codes, Option, Some, None, option_map, is_some}
use Rattle.std.proofs.lemmas.Bool.{cases_Bool}
use Rattle.clap.specs.Faults.{check_fault, defaults_fault, entered_fault, settle_fault, walk_fault}
use Rattle.clap.specs.Kinds.{Kinds, or_else}
use Rattle.clap.specs.Simple.{argument_words, built, entered, names_of, subcommand_of}
use Rattle.clap.specs.Walk.{Row, Text, answers_to, finished, nothing_held, settled, stop_after, walk, walk_from}
use Rattle.cf_cli.specs.Accounts.{AreParsed, AreTaken, IsMet, account, name_of}
use Rattle.cf_cli.specs.declared.commands.Command.{Command}
use Rattle.cf_cli.specs.declared.commands.Command.TheVariants.{Check, Filter, Gen, Image, Migrate, Replay, Scrub, State}

-- the subcommand that is met

or_else_last : (a b : Kinds) → or_else a b ≡ [] → b ≡ []
or_else_last [] b h = h
or_else_last (k ∷ ks) b h = absurd cc

checked : (rows : List Row) (b : Bool) → check_fault (built account).top rows b ≡ [] → b ≡ true
checked rows true h = refl
checked rows false h = absurd cc

entered_one : (stop : Option (Text × List Text)) → is_some (entered (built account) stop) ≡ true → (c : Command) × (option_map (λ p. p.0) (entered (built account) stop) ≡ Some (name_of c))
entered_one None h = let z : false ≡ true = h in absurd cc
entered_one (Some p) h = elim (cases_Bool (answers_to p.0 (codes "replay", []))) [
  | inl h0 ↦ (Replay, rw h0 refl)
  | inr h0 ↦ elim (cases_Bool (answers_to p.0 (codes "filter", []))) [
    | inl h1 ↦ (Filter, rw (h0, h1) refl)
    | inr h1 ↦ elim (cases_Bool (answers_to p.0 (codes "state", []))) [
      | inl h2 ↦ (State, rw (h0, h1, h2) refl)
      | inr h2 ↦ elim (cases_Bool (answers_to p.0 (codes "image", []))) [
        | inl h3 ↦ (Image, rw (h0, h1, h2, h3) refl)
        | inr h3 ↦ elim (cases_Bool (answers_to p.0 (codes "gen", []))) [
          | inl h4 ↦ (Gen 0, rw (h0, h1, h2, h3, h4) refl)
          | inr h4 ↦ elim (cases_Bool (answers_to p.0 (codes "scrub", []))) [
            | inl h5 ↦ (Scrub, rw (h0, h1, h2, h3, h4, h5) refl)
            | inr h5 ↦ elim (cases_Bool (answers_to p.0 (codes "migrate", []))) [
              | inl h6 ↦ (Migrate, rw (h0, h1, h2, h3, h4, h5, h6) refl)
              | inr h6 ↦ elim (cases_Bool (answers_to p.0 (codes "check", []))) [
                | inl h7 ↦ (Check, rw (h0, h1, h2, h3, h4, h5, h6, h7) refl)
                | inr h7 ↦ let z : false ≡ true = rw (h0, h1, h2, h3, h4, h5, h6, h7) at h in absurd cc
              ]
            ]
          ]
        ]
      ]
    ]
  ]
]

-- words that clap takes name a subcommand
meets : (words : List Text) → AreParsed words → (c : Command) × (option_map (λ p. p.0) (subcommand_of account words) ≡ Some (name_of c))
meets words h =
    let top = (built account).top in
    let names = names_of (built account) in
    let told = argument_words account words in
    let end = (walk top.rules names nothing_held told).held in
    let below = entered_fault (built account) (stop_after top.rules names told) in
    let settles = settle_fault top.rules top.args_override_self end in
    let defaults = defaults_fault (settled top.rules end).rows top.rules in
    let met = is_some (entered (built account) (stop_after top.rules names told)) in
    let last = check_fault top (finished top.rules end) met in
    entered_one (stop_after top.rules names told) (checked (finished top.rules end) met
    (or_else_last defaults last (or_else_last settles (or_else defaults last) (or_else_last below (or_else settles (or_else defaults last))
    (or_else_last (walk_fault top names (walk_from nothing_held) told) (or_else below (or_else settles (or_else defaults last))) h)))))

-- which is the command, where it needs no number
is_it : (met : Option (Text × List Row)) (c : Command) → option_map (λ p. p.0) met ≡ Some (name_of c) → IsMet met c ⊎ (option_map (λ p. p.0) met ≡ Some (codes "gen"))
is_it None c e = absurd cc
is_it (Some p) Replay e = inl (cc, tt)
is_it (Some p) Filter e = inl (cc, tt)
is_it (Some p) State e = inl (cc, tt)
is_it (Some p) Image e = inl (cc, tt)
is_it (Some p) (Gen n) e = inr e
is_it (Some p) Scrub e = inl (cc, tt)
is_it (Some p) Migrate e = inl (cc, tt)
is_it (Some p) Check e = inl (cc, tt)

pub taken_or_gen : (words : List Text) → AreParsed words → AreTaken words ⊎ (option_map (λ p. p.0) (subcommand_of account words) ≡ Some (codes "gen"))
taken_or_gen words h =
    let one = meets words h in
    elim (is_it (subcommand_of account words) one.0 one.1) [
      | inl is ↦ inl (one.0, (h, is))
      | inr gen ↦ inr gen
    ]
