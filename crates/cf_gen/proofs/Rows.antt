-- Lines that are made one after the other.
use Rattle.std.proofs.Common.{◌≡◌, ℕ, zero, suc, ◌+◌, ◌-◌, ◌<◌, ◌≤◌, List, [], ◌∷◌, ◌++◌, refl, sym, ap, ◌∙◌, arith, append_assoc, inl, inr}
use Rattle.std.specs.Prelude.{◌==◌, nat_lt}
use Rattle.std.proofs.lemmas.Bool.{cases_Bool}
use Rattle.cf_gen.specs.Scripts.{after, chosen, closes, drawn, opens, put_line, puts, round, rounds}
use Rattle.cf_gen.specs.declared.generators.Generator.{Generator}
use Rattle.cf_gen.specs.declared.lines.Line.{Line}
use Rattle.cf_gen.specs.declared.lines.Line.TheVariants.{Close, Flush, Open, Sync}

-- one line is added, and the rest is still to come
pub moved : (lines all rest left : List Line) (line : Line) → left ≡ line ∷ rest → lines ++ left ≡ all → (lines ++ line ∷ []) ++ rest ≡ all
moved lines all rest left line e h = append_assoc lines (line ∷ []) rest ∙ ap (λ t. lines ++ t) (sym e) ∙ h

pub opens_more : (n file : ℕ) → file < n → opens (n - file) file ≡ Open file ∷ opens (n - (file + 1)) (file + 1)
opens_more n file h = let e : n - file ≡ suc (n - (file + 1)) = omega arith in rw e refl

pub closes_more : (end epoch number : ℕ) → number < end → closes (end - number) epoch number ≡ Close (record { epoch = epoch; number = number }) ∷ closes (end - (number + 1)) epoch (number + 1)
closes_more end epoch number h = let e : end - number ≡ suc (end - (number + 1)) = omega arith in rw e refl

pub puts_more : (n file state : ℕ) → file < n → puts (n - file) file state ≡ put_line file state ∷ puts (n - (file + 1)) (file + 1) (after 2 state)
puts_more n file state h = let e : n - file ≡ suc (n - (file + 1)) = omega arith in rw e refl

-- the state after so many puts
abbrev pub after_puts : ℕ → ℕ → ℕ
after_puts zero state = state
after_puts (suc k) state = after_puts k (after 2 state)

pub after_more : (n file state : ℕ) → file < n → after_puts (n - file) state ≡ after_puts (n - (file + 1)) (after 2 state)
after_more n file state h = let e : n - file ≡ suc (n - (file + 1)) = omega arith in rw e refl

-- a round of kind 6
pub chosen_six : (kind file : ℕ) (g : Generator) → kind ≡ 6 → (chosen kind file g).0 ≡ closes 8 g.epoch g.first ++ Sync ∷ Flush ∷ opens 8 0
chosen_six kind file g six = rw six refl

-- A round adds one to the epoch at most, and eight to the first handle.
pub record Steps (old new : Generator) : Type 0 where
  pub epoch : new.epoch ≤ old.epoch + 1
  pub first : new.first ≤ old.first + 8

chosen_steps : (kind file : ℕ) (g : Generator) → Steps g (chosen kind file g).1
chosen_steps kind file g = elim (cases_Bool (nat_lt kind 3)) [
  | inl h0 ↦ rw h0 (record { epoch = omega arith; first = omega arith })
  | inr h0 ↦ elim (cases_Bool (kind == 3)) [
    | inl h1 ↦ rw (h0, h1) (record { epoch = omega arith; first = omega arith })
    | inr h1 ↦ elim (cases_Bool (kind == 4)) [
      | inl h2 ↦ rw (h0, h1, h2) (record { epoch = omega arith; first = omega arith })
      | inr h2 ↦ elim (cases_Bool (kind == 5)) [
        | inl h3 ↦ rw (h0, h1, h2, h3) (record { epoch = omega arith; first = omega arith })
        | inr h3 ↦ elim (cases_Bool (kind == 6)) [
          | inl h4 ↦ rw (h0, h1, h2, h3, h4) (record { epoch = omega arith; first = omega arith })
          | inr h4 ↦ rw (h0, h1, h2, h3, h4) (record { epoch = omega arith; first = omega arith })
        ]
      ]
    ]
  ]
]

pub round_steps : (g : Generator) → Steps g (round g).1
round_steps g =
    let s = chosen_steps (drawn 8 (after 1 g.state)) (drawn 8 (after 2 g.state)) (record g { state = after 2 g.state }) in
    record { epoch = s.epoch; first = s.first }

pub rounds_more : (n k : ℕ) (g : Generator) → k < n → rounds (n - k) g ≡ (round g).0 ++ rounds (n - (k + 1)) (round g).1
unfolding rounds
rounds_more n k g h = let e : n - k ≡ suc (n - (k + 1)) = omega arith in rw e refl

pub rounds_end : (n k : ℕ) (g : Generator) → n ≤ k → rounds (n - k) g ≡ []
unfolding rounds
rounds_end n k g h = let e : n - k ≡ 0 = omega arith in rw e refl
