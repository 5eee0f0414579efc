-- The numbers that a made script has are small.
use Rattle.std.proofs.Common.{ℕ, zero, suc, ◌+◌, ◌*◌, ◌/◌, ◌^◌, ◌<◌, ◌≤◌, ◌∷◌, ◌++◌, inl, inr, arith}
use Rattle.std.specs.Prelude.{◌==◌, nat_lt}
use Rattle.std.proofs.Math.Nat.{mod-lt}
use Rattle.std.proofs.lemmas.Bool.{cases_Bool}
use Rattle.cf_gen.specs.declared.generators.Generator.{Generator}
use Rattle.cf_gen.specs.declared.lines.Line.TheVariants.{Flush, Sync}
use Rattle.cf_gen.specs.Scripts.{after, chosen, closes, drawn, made, opens, puts, round, rounds}
use Rattle.cf_gen.proofs.Rows.{round_steps}
use Rattle.cf_gen.proofs.SpelledLines.{LinesFit, fit_both}

below : (m s : ℕ) → 0 < m → drawn m s < m
unfolding drawn
below m s h = mod-lt (s / 2 ^ 33) h

opens_fit : (k file : ℕ) → file + k ≤ 8 → LinesFit (opens k file)
opens_fit zero file h = tt
opens_fit (suc k) file h = (omega arith, opens_fit k (file + 1) (omega arith))

closes_fit : (k epoch number : ℕ) → epoch < 2 ^ 32 → number + k < 2 ^ 32 → LinesFit (closes k epoch number)
closes_fit zero epoch number e h = tt
closes_fit (suc k) epoch number e h = ((e, omega arith), closes_fit k epoch (number + 1) e (omega arith))

puts_fit : (k file state : ℕ) → file + k ≤ 8 → LinesFit (puts k file state)
puts_fit zero file state h = tt
puts_fit (suc k) file state h = ((omega arith, (omega (arith, below 64 (after 1 state) (omega arith)), omega arith, omega (arith, below 20000 (after 2 state) (omega arith)))), puts_fit k (file + 1) (after 2 state) (omega arith))

-- where the numbers of handles have room
abbrev pub HasRoom : Generator → Type 0
HasRoom g = (g.epoch + 1 < 2 ^ 32) × (g.first + 16 < 2 ^ 32)

chosen_fit : (kind file : ℕ) (g : Generator) → file < 8 → HasRoom g → LinesFit (chosen kind file g).0
chosen_fit kind file g h room = elim (cases_Bool (nat_lt kind 3)) [
  | inl h0 ↦ rw h0 (((omega (arith, room.0), omega (arith, room.1)), omega (arith, below 20000 (after 1 g.state) (omega arith)), omega (arith, below 8192 (after 2 g.state) (omega arith))), tt)
  | inr h0 ↦ elim (cases_Bool (kind == 3)) [
    | inl h1 ↦ rw (h0, h1) (((omega (arith, room.0), omega (arith, room.1)), omega (arith, below 20000 (after 1 g.state) (omega arith)), (omega (arith, below 64 (after 2 g.state) (omega arith)), omega arith, omega (arith, below 5000 (after 3 g.state) (omega arith)))), tt)
    | inr h1 ↦ elim (cases_Bool (kind == 4)) [
      | inl h2 ↦ rw (h0, h1, h2) (((omega (arith, room.0), omega (arith, room.1)), omega (arith, below 20000 (after 1 g.state) (omega arith))), tt)
      | inr h2 ↦ elim (cases_Bool (kind == 5)) [
        | inl h3 ↦ rw (h0, h1, h2, h3) ((h, (omega (arith, below 64 (after 1 g.state) (omega arith)), omega arith, omega (arith, below 20000 (after 2 g.state) (omega arith)))), tt)
        | inr h3 ↦ elim (cases_Bool (kind == 6)) [
          | inl h4 ↦ rw (h0, h1, h2, h3, h4) (fit_both (closes 8 g.epoch g.first) (Sync ∷ Flush ∷ opens 8 0) (closes_fit 8 g.epoch g.first (omega (arith, room.0)) (omega (arith, room.1))) (tt, (tt, opens_fit 8 0 (omega arith))))
          | inr h4 ↦ rw (h0, h1, h2, h3, h4) (omega (arith, below 2147483648 (after 1 g.state) (omega arith)), (tt, opens_fit 8 0 (omega arith)))
        ]
      ]
    ]
  ]
]

round_fits : (g : Generator) → HasRoom g → LinesFit (round g).0
round_fits g room = chosen_fit (drawn 8 (after 1 g.state)) (drawn 8 (after 2 g.state)) (record g { state = after 2 g.state }) (below 8 (after 2 g.state) (omega arith)) room

rounds_fit : (k : ℕ) (g : Generator) → g.epoch + k < 2 ^ 31 → g.first + 8 * k < 2 ^ 31 → LinesFit (rounds k g)
unfolding rounds
rounds_fit zero g e f = tt
rounds_fit (suc k) g e f =
    let steps = round_steps g in
    fit_both (round g).0 (rounds k (round g).1) (round_fits g (omega arith, omega arith)) (rounds_fit k (round g).1 (omega (arith, steps.epoch)) (omega (arith, steps.first)))

pub made_fits : (n : ℕ) → LinesFit (made n)
made_fits n =
    let start : Generator = record { state = after 16 n; epoch = 1; first = 1 } in
    fit_both (puts 8 0 n ++ Sync ∷ Flush ∷ opens 8 0) (rounds 400 start)
    (fit_both (puts 8 0 n) (Sync ∷ Flush ∷ opens 8 0) (puts_fit 8 0 n (omega arith)) (tt, (tt, opens_fit 8 0 (omega arith))))
    (rounds_fit 400 start (omega arith) (omega arith))
