-- A made script is short.
use Rattle.std.proofs.Common.{◌≡◌, ℕ, zero, suc, ◌+◌, ◌*◌, ◌^◌, ◌<◌, ◌≤◌, List, [], ◌∷◌, ◌++◌, length, refl, inl, inr, arith}
use Rattle.std.specs.Prelude.{◌==◌, nat_lt}
use Rattle.std.specs.Fmt.{decimal}
use Rattle.std.proofs.lemmas.Bool.{cases_Bool}
use Rattle.std.proofs.lemmas.Fmt.{length-decimal-le}
use Rattle.std.proofs.lemmas.List.{length-append, length-map}
use Rattle.hex.specs.Hex.{encode_lower, lower_digits}
use Rattle.hex.proofs.HexLemmas.{length-encode_with}
use Rattle.cf_base.specs.declared.ids.Key.{Key}
use Rattle.cf_base.specs.declared.policies.Mode.TheVariants as mode
use Rattle.cf_script.specs.Fits.{KeyFits}
use Rattle.cf_script_words.specs.Texts.{key_text, line_of, spaced}
use Rattle.cf_script.specs.Script.{IsScript}
use Rattle.cf_gen.specs.declared.generators.Generator.{Generator}
use Rattle.cf_gen.specs.declared.lines.Line.{Line}
use Rattle.cf_gen.specs.declared.lines.Line.TheVariants.{Close, Crash, Flush, Open, Put, Read, Restart, Size, Sync, Write}
use Rattle.cf_gen.specs.Lines.{event_of, path_of, repeated, text_of, words_of}
use Rattle.cf_gen.specs.Scripts.{after, chosen, drawn, made, made_events, made_script, opens, puts, round, rounds}
use Rattle.cf_gen.proofs.RoundsFit.{made_fits}
use Rattle.cf_gen.proofs.SpelledLines.{LineFits, LinesFit, lines_spell}

-- words of at most 21 bytes
abbrev AreShort : List (List ℕ) → Type 0
AreShort [] = Unit {0}
AreShort (w ∷ ws) = (length w ≤ 21) × AreShort ws

spaced_short : (ws : List (List ℕ)) → AreShort ws → length (spaced ws) ≤ 22 * length ws
spaced_short [] h = omega arith
spaced_short (w ∷ ws) h = omega (arith, h.0, spaced_short ws h.1, length-append w (spaced ws))

line_short : (ws : List (List ℕ)) → AreShort ws → length (line_of ws) ≤ 22 * length ws
line_short [] h = omega arith
line_short (w ∷ ws) h = omega (arith, h.0, spaced_short ws h.1, length-append w (spaced ws))

number_short : (n : ℕ) → n < 2 ^ 32 → length (decimal n) ≤ 10
number_short n h = length-decimal-le 10 n (omega arith) (omega arith) (omega arith)

key_short : (key : Key) → KeyFits key → length (key_text key) ≤ 21
key_short key h = omega (arith, number_short key.epoch h.0, number_short key.number h.1, length-append (decimal key.epoch) (46 ∷ decimal key.number))

path_short : (file : ℕ) → file < 8 → length (path_of file) ≤ 21
path_short file h = omega (arith, number_short file (omega arith))

run_short : (byte count : ℕ) → count ≤ 20000 → length (repeated byte count) ≤ 21
run_short byte count h = omega (arith, number_short count (omega arith), length-encode_with lower_digits (byte ∷ []), length-append (encode_lower (byte ∷ [])) (42 ∷ decimal count))

abbrev IsShort : Line → Type 0
IsShort line = AreShort (words_of line) × (length (words_of line) ≤ 4)

wide : (n : ℕ) → n ≤ 10 → n ≤ 21
wide n h = omega arith

line_fits_short : (line : Line) → LineFits line → IsShort line
line_fits_short (Put file byte count) h = ((omega arith, (omega arith, (path_short file h.0, (run_short byte count h.1.2, tt)))), omega arith)
line_fits_short Sync h = ((omega arith, tt), omega arith)
line_fits_short Flush h = ((omega arith, tt), omega arith)
line_fits_short (Open file) h = ((omega arith, (path_short file h, tt)), omega arith)
line_fits_short (Close handle) h = ((omega arith, (key_short handle h, tt)), omega arith)
line_fits_short (Read handle offset len) h = ((omega arith, (key_short handle h.0, (wide _ (number_short offset h.1), (wide _ (number_short len h.2), tt)))), omega arith)
line_fits_short (Write handle offset byte count) h = ((omega arith, (key_short handle h.0, (wide _ (number_short offset h.1), (run_short byte count h.2.2, tt)))), omega arith)
line_fits_short (Size handle size) h = ((omega arith, (key_short handle h.0, (wide _ (number_short size h.1), tt))), omega arith)
line_fits_short (Crash seed) h = ((omega arith, (omega arith, (wide _ (number_short seed h), tt))), omega arith)
line_fits_short Restart h = ((omega arith, tt), omega arith)

text_short : (lines : List Line) → LinesFit lines → length (text_of lines) ≤ 89 * length lines
text_short [] h = omega arith
text_short (line ∷ lines) h =
    let short = line_fits_short line h.0 in
    omega (arith, line_short (words_of line) short.0, short.1, text_short lines h.1, length-append (line_of (words_of line)) (10 ∷ text_of lines))

-- so many lines
opens_count : (k file : ℕ) → length (opens k file) ≡ k
opens_count zero file = refl
opens_count (suc k) file = omega (arith, opens_count k (file + 1))

puts_count : (k file state : ℕ) → length (puts k file state) ≡ k
puts_count zero file state = refl
puts_count (suc k) file state = omega (arith, puts_count k (file + 1) (after 2 state))

chosen_count : (kind file : ℕ) (g : Generator) → length (chosen kind file g).0 ≤ 18
chosen_count kind file g = elim (cases_Bool (nat_lt kind 3)) [
  | inl h0 ↦ rw h0 (omega arith)
  | inr h0 ↦ elim (cases_Bool (kind == 3)) [
    | inl h1 ↦ rw (h0, h1) (omega arith)
    | inr h1 ↦ elim (cases_Bool (kind == 4)) [
      | inl h2 ↦ rw (h0, h1, h2) (omega arith)
      | inr h2 ↦ elim (cases_Bool (kind == 5)) [
        | inl h3 ↦ rw (h0, h1, h2, h3) (omega arith)
        | inr h3 ↦ elim (cases_Bool (kind == 6)) [
          | inl h4 ↦ rw (h0, h1, h2, h3, h4) (omega arith)
          | inr h4 ↦ rw (h0, h1, h2, h3, h4) (omega arith)
        ]
      ]
    ]
  ]
]

rounds_count : (k : ℕ) (g : Generator) → length (rounds k g) ≤ 18 * k
unfolding rounds
rounds_count zero g = omega arith
rounds_count (suc k) g = omega (arith, chosen_count (drawn 8 (after 1 g.state)) (drawn 8 (after 2 g.state)) (record g { state = after 2 g.state }), rounds_count k (round g).1, length-append (round g).0 (rounds k (round g).1))

made_count : (n : ℕ) → length (made n) ≤ 7218
made_count n =
    let start : Generator = record { state = after 16 n; epoch = 1; first = 1 } in
    omega (arith, rounds_count 400 start, length-append (puts 8 0 n ++ Sync ∷ Flush ∷ opens 8 0) (rounds 400 start), length-append (puts 8 0 n) (Sync ∷ Flush ∷ opens 8 0), puts_count 8 0 n, opens_count 8 0)

pub made_short : (n : ℕ) → length (made_script n) ≤ 16777216
made_short n = omega (arith, text_short (made n) (made_fits n), made_count n)

pub made_spells : (n : ℕ) → IsScript mode.Replay (made_script n) (made_events n)
made_spells n = (lines_spell (made n) (made_fits n), omega (arith, made_count n, length-map (made n) event_of))
