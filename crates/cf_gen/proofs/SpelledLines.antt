-- A made line spells its event.
use Rattle.std.proofs.Common.{◌≡◌, ℕ, zero, suc, ◌+◌, ◌^◌, ◌<◌, ◌≤◌, true, List, [], ◌∷◌, ◌++◌, refl, sym, ap, subst, ◌∙◌, inl, inr, arith}
use Rattle.std.specs.Prelude.{◌&&◌, nat_le, codes, replicate}
use Rattle.std.specs.Fmt.{decimal}
use Rattle.std.proofs.lemmas.Bool.Decides.{nat_tests}
use Rattle.std.proofs.lemmas.Fmt.{decimal_digit}
use Rattle.std.proofs.lemmas.List.Folds.{list_all-append}
use Rattle.std.proofs.lemmas.Str.{IsUtf8-append}
use Rattle.hex.specs.Hex.{IsBytes, encode_lower}
use Rattle.cf_base.specs.declared.events.Event.{Event}
use Rattle.cf_base.specs.declared.policies.Mode.TheVariants as mode
use Rattle.cf_script_words.specs.declared.commands.Command.TheVariants as command
use Rattle.cf_script_words.specs.declared.commands.BareCommand.TheVariants as bare
use Rattle.cf_script_words.specs.declared.commands.PathCommand.TheVariants as on_path
use Rattle.cf_script_words.specs.declared.commands.WordCommand.TheVariants as on_word
use Rattle.cf_script_words.specs.declared.commands.TwoWordCommand.TheVariants as on_two
use Rattle.cf_script_words.specs.declared.commands.ThreeWordCommand.TheVariants as on_three
use Rattle.cf_script_words.specs.declared.commands.OtherCommand.TheVariants as other
use Rattle.cf_script_words.specs.declared.commands.PeerCommand.TheVariants as peer_word
use Rattle.cf_script_words.specs.Words.{IsData, IsPath, escape_byte, escaped}
use Rattle.cf_script.specs.Forms.{AreWords}
use Rattle.cf_script.specs.Fits.{KeyFits}
use Rattle.cf_script_words.specs.Texts.{line_of}
use Rattle.cf_script.specs.Script.{AreEvents, event_lines, lines_of}
use Rattle.cf_script_words.proofs.PathMeans.{code_cases}
use Rattle.cf_script_words.proofs.WordTexts.{AreAllWords, IsWord, data_word, fixed, is_word_byte, number_word, pair_word}
use Rattle.cf_script.proofs.LineTexts.{first_line, line_counts, line_spells}
use Rattle.cf_gen.specs.declared.lines.Line.{Line}
use Rattle.cf_gen.specs.declared.lines.Line.TheVariants.{Close, Crash, Flush, Open, Put, Read, Restart, Size, Sync, Write}
use Rattle.cf_gen.specs.Lines.{event_of, events_of, path_of, repeated, text_of, words_of}

-- a byte that stands so often
abbrev RunFits : ℕ → ℕ → Type 0
RunFits byte count = (byte < 256) × (1 ≤ count) × (count ≤ 20000)

-- the numbers of a line are such as the words spell
abbrev pub LineFits : Line → Type 0
LineFits (Put file byte count) = (file < 8) × RunFits byte count
LineFits Sync = Unit {0}
LineFits Flush = Unit {0}
LineFits (Open file) = file < 8
LineFits (Close handle) = KeyFits handle
LineFits (Read handle offset len) = KeyFits handle × (offset < 2 ^ 32) × (len < 2 ^ 32)
LineFits (Write handle offset byte count) = KeyFits handle × (offset < 2 ^ 32) × RunFits byte count
LineFits (Size handle size) = KeyFits handle × (size < 2 ^ 32)
LineFits (Crash seed) = seed < 2 ^ 32
LineFits Restart = Unit {0}

abbrev pub LinesFit : List Line → Type 0
LinesFit [] = Unit {0}
LinesFit (line ∷ lines) = LineFits line × LinesFit lines

pub fit_both : (a b : List Line) → LinesFit a → LinesFit b → LinesFit (a ++ b)
fit_both [] b x y = y
fit_both (line ∷ lines) b x y = (x.0, fit_both lines b x.1 y)

-- paths
path_at : (file : ℕ) → file < 8 → path_of file ≡ 47 ∷ 103 ∷ (48 + file) ∷ []
path_at file h = ap (λ digits. 47 ∷ 103 ∷ digits) (decimal_digit file (omega arith))

digit_word : (file : ℕ) → file < 8 → (nat_le 33 (48 + file) && nat_le (48 + file) 126) ≡ true
digit_word file h = grind (arith, nat_tests)

digit_same : (file : ℕ) → file < 8 → escape_byte (48 + file) ≡ (48 + file) ∷ []
digit_same file h = elim (code_cases (48 + file)) [
  | inl p ↦ absurd (omega (arith, p.0))
  | inr (inl p) ↦ absurd (omega (arith, p.0))
  | inr (inr p) ↦ p.1
]

path_word : (file : ℕ) → file < 8 → IsWord (path_of file)
path_word file h = subst IsWord (sym (path_at file h)) (fixed (47 ∷ 103 ∷ (48 + file) ∷ []) (rw (digit_word file h) refl))

path_same : (file : ℕ) → file < 8 → escaped (47 ∷ 103 ∷ (48 + file) ∷ []) ≡ 47 ∷ 103 ∷ (48 + file) ∷ []
path_same file h = rw (digit_same file h) refl

path_is : (file : ℕ) → file < 8 → IsPath (path_of file) (path_of file)
path_is file h = ((path_word file h).utf8, refl, path_at file h ∙ sym (path_same file h) ∙ ap escaped (sym (path_at file h)))

-- bytes
byte_is : (byte : ℕ) → byte < 256 → IsBytes (byte ∷ [])
byte_is byte h zero = h
byte_is byte h (suc i) = omega arith

run_is : (byte count : ℕ) → RunFits byte count → IsData (repeated byte count) (replicate count byte)
unfolding IsData
run_is byte count h = inr (encode_lower (byte ∷ []), decimal count, refl, (byte, count, (byte_is byte h.0, refl), ((omega (arith, h.2), refl), h.1, omega (arith, h.2)), refl))

both_words : (a b : List ℕ) → IsWord a → IsWord b → IsWord (a ++ b)
both_words a b x y = record { utf8 = IsUtf8-append a b x.utf8 y.utf8; plain = list_all-append is_word_byte a b ∙ rw (x.plain, y.plain) refl }

run_word : (byte count : ℕ) → RunFits byte count → IsWord (repeated byte count)
run_word byte count h =
    both_words (encode_lower (byte ∷ [])) (42 ∷ decimal count) (data_word (byte ∷ []) (byte_is byte h.0))
    (both_words (42 ∷ []) (decimal count) (fixed (42 ∷ []) refl) (number_word count (omega (arith, h.2))))

-- a line has words, which spell its event
abbrev Spelled : Line → Type 0
Spelled line = AreAllWords (words_of line) × AreWords mode.Replay (words_of line) (event_of line)

spelled : (line : Line) → LineFits line → Spelled line
spelled (Put file byte count) h = ((fixed (codes "peer") refl, (fixed (codes "put") refl, (path_word file h.0, (run_word byte count h.1, tt)))), ((command.Other other.Peer), refl, refl, (peer_word.Put, refl, (path_of file, replicate count byte, path_is file h.0, run_is byte count h.1, refl))))
spelled Sync h = ((fixed (codes "sync") refl, tt), (command.Bare bare.Sync, refl, refl, refl))
spelled Flush h = ((fixed (codes "flush") refl, tt), (command.Bare bare.Flush, refl, refl, refl))
spelled (Open file) h = ((fixed (codes "open") refl, (path_word file h, tt)), (command.OnPath on_path.Open, refl, refl, (path_of file, path_is file h, refl)))
spelled (Close handle) h = ((fixed (codes "close") refl, (pair_word handle.epoch handle.number h.0 h.1, tt)), ((command.OnWord on_word.Close), refl, refl, (handle, (h.0, h.1, refl), refl)))
spelled (Read handle offset len) h = ((fixed (codes "read") refl, (pair_word handle.epoch handle.number h.0.0 h.0.1, (number_word offset h.1, (number_word len h.2, tt)))), ((command.OnThree on_three.Read), refl, refl, (handle, offset, len, (h.0.0, h.0.1, refl), (h.1, refl), (h.2, refl), refl)))
spelled (Write handle offset byte count) h = ((fixed (codes "write") refl, (pair_word handle.epoch handle.number h.0.0 h.0.1, (number_word offset h.1, (run_word byte count h.2, tt)))), ((command.OnThree on_three.Write), refl, refl, (handle, offset, replicate count byte, (h.0.0, h.0.1, refl), (h.1, refl), run_is byte count h.2, refl)))
spelled (Size handle size) h = ((fixed (codes "size") refl, (pair_word handle.epoch handle.number h.0.0 h.0.1, (number_word size h.1, tt))), ((command.OnTwo on_two.Size), refl, refl, (handle, size, (h.0.0, h.0.1, refl), (h.1, refl), refl)))
spelled (Crash seed) h = ((fixed (codes "crash") refl, (fixed (codes "mix") refl, (number_word seed h, tt))), ((command.Other other.Crash), refl, refl, (seed, refl, (h, refl), refl)))
spelled Restart h = ((fixed (codes "restart") refl, tt), (command.Bare bare.Restart, refl, refl, refl))

-- lines after one that is spelled
one_more : (ws : List (List ℕ)) (event : Event) (rest : List ℕ) (events : List Event) → AreAllWords ws → AreWords mode.Replay ws event → AreEvents mode.Replay (event_lines (lines_of rest)) events → AreEvents mode.Replay (event_lines (lines_of (line_of ws ++ 10 ∷ rest))) (event ∷ events)
one_more [] event rest events all is more = absurd is
one_more (w ∷ ws) event rest events all is more =
    let spells = line_spells mode.Replay w ws event all is in
    rw (first_line (line_of (w ∷ ws)) rest spells.plain, line_counts mode.Replay w ws event is) (spells, more)

pub lines_spell : (lines : List Line) → LinesFit lines → AreEvents mode.Replay (event_lines (lines_of (text_of lines))) (events_of lines)
lines_spell [] h = tt
lines_spell (line ∷ lines) h =
    let good = spelled line h.0 in
    one_more (words_of line) (event_of line) (text_of lines) (events_of lines) good.0 good.1 (lines_spell lines h.1)
