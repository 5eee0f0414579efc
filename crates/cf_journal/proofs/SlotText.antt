-- A header names one generation and one length.
use Rattle.std.proofs.Common.{◌≡◌, ℕ, ◌+◌, List, [], ◌∷◌, get_or, drop, sym, ◌∙◌, ap, arith}
use Rattle.std.specs.Int.{w32, w64, from_be_bytes}
use Rattle.std.proofs.lemmas.List.{get_or-drop}
use Rattle.std.proofs.lemmas.Nat.{from_be_bytes-to_be_bytes_4, from_be_bytes-to_be_bytes_8}
use Rattle.cf_codec.specs.declared.formats.Format.{Format}
use Rattle.cf_journal.specs.Format.{header}
use Rattle.cf_journal.specs.Halves.{image_room}
use Rattle.cf_journal.specs.SlotTexts.{IsSlotText}

cell : (text : List ℕ) (k : ℕ) → get_or text (1 + k) 0 ≡ get_or (drop 1 text) k 0
cell text k = sym (get_or-drop 1 text k 0)

pub names_generation : (f : Format) (text : List ℕ) (g l size : ℕ) → IsSlotText f text g l size
    → from_be_bytes w64 (get_or text 8 0 ∷ get_or text 9 0 ∷ get_or text 10 0 ∷ get_or text 11 0 ∷ get_or text 12 0 ∷ get_or text 13 0 ∷ get_or text 14 0 ∷ get_or text 15 0 ∷ []) ≡ g
unfolding header
names_generation f text g l size slot =
    (λ i. from_be_bytes w64 (cell text 7 i ∷ cell text 8 i ∷ cell text 9 i ∷ cell text 10 i ∷ cell text 11 i ∷ cell text 12 i ∷ cell text 13 i ∷ cell text 14 i ∷ []))
    ∙ ap (λ (x : List ℕ). from_be_bytes w64 (get_or x 7 0 ∷ get_or x 8 0 ∷ get_or x 9 0 ∷ get_or x 10 0 ∷ get_or x 11 0 ∷ get_or x 12 0 ∷ get_or x 13 0 ∷ get_or x 14 0 ∷ [])) slot.header_is
    ∙ from_be_bytes-to_be_bytes_8 g slot.fits

pub names_length : (f : Format) (text : List ℕ) (g l size : ℕ) → IsSlotText f text g l size → from_be_bytes w32 (get_or text 16 0 ∷ get_or text 17 0 ∷ get_or text 18 0 ∷ get_or text 19 0 ∷ []) ≡ l
unfolding header
names_length f text g l size slot =
    (λ i. from_be_bytes w32 (cell text 15 i ∷ cell text 16 i ∷ cell text 17 i ∷ cell text 18 i ∷ []))
    ∙ ap (λ (x : List ℕ). from_be_bytes w32 (get_or x 15 0 ∷ get_or x 16 0 ∷ get_or x 17 0 ∷ get_or x 18 0 ∷ [])) slot.header_is
    ∙ from_be_bytes-to_be_bytes_4 l (omega (arith, image_room f l slot.short))
