-- What a crash leaves in the three steps of a rewrite.
use Rattle.std.proofs.Common.{◌≡◌, ◌≢◌, ◌⊎◌, inl, inr, ℕ, ◌+◌, ◌^◌, ◌<◌, ◌≤◌, List, [], ◌∷◌, length, get_or, take, drop, refl, sym, ◌∙◌, ap, subst, arith}
use Rattle.std.specs.Int.{w64, from_be_bytes}
use Rattle.std.proofs.lemmas.Bool.{cases_eq}
use Rattle.std.proofs.lemmas.Bool.Decides.{nat_tests}
use Rattle.std.proofs.lemmas.Nat.{from_be_bytes-to_be_bytes_8}
use Rattle.cf_codec.specs.declared.formats.Format.{Format}
use Rattle.cf_codec.specs.declared.formats.Format.TheVariants.{Second}
use Rattle.cf_disk.specs.Disk.{part, SameBut}
use Rattle.cf_disk.specs.Parts.{part_same, same_wider, same_then, get_or-first}
use Rattle.cf_journal.specs.declared.sides.Side.{Side}
use Rattle.cf_journal.specs.declared.sides.Side.TheVariants.{A, B}
use Rattle.cf_journal.specs.Format.{base, other, header, HasSlot, Beats}
use Rattle.cf_journal.specs.Content.{Content, StandsAt, rewritten}
use Rattle.cf_journal.specs.Settled.{next_of}
use Rattle.cf_journal.specs.Steps.{Stages, Closes}
use Rattle.cf_journal.proofs.Records.{spells_shut}
use Rattle.cf_journal.specs.Halves.{half_slot, half_apart, halves_stand, base_low}

pub other-other : (side : Side) → other (other side) ≡ side
other-other A = refl
other-other B = refl

-- the generation that a header names
pub header_generation : (e f : Format) (g l m n h k : ℕ) → g < 2 ^ 64 → h < 2 ^ 64 → header e g l m ≡ header f h k n → g ≡ h
unfolding header
header_generation e f g l m n h k fg fh is =
    sym (from_be_bytes-to_be_bytes_8 g fg) ∙ ap (λ (x : List ℕ). from_be_bytes w64 (take 8 (drop 7 x))) is ∙ from_be_bytes-to_be_bytes_8 h fh

-- the next generation is newer
pub next_beats : (side : Side) (g : ℕ) → 0 < g → g < 2 ^ 64 → Beats (other side) (next_of g) g
next_beats A g pos lt = elim (cases_eq g 18446744073709551615) [ inl last ↦ grind (arith, nat_tests) | inr more ↦ grind (arith, nat_tests) ]
next_beats B g pos lt = elim (cases_eq g 18446744073709551615) [ inl last ↦ grind (arith, nat_tests) | inr more ↦ grind (arith, nat_tests) ]

module _ (side : Side) (g : ℕ) (x : Content) (img : List ℕ) (stands : StandsAt img side g x) where
  abbrev far : ℕ
  far = base (other side)

  -- the gate of the other slot is closed, or torn while it is closed
  pub closing_stands : (c : List ℕ) → ((get_or img far 0 ≢ 0) × SameBut far 1 img c) ⊎ ((get_or img far 0 ≡ 0) × SameBut (far + 1) 1 img c) → StandsAt c side g x
  closing_stands c (inl (was_open, same)) = halves_stand side g x img c (half_apart side far 1 img c same (omega arith) (omega arith))
      (λ f h l slot. stands.chosen.newest f h l (record {
        gate = was_open;
        header_is = sym (part_same far 1 img c same (far + 1) 27 (inr (omega arith))) ∙ slot.header_is ∙ ap (λ (n : ℕ). header f h l n) same.size;
        positive = slot.positive;
        fits = slot.fits;
        short = slot.short;
      }))
      stands
  closing_stands c (inr (shut, same)) = halves_stand side g x img c (half_apart side (far + 1) 1 img c same (omega arith) (omega arith))
      (λ f h l slot. absurd (slot.gate (same.before far (omega arith) ∙ shut))) stands

  -- nothing behind a closed gate counts
  pub behind_stands : (c : List ℕ) (k n : ℕ) → get_or c far 0 ≡ 0 → SameBut k n img c → far ≤ k → k + n ≤ far + 1572864 → StandsAt c side g x
  behind_stands c k n shut same low high = halves_stand side g x img c (half_apart side k n img c same low high) (λ f h l slot. absurd (slot.gate shut)) stands

  -- the slot is staged behind its closed gate, and the gate is torn
  pub opening_stands : (image closed staged c : List ℕ) → 3145728 ≤ length img → length image ≤ 1306624 → Closes far img closed → Stages far (header Second (next_of g) (length image) (length img)) image closed staged → SameBut far 1 staged c
      → ((get_or c far 0 ≡ 0) × StandsAt c side g x) ⊎ ((get_or c far 0 ≢ 0) × StandsAt c (other side) (next_of g) (rewritten image))
  opening_stands image closed staged c size short closes stages same =
      let one = same_wider far 1572864 far 2 img closed closes.same (omega arith) (omega arith) in
      let two = same_wider far 1572864 (far + 1) 1572863 closed staged stages.same (omega arith) (omega arith) in
      let three = same_wider far 1572864 far 1 staged c same (omega arith) (omega arith) in
      let all : SameBut far 1572864 img c = same_then far 1572864 img staged c (same_then far 1572864 img closed staged one two) three in
      elim (cases_eq (get_or c far 0) 0) [
        | inl shut ↦ inl (shut, behind_stands c far 1572864 shut all (omega arith) (omega arith))
        | inr is_open ↦ inr (
          is_open,
          record {
            chosen = record {
              slot = record {
                gate = is_open;
                header_is = part_same far 1 staged c same (far + 1) 27 (inr (omega arith)) ∙ stages.header_is ∙ ap (λ (n : ℕ). header Second (next_of g) (length image) n) (sym all.size);
                positive = next_positive g;
                fits = next_fits g stands.chosen.slot.fits;
                short = short;
              };
              newest = λ f h l slot.
                  let theirs : HasSlot f c (base side) h l = subst (λ (s : Side). HasSlot f c (base s) h l) (other-other side) slot in
                  let mine : HasSlot x.format c (base side) g (length x.image) = half_slot x.format (base side) img c g (length x.image) (half_apart side far 1572864 img c all (omega arith) (omega arith)) stands.chosen.slot in
                  let same_g : g ≡ h = header_generation x.format f g (length x.image) (length c) (length c) h l mine.fits theirs.fits (sym mine.header_is ∙ theirs.header_is) in
                  subst (λ (k : ℕ). Beats (other side) (next_of g) k) same_g (next_beats side g stands.chosen.slot.positive stands.chosen.slot.fits);
            };
            image = sym (part_same far 1 staged c same (far + 4096) (length image) (inr (omega arith)) ∙ stages.image_is);
            payloads = spells_shut [] [] c (far + 1310720) 0 refl refl (omega (arith, all.size, base_low (other side))) refl (omega arith) (first_gate c staged same stages.gate_is);
          },
        )
      ]
    where
      first_gate : (c staged : List ℕ) → SameBut far 1 staged c → part (far + 1310720) 1 staged ≡ 0 ∷ [] → get_or c (far + 1310720 + 0) 0 ≡ 0
      first_gate c staged same is =
          let none : far + 1310720 + 0 ≡ far + 1310720 = omega arith in
          ap (λ (k : ℕ). get_or c k 0) none ∙ same.after (far + 1310720) (omega arith)
          ∙ sym (get_or-first (far + 1310720) 1 staged (omega arith)) ∙ ap (λ (l : List ℕ). get_or l 0 0) is

      next_positive : (k : ℕ) → 0 < next_of k
      next_positive k = elim (cases_eq k 18446744073709551615) [ inl last ↦ grind (arith, nat_tests) | inr more ↦ grind (arith, nat_tests) ]

      next_fits : (k : ℕ) → k < 2 ^ 64 → next_of k < 2 ^ 64
      next_fits k lt = elim (cases_eq k 18446744073709551615) [ inl last ↦ grind (arith, nat_tests) | inr more ↦ grind (arith, nat_tests) ]
