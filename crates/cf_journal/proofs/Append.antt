-- What a crash leaves in the two steps of an append.
use Rattle.std.proofs.Common.{◌≡◌, ◌≢◌, ◌⊎◌, inl, inr, ℕ, ◌+◌, ◌-◌, ◌≤◌, List, [], ◌∷◌, ◌++◌, length, get_or, take, sym, ◌∙◌, ap, arith}
use Rattle.std.proofs.lemmas.Bool.{cases_eq}
use Rattle.std.proofs.lemmas.List.{take_at, get_or-append_right}
use Rattle.cf_codec.specs.declared.formats.Format.TheVariants.{Second}
use Rattle.cf_disk.specs.Disk.{part, SameBut}
use Rattle.cf_disk.specs.Parts.{part_same, part-part, same_wider, same_then, get_or-first}
use Rattle.cf_journal.specs.declared.sides.Side.{Side}
use Rattle.cf_journal.specs.Format.{base, other, header, Spells, size_of_records}
use Rattle.cf_journal.specs.Content.{StandsAt, second}
use Rattle.cf_journal.specs.Steps.{Records}
use Rattle.cf_journal.specs.Halves.{half_slot, half_back, half_other, base_low}
use Rattle.cf_journal.proofs.Records.{length-front, spells_shut, spells_open}

-- a change within the volume's journal
pub journal_stands : (side : Side) (g : ℕ) (image : List ℕ) (qs ps : List (List ℕ)) (at n : ℕ) (old new : List ℕ) → StandsAt old side g (second image qs) → SameBut at n old new → base side + 1310720 ≤ at → at + n ≤ base side + 1572864
    → Spells ps (part (base side + 1310720) 262144 new) → StandsAt new side g (second image ps)
journal_stands side g image qs ps at n old new stands same low high spells =
    let short = stands.chosen.slot.short in
    let far = half_other side at n old new same (omega arith) high in
    record {
      chosen = record {
        slot = record {
          gate = λ shut. stands.chosen.slot.gate (sym (same.before (base side) (omega arith)) ∙ shut);
          header_is = part_same at n old new same (base side + 1) 27 (inl (omega arith)) ∙ stands.chosen.slot.header_is ∙ ap (λ (k : ℕ). header Second g (length image) k) (sym same.size);
          positive = stands.chosen.slot.positive;
          fits = stands.chosen.slot.fits;
          short = short;
        };
        newest = λ f h l slot. stands.chosen.newest f h l (half_slot f (base (other side)) new old h l (half_back (base (other side)) old new far) slot);
      };
      image = stands.image ∙ sym (part_same at n old new same (base side + 4096) (length image) (inl (omega arith)));
      payloads = spells;
    }

module _ (side : Side) (g e : ℕ) (image : List ℕ) (qs : List (List ℕ)) (p img : List ℕ) (stands : StandsAt img side g (second image qs)) (ends : e ≡ size_of_records qs) (size : 3145728 ≤ length img) (fits : e + (6 + length p) ≤ 262144) where
  abbrev at : ℕ
  at = base side + 1310720

  abbrev front : List ℕ
  front = stands.payloads.0

  len : length front ≡ e
  len = length-front qs front stands.payloads.2 ∙ sym ends

  here : part at e img ≡ front
  here =
      sym (part-part at 262144 0 e img (omega arith) ∙ (let k : at + 0 ≡ at = omega arith in ap (λ (i : ℕ). part i e img) k))
      ∙ ap (λ (l : List ℕ). take e l) stands.payloads.3 ∙ take_at front (0 ∷ stands.payloads.1) e len

  gate : get_or img (at + e) 0 ≡ 0
  gate =
      sym (get_or-first (at + e) 1 img (omega arith))
      ∙ ap (λ (l : List ℕ). get_or l 0 0) (sym (part-part at 262144 e 1 img (omega arith)) ∙ ap (λ (l : List ℕ). part e 1 l) stands.payloads.3)
      ∙ get_or-first e 1 (front ++ 0 ∷ stands.payloads.1) (omega arith)
      ∙ behind (front) (0 ∷ stands.payloads.1) len
    where
      behind : (f t : List ℕ) → length f ≡ e → get_or (f ++ t) e 0 ≡ get_or t 0 0
      behind f t is = get_or-append_right f t e e 0 is (omega arith) ∙ (let none : e - e ≡ 0 = omega arith in ap (λ (k : ℕ). get_or t k 0) none)

  room : (c : List ℕ) → length c ≡ length img → at + 262144 ≤ length c
  room c same = omega (arith, base_low side)

  -- the record is torn behind its closed gate
  pub record_torn : (c : List ℕ) → SameBut (at + e + 1) (5 + length p) img c → StandsAt c side g (second image qs)
  record_torn c same = journal_stands side g image qs qs (at + e + 1) (5 + length p) img c stands same (omega arith) (omega arith)
      (spells_shut qs front c at e stands.payloads.2 len (room c same.size) (part_same _ _ _ _ same at e (inl (omega arith)) ∙ here) (omega arith) (same.before (at + e) (omega arith) ∙ gate))

  -- the record stands behind its gate, whatever that is
  pub gate_torn : (staged c : List ℕ) → Records (at + e + 1) p img staged → SameBut (at + e) 1 staged c → ((get_or c (at + e) 0 ≡ 0) × StandsAt c side g (second image qs)) ⊎ ((get_or c (at + e) 0 ≢ 0) × StandsAt c side g (second image (qs ++ p ∷ [])))
  gate_torn staged c records same =
      let both : SameBut (at + e) (6 + length p) img c =
      same_then (at + e) (6 + length p) img staged c (same_wider (at + e) (6 + length p) (at + e + 1) (5 + length p) img staged records.same (omega arith) (omega arith)) (same_wider (at + e) (6 + length p) (at + e) 1 staged c same (omega arith) (omega arith)) in
      let here_c : part at e c ≡ front = part_same _ _ _ _ both at e (inl (omega arith)) ∙ here in
      let low : base side + 1310720 ≤ at + e = omega arith in
      let high : at + e + (6 + length p) ≤ base side + 1572864 = omega arith in
      elim (cases_eq (get_or c (at + e) 0) 0) [
        | inl shut ↦ inl (
          shut,
          journal_stands side g image qs qs (at + e) (6 + length p) img c stands both low high
              (spells_shut qs front c at e stands.payloads.2 len (room c both.size) here_c (omega arith) shut),
        )
        | inr is_open ↦ inr (
          is_open,
          journal_stands side g image qs (qs ++ p ∷ []) (at + e) (6 + length p) img c stands both low high
              (spells_open qs front c at e stands.payloads.2 len (room c both.size) here_c p (omega arith) fits is_open
              (part_same _ _ _ _ same (at + e + 1) (5 + length p) (inr (omega arith)) ∙ records.body_is)),
        )
      ]
