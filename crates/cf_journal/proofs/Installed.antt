-- What stands in a slot after its gate was opened.
use Rattle.std.proofs.Common.{◌≡◌, inr, ℕ, ◌+◌, ◌<◌, ◌≤◌, ◌^◌, List, [], ◌∷◌, length, get_or, refl, sym, ◌∙◌, ap, arith}
use Rattle.cf_codec.specs.declared.formats.Format.TheVariants.{Second}
use Rattle.cf_disk.specs.Disk.{SameBut, Holds}
use Rattle.cf_disk.specs.Parts.{part_same, holds_same, holds_part, same_wider, same_then, get_or-first}
use Rattle.cf_journal.specs.declared.sides.Side.{Side}
use Rattle.cf_journal.specs.Format.{base, header}
use Rattle.cf_journal.specs.Settled.{Installs}
use Rattle.cf_journal.specs.Steps.{Closes, Stages}
use Rattle.cf_journal.specs.Halves.{base_low}
use Rattle.cf_journal.proofs.Records.{spells_shut}

pub installed : (side : Side) (g : ℕ) (image old closed staged new : List ℕ) → 0 < g → g < 2 ^ 64 → length image ≤ 1306624 → 3145728 ≤ length old → Closes (base side) old closed → Stages (base side) (header Second g (length image) (length old)) image closed staged
    → Holds (base side) (1 ∷ []) staged new → Installs side g image old new
installed side g image old closed staged new pos fits short size closes stages holds =
    let far = base side in
    let room : far + 1 ≤ length staged = omega (arith, base_low side, closes.same.size, stages.same.size) in
    let same : SameBut far 1 staged new = holds_same far (1 ∷ []) staged new room holds in
    let one : get_or new far 0 ≡ 1 = sym (get_or-first far 1 new (omega arith)) ∙ ap (λ (l : List ℕ). get_or l 0 0) (holds_part far (1 ∷ []) staged new room holds) in
    let first = same_wider far 1572864 far 2 old closed closes.same (omega arith) (omega arith) in
    let second = same_wider far 1572864 (far + 1) 1572863 closed staged stages.same (omega arith) (omega arith) in
    let all : SameBut far 1572864 old new = same_then far 1572864 old staged new (same_then far 1572864 old closed staged first second) (same_wider far 1572864 far 1 staged new same (omega arith) (omega arith)) in
    let none : far + 1310720 + 0 ≡ far + 1310720 = omega arith in
    let shut : get_or new (far + 1310720 + 0) 0 ≡ 0 =
    ap (λ (k : ℕ). get_or new k 0) none ∙ same.after (far + 1310720) (omega arith) ∙ sym (get_or-first (far + 1310720) 1 staged (omega arith)) ∙ ap (λ (l : List ℕ). get_or l 0 0) stages.gate_is in
    record {
      slot = record {
        gate = λ zero_gate. absurd (clash one zero_gate);
        header_is = part_same far 1 staged new same (far + 1) 27 (inr (omega arith)) ∙ stages.header_is ∙ ap (λ (n : ℕ). header Second g (length image) n) (sym all.size);
        positive = pos;
        fits = fits;
        short = short;
      };
      image_is = part_same far 1 staged new same (far + 4096) (length image) (inr (omega arith)) ∙ stages.image_is;
      payloads = spells_shut [] [] new (far + 1310720) 0 refl refl (omega (arith, all.size, base_low side)) refl (omega arith) shut;
      same = all;
    }
  where
    clash : get_or new (base side) 0 ≡ 1 → get_or new (base side) 0 ≡ 0 → ⊥
    clash a b = omega arith
