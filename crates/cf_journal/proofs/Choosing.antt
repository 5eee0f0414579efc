-- The slot that is chosen is the volume.
use Rattle.std.proofs.Common.{◌≡◌, inl, inr, ℕ, ◌^◌, ◌<◌, true, false, List, get_or, length, take, drop, refl, sym, ◌∙◌, ap, subst, arith, Option, Some, None}
use Rattle.std.specs.Prelude.{IfSome, IfNone}
use Rattle.std.specs.Int.{w32, from_be_bytes}
use Rattle.std.proofs.lemmas.Bool.{both_ways}
use Rattle.std.proofs.lemmas.Nat.{from_be_bytes-to_be_bytes_4}
use Rattle.cf_codec.specs.declared.formats.Format.{Format}
use Rattle.cf_codec.specs.declared.formats.Format.TheVariants.{First, Second}
use Rattle.cf_disk.specs.Disk.{part}
use Rattle.cf_journal.specs.declared.sides.Side.{Side}
use Rattle.cf_journal.specs.declared.sides.Side.TheVariants.{A, B}
use Rattle.cf_journal.specs.Format.{digit, header, HasSlot, Chosen, is_newer}
use Rattle.cf_journal.specs.SlotTexts.{IsSlotText, IsChoice}
use Rattle.cf_journal.specs.Halves.{image_room}
use Rattle.cf_journal.proofs.Rewrite.{header_generation}
use Rattle.cf_journal.proofs.Opening.{slot_found, slot_text}

pub slots_found : (at size : ℕ) (xs text : List ℕ) (o : Option (Format × ℕ × ℕ)) → text ≡ part at 28 xs → size ≡ length xs → IfSome o (λ s. IsSlotText s.0 text s.1 s.2 size) → IfSome o (λ s. HasSlot s.0 xs at s.1 s.2)
slots_found at size xs text None is same h = tt
slots_found at size xs text (Some s) is same h = slot_found s.0 at s.1 s.2 xs text is (subst (λ (n : ℕ). IsSlotText s.0 text s.1 s.2 n) same h)

pub slots_none : (at size : ℕ) (xs text : List ℕ) (o : Option (Format × ℕ × ℕ)) → text ≡ part at 28 xs → size ≡ length xs → IfNone o ((f : Format) (g l : ℕ) → IsSlotText f text g l size → ⊥) → IfNone o ((f : Format) (g l : ℕ) → HasSlot f xs at g l → ⊥)
slots_none at size xs text (Some s) is same h = tt
slots_none at size xs text None is same h = λ f g l slot. h f g l (subst (λ (n : ℕ). IsSlotText f text g l n) (sym same) (slot_text f at g l xs text is slot))

-- a header that is spelled in neither format is spelled in none
pub neither : (text : List ℕ) (size : ℕ) → ((g l : ℕ) → IsSlotText Second text g l size → ⊥) → ((g l : ℕ) → IsSlotText First text g l size → ⊥) → (f : Format) (g l : ℕ) → IsSlotText f text g l size → ⊥
neither text size second first First g l slot = first g l slot
neither text size second first Second g l slot = second g l slot

header_length : (e f : Format) (g l m h k n : ℕ) → l < 2 ^ 32 → k < 2 ^ 32 → header e g l m ≡ header f h k n → l ≡ k
unfolding header
header_length e f g l m h k n fl fk is = sym (from_be_bytes-to_be_bytes_4 l fl) ∙ ap (λ (x : List ℕ). from_be_bytes w32 (take 4 (drop 15 x))) is ∙ from_be_bytes-to_be_bytes_4 k fk

header_format : (e f : Format) (g l m h k n : ℕ) → header e g l m ≡ header f h k n → e ≡ f
unfolding header
header_format e f g l m h k n is = by e f (ap (λ (x : List ℕ). get_or x 6 0) is)
  where
    by : (e f : Format) → digit e ≡ digit f → e ≡ f
    by First First same = refl
    by Second Second same = refl
    by First Second same = absurd (omega (arith, same))
    by Second First same = absurd (omega (arith, same))

one_generation : (xs : List ℕ) (e f : Format) (at g l h k : ℕ) → HasSlot e xs at g l → HasSlot f xs at h k → g ≡ h
one_generation xs e f at g l h k p q = header_generation e f g l (length xs) (length xs) h k p.fits q.fits (sym p.header_is ∙ q.header_is)

one_format : (xs : List ℕ) (e f : Format) (at g l h k : ℕ) → HasSlot e xs at g l → HasSlot f xs at h k → e ≡ f
one_format xs e f at g l h k p q = header_format e f g l (length xs) h k (length xs) (sym p.header_is ∙ q.header_is)

one_len : (xs : List ℕ) (e f : Format) (at g l h k : ℕ) → HasSlot e xs at g l → HasSlot f xs at h k → l ≡ k
one_len xs e f at g l h k p q = header_length e f g l (length xs) h k (length xs) (omega (arith, image_room e l p.short)) (omega (arith, image_room f k q.short)) (sym p.header_is ∙ q.header_is)

-- there is one volume
pub one_chosen : (xs : List ℕ) (s t : Side) (e f : Format) (g l h k : ℕ) → Chosen e xs s g l → Chosen f xs t h k → (s ≡ t) × (e ≡ f) × (g ≡ h) × (l ≡ k)
one_chosen xs A A e f g l h k p q = (refl, one_format xs e f 0 g l h k p.slot q.slot, one_generation xs e f 0 g l h k p.slot q.slot, one_len xs e f 0 g l h k p.slot q.slot)
one_chosen xs B B e f g l h k p q = (refl, one_format xs e f 1572864 g l h k p.slot q.slot, one_generation xs e f 1572864 g l h k p.slot q.slot, one_len xs e f 1572864 g l h k p.slot q.slot)
one_chosen xs A B e f g l h k p q = absurd (both_ways (is_newer h g) (p.newest f h k q.slot) (q.newest e g l p.slot))
one_chosen xs B A e f g l h k p q = absurd (both_ways (is_newer g h) (q.newest e g l p.slot) (p.newest f h k q.slot))

module _ (xs : List ℕ) where
  abbrev pub Some_at : ℕ → Option (Format × ℕ × ℕ) → Type 0
  Some_at at o = IfSome o (λ s. HasSlot s.0 xs at s.1 s.2)

  abbrev pub None_at : ℕ → Option (Format × ℕ × ℕ) → Type 0
  None_at at o = IfNone o ((f : Format) (g l : ℕ) → HasSlot f xs at g l → ⊥)

  pub choice_found : (a b : Option (Format × ℕ × ℕ)) (o : Option (Side × Format × ℕ × ℕ)) → Some_at 0 a → None_at 0 a → Some_at 1572864 b → None_at 1572864 b → IsChoice a b o → IfSome o (λ v. Chosen v.1 xs v.0 v.2 v.3)
  choice_found None None o sa na sb nb e = subst (λ (u : Option (Side × Format × ℕ × ℕ)). IfSome u (λ v. Chosen v.1 xs v.0 v.2 v.3)) (sym e) tt
  choice_found (Some a) None o sa na sb nb e =
      let is : Chosen a.0 xs A a.1 a.2 = record { slot = sa; newest = λ f h l slot. absurd (nb f h l slot) } in
      subst (λ (u : Option (Side × Format × ℕ × ℕ)). IfSome u (λ v. Chosen v.1 xs v.0 v.2 v.3)) (sym e) is
  choice_found None (Some b) o sa na sb nb e =
      let is : Chosen b.0 xs B b.1 b.2 = record { slot = sb; newest = λ f h l slot. absurd (na f h l slot) } in
      subst (λ (u : Option (Side × Format × ℕ × ℕ)). IfSome u (λ v. Chosen v.1 xs v.0 v.2 v.3)) (sym e) is
  choice_found (Some a) (Some b) o sa na sb nb (inl e) =
      let is : Chosen b.0 xs B b.1 b.2 = record { slot = sb; newest = λ f h l slot. subst (λ (k : ℕ). is_newer b.1 k ≡ true) (one_generation xs a.0 f 0 a.1 a.2 h l sa slot) e.0 } in
      subst (λ (u : Option (Side × Format × ℕ × ℕ)). IfSome u (λ v. Chosen v.1 xs v.0 v.2 v.3)) (sym e.1) is
  choice_found (Some a) (Some b) o sa na sb nb (inr e) =
      let is : Chosen a.0 xs A a.1 a.2 = record { slot = sa; newest = λ f h l slot. subst (λ (k : ℕ). is_newer k a.1 ≡ false) (one_generation xs b.0 f 1572864 b.1 b.2 h l sb slot) e.0 } in
      subst (λ (u : Option (Side × Format × ℕ × ℕ)). IfSome u (λ v. Chosen v.1 xs v.0 v.2 v.3)) (sym e.1) is

  no_slot : (s : Side) (f : Format) (g l : ℕ) → ((e : Format) (h k : ℕ) → HasSlot e xs 0 h k → ⊥) → ((e : Format) (h k : ℕ) → HasSlot e xs 1572864 h k → ⊥) → Chosen f xs s g l → ⊥
  no_slot A f g l na nb c = na f g l c.slot
  no_slot B f g l na nb c = nb f g l c.slot

  pub choice_none : (a b : Option (Format × ℕ × ℕ)) (o : Option (Side × Format × ℕ × ℕ)) → None_at 0 a → None_at 1572864 b → IsChoice a b o → IfNone o ((s : Side) (f : Format) (g l : ℕ) → Chosen f xs s g l → ⊥)
  choice_none a b (Some v) na nb e = tt
  choice_none None None None na nb e = λ s f g l c. no_slot s f g l na nb c
  choice_none (Some a) None None na nb e = absurd cc
  choice_none None (Some b) None na nb e = absurd cc
  choice_none (Some a) (Some b) None na nb (inl e) = absurd (cc e.1)
  choice_none (Some a) (Some b) None na nb (inr e) = absurd (cc e.1)
