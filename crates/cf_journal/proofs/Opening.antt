-- Calls that only read, one after another.
use Rattle.std.proofs.Common.{◌≡◌, ℕ, ◌+◌, List, length, get_or, take, drop, sym, ◌∙◌, ap, arith, Result}
use Rattle.std.proofs.lemmas.List.{drop-drop, drop-take}
use Rattle.cf_codec.specs.declared.formats.Format.{Format}
use Rattle.cf_disk.specs.Disk.{State, part, Keeps, Goes, Counts, Rises}
use Rattle.cf_disk.specs.Leaving.{leaves_keep, leaves_then}
use Rattle.cf_disk.specs.Parts.{get_or-first}
use Rattle.cf_journal.specs.Format.{HasSlot}
use Rattle.cf_journal.specs.SlotTexts.{IsSlotText}
use Rattle.cf_journal.specs.Steps.{ReadsOnly}

pub reads_call : {T E : Type 0} (r : Result T E) (a b : State) → Keeps a b → Goes a b → Counts 0 r a b → Rises r a b → ReadsOnly a b
reads_call r a b keeps goes counts rises = record { keeps = keeps; leaves = leaves_keep a b keeps goes; written = omega (arith, counts.least, counts.most); powers = goes.powers; settings = goes.settings; faults = rises.least; calm = rises.calm }

pub reads_then : (a b c : State) → ReadsOnly a b → ReadsOnly b c → ReadsOnly a c
reads_then a b c p q = record {
  keeps = record { seen = q.keeps.seen ∙ p.keeps.seen; crash = λ d left. p.keeps.crash d (q.keeps.crash d left) };
  leaves = leaves_then a b c a.may_leave b.may_leave p.leaves q.leaves p.keeps.crash;
  written = q.written ∙ p.written;
  powers = q.powers ∙ p.powers;
  settings = q.settings ∙ p.settings;
  faults = omega (arith, p.faults, q.faults);
  calm = omega (arith, p.calm, q.calm);
}

tail_is : (at : ℕ) (xs : List ℕ) → drop 1 (part at 28 xs) ≡ part (at + 1) 27 xs
tail_is at xs = drop-take 1 27 (drop at xs) ∙ ap (λ (l : List ℕ). take 27 l) (drop-drop 1 at xs)

pub slot_found : (f : Format) (at g l : ℕ) (xs text : List ℕ) → text ≡ part at 28 xs → IsSlotText f text g l (length xs) → HasSlot f xs at g l
slot_found f at g l xs text is slot = record {
  gate = λ shut. slot.gate (ap (λ (t : List ℕ). get_or t 0 0) is ∙ get_or-first at 28 xs (omega arith) ∙ shut);
  header_is = sym (tail_is at xs) ∙ ap (λ (t : List ℕ). drop 1 t) (sym is) ∙ slot.header_is;
  positive = slot.positive;
  fits = slot.fits;
  short = slot.short;
}

pub slot_text : (f : Format) (at g l : ℕ) (xs text : List ℕ) → text ≡ part at 28 xs → HasSlot f xs at g l → IsSlotText f text g l (length xs)
slot_text f at g l xs text is slot = record {
  gate = λ shut. slot.gate (sym (get_or-first at 28 xs (omega arith)) ∙ ap (λ (t : List ℕ). get_or t 0 0) (sym is) ∙ shut);
  header_is = ap (λ (t : List ℕ). drop 1 t) is ∙ tail_is at xs ∙ slot.header_is;
  positive = slot.positive;
  fits = slot.fits;
  short = slot.short;
}
