-- Laws: what a disk stands for, where parts of it stay. For those who change the clusters, `settled_image` and `still_settled`.
use Rattle.std.proofs.Common.{◌≡◌, ℕ, ◌+◌, ◌<◌, ◌≤◌, List, [], ◌∷◌, length, get_or, take, refl, sym, ◌∙◌, ap, subst, arith}
use Rattle.std.proofs.lemmas.List.{get_or-take, drop_more}
use Rattle.cf_codec.specs.declared.formats.Format.{Format}
use Rattle.cf_codec.specs.declared.formats.Format.TheVariants.{First, Second}
use Rattle.cf_disk.specs.Disk.{State, size_of, part, SameBut}
use Rattle.cf_disk.specs.Parts.{part_ext, end_same}
use Rattle.cf_journal.specs.declared.sides.Side.{Side}
use Rattle.cf_journal.specs.declared.sides.Side.TheVariants.{A, B}
use Rattle.cf_journal.specs.Format.{base, other, header, journal_at, journal_len, most_image, HasSlot, Beats, Spells}
use Rattle.cf_journal.specs.Content.{Content, StandsAt, clusters}
use Rattle.cf_journal.specs.Settled.{Settled, IsFitSize}
use Rattle.cf_journal.specs.declared.journals.Journal.{Journal}

-- the two disks have one size, and the same bytes in a half
pub record SameHalf (at : ℕ) (old new : List ℕ) : Type 0 where
  pub size : length new ≡ length old
  pub bytes : (i : ℕ) → at ≤ i → i < at + 1572864 → get_or new i 0 ≡ get_or old i 0

pub half_back : (at : ℕ) (old new : List ℕ) → SameHalf at old new → SameHalf at new old
half_back at old new same = record { size = sym same.size; bytes = λ i low high. sym (same.bytes i low high) }

pub half_part : (at : ℕ) (old new : List ℕ) → SameHalf at old new → (k n : ℕ) → at ≤ k → k + n ≤ at + 1572864 → part k n new ≡ part k n old
half_part at old new same k n low high = part_ext k n new old same.size (λ i from to. same.bytes i (omega arith) (omega arith))

pub half_slot : (f : Format) (at : ℕ) (old new : List ℕ) (g l : ℕ) → SameHalf at old new → HasSlot f old at g l → HasSlot f new at g l
half_slot f at old new g l same slot = record {
  gate = λ shut. slot.gate (sym (same.bytes at (omega arith) (omega arith)) ∙ shut);
  header_is = half_part at old new same (at + 1) 27 (omega arith) (omega arith) ∙ slot.header_is ∙ ap (λ (n : ℕ). header f g l n) (sym same.size);
  positive = slot.positive;
  fits = slot.fits;
  short = slot.short;
}

-- a change within the other half
pub half_apart : (side : Side) (at n : ℕ) (old new : List ℕ) → SameBut at n old new → base (other side) ≤ at → at + n ≤ base (other side) + 1572864 → SameHalf (base side) old new
half_apart A at n old new same low high = record { size = same.size; bytes = λ i from to. same.before i (omega arith) }
half_apart B at n old new same low high = record { size = same.size; bytes = λ i from to. same.after i (omega arith) }

-- a change within this half
pub half_other : (side : Side) (at n : ℕ) (old new : List ℕ) → SameBut at n old new → base side ≤ at → at + n ≤ base side + 1572864 → SameHalf (base (other side)) old new
half_other A at n old new same low high = record { size = same.size; bytes = λ i from to. same.after i (omega arith) }
half_other B at n old new same low high = record { size = same.size; bytes = λ i from to. same.before i (omega arith) }

-- the journal ends with its half, and an image ends before that
pub journal_ends : (f : Format) → journal_at f + journal_len f ≡ 1572864
journal_ends First = refl
journal_ends Second = refl

pub image_room : (f : Format) (n : ℕ) → n ≤ most_image f → n ≤ 1306624
image_room First n short = omega (arith, short)
image_room Second n short = short

-- a disk with the same halves stands for the same
pub halves_stand : (side : Side) (g : ℕ) (x : Content) (old new : List ℕ) → SameHalf (base side) old new → ((f : Format) (h l : ℕ) → HasSlot f new (base (other side)) h l → Beats side g h) → StandsAt old side g x → StandsAt new side g x
halves_stand side g x old new same newest stands =
    let short = image_room x.format (length x.image) stands.chosen.slot.short in
    record {
      chosen = record { slot = half_slot x.format (base side) old new g (length x.image) same stands.chosen.slot; newest = newest };
      image = stands.image ∙ sym (half_part (base side) old new same (base side + 4096) (length x.image) (omega arith) (omega arith));
      payloads = subst (Spells x.payloads) (sym (half_part (base side) old new same (base side + journal_at x.format) (journal_len x.format) (omega arith) (omega (arith, journal_ends x.format)))) stands.payloads;
    }

-- the same two halves
pub both_halves : (old new : List ℕ) → length new ≡ length old → take 3145728 new ≡ take 3145728 old → (side : Side) → SameHalf (base side) old new
both_halves old new size same side = record { size = size; bytes = at_side side }
  where
    at_place : (i : ℕ) → i < 3145728 → get_or new i 0 ≡ get_or old i 0
    at_place i lt = sym (get_or-take 3145728 new i 0 lt) ∙ ap (λ (l : List ℕ). get_or l i 0) same ∙ get_or-take 3145728 old i 0 lt

    at_side : (s : Side) (i : ℕ) → base s ≤ i → i < base s + 1572864 → get_or new i 0 ≡ get_or old i 0
    at_side A i low high = at_place i (omega arith)
    at_side B i low high = at_place i (omega arith)

pub area_stands : (side : Side) (g : ℕ) (x : Content) (old new : List ℕ) → length new ≡ length old → take 3145728 new ≡ take 3145728 old → StandsAt old side g x → StandsAt new side g x
area_stands side g x old new size same stands = halves_stand side g x old new (both_halves old new size same side)
    (λ f h l slot. stands.chosen.newest f h l (half_slot f (base (other side)) new old h l (half_back (base (other side)) old new (both_halves old new size same (other side))) slot)) stands

pub part-one : (at : ℕ) (xs : List ℕ) → at < length xs → part at 1 xs ≡ get_or xs at 0 ∷ []
part-one at xs lt = ap (λ (l : List ℕ). take 1 l) (drop_more xs at 0 lt)

pub base_low : (side : Side) → base side + 1572864 ≤ 3145728
base_low A = omega arith
base_low B = omega arith

-- a change in the halves leaves the clusters
pub clusters_same : (at n : ℕ) (old new : List ℕ) → SameBut at n old new → at + n ≤ 3145728 → clusters new ≡ clusters old
clusters_same at n old new same low = end_same at n old new same 3145728 low

-- each image that a crash may leave of a settled disk has its content; its size is the disk's by a law of `Disk`
pub settled_image : (j : Journal) (s : State) (x : Content) → Settled j s x → (c : List ℕ) → s.may_leave c → length c ≡ size_of s → StandsAt c j.side j.generation x
settled_image j s x settled c left size = area_stands j.side j.generation x s.seen c size (settled.ready.durable c left) settled.ready.stands

-- a disk stays settled over calls that leave its two halves, as it reads and in each image
pub still_settled : (j : Journal) (old new : State) (x : Content) → Settled j old x → size_of new ≡ size_of old → take 3145728 new.seen ≡ take 3145728 old.seen
    → ((c : List ℕ) → new.may_leave c → (d : List ℕ) × old.may_leave d × (take 3145728 c ≡ take 3145728 d)) → Settled j new x
still_settled j old new x settled size halves images = record {
  usable = settled.usable;
  format = settled.format;
  ready = record {
    stands = area_stands j.side j.generation x old.seen new.seen size halves settled.ready.stands;
    durable = λ c left. let was = images c left in was.2 ∙ settled.ready.durable was.0 was.1 ∙ sym halves;
    size = subst IsFitSize (sym size) settled.ready.size;
  };
  end = settled.end;
}
