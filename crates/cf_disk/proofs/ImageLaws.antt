-- What the calls of a disk in memory do to its images.
use Rattle.std.proofs.Common.{◌≡◌, ◌⊎◌, inl, inr, ℕ, zero, suc, ◌+◌, ◌-◌, ◌<◌, ◌≤◌, Bool, true, false, List, length, get_or, replicate, refl, sym, ◌∙◌, ap, arith}
use Rattle.std.proofs.lemmas.Bool.{cases_lt, both_ways}
use Rattle.std.proofs.lemmas.List.{ext_get_or, length-replicate, get_or-replicate}
use Rattle.cf_base.specs.declared.policies.Choice.{Choice}
use Rattle.cf_base.specs.declared.policies.Choice.TheVariants.{Keep, Drop, Mix}
use Rattle.cf_disk.specs.Disk.{part, SameBut}
use Rattle.cf_disk.specs.Images.{Held, IsImage, IsWhole, written, durable, left_by}
use Rattle.cf_disk.specs.Parts.{length-part, get_or-part}
use Rattle.cf_disk.specs.Splice.{over, length-over, over_before, over_in, over_after}
use Rattle.cf_disk.proofs.Mixing.{length-mixed, mixed_stays}

-- the flags after n places from one on were set alike
module _ (b : Bool) (at n : ℕ) (flags : List Bool) (room : at + n ≤ length flags) where
  fits : at + length (replicate n b) ≤ length flags
  fits = omega (arith, length-replicate n b)

  pub flags_size : length (over at (replicate n b) flags) ≡ length flags
  flags_size = length-over false at (replicate n b) flags fits

  pub flag_before : (i : ℕ) → i < at → get_or (over at (replicate n b) flags) i false ≡ get_or flags i false
  flag_before = over_before false at (replicate n b) flags fits

  pub flag_in : (i : ℕ) → at ≤ i → i < at + n → get_or (over at (replicate n b) flags) i false ≡ b
  flag_in i low high = over_in false at (replicate n b) flags fits i low (omega (arith, length-replicate n b)) ∙ get_or-replicate n (i - at) b false (omega arith)

  pub flag_after : (i : ℕ) → at + n ≤ i → get_or (over at (replicate n b) flags) i false ≡ get_or flags i false
  flag_after i high = over_after false at (replicate n b) flags fits i (omega (arith, length-replicate n b))

-- a flag that is clear after n were set was clear before, and lies outside
outside : (at n i : ℕ) (flags : List Bool) → at + n ≤ length flags → get_or (over at (replicate n true) flags) i false ≡ false
    → ((i < at) ⊎ (at + n ≤ i)) × (get_or flags i false ≡ false)
outside at n i flags room is = elim (cases_lt i at) [
  | inl low ↦ (inl low, sym (flag_before true at n flags room i low) ∙ is)
  | inr mid ↦ elim (cases_lt i (at + n)) [
    | inl high ↦ absurd (both_ways (get_or (over at (replicate n true) flags) i false) is (flag_in true at n flags room i mid high))
    | inr high ↦ (inr high, sym (flag_after true at n flags room i high) ∙ is)
  ]
]

-- a write keeps a disk whole
pub written_whole : (at : ℕ) (src : List ℕ) (h : Held) → at + length src ≤ length h.bytes → IsWhole h → IsWhole (written at src h)
written_whole at src h room whole = record {
  flags = flags_size true at (length src) h.pending marks ∙ whole.flags;
  reads_one = record {
    size = length-over 0 at src h.bytes room ∙ whole.reads_one.size;
    stays = λ i is.
        let o = outside at (length src) i h.pending marks is in
        elim o.0 [ inl low ↦ over_before 0 at src h.bytes room i low | inr high ↦ over_after 0 at src h.bytes room i high ]
        ∙ whole.reads_one.stays i o.1;
  };
}
  where
    marks : at + length src ≤ length h.pending
    marks = omega (arith, whole.flags, whole.reads_one.size)

-- an image after a write is one before it, but for the range
pub image_near : (at : ℕ) (src c : List ℕ) (h : Held) → at + length src ≤ length h.bytes → IsWhole h → IsImage (written at src h) c
    → (d : List ℕ) × IsImage h d × SameBut at (length src) d c
image_near at src c h room whole image = (
  over at mid c,
  record { size = length-over 0 at mid c fits ∙ image.size; stays = same },
  record {
    size = sym (length-over 0 at mid c fits);
    before = λ i low. sym (over_before 0 at mid c fits i low);
    after = λ i high. sym (over_after 0 at mid c fits i (omega (arith, size)));
  },
)
  where
    marks : at + length src ≤ length h.pending
    marks = omega (arith, whole.flags, whole.reads_one.size)

    mid : List ℕ
    mid = part at (length src) h.bytes

    size : length (part at (length src) h.bytes) ≡ length src
    size = length-part at (length src) h.bytes room

    fits : at + length (part at (length src) h.bytes) ≤ length c
    fits = omega (arith, size, image.size, whole.reads_one.size)

    same : (i : ℕ) → get_or h.pending i false ≡ false → get_or (over at (part at (length src) h.bytes) c) i 0 ≡ get_or h.synced i 0
    same i is = elim (cases_lt i at) [
      | inl low ↦ over_before 0 at (part at (length src) h.bytes) c fits i low ∙ image.stays i (flag_before true at (length src) h.pending marks i low ∙ is)
      | inr from ↦ elim (cases_lt i (at + length src)) [
        | inl high ↦
            over_in 0 at (part at (length src) h.bytes) c fits i from (omega (arith, size))
            ∙ get_or-part at (length src) h.bytes (i - at) (omega arith)
            ∙ (let here : at + (i - at) ≡ i = omega arith in ap (λ (k : ℕ). get_or h.bytes k 0) here)
            ∙ whole.reads_one.stays i is
        | inr high ↦ over_after 0 at (part at (length src) h.bytes) c fits i (omega (arith, size)) ∙ image.stays i (flag_after true at (length src) h.pending marks i high ∙ is)
      ]
    ]

pub clear_at : (n i : ℕ) → get_or (replicate n false) i false ≡ false
clear_at zero i = refl
clear_at (suc n) zero = refl
clear_at (suc n) (suc i) = clear_at n i

-- where all is durable there is one image
pub one_image : (bytes c : List ℕ) → IsImage (durable bytes) c → c ≡ bytes
one_image bytes c image = ext_get_or 0 c bytes image.size (λ i _. image.stays i (clear_at (length bytes) i))

pub durable_image : (bytes : List ℕ) → IsImage (durable bytes) bytes
durable_image bytes = record { size = refl; stays = λ i _. refl }

pub durable_whole : (bytes : List ℕ) → IsWhole (durable bytes)
durable_whole bytes = record { flags = length-replicate (length bytes) false; reads_one = durable_image bytes }

-- a power cut leaves an image
pub left_image : (choice : Choice) (h : Held) → IsWhole h → IsImage h (left_by choice h)
left_image Keep h whole = whole.reads_one
left_image Drop h whole = record { size = refl; stays = λ i _. refl }
left_image (Mix n) h whole = record {
  size = length-mixed n h.bytes h.synced h.pending ∙ whole.reads_one.size;
  stays = λ i is. mixed_stays n h.bytes h.synced h.pending i is ∙ whole.reads_one.stays i is;
}
