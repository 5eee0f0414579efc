-- How a medium in memory goes on, by its parts.
use Rattle.std.proofs.Common.{◌≡◌, ◌⊎◌, inl, inr, ℕ, ◌+◌, ◌*◌, ◌/◌, ◌%◌, ◌<◌, ◌≤◌, true, false, List, length, get_or, replicate, sym, ◌∙◌, ap, subst, arith}
use Rattle.std.specs.Int.{div_ceil}
use Rattle.std.proofs.lemmas.Bool.{cases_lt, both_ways}
use Rattle.std.proofs.lemmas.List.{ext_get_or, length-replicate, get_or_past}
use Rattle.cf_disk.specs.declared.old_pages.OldPages.{OldPages}
use Rattle.cf_disk.specs.Fronts.{filled}
use Rattle.cf_disk.specs.Images.{Held, IsWhole, written, durable}
use Rattle.cf_disk.specs.Keeping.{held_by, in_slot, is_written, old_byte, old_bytes, pool_byte, pool_flag, slot_of, written_places, AreClean, IsMedium, IsSound, KeepsPages, Marks}
use Rattle.cf_disk.specs.Splice.{over, length-over, over_before, over_after}
use Rattle.cf_disk.proofs.CutSteps.{length-old_bytes, old_bytes_at, length-written_places, written_at, written_quiet}
use Rattle.cf_disk.proofs.FrontLaws.{length-filled, filled_any, filled_again, filled_over}
use Rattle.cf_disk.proofs.ImageLaws.{clear_at, flags_size, flag_before, flag_in, flag_after}
use Rattle.cf_disk.proofs.SlotLaws.{in_slot_free, in_slot_now}

pub medium_size : (n room : ℕ) (bytes : List ℕ) (o : OldPages) → IsMedium n room bytes o → length (filled n 0 bytes) ≡ n
medium_size n room bytes o medium = omega (arith, length-filled 0 n bytes, medium.fits)

pub medium_whole : (n room : ℕ) (bytes : List ℕ) (o : OldPages) → IsMedium n room bytes o → IsWhole (held_by n bytes o)
medium_whole n room bytes o medium = record {
  flags = length-written_places n o ∙ sym (length-old_bytes n bytes o);
  reads_one = record {
    size = omega (arith, medium_size n room bytes o medium, length-old_bytes n bytes o);
    stays = λ i is. elim (cases_lt i n) [
      | inl inside ↦ filled_any 0 n i bytes ∙ medium.same i (sym (written_at n o i inside) ∙ is) ∙ sym (old_bytes_at n bytes o i inside)
      | inr behind ↦
          get_or_past (filled n 0 bytes) i 0 (omega (arith, behind, medium_size n room bytes o medium))
          ∙ sym (get_or_past (old_bytes n bytes o) i 0 (omega (arith, behind, length-old_bytes n bytes o)))
    ];
  };
}

-- where no page is kept
module _ (n : ℕ) (bytes : List ℕ) (o : OldPages) (clean : AreClean o) (fits : length bytes ≤ n) where
  byte : (now i : ℕ) → old_byte o now i ≡ now
  byte now i = in_slot_free (pool_byte o.starts.items o.bytes.items) (slot_of o i) now (i % 4096) (clean (i / 4096))

  flag : (i : ℕ) → is_written o i ≡ false
  flag i = in_slot_free (pool_flag o.written.pages) (slot_of o i) false (i % 4096) (clean (i / 4096))

  size : length (filled n 0 bytes) ≡ n
  size = omega (arith, length-filled 0 n bytes)

  copied : old_bytes n bytes o ≡ filled n 0 bytes
  copied = ext_get_or 0 (old_bytes n bytes o) (filled n 0 bytes) (length-old_bytes n bytes o ∙ sym size)
      (λ i lt. old_bytes_at n bytes o i (omega (arith, lt, length-old_bytes n bytes o)) ∙ byte (get_or bytes i 0) i ∙ sym (filled_any 0 n i bytes))

  clear : written_places n o ≡ replicate (length (filled n 0 bytes)) false
  clear = ext_get_or false (written_places n o) (replicate (length (filled n 0 bytes)) false)
      (length-written_places n o ∙ sym size ∙ sym (length-replicate (length (filled n 0 bytes)) false))
      (λ i lt. written_quiet n o i (flag i) ∙ sym (clear_at (length (filled n 0 bytes)) i))

  pub clean_held : ◌≡◌ {A = Held} (held_by n bytes o) (durable (filled n 0 bytes))
  clean_held = λ j. record { bytes = filled n 0 bytes; synced = copied j; pending = clear j }

  pub clean_medium : (room : ℕ) → IsSound o → n < o.most * 4096 → n ≤ room → IsMedium n room bytes o
  clean_medium room sound inside room_is = record {
    sound = sound;
    fits = fits;
    inside = inside;
    room_is = room_is;
    same = λ i is. sym (byte (get_or bytes i 0) i);
    quiet = λ i le. flag i;
  }

-- a write, whose pages were kept before the bytes were filled up to its end, and then marked
module _ (n room : ℕ) (bytes : List ℕ) (o : OldPages) (medium : IsMedium n room bytes o) (at e : ℕ) (src b0 b1 b2 : List ℕ) (o1 o2 : OldPages)
    (fits : at + length src ≤ n) (e_is : e ≡ at + length src) (b0_is : b0 ≡ bytes) (keeps : KeepsPages b0 (at / 4096) (div_ceil e 4096) o o1)
    (b1_is : b1 ≡ filled e 0 bytes) (marks : Marks at e o1 o2) (b2_is : b2 ≡ over at src b1) where
  reaches : at + length src ≤ length b1
  reaches = omega (arith, ap length b1_is, length-filled 0 e bytes)

  filled_at : (i : ℕ) → get_or b1 i 0 ≡ get_or bytes i 0
  filled_at i = ap (λ (l : List ℕ). get_or l i 0) b1_is ∙ filled_any 0 e i bytes

  front_at : (i : ℕ) → get_or b0 i 0 ≡ get_or bytes i 0
  front_at i = ap (λ (l : List ℕ). get_or l i 0) b0_is

  at_b2 : (i : ℕ) → get_or b2 i 0 ≡ get_or (over at src b1) i 0
  at_b2 i = ap (λ (l : List ℕ). get_or l i 0) b2_is

  old_now : (i : ℕ) → old_byte o2 (get_or b1 i 0) i ≡ old_byte o (get_or bytes i 0) i
  old_now i =
      (λ j. in_slot (pool_byte (marks.starts j) (marks.bytes j)) (get_or (marks.slots j) (i / 4096) 0) (get_or b1 i 0) (i % 4096))
      ∙ ap (λ (b : ℕ). old_byte o1 b i) (filled_at i ∙ sym (front_at i))
      ∙ keeps.bytes_stay i
      ∙ ap (λ (b : ℕ). old_byte o b i) (front_at i)

  slot_now : (i : ℕ) → at ≤ i → i < e → 0 < slot_of o2 i
  slot_now i from to = omega (arith, ap (λ (l : List ℕ). get_or l (i / 4096) 0) marks.slots, keeps.kept (i / 4096) (omega (arith, from)) (omega (arith, to)))

  old_stays : (i : ℕ) → old_byte o2 (get_or b2 i 0) i ≡ old_byte o (get_or bytes i 0) i
  old_stays i = elim (cases_lt i at) [
    | inl under ↦ ap (λ (b : ℕ). old_byte o2 b i) (at_b2 i ∙ over_before 0 at src b1 reaches i under) ∙ old_now i
    | inr from ↦ elim (cases_lt i e) [
      | inl below ↦ in_slot_now (pool_byte o2.starts.items o2.bytes.items) (slot_of o2 i) (get_or b2 i 0) (get_or b1 i 0) (i % 4096) (λ none. absurd (omega (arith, none, slot_now i from below))) ∙ old_now i
      | inr above ↦ ap (λ (b : ℕ). old_byte o2 b i) (at_b2 i ∙ over_after 0 at src b1 reaches i (omega (arith, above))) ∙ old_now i
    ]
  ]

  flag_out : (i : ℕ) → (i < at) ⊎ (e ≤ i) → is_written o2 i ≡ is_written o i
  flag_out i out = marks.stays i out ∙ keeps.flags_stay i

  of_bytes : filled n 0 b2 ≡ over at src (filled n 0 bytes)
  of_bytes =
      ap (λ (l : List ℕ). filled n 0 l) (b2_is ∙ ap (λ (l : List ℕ). over at src l) b1_is)
      ∙ filled_over 0 n at src (filled e 0 bytes) (omega (arith, length-filled 0 e bytes))
      ∙ ap (λ (l : List ℕ). over at src l) (filled_again 0 e n bytes (omega arith) medium.fits)

  of_synced : old_bytes n b2 o2 ≡ old_bytes n bytes o
  of_synced = ext_get_or 0 (old_bytes n b2 o2) (old_bytes n bytes o) (length-old_bytes n b2 o2 ∙ sym (length-old_bytes n bytes o))
      (λ i lt. let low : i < n = omega (arith, lt, length-old_bytes n b2 o2) in old_bytes_at n b2 o2 i low ∙ old_stays i ∙ sym (old_bytes_at n bytes o i low))

  flags_room : at + length src ≤ length (written_places n o)
  flags_room = omega (arith, length-written_places n o)

  flag_at : (i : ℕ) → i < n → is_written o2 i ≡ get_or (over at (replicate (length src) true) (written_places n o)) i false
  flag_at i low = elim (cases_lt i at) [
    | inl under ↦ flag_out i (inl under) ∙ sym (written_at n o i low) ∙ sym (flag_before true at (length src) (written_places n o) flags_room i under)
    | inr from ↦ elim (cases_lt i e) [
      | inl below ↦ marks.set i from below ∙ sym (flag_in true at (length src) (written_places n o) flags_room i from (omega (arith, below)))
      | inr above ↦ flag_out i (inr above) ∙ sym (written_at n o i low) ∙ sym (flag_after true at (length src) (written_places n o) flags_room i (omega (arith, above)))
    ]
  ]

  of_flags : written_places n o2 ≡ over at (replicate (length src) true) (written_places n o)
  of_flags = ext_get_or false (written_places n o2) (over at (replicate (length src) true) (written_places n o))
      (length-written_places n o2 ∙ sym (flags_size true at (length src) (written_places n o) flags_room ∙ length-written_places n o))
      (λ i lt. let low : i < n = omega (arith, lt, length-written_places n o2) in written_at n o2 i low ∙ flag_at i low)

  pub written_held : ◌≡◌ {A = Held} (held_by n b2 o2) (written at src (held_by n bytes o))
  written_held = λ j. record { bytes = of_bytes j; synced = of_synced j; pending = of_flags j }

  b2_size : length b2 ≡ length (filled e 0 bytes)
  b2_size = ap length b2_is ∙ length-over 0 at src b1 reaches ∙ ap length b1_is

  pub written_medium : (room2 : ℕ) → IsSound o2 → n ≤ room2 → IsMedium n room2 b2 o2
  written_medium room2 sound room_is = record {
    sound = sound;
    fits = omega (arith, b2_size, length-filled 0 e bytes, medium.fits);
    inside = omega (arith, medium.inside, marks.most, keeps.most);
    room_is = room_is;
    same = λ i is. elim (cases_lt i at) [
      | inl under ↦ at_b2 i ∙ over_before 0 at src b1 reaches i under ∙ filled_at i ∙ medium.same i (sym (flag_out i (inl under)) ∙ is) ∙ sym (old_stays i)
      | inr from ↦ elim (cases_lt i e) [
        | inl below ↦ absurd (both_ways (is_written o2 i) is (marks.set i from below))
        | inr above ↦ at_b2 i ∙ over_after 0 at src b1 reaches i (omega (arith, above)) ∙ filled_at i ∙ medium.same i (sym (flag_out i (inr above)) ∙ is) ∙ sym (old_stays i)
      ]
    ];
    quiet = λ i le. flag_out i (inr (omega (arith, le, b2_size, length-filled 0 e bytes))) ∙ medium.quiet i (omega (arith, le, b2_size, length-filled 0 e bytes));
  }

-- by the value that callers see
module _ (n room : ℕ) (bytes : List ℕ) (o : OldPages) (medium : IsMedium n room bytes o) (now : Held) (view : held_by n bytes o ≡ now) where
  pub now_size : length now.bytes ≡ n
  now_size = ap (λ (h : Held). length h.bytes) (sym view) ∙ medium_size n room bytes o medium

  pub now_whole : IsWhole now
  now_whole = subst (λ (h : Held). IsWhole h) view (medium_whole n room bytes o medium)
