-- How a power cut goes over the pages that are kept.
use Rattle.std.proofs.Common.{◌≡◌, ◌⊎◌, inl, inr, ℕ, zero, suc, ◌+◌, ◌-◌, ◌*◌, ◌/◌, ◌%◌, ◌<◌, ◌≤◌, min, Bool, false, List, [], length, get_or, take, drop, replicate, refl, sym, ◌∙◌, ap, arith}
use Rattle.std.proofs.lemmas.Bool.{cases_lt, cases_eq, cases_order}
use Rattle.std.proofs.lemmas.List.{ext_get_or, length-take, length-drop, get_or-take, get_or-drop, get_or_past, take-append-le, drop-append-le}
use Rattle.std.proofs.lemmas.List.FromFn.{length-map-range_with_len, get_or-map-range_with_len}
use Rattle.cf_disk.specs.declared.old_pages.OldPages.{OldPages}
use Rattle.cf_disk.specs.Disk.{part}
use Rattle.cf_disk.specs.Fronts.{filled}
use Rattle.cf_disk.specs.Images.{mixed, mixed_after, stirs}
use Rattle.cf_disk.specs.Keeping.{is_written, old_byte, old_bytes, pool_byte, pool_flag, slot_of, written_places, IsMedium, IsSound, PutsPage, PutsPages}
use Rattle.cf_disk.specs.Parts.{length-part, get_or-part}
use Rattle.cf_disk.specs.Splice.{over, length-over, over_before, over_in, over_after}
use Rattle.cf_disk.proofs.FrontLaws.{length-filled, filled_any, filled_over}
use Rattle.cf_disk.proofs.Mixing.{length-mixed, mixed_skips, mixed_done, mixed_part}
use Rattle.cf_disk.proofs.SlotLaws.{in_slot_free, in_slot_used}

pub length-old_bytes : (n : ℕ) (bytes : List ℕ) (o : OldPages) → length (old_bytes n bytes o) ≡ n
length-old_bytes n bytes o = length-map-range_with_len (λ i. old_byte o (get_or bytes i 0) i) 0 n

pub old_bytes_at : (n : ℕ) (bytes : List ℕ) (o : OldPages) (i : ℕ) → i < n → get_or (old_bytes n bytes o) i 0 ≡ old_byte o (get_or bytes i 0) i
old_bytes_at n bytes o i lt = get_or-map-range_with_len (λ j. old_byte o (get_or bytes j 0) j) 0 n i i 0 lt (omega arith)

pub length-written_places : (n : ℕ) (o : OldPages) → length (written_places n o) ≡ n
length-written_places n o = length-map-range_with_len (is_written o) 0 n

pub written_at : (n : ℕ) (o : OldPages) (i : ℕ) → i < n → get_or (written_places n o) i false ≡ is_written o i
written_at n o i lt = get_or-map-range_with_len (is_written o) 0 n i i false lt (omega arith)

pub written_quiet : (n : ℕ) (o : OldPages) (i : ℕ) → is_written o i ≡ false → get_or (written_places n o) i false ≡ false
written_quiet n o i is = elim (cases_lt i n) [
  | inl inside ↦ written_at n o i inside ∙ is
  | inr behind ↦ get_or_past (written_places n o) i false (omega (arith, length-written_places n o))
]

-- one page of the pool is put back
module _ (o : OldPages) (number start low len : ℕ) (old new : List ℕ) (sound : IsSound o) (lt : number < length o.pages.items)
    (start_is : start ≡ get_or o.starts.items number 0) (low_is : low ≡ min (get_or o.pages.items number 0 * 4096) (length old)) (len_is : len ≡ min 4096 (length old - low))
    (new_is : new ≡ over low (part start len o.bytes.items) old) where
  size : length (part start len o.bytes.items) ≡ len
  size = length-part start len o.bytes.items (omega (arith, sound.ends number lt, start_is))

  fits : low + length (part start len o.bytes.items) ≤ length old
  fits = omega (arith, size)

  other_page : (i : ℕ) → (slot_of o i ≡ suc number → ⊥) → i / 4096 ≡ get_or o.pages.items number 0 → ⊥
  other_page i other same = other (ap (λ (p : ℕ). get_or o.slots.items p 0) same ∙ sound.there number lt)

  behind : (i : ℕ) → (slot_of o i ≡ suc number → ⊥) → low ≤ i → low + len ≤ i
  behind i other from = elim (cases_order (i / 4096) (get_or o.pages.items number 0)) [
    | inl same ↦ absurd (other_page i other same)
    | inr ne ↦ elim ne [ inl less ↦ omega (arith, less, from) | inr more ↦ omega (arith, more, from) ]
  ]

  pub put_page : PutsPage o number old new
  put_page = record {
    here = λ i inside is.
        let page = (sound.back (i / 4096) number is).1 in
        let place : low ≡ i / 4096 * 4096 = omega (arith, page, inside) in
        ap (λ (l : List ℕ). get_or l i 0) new_is
        ∙ over_in 0 low (part start len o.bytes.items) old fits i (omega (arith, place)) (omega (arith, size, place, inside))
        ∙ get_or-part start len o.bytes.items (i - low) (omega (arith, place, inside))
        ∙ (let at : start + (i - low) ≡ get_or o.starts.items number 0 + i % 4096 = omega (arith, place, start_is) in ap (λ (k : ℕ). get_or o.bytes.items k 0) at);
    others = λ i other. ap (λ (l : List ℕ). get_or l i 0) new_is ∙ elim (cases_lt i low) [
      | inl under ↦ over_before 0 low (part start len o.bytes.items) old fits i under
      | inr from ↦ over_after 0 low (part start len o.bytes.items) old fits i (omega (arith, size, behind i other from))
    ];
  }

pub puts_none : (o : OldPages) (bytes : List ℕ) → PutsPages o 0 bytes bytes
puts_none o bytes = record {
  here = λ i inside le. sym (in_slot_free (pool_byte o.starts.items o.bytes.items) (slot_of o i) (get_or bytes i 0) (i % 4096) (omega (arith, le)));
  others = λ i some. refl;
}

-- one page more
pub puts_more : (o : OldPages) (k : ℕ) (first bytes new : List ℕ) → length bytes ≡ length first → PutsPages o k first bytes → PutsPage o k bytes new → PutsPages o (k + 1) first new
puts_more o k first bytes new size so_far page = record {
  here = λ i inside le. elim (cases_eq (slot_of o i) (suc k)) [
    | inl same ↦ page.here i (omega (arith, inside)) same ∙ sym (in_slot_used (pool_byte o.starts.items o.bytes.items) (slot_of o i) k (get_or first i 0) (i % 4096) same)
    | inr other ↦ page.others i other ∙ so_far.here i inside (less (slot_of o i) le other)
  ];
  others = λ i some. page.others i (λ same. omega (arith, some, same)) ∙ so_far.others i (omega (arith, some));
}
  where
    less : (s : ℕ) → s ≤ k + 1 → (s ≡ suc k → ⊥) → s ≤ k
    less s le other = elim (cases_lt k s) [
      | inl more ↦ let same : s ≡ suc k = omega arith in absurd (other same)
      | inr done ↦ done
    ]

slot_most : (o : OldPages) → IsSound o → (i : ℕ) → slot_of o i ≤ length o.pages.items
slot_most o sound i = one (slot_of o i) refl
  where
    one : (s : ℕ) → slot_of o i ≡ s → slot_of o i ≤ length o.pages.items
    one zero is = omega (arith, is)
    one (suc k) is = omega (arith, is, (sound.back (i / 4096) k is).0)

-- all of them
pub puts_all : (o : OldPages) (n room : ℕ) (old new : List ℕ) → IsMedium n room old o → length new ≡ length old → PutsPages o (length o.pages.items) old new → filled n 0 new ≡ old_bytes n old o
puts_all o n room old new medium size puts = ext_get_or 0 (filled n 0 new) (old_bytes n old o)
    (omega (arith, length-filled 0 n new, length-old_bytes n old o, medium.fits))
    (λ i lt. filled_any 0 n i new ∙ elim (cases_lt i (length old)) [
      | inl inside ↦ puts.here i inside (slot_most o medium.sound i)
      | inr behind ↦ get_or_past new i 0 (omega (arith, behind)) ∙ sym (get_or_past old i 0 behind) ∙ medium.same i (medium.quiet i behind)
    ]
    ∙ sym (old_bytes_at n old o i (omega (arith, lt, length-filled 0 n new, medium.fits))))

-- nothing is written in a page that is not kept
not_kept : (o : OldPages) → IsSound o → (i : ℕ) → ((k : ℕ) → k < length o.pages.items → get_or o.pages.items k 0 ≡ i / 4096 → ⊥) → is_written o i ≡ false
not_kept o sound i none = one (slot_of o i) refl
  where
    one : (s : ℕ) → slot_of o i ≡ s → is_written o i ≡ false
    one zero is = in_slot_free (pool_flag o.written.pages) (slot_of o i) false (i % 4096) is
    one (suc k) is = let was = sound.back (i / 4096) k is in absurd (none k was.0 was.1)

-- the generator goes over a page
module _ (o : OldPages) (n room page state : ℕ) (first bytes : List ℕ) (medium : IsMedium n room first o) (same_size : length first ≡ length bytes) where
  fills : length (filled n 0 bytes) ≡ n
  fills = omega (arith, length-filled 0 n bytes, medium.fits)

  olds : length (old_bytes n first o) ≡ length (filled n 0 bytes)
  olds = omega (arith, fills, length-old_bytes n first o)

  flags : length (written_places n o) ≡ length (filled n 0 bytes)
  flags = omega (arith, fills, length-written_places n o)

  -- one that is not kept
  pub mixed_clean : get_or o.slots.items page 0 ≡ 0
      → mixed_after (page * 4096 + 4096) state (filled n 0 bytes) (old_bytes n first o) (written_places n o) ≡ mixed_after (page * 4096) state (filled n 0 bytes) (old_bytes n first o) (written_places n o)
  mixed_clean is = mixed_skips (page * 4096 + 4096) (page * 4096) state (filled n 0 bytes) (old_bytes n first o) (written_places n o) (omega arith)
      (λ i from to. written_quiet n o i (quiet i from to)) olds flags
    where
      quiet : (i : ℕ) → page * 4096 ≤ i → i < page * 4096 + 4096 → is_written o i ≡ false
      quiet i from to =
          let here : i / 4096 ≡ page = omega (arith, from, to) in
          in_slot_free (pool_flag o.written.pages) (slot_of o i) false (i % 4096) (ap (λ (p : ℕ). get_or o.slots.items p 0) here ∙ is)

  -- one that is kept
  module _ (k start len result : ℕ) (synced new : List ℕ) (pending : List Bool) (front : page * 4096 < length bytes) (used : get_or o.slots.items page 0 ≡ suc k)
      (start_is : start ≡ get_or o.starts.items k 0) (len_is : len ≡ min 4096 (length bytes - page * 4096))
      (synced_is : synced ≡ part start len o.bytes.items) (pending_is : pending ≡ take len (get_or o.written.pages k []))
      (new_is : new ≡ over (page * 4096) (mixed state (part (page * 4096) (length synced) bytes) synced pending) bytes) (result_is : result ≡ stirs state pending) where
    number : k < length o.pages.items
    number = (medium.sound.back page k used).0

    bytes_room : start + len ≤ length o.bytes.items
    bytes_room = omega (arith, medium.sound.ends k number, start_is)

    room_here : page * 4096 + len ≤ length bytes
    room_here = omega arith

    inside : page * 4096 + len ≤ n
    inside = omega (arith, room_here, medium.fits)

    slot : (i : ℕ) → i < len → slot_of o (page * 4096 + i) ≡ suc k
    slot i lt = let here : (page * 4096 + i) / 4096 ≡ page = omega (arith, lt) in ap (λ (p : ℕ). get_or o.slots.items p 0) here ∙ used

    byte_place : (i : ℕ) → i < len → get_or o.starts.items k 0 + (page * 4096 + i) % 4096 ≡ start + i
    byte_place i lt = omega (arith, lt, start_is)

    flag_place : (i : ℕ) → i < len → (page * 4096 + i) % 4096 ≡ i
    flag_place i lt = omega (arith, lt)

    synced_part : synced ≡ part (page * 4096) len (old_bytes n first o)
    synced_part = synced_is ∙ ext_get_or 0 (part start len o.bytes.items) (part (page * 4096) len (old_bytes n first o))
        (length-part start len o.bytes.items bytes_room ∙ sym (length-part (page * 4096) len (old_bytes n first o) (omega (arith, inside, length-old_bytes n first o))))
        (λ i lt. let low : i < len = omega (arith, lt, length-part start len o.bytes.items bytes_room) in
        get_or-part start len o.bytes.items i low
        ∙ ap (λ (j : ℕ). get_or o.bytes.items j 0) (sym (byte_place i low))
        ∙ sym (in_slot_used (pool_byte o.starts.items o.bytes.items) (slot_of o (page * 4096 + i)) k (get_or first (page * 4096 + i) 0) ((page * 4096 + i) % 4096) (slot i low))
        ∙ sym (old_bytes_at n first o (page * 4096 + i) (omega (arith, inside, low)))
        ∙ sym (get_or-part (page * 4096) len (old_bytes n first o) i low))

    pending_size : length (take len (get_or o.written.pages k [])) ≡ len
    pending_size = omega (arith, length-take len (get_or o.written.pages k []), medium.sound.written_each k number, len_is)

    pending_part : pending ≡ take len (drop (page * 4096) (written_places n o))
    pending_part = pending_is ∙ ext_get_or false (take len (get_or o.written.pages k [])) (take len (drop (page * 4096) (written_places n o)))
        (omega (arith, pending_size, length-take len (drop (page * 4096) (written_places n o)), length-drop (page * 4096) (written_places n o), length-written_places n o, inside))
        (λ i lt. let low : i < len = omega (arith, lt, pending_size) in
        get_or-take len (get_or o.written.pages k []) i false low
        ∙ ap (λ (j : ℕ). get_or (get_or o.written.pages k []) j false) (sym (flag_place i low))
        ∙ sym (in_slot_used (pool_flag o.written.pages) (slot_of o (page * 4096 + i)) k false ((page * 4096 + i) % 4096) (slot i low))
        ∙ sym (written_at n o (page * 4096 + i) (omega (arith, inside, low)))
        ∙ sym (get_or-drop (page * 4096) (written_places n o) i false)
        ∙ sym (get_or-take len (drop (page * 4096) (written_places n o)) i false low))

    synced_size : length synced ≡ len
    synced_size = ap length synced_is ∙ length-part start len o.bytes.items bytes_room

    bytes_part : part (page * 4096) (length synced) bytes ≡ part (page * 4096) len (filled n 0 bytes)
    bytes_part =
        ap (λ (m : ℕ). part (page * 4096) m bytes) synced_size
        ∙ sym (take-append-le len (drop (page * 4096) bytes) (replicate (n - length bytes) 0) (omega (arith, length-drop (page * 4096) bytes)))
        ∙ ap (λ (l : List ℕ). take len l) (sym (drop-append-le (page * 4096) bytes (replicate (n - length bytes) 0) (omega arith)))

    mid : List ℕ
    mid = mixed state (part (page * 4096) (length synced) bytes) synced pending

    mid_is : mixed state (part (page * 4096) (length synced) bytes) synced pending
        ≡ mixed state (part (page * 4096) len (filled n 0 bytes)) (part (page * 4096) len (old_bytes n first o)) (take len (drop (page * 4096) (written_places n o)))
    mid_is = λ j. mixed state (bytes_part j) (synced_part j) (pending_part j)

    mid_size : length (mixed state (part (page * 4096) (length synced) bytes) synced pending) ≡ len
    mid_size = length-mixed state (part (page * 4096) (length synced) bytes) synced pending ∙ length-part (page * 4096) (length synced) bytes (omega (arith, synced_size)) ∙ synced_size

    new_filled : filled n 0 new ≡ over (page * 4096) (mixed state (part (page * 4096) (length synced) bytes) synced pending) (filled n 0 bytes)
    new_filled = ap (λ (l : List ℕ). filled n 0 l) new_is ∙ filled_over 0 n (page * 4096) (mixed state (part (page * 4096) (length synced) bytes) synced pending) bytes (omega (arith, mid_size))

    new_size : length (filled n 0 new) ≡ length (filled n 0 bytes)
    new_size = ap length new_filled ∙ length-over_mid
      where
        length-over_mid : length (over (page * 4096) (mixed state (part (page * 4096) (length synced) bytes) synced pending) (filled n 0 bytes)) ≡ length (filled n 0 bytes)
        length-over_mid = length-over 0 (page * 4096) (mixed state (part (page * 4096) (length synced) bytes) synced pending) (filled n 0 bytes) (omega (arith, mid_size, fills, inside))

    quiet : (i : ℕ) → page * 4096 + len ≤ i → i < page * 4096 + 4096 → get_or (written_places n o) i false ≡ false
    quiet i from to = written_quiet n o i (medium.quiet i (omega (arith, from, to)))

    pub mixed_kept : mixed_after (page * 4096 + 4096) result (filled n 0 new) (old_bytes n first o) (written_places n o) ≡ mixed_after (page * 4096) state (filled n 0 bytes) (old_bytes n first o) (written_places n o)
    mixed_kept =
        mixed_skips (page * 4096 + 4096) (page * 4096 + len) result (filled n 0 new) (old_bytes n first o) (written_places n o) (omega arith) quiet (olds ∙ sym new_size) (flags ∙ sym new_size)
        ∙ ap (λ (l : List ℕ). mixed_after (page * 4096 + len) result l (old_bytes n first o) (written_places n o)) new_filled
        ∙ mixed_part (page * 4096) len state result (filled n 0 bytes) (old_bytes n first o) (mixed state (part (page * 4096) (length synced) bytes) synced pending) (written_places n o)
        (omega (arith, fills, inside)) olds flags mid_is (result_is ∙ ap (λ (l : List Bool). stirs state l) pending_part)

  -- nothing lies before the pages
  pub mixed_begin : (low : ℕ) → ((k : ℕ) → k < length o.pages.items → low ≤ get_or o.pages.items k 0)
      → mixed_after (low * 4096) state (filled n 0 bytes) (old_bytes n first o) (written_places n o) ≡ mixed_after 0 state (filled n 0 bytes) (old_bytes n first o) (written_places n o)
  mixed_begin low each = mixed_skips (low * 4096) 0 state (filled n 0 bytes) (old_bytes n first o) (written_places n o) (omega arith)
      (λ i from to. written_quiet n o i (not_kept o medium.sound i (λ k lt same. omega (arith, each k lt, same, to)))) olds flags

  -- and nothing behind them, or behind the front
  pub mixed_end : (at end : ℕ) → ((k : ℕ) → k < length o.pages.items → get_or o.pages.items k 0 < end) → (length bytes ≤ at * 4096) ⊎ (end ≤ at)
      → mixed_after (at * 4096) state (filled n 0 bytes) (old_bytes n first o) (written_places n o) ≡ filled n 0 bytes
  mixed_end at end each past = mixed_done (at * 4096) state (filled n 0 bytes) (old_bytes n first o) (written_places n o) (λ i from. written_quiet n o i (quiet i from past))
    where
      quiet : (i : ℕ) → at * 4096 ≤ i → (length bytes ≤ at * 4096) ⊎ (end ≤ at) → is_written o i ≡ false
      quiet i from (inl front) = medium.quiet i (omega (arith, from, front))
      quiet i from (inr behind) = not_kept o medium.sound i (λ k lt same. omega (arith, each k lt, same, from, behind))
