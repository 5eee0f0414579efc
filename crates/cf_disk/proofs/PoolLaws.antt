-- How the pages go on that are kept.
use Rattle.std.proofs.Common.{◌≡◌, inl, inr, ℕ, suc, ◌+◌, ◌-◌, ◌*◌, ◌/◌, ◌%◌, ◌<◌, ◌≤◌, min, set, Bool, false, List, [], ◌∷◌, ◌++◌, length, get_or, replicate, refl, sym, ◌∙◌, ap, arith}
use Rattle.std.specs.Prelude.{vec_capacity}
use Rattle.std.proofs.lemmas.Bool.{cases_lt, cases_eq}
use Rattle.std.proofs.lemmas.List.{length-append, length-replicate, length-set, length_push, get_or-replicate, get_or_push, get_or_past, get_or_append_left, get_or-append_right, get_or-set_same, get_or-set_other}
use Rattle.cf_disk.specs.declared.old_pages.OldPages.{OldPages}
use Rattle.cf_disk.specs.Disk.{part}
use Rattle.cf_disk.specs.Fronts.{filled}
use Rattle.cf_disk.specs.Keeping.{free, in_slot, pool_byte, pool_flag, slot_of, IsSound, KeepsPages, StoresPage}
use Rattle.cf_disk.specs.Writing.{Written}
use Rattle.cf_disk.specs.Parts.{length-part, get_or-part}
use Rattle.cf_disk.proofs.FrontLaws.{length-filled, filled_any}
use Rattle.cf_disk.proofs.SlotLaws.{free_set, free_filled, in_slot_same, in_slot_free, in_slot_used}

pub keeps_then : (bytes : List ℕ) (a b c : ℕ) (x y z : OldPages) → KeepsPages bytes a b x y → KeepsPages bytes b c y z → KeepsPages bytes a c x z
keeps_then bytes a b c x y z p q = record {
  bytes_stay = λ i. q.bytes_stay i ∙ p.bytes_stay i;
  flags_stay = λ i. q.flags_stay i ∙ p.flags_stay i;
  kept = λ k from to. elim (cases_lt k b) [
    | inl low ↦ q.stays k (p.kept k from low)
    | inr high ↦ q.kept k high to
  ];
  stays = λ k some. q.stays k (p.stays k some);
  most = q.most ∙ p.most;
}

pub keeps_none : (bytes : List ℕ) (a : ℕ) (x : OldPages) → KeepsPages bytes a a x x
keeps_none bytes a x = record {
  bytes_stay = λ i. refl;
  flags_stay = λ i. refl;
  kept = λ k from to. absurd (omega (arith, from, to));
  stays = λ k some. some;
  most = refl;
}

-- slots for more pages, all of them free
module _ (o new : OldPages) (pages : ℕ) (slots_are : new.slots.items ≡ filled pages 0 o.slots.items) (pages_are : new.pages.items ≡ o.pages.items)
    (starts_are : new.starts.items ≡ o.starts.items) (bytes_are : new.bytes.items ≡ o.bytes.items) (written_are : new.written ≡ o.written) (most_is : new.most ≡ o.most) where
  slot : (p : ℕ) → get_or new.slots.items p 0 ≡ get_or o.slots.items p 0
  slot p = ap (λ (l : List ℕ). get_or l p 0) slots_are ∙ filled_any 0 pages p o.slots.items

  pub reach_keeps : (bytes : List ℕ) (a : ℕ) → KeepsPages bytes a a o new
  reach_keeps bytes a = record {
    bytes_stay = λ i. (λ j. in_slot (pool_byte (starts_are j) (bytes_are j)) (slot (i / 4096) j) (get_or bytes i 0) (i % 4096));
    flags_stay = λ i. (λ j. in_slot (pool_flag (ap (λ (w : Written). w.pages) written_are j)) (slot (i / 4096) j) false (i % 4096));
    kept = λ k from to. absurd (omega (arith, from, to));
    stays = λ k some. omega (arith, some, slot k);
    most = most_is;
  }

  pub reach_sound : IsSound o → pages ≤ o.most → vec_capacity o.slots ≤ vec_capacity new.slots → vec_capacity o.pages ≤ vec_capacity new.pages
      → vec_capacity o.starts ≤ vec_capacity new.starts → vec_capacity o.bytes ≤ vec_capacity new.bytes → IsSound new
  reach_sound sound le slots_room pages_room starts_room bytes_room = record {
    back = λ p k is. let was = sound.back p k (sym (slot p) ∙ is) in (omega (arith, was.0, size), page k ∙ was.1);
    there = λ k lt. ap (λ (p : ℕ). get_or new.slots.items p 0) (page k) ∙ slot (get_or o.pages.items k 0) ∙ sound.there k (omega (arith, lt, size));
    starts_size = omega (arith, ap length starts_are, sound.starts_size, size);
    ends = λ k lt. omega (arith, ap (λ (l : List ℕ). get_or l k 0) starts_are, ap length bytes_are, sound.ends k (omega (arith, lt, size)));
    zeros = λ i lt. ap (λ (l : List ℕ). get_or l i 0) bytes_are ∙ sound.zeros i lt;
    bytes_least = omega (arith, ap length bytes_are, sound.bytes_least);
    bytes_most = omega (arith, ap length bytes_are, sound.bytes_most, size);
    written_size = omega (arith, ap (λ (w : Written). length w.pages) written_are, sound.written_size, size);
    written_each = λ k lt. ap (λ (w : Written). length (get_or w.pages k [])) written_are ∙ sound.written_each k (omega (arith, lt, size));
    written_most = ap (λ (w : Written). w.most) written_are ∙ sound.written_most ∙ sym most_is;
    few = omega (arith, size, ap free slots_are, free_filled pages o.slots.items, ap length slots_are, length-filled 0 pages o.slots.items, sound.few);
    fits = omega (arith, ap length slots_are, length-filled 0 pages o.slots.items, sound.fits, le, most_is);
    small = omega (arith, sound.small, most_is);
    slots_room = omega (arith, sound.slots_room, slots_room, most_is);
    pages_room = omega (arith, sound.pages_room, pages_room, most_is);
    starts_room = omega (arith, sound.starts_room, starts_room, most_is);
    bytes_room = omega (arith, sound.bytes_room, bytes_room, most_is);
  }
    where
      size : length new.pages.items ≡ length o.pages.items
      size = ap length pages_are

      page : (k : ℕ) → get_or new.pages.items k 0 ≡ get_or o.pages.items k 0
      page k = ap (λ (l : List ℕ). get_or l k 0) pages_are

-- a page that is kept already
pub keeps_kept : (bytes : List ℕ) (p : ℕ) (x y : OldPages) → KeepsPages bytes p p x y → 0 < get_or y.slots.items p 0 → KeepsPages bytes p (p + 1) x y
keeps_kept bytes p x y keeps some = record {
  bytes_stay = keeps.bytes_stay;
  flags_stay = keeps.flags_stay;
  kept = λ k from to. let same : p ≡ k = omega (arith, from, to) in omega (arith, some, ap (λ (q : ℕ). get_or y.slots.items q 0) same);
  stays = keeps.stays;
  most = keeps.most;
}

-- a page that lies behind the bytes
pub stores_zeros : (pool bytes : List ℕ) (page : ℕ) → ((i : ℕ) → i < 4096 → get_or pool i 0 ≡ 0) → 4096 ≤ length pool → length bytes ≤ page * 4096 → StoresPage bytes page 0 pool pool
stores_zeros pool bytes page zeros least behind = record {
  here = λ i lt.
      (let at : 0 + i ≡ i = omega arith in ap (λ (k : ℕ). get_or pool k 0) at)
      ∙ zeros i lt
      ∙ sym (get_or_past bytes (page * 4096 + i) 0 (omega (arith, behind)));
  ends = omega (arith, least);
  stays = λ i lt. refl;
  least = omega arith;
  most = omega arith;
  shared = λ past. refl;
}

-- one of which some bytes are there
module _ (pool bytes src new : List ℕ) (page start : ℕ) (front : page * 4096 < length bytes) (start_is : start ≡ length pool)
    (src_is : src ≡ part (page * 4096) (min (page * 4096 + 4096) (length bytes) - page * 4096) bytes) (new_is : new ≡ filled (start + 4096) 0 (pool ++ src)) where
  src_size : length src ≡ min (page * 4096 + 4096) (length bytes) - page * 4096
  src_size = ap length src_is ∙ length-part (page * 4096) (min (page * 4096 + 4096) (length bytes) - page * 4096) bytes (omega arith)

  src_at : (i : ℕ) → i < 4096 → get_or src i 0 ≡ get_or bytes (page * 4096 + i) 0
  src_at i lt = elim (cases_lt (page * 4096 + i) (length bytes)) [
    | inl inside ↦ ap (λ (l : List ℕ). get_or l i 0) src_is ∙ get_or-part (page * 4096) (min (page * 4096 + 4096) (length bytes) - page * 4096) bytes i (omega (arith, inside))
    | inr behind ↦ get_or_past src i 0 (omega (arith, behind, src_size)) ∙ sym (get_or_past bytes (page * 4096 + i) 0 behind)
  ]

  new_at : (i : ℕ) → get_or new i 0 ≡ get_or (pool ++ src) i 0
  new_at i = ap (λ (l : List ℕ). get_or l i 0) new_is ∙ filled_any 0 (start + 4096) i (pool ++ src)

  new_size : length new ≡ start + 4096
  new_size = omega (arith, ap length new_is, length-filled 0 (start + 4096) (pool ++ src), length-append pool src, src_size, start_is)

  pub stores_bytes : StoresPage bytes page start pool new
  stores_bytes = record {
    here = λ i lt.
        new_at (start + i)
        ∙ get_or-append_right pool src start (start + i) 0 (sym start_is) (omega arith)
        ∙ (let at : start + i - start ≡ i = omega arith in ap (λ (k : ℕ). get_or src k 0) at)
        ∙ src_at i lt;
    ends = omega (arith, new_size);
    stays = λ i lt. new_at i ∙ get_or_append_left pool src 0 i lt;
    least = omega (arith, new_size, start_is);
    most = omega (arith, new_size, start_is);
    shared = λ past. absurd (omega (arith, past, front));
  }

-- one page more is kept
module _ (o new : OldPages) (bytes : List ℕ) (page n used start : ℕ) (sound : IsSound o) (n_is : length o.pages.items ≡ n) (used_is : used ≡ suc n)
    (reached : page < length o.slots.items) (is_free : get_or o.slots.items page 0 ≡ 0) (stores : StoresPage bytes page start o.bytes.items new.bytes.items)
    (slots_are : new.slots.items ≡ set o.slots.items page used) (pages_are : new.pages.items ≡ o.pages.items ++ page ∷ [])
    (starts_are : new.starts.items ≡ o.starts.items ++ start ∷ []) (written_are : new.written ≡ record { most = o.written.most; pages = o.written.pages ++ replicate 4096 false ∷ [] })
    (most_is : new.most ≡ o.most) where
  slots_now : new.slots.items ≡ set o.slots.items page (suc n)
  slots_now = slots_are ∙ ap (λ (k : ℕ). set o.slots.items page k) used_is

  here : get_or new.slots.items page 0 ≡ suc n
  here = ap (λ (l : List ℕ). get_or l page 0) slots_now ∙ get_or-set_same o.slots.items page (suc n) 0 reached

  beside : (p : ℕ) → (p ≡ page → ⊥) → get_or new.slots.items p 0 ≡ get_or o.slots.items p 0
  beside p ne = ap (λ (l : List ℕ). get_or l p 0) slots_now ∙ get_or-set_other o.slots.items page p (suc n) 0 ne

  size : length new.pages.items ≡ suc n
  size = omega (arith, ap length pages_are, length_push o.pages.items page, n_is)

  last : get_or new.pages.items n 0 ≡ page
  last = ap (λ (l : List ℕ). get_or l n 0) pages_are ∙ get_or_push o.pages.items page 0 n n_is

  earlier : (k : ℕ) → k < n → get_or new.pages.items k 0 ≡ get_or o.pages.items k 0
  earlier k lt = ap (λ (l : List ℕ). get_or l k 0) pages_are ∙ get_or_append_left o.pages.items (page ∷ []) 0 k (omega arith)

  start_here : get_or new.starts.items n 0 ≡ start
  start_here = ap (λ (l : List ℕ). get_or l n 0) starts_are ∙ get_or_push o.starts.items start 0 n (omega (arith, sound.starts_size, n_is))

  start_before : (k : ℕ) → k < n → get_or new.starts.items k 0 ≡ get_or o.starts.items k 0
  start_before k lt = ap (λ (l : List ℕ). get_or l k 0) starts_are ∙ get_or_append_left o.starts.items (start ∷ []) 0 k (omega (arith, sound.starts_size, n_is))

  byte_here : (r : ℕ) → r < 4096 → pool_byte new.starts.items new.bytes.items n r ≡ get_or bytes (page * 4096 + r) 0
  byte_here r lt = ap (λ (s : ℕ). get_or new.bytes.items (s + r) 0) start_here ∙ stores.here r lt

  byte_before : (k r : ℕ) → k < n → r < 4096 → pool_byte new.starts.items new.bytes.items k r ≡ pool_byte o.starts.items o.bytes.items k r
  byte_before k r low lt =
      ap (λ (s : ℕ). get_or new.bytes.items (s + r) 0) (start_before k low)
      ∙ stores.stays (get_or o.starts.items k 0 + r) (omega (arith, sound.ends k (omega (arith, low, n_is)), lt))

  pages_size : length o.written.pages ≡ n
  pages_size = sound.written_size ∙ n_is

  flags_here : get_or new.written.pages n [] ≡ replicate 4096 false
  flags_here = ap (λ (w : Written). get_or w.pages n []) written_are ∙ get_or_push o.written.pages (replicate 4096 false) [] n pages_size

  flags_before : (k : ℕ) → k < n → get_or new.written.pages k [] ≡ get_or o.written.pages k []
  flags_before k lt = ap (λ (w : Written). get_or w.pages k []) written_are ∙ get_or_append_left o.written.pages (replicate 4096 false ∷ []) [] k (omega (arith, lt, pages_size))

  pub add_keeps : KeepsPages bytes page (page + 1) o new
  add_keeps = record {
    bytes_stay = λ i. elim (cases_eq (i / 4096) page) [
      | inl same ↦
          in_slot_used (pool_byte new.starts.items new.bytes.items) (slot_of new i) n (get_or bytes i 0) (i % 4096) (ap (λ (p : ℕ). get_or new.slots.items p 0) same ∙ here)
          ∙ byte_here (i % 4096) (omega arith)
          ∙ (let at : page * 4096 + i % 4096 ≡ i = omega (arith, same) in ap (λ (k : ℕ). get_or bytes k 0) at)
          ∙ sym (in_slot_free (pool_byte o.starts.items o.bytes.items) (slot_of o i) (get_or bytes i 0) (i % 4096) (ap (λ (p : ℕ). get_or o.slots.items p 0) same ∙ is_free))
      | inr other ↦
          ap (λ (s : ℕ). in_slot (pool_byte new.starts.items new.bytes.items) s (get_or bytes i 0) (i % 4096)) (beside (i / 4096) other)
          ∙ in_slot_same (pool_byte o.starts.items o.bytes.items) (pool_byte new.starts.items new.bytes.items) (slot_of o i) (get_or bytes i 0) (i % 4096)
          (λ k is. byte_before k (i % 4096) (omega (arith, (sound.back (i / 4096) k is).0, n_is)) (omega arith))
    ];
    flags_stay = λ i. elim (cases_eq (i / 4096) page) [
      | inl same ↦
          in_slot_used (pool_flag new.written.pages) (slot_of new i) n false (i % 4096) (ap (λ (p : ℕ). get_or new.slots.items p 0) same ∙ here)
          ∙ ap (λ (l : List Bool). get_or l (i % 4096) false) flags_here
          ∙ get_or-replicate 4096 (i % 4096) false false (omega arith)
          ∙ sym (in_slot_free (pool_flag o.written.pages) (slot_of o i) false (i % 4096) (ap (λ (p : ℕ). get_or o.slots.items p 0) same ∙ is_free))
      | inr other ↦
          ap (λ (s : ℕ). in_slot (pool_flag new.written.pages) s false (i % 4096)) (beside (i / 4096) other)
          ∙ in_slot_same (pool_flag o.written.pages) (pool_flag new.written.pages) (slot_of o i) false (i % 4096)
          (λ k is. ap (λ (l : List Bool). get_or l (i % 4096) false) (flags_before k (omega (arith, (sound.back (i / 4096) k is).0, n_is))))
    ];
    kept = λ p from to. let same : page ≡ p = omega (arith, from, to) in omega (arith, here, ap (λ (q : ℕ). get_or new.slots.items q 0) same);
    stays = λ p some. elim (cases_eq p page) [
      | inl same ↦ omega (arith, here, ap (λ (q : ℕ). get_or new.slots.items q 0) same)
      | inr other ↦ omega (arith, some, beside p other)
    ];
    most = most_is;
  }

  pub add_sound : vec_capacity o.slots ≤ vec_capacity new.slots → vec_capacity o.pages ≤ vec_capacity new.pages → vec_capacity o.starts ≤ vec_capacity new.starts
      → vec_capacity o.bytes ≤ vec_capacity new.bytes → IsSound new
  add_sound slots_room pages_room starts_room bytes_room = record {
    back = λ p k is. elim (cases_eq p page) [
      | inl same ↦
          let number : n ≡ k = omega (arith, here, ap (λ (q : ℕ). get_or new.slots.items q 0) same, is) in
          (omega (arith, size, number), ap (λ (j : ℕ). get_or new.pages.items j 0) (sym number) ∙ last ∙ sym same)
      | inr other ↦ let was = sound.back p k (sym (beside p other) ∙ is) in
          (omega (arith, size, was.0, n_is), earlier k (omega (arith, was.0, n_is)) ∙ was.1)
    ];
    there = λ k lt. elim (cases_lt k n) [
      | inl low ↦
          let was = sound.there k (omega (arith, low, n_is)) in
          ap (λ (p : ℕ). get_or new.slots.items p 0) (earlier k low)
          ∙ beside (get_or o.pages.items k 0) (λ same. omega (arith, was, is_free, ap (λ (p : ℕ). get_or o.slots.items p 0) same))
          ∙ was
      | inr high ↦
          let number : k ≡ n = omega (arith, high, lt, size) in
          ap (λ (j : ℕ). get_or new.slots.items (get_or new.pages.items j 0) 0) number
          ∙ ap (λ (p : ℕ). get_or new.slots.items p 0) last
          ∙ here
          ∙ ap suc (sym number)
    ];
    starts_size = omega (arith, ap length starts_are, length_push o.starts.items start, sound.starts_size, size, n_is);
    ends = λ k lt. elim (cases_lt k n) [
      | inl low ↦ omega (arith, start_before k low, sound.ends k (omega (arith, low, n_is)), stores.least)
      | inr high ↦
          let number : k ≡ n = omega (arith, high, lt, size) in
          omega (arith, ap (λ (j : ℕ). get_or new.starts.items j 0) number, start_here, stores.ends)
    ];
    zeros = λ i lt. stores.stays i (omega (arith, lt, sound.bytes_least)) ∙ sound.zeros i lt;
    bytes_least = omega (arith, sound.bytes_least, stores.least);
    bytes_most = omega (arith, sound.bytes_most, stores.most, size, n_is);
    written_size = omega (arith, ap (λ (w : Written). length w.pages) written_are, length_push o.written.pages (replicate 4096 false), pages_size, size);
    written_each = λ k lt. elim (cases_lt k n) [
      | inl low ↦ ap length (flags_before k low) ∙ sound.written_each k (omega (arith, low, n_is))
      | inr high ↦
          let number : k ≡ n = omega (arith, high, lt, size) in
          ap (λ (j : ℕ). length (get_or new.written.pages j [])) number ∙ ap length flags_here ∙ length-replicate 4096 false
    ];
    written_most = ap (λ (w : Written). w.most) written_are ∙ sound.written_most ∙ sym most_is;
    few = omega (arith, size, ap free slots_now, free_set o.slots.items page n reached is_free, ap length slots_now, length-set o.slots.items page (suc n), sound.few, n_is);
    fits = omega (arith, ap length slots_now, length-set o.slots.items page (suc n), sound.fits, most_is);
    small = omega (arith, sound.small, most_is);
    slots_room = omega (arith, sound.slots_room, slots_room, most_is);
    pages_room = omega (arith, sound.pages_room, pages_room, most_is);
    starts_room = omega (arith, sound.starts_room, starts_room, most_is);
    bytes_room = omega (arith, sound.bytes_room, bytes_room, most_is);
  }

-- the pool has room for a page that has a free slot
room_free : (slots : List ℕ) (p : ℕ) → p < length slots → get_or slots p 0 ≡ 0 → 0 < free slots
room_free slots p lt is = omega (arith, free_set slots p 0 lt is)

pub room_page : (o : OldPages) (page : ℕ) → IsSound o → page < length o.slots.items → get_or o.slots.items page 0 ≡ 0 → length o.pages.items < o.most
room_page o page sound reached is_free = omega (arith, sound.few, sound.fits, room_free o.slots.items page reached is_free)
