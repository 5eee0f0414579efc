-- How places are marked as written, and pages are no longer kept.
use Rattle.std.proofs.Common.{◌≡◌, ◌⊎◌, inl, inr, ℕ, zero, suc, ◌+◌, ◌-◌, ◌*◌, ◌/◌, ◌%◌, ◌<◌, ◌≤◌, Bool, true, false, set, List, [], length, get_or, replicate, refl, sym, ◌∙◌, ap, arith}
use Rattle.std.specs.Prelude.{vec_capacity}
use Rattle.std.proofs.lemmas.Bool.{cases_lt, cases_eq}
use Rattle.std.proofs.lemmas.List.{get_or-set_other, get_or-set_same, get_or_past, length-set}
use Rattle.cf_disk.specs.declared.old_pages.OldPages.{OldPages}
use Rattle.cf_disk.specs.Keeping.{free, in_slot, is_written, pool_flag, slot_of, AreClean, IsSound, Marks}
use Rattle.cf_disk.specs.Splice.{over}
use Rattle.cf_disk.specs.Writing.{Written}
use Rattle.cf_disk.proofs.ImageLaws.{flags_size, flag_before, flag_in, flag_after}
use Rattle.cf_disk.proofs.SlotLaws.{free_most, in_slot_same, in_slot_used}

-- some places of a page are marked
module _ (o new : OldPages) (page k from to : ℕ) (sound : IsSound o) (used : get_or o.slots.items page 0 ≡ suc k)
    (low : page * 4096 ≤ from) (order : from ≤ to) (high : to ≤ page * 4096 + 4096)
    (slots_are : new.slots.items ≡ o.slots.items) (pages_are : new.pages.items ≡ o.pages.items) (starts_are : new.starts.items ≡ o.starts.items)
    (bytes_are : new.bytes.items ≡ o.bytes.items)
    (written_are : new.written ≡ record { most = o.written.most; pages = set o.written.pages k (over (from - page * 4096) (replicate (to - page * 4096 - (from - page * 4096)) true) (get_or o.written.pages k [])) })
    (most_is : new.most ≡ o.most) where
  number : k < length o.pages.items
  number = (sound.back page k used).0

  inside : k < length o.written.pages
  inside = omega (arith, number, sound.written_size)

  -- the flags of the page now
  abbrev marked : List Bool
  marked = over (from - page * 4096) (replicate (to - page * 4096 - (from - page * 4096)) true) (get_or o.written.pages k [])

  room : from - page * 4096 + (to - page * 4096 - (from - page * 4096)) ≤ length (get_or o.written.pages k [])
  room = omega (arith, sound.written_each k number, low, order, high)

  flags_here : get_or new.written.pages k [] ≡ marked
  flags_here =
      ap (λ (w : Written). get_or w.pages k []) written_are
      ∙ get_or-set_same o.written.pages k marked [] inside

  flags_beside : (j : ℕ) → (j ≡ k → ⊥) → get_or new.written.pages j [] ≡ get_or o.written.pages j []
  flags_beside j ne =
      ap (λ (w : Written). get_or w.pages j []) written_are
      ∙ get_or-set_other o.written.pages k j marked [] ne

  slot : (i : ℕ) → i / 4096 ≡ page → slot_of o i ≡ suc k
  slot i same = ap (λ (p : ℕ). get_or o.slots.items p 0) same ∙ used

  flag_new : (i : ℕ) → is_written new i ≡ in_slot (pool_flag new.written.pages) (slot_of o i) false (i % 4096)
  flag_new i = ap (λ (l : List ℕ). in_slot (pool_flag new.written.pages) (get_or l (i / 4096) 0) false (i % 4096)) slots_are

  -- what the page itself shows
  flag_here : (i : ℕ) → i / 4096 ≡ page → is_written new i ≡ get_or marked (i % 4096) false
  flag_here i same =
      flag_new i
      ∙ in_slot_used (pool_flag new.written.pages) (slot_of o i) k false (i % 4096) (slot i same)
      ∙ ap (λ (l : List Bool). get_or l (i % 4096) false) flags_here

  flag_was : (i : ℕ) → i / 4096 ≡ page → is_written o i ≡ get_or (get_or o.written.pages k []) (i % 4096) false
  flag_was i same = in_slot_used (pool_flag o.written.pages) (slot_of o i) k false (i % 4096) (slot i same)

  -- no other page lies there
  other_page : (i j : ℕ) → (i / 4096 ≡ page → ⊥) → slot_of o i ≡ suc j → j ≡ k → ⊥
  other_page i j other is same = other (sym (sound.back (i / 4096) j is).1 ∙ ap (λ (m : ℕ). get_or o.pages.items m 0) same ∙ (sound.back page k used).1)

  pub mark_marks : Marks from to o new
  mark_marks = record {
    slots = slots_are;
    starts = starts_are;
    bytes = bytes_are;
    set = λ i above below.
        let same : i / 4096 ≡ page = omega (arith, above, below, low, high) in
        flag_here i same
        ∙ flag_in true (from - page * 4096) (to - page * 4096 - (from - page * 4096)) (get_or o.written.pages k []) room (i % 4096) (omega (arith, above, same, low)) (omega (arith, above, below, same, low, high));
    stays = λ i out. elim (cases_eq (i / 4096) page) [
      | inl same ↦
          flag_here i same
          ∙ elim out [
            | inl under ↦ flag_before true (from - page * 4096) (to - page * 4096 - (from - page * 4096)) (get_or o.written.pages k []) room (i % 4096) (omega (arith, under, same, low))
            | inr above ↦ flag_after true (from - page * 4096) (to - page * 4096 - (from - page * 4096)) (get_or o.written.pages k []) room (i % 4096) (omega (arith, above, same, low, order, high))
          ]
          ∙ sym (flag_was i same)
      | inr other ↦
          flag_new i
          ∙ in_slot_same (pool_flag o.written.pages) (pool_flag new.written.pages) (slot_of o i) false (i % 4096)
          (λ j is. ap (λ (l : List Bool). get_or l (i % 4096) false) (flags_beside j (other_page i j other is)))
    ];
    most = most_is;
  }

  pub mark_sound : vec_capacity o.slots ≤ vec_capacity new.slots → vec_capacity o.pages ≤ vec_capacity new.pages → vec_capacity o.starts ≤ vec_capacity new.starts
      → vec_capacity o.bytes ≤ vec_capacity new.bytes → IsSound new
  mark_sound slots_room pages_room starts_room bytes_room = record {
    back = λ p j is.
        let was = sound.back p j (ap (λ (l : List ℕ). get_or l p 0) (sym slots_are) ∙ is) in
        (omega (arith, was.0, ap length pages_are), ap (λ (l : List ℕ). get_or l j 0) pages_are ∙ was.1);
    there = λ j lt. (λ m. get_or (slots_are m) (get_or (pages_are m) j 0) 0) ∙ sound.there j (omega (arith, lt, ap length pages_are));
    starts_size = omega (arith, ap length starts_are, sound.starts_size, ap length pages_are);
    ends = λ j lt. omega (arith, ap (λ (l : List ℕ). get_or l j 0) starts_are, ap length bytes_are, sound.ends j (omega (arith, lt, ap length pages_are)));
    zeros = λ i lt. ap (λ (l : List ℕ). get_or l i 0) bytes_are ∙ sound.zeros i lt;
    bytes_least = omega (arith, ap length bytes_are, sound.bytes_least);
    bytes_most = omega (arith, ap length bytes_are, sound.bytes_most, ap length pages_are);
    written_size =
        ap (λ (w : Written). length w.pages) written_are
        ∙ length-set o.written.pages k marked
        ∙ sound.written_size
        ∙ sym (ap length pages_are);
    written_each = λ j lt. elim (cases_eq j k) [
      | inl same ↦
          ap (λ (m : ℕ). length (get_or new.written.pages m [])) same
          ∙ ap length flags_here
          ∙ flags_size true (from - page * 4096) (to - page * 4096 - (from - page * 4096)) (get_or o.written.pages k []) room
          ∙ sound.written_each k number
      | inr other ↦ ap length (flags_beside j other) ∙ sound.written_each j (omega (arith, lt, ap length pages_are))
    ];
    written_most = ap (λ (w : Written). w.most) written_are ∙ sound.written_most ∙ sym most_is;
    few = omega (arith, ap length pages_are, ap free slots_are, ap length slots_are, sound.few);
    fits = omega (arith, ap length slots_are, sound.fits, most_is);
    small = omega (arith, sound.small, most_is);
    slots_room = omega (arith, sound.slots_room, slots_room, most_is);
    pages_room = omega (arith, sound.pages_room, pages_room, most_is);
    starts_room = omega (arith, sound.starts_room, starts_room, most_is);
    bytes_room = omega (arith, sound.bytes_room, bytes_room, most_is);
  }

pub marks_none : (at : ℕ) (o : OldPages) → Marks at at o o
marks_none at o = record { slots = refl; starts = refl; bytes = refl; set = λ i above below. absurd (omega (arith, above, below)); stays = λ i out. refl; most = refl }

pub marks_then : (a b c : ℕ) (x y z : OldPages) → a ≤ b → b ≤ c → Marks a b x y → Marks b c y z → Marks a c x z
marks_then a b c x y z low high p q = record {
  slots = q.slots ∙ p.slots;
  starts = q.starts ∙ p.starts;
  bytes = q.bytes ∙ p.bytes;
  set = λ i above below. elim (cases_lt i b) [
    | inl under ↦ q.stays i (inl under) ∙ p.set i above under
    | inr over ↦ q.set i over below
  ];
  stays = λ i out. elim out [
    | inl under ↦ q.stays i (inl (omega (arith, under))) ∙ p.stays i (inl under)
    | inr above ↦ q.stays i (inr above) ∙ p.stays i (inr (omega (arith, above)))
  ];
  most = q.most ∙ p.most;
}

-- where pages lie among the slots
pub page_inside : (o : OldPages) → IsSound o → (k : ℕ) → k < length o.pages.items → get_or o.pages.items k 0 < length o.slots.items
page_inside o sound k lt = elim (cases_lt (get_or o.pages.items k 0) (length o.slots.items)) [
  | inl inside ↦ inside
  | inr behind ↦ absurd (omega (arith, sound.there k lt, get_or_past o.slots.items (get_or o.pages.items k 0) 0 behind))
]

-- no page is kept any more
pub clear_clean : (o : OldPages) (slots : List ℕ) → IsSound o → ((k : ℕ) → k < length o.pages.items → get_or slots (get_or o.pages.items k 0) 0 ≡ 0)
    → ((p : ℕ) → (get_or slots p 0 ≡ 0) ⊎ (get_or slots p 0 ≡ get_or o.slots.items p 0)) → (p : ℕ) → get_or slots p 0 ≡ 0
clear_clean o slots sound freed others p = elim (others p) [
  | inl is ↦ is
  | inr same ↦ one (get_or o.slots.items p 0) refl same
]
  where
    one : (s : ℕ) → get_or o.slots.items p 0 ≡ s → get_or slots p 0 ≡ get_or o.slots.items p 0 → get_or slots p 0 ≡ 0
    one zero is same = same ∙ is
    one (suc k) is same = let was = sound.back p k is in ap (λ (q : ℕ). get_or slots q 0) (sym was.1) ∙ freed k was.0

pub clear_sound : (o new : OldPages) → IsSound o → AreClean new → length new.slots.items ≡ length o.slots.items → new.pages.items ≡ [] → new.starts.items ≡ []
    → length new.bytes.items ≡ 4096 → ((i : ℕ) → i < 4096 → get_or new.bytes.items i 0 ≡ get_or o.bytes.items i 0) → new.written ≡ record { most = o.written.most; pages = [] } → new.most ≡ o.most
    → vec_capacity o.slots ≤ vec_capacity new.slots → vec_capacity o.pages ≤ vec_capacity new.pages → vec_capacity o.starts ≤ vec_capacity new.starts
    → vec_capacity o.bytes ≤ vec_capacity new.bytes → IsSound new
clear_sound o new sound clean size pages_are starts_are bytes_size first written_are most_is slots_room pages_room starts_room bytes_room = record {
  back = λ p k is. absurd (omega (arith, is, clean p));
  there = λ k lt. absurd (omega (arith, lt, ap length pages_are));
  starts_size = omega (arith, ap length starts_are, ap length pages_are);
  ends = λ k lt. absurd (omega (arith, lt, ap length pages_are));
  zeros = λ i lt. first i lt ∙ sound.zeros i lt;
  bytes_least = omega (arith, bytes_size);
  bytes_most = omega (arith, bytes_size, ap length pages_are);
  written_size = ap (λ (w : Written). length w.pages) written_are ∙ sym (ap length pages_are);
  written_each = λ k lt. absurd (omega (arith, lt, ap length pages_are));
  written_most = ap (λ (w : Written). w.most) written_are ∙ sound.written_most ∙ sym most_is;
  few = omega (arith, ap length pages_are, free_most new.slots.items);
  fits = omega (arith, size, sound.fits, most_is);
  small = omega (arith, sound.small, most_is);
  slots_room = omega (arith, sound.slots_room, slots_room, most_is);
  pages_room = omega (arith, sound.pages_room, pages_room, most_is);
  starts_room = omega (arith, sound.starts_room, starts_room, most_is);
  bytes_room = omega (arith, sound.bytes_room, bytes_room, most_is);
}
