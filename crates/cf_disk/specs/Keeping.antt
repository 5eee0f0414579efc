-- The pages of a disk in memory that were written since the last sync, as they were then.
use Rattle.std.specs.Prelude.{◌≡◌, ◌⊎◌, ◌+◌, ◌*◌, ◌/◌, ◌%◌, ◌^◌, ◌<◌, ◌≤◌, ℕ, zero, suc, Bool, true, false, List, [], ◌∷◌, length, map, get_or, vec_capacity}
use Rattle.std.specs.List.{range_with_len}
use Rattle.cf_disk.specs.Fronts.{filled}
use Rattle.cf_disk.specs.Images.{Held}
use Rattle.cf_disk.specs.declared.old_pages.OldPages.{OldPages}

-- The slot of a place's page: 0 where its bytes of the last sync are not kept, else one more than their number in the pool.
abbrev pub slot_of : OldPages → ℕ → ℕ
slot_of o i = get_or o.slots.items (i / 4096) 0

-- What a pool has for a place of a page, by the number of the page in it and the place within the page: a byte, which lies behind the
-- start of its page, and a flag.
abbrev pub pool_byte : List ℕ → List ℕ → ℕ → ℕ → ℕ
pool_byte starts bytes k at = get_or bytes (get_or starts k 0 + at) 0

abbrev pub pool_flag : List (List Bool) → ℕ → ℕ → Bool
pool_flag flags k at = get_or (get_or flags k []) at false

-- what a pool has for a place of a page, by the page's slot; what is there now where it has none
abbrev pub in_slot : {X : Type 0} → (ℕ → ℕ → X) → ℕ → X → ℕ → X
in_slot pool zero now at = now
in_slot pool (suc k) now at = pool k at

-- the byte of the last sync at a place, by the byte that is there now
abbrev pub old_byte : OldPages → ℕ → ℕ → ℕ
old_byte o now i = in_slot (pool_byte o.starts.items o.bytes.items) (slot_of o i) now (i % 4096)

-- whether a place was written since
abbrev pub is_written : OldPages → ℕ → Bool
is_written o i = in_slot (pool_flag o.written.pages) (slot_of o i) false (i % 4096)

-- the bytes of the last sync at n places
abbrev pub old_bytes : ℕ → List ℕ → OldPages → List ℕ
old_bytes n bytes o = map (λ i. old_byte o (get_or bytes i 0) i) (range_with_len 0 n)

-- which of n places were written since
abbrev pub written_places : ℕ → OldPages → List Bool
written_places n o = map (is_written o) (range_with_len 0 n)

-- the whole, of n bytes, by the bytes of its front
abbrev pub held_by : ℕ → List ℕ → OldPages → Held
held_by n bytes o = record { bytes = filled n 0 bytes; synced = old_bytes n bytes o; pending = written_places n o }

-- how many slots are free
abbrev pub free : List ℕ → ℕ
free [] = 0
free (zero ∷ slots) = suc (free slots)
free (suc k ∷ slots) = free slots

-- Slots and pages name each other. Each page has its flags. The bytes are a page of zeros and at most one page more for each, and each page starts where all its bytes are there. There is room for each page of the disk.
pub record IsSound (o : OldPages) : Type 0 where
  pub back : (p k : ℕ) → get_or o.slots.items p 0 ≡ suc k → (k < length o.pages.items) × (get_or o.pages.items k 0 ≡ p)
  pub there : (k : ℕ) → k < length o.pages.items → get_or o.slots.items (get_or o.pages.items k 0) 0 ≡ suc k
  pub starts_size : length o.starts.items ≡ length o.pages.items
  pub ends : (k : ℕ) → k < length o.pages.items → get_or o.starts.items k 0 + 4096 ≤ length o.bytes.items
  pub zeros : (i : ℕ) → i < 4096 → get_or o.bytes.items i 0 ≡ 0
  pub bytes_least : 4096 ≤ length o.bytes.items
  pub bytes_most : length o.bytes.items ≤ length o.pages.items * 4096 + 4096
  pub written_size : length o.written.pages ≡ length o.pages.items
  pub written_each : (k : ℕ) → k < length o.pages.items → length (get_or o.written.pages k []) ≡ 4096
  pub written_most : o.written.most ≡ o.most
  pub few : length o.pages.items + free o.slots.items ≤ length o.slots.items
  pub fits : length o.slots.items ≤ o.most
  pub small : o.most * 4096 + 4096 < 2 ^ 64
  pub slots_room : o.most ≤ vec_capacity o.slots
  pub pages_room : o.most ≤ vec_capacity o.pages
  pub starts_room : o.most ≤ vec_capacity o.starts
  pub bytes_room : o.most * 4096 + 4096 ≤ vec_capacity o.bytes

-- A page of these bytes is in a pool from a start on. What was there stays, and nothing is added for a page that lies behind the bytes.
pub record StoresPage (bytes : List ℕ) (page start : ℕ) (old new : List ℕ) : Type 0 where
  pub here : (i : ℕ) → i < 4096 → get_or new (start + i) 0 ≡ get_or bytes (page * 4096 + i) 0
  pub ends : start + 4096 ≤ length new
  pub stays : (i : ℕ) → i < length old → get_or new i 0 ≡ get_or old i 0
  pub least : length old ≤ length new
  pub most : length new ≤ length old + 4096
  pub shared : length bytes ≤ page * 4096 → length new ≡ length old

-- no page is kept
abbrev pub AreClean : OldPages → Type 0
AreClean o = (p : ℕ) → get_or o.slots.items p 0 ≡ 0

-- The pages from one up to another are kept as these bytes are now, where they were not kept already. Nothing is written by that.
pub record KeepsPages (bytes : List ℕ) (low high : ℕ) (old new : OldPages) : Type 0 where
  pub bytes_stay : (i : ℕ) → old_byte new (get_or bytes i 0) i ≡ old_byte old (get_or bytes i 0) i
  pub flags_stay : (i : ℕ) → is_written new i ≡ is_written old i
  pub kept : (p : ℕ) → low ≤ p → p < high → 0 < get_or new.slots.items p 0
  pub stays : (p : ℕ) → 0 < get_or old.slots.items p 0 → 0 < get_or new.slots.items p 0
  pub most : new.most ≡ old.most

-- The places from one up to another are written. The bytes of the last sync stay.
pub record Marks (from to : ℕ) (old new : OldPages) : Type 0 where
  pub slots : new.slots.items ≡ old.slots.items
  pub starts : new.starts.items ≡ old.starts.items
  pub bytes : new.bytes.items ≡ old.bytes.items
  pub set : (i : ℕ) → from ≤ i → i < to → is_written new i ≡ true
  pub stays : (i : ℕ) → (i < from) ⊎ (to ≤ i) → is_written new i ≡ is_written old i
  pub most : new.most ≡ old.most

-- nothing is written from a place on
abbrev pub IsQuiet : ℕ → OldPages → Type 0
IsQuiet n o = (i : ℕ) → n ≤ i → is_written o i ≡ false

-- So a disk in memory of n bytes keeps its front, in room for the whole.
pub record IsMedium (n room : ℕ) (bytes : List ℕ) (o : OldPages) : Type 0 where
  pub sound : IsSound o
  pub fits : length bytes ≤ n
  pub inside : n < o.most * 4096
  pub room_is : n ≤ room
  -- a byte that was not written is the one of the last sync
  pub same : (i : ℕ) → is_written o i ≡ false → get_or bytes i 0 ≡ old_byte o (get_or bytes i 0) i
  pub quiet : IsQuiet (length bytes) o

-- The synced bytes of the page with a number in the pool are put over the others.
pub record PutsPage (o : OldPages) (number : ℕ) (old new : List ℕ) : Type 0 where
  pub here : (i : ℕ) → i < length old → slot_of o i ≡ suc number → get_or new i 0 ≡ pool_byte o.starts.items o.bytes.items number (i % 4096)
  pub others : (i : ℕ) → (slot_of o i ≡ suc number → ⊥) → get_or new i 0 ≡ get_or old i 0

-- those of the first n pages of the pool
pub record PutsPages (o : OldPages) (n : ℕ) (old new : List ℕ) : Type 0 where
  pub here : (i : ℕ) → i < length old → slot_of o i ≤ n → get_or new i 0 ≡ old_byte o (get_or old i 0) i
  pub others : (i : ℕ) → n < slot_of o i → get_or new i 0 ≡ get_or old i 0
