-- Where the bytes of a local write are kept.
use Rattle.std.specs.Prelude.{ℕ, Bool, true, false, not, List, [], Option, Some, None, length, min, nat_le, nat_lt, slice_get, ◌+◌, ◌-◌, ◌&&◌, ◌||◌, ◌∷◌, ◌++◌, ◌==◌}
use Rattle.std.specs.List.{list_any}
use Rattle.cf_base.specs.declared.changes.Change.{Change}
use Rattle.cf_base.specs.declared.changes.Change.TheVariants as change
use Rattle.cf_base.specs.declared.ids.ItemId.{ItemId}
use Rattle.cf_base.specs.declared.ids.Usn.{Usn}
use Rattle.cf_model.specs.Effects.{effect}
use Rattle.cf_model.specs.Identities.{base_bytes}
use Rattle.cf_model.specs.Items.{Item, is_here, item_of, root}
use Rattle.cf_model.specs.Logs.{items_of}
use Rattle.cf_model.specs.Numbers.{above, same_usn}
use Rattle.cf_model.specs.Overlay.{LocalWrite, Put, Resize, Written}
use Rattle.cf_model.specs.Store.{Held}
use Rattle.cf_model.specs.Words.{part, says, when, within}

abbrev pub has_id : List ItemId → ItemId → Bool
has_id ids id = list_any (λ i. i.0 == id.0) ids

-- a copy of one of these items is one of them too
abbrev pub with_copy : Change → List ItemId → List ItemId
with_copy (change.Copy item from parent name) ids = when (has_id ids from) (item ∷ []) ++ ids
with_copy _ ids = ids

abbrev pub with_copies : List (Usn × Change) → List ItemId → List ItemId
with_copies [] ids = ids
with_copies (c ∷ cs) ids = with_copies cs (with_copy c.1 ids)

-- the item, the copies of it, and theirs
abbrev pub heirs_of : List (Usn × Change) → ItemId → List ItemId
heirs_of log id = with_copies log (id ∷ [])

-- the write of that number stands in the list
abbrev pub lists : Usn → List Written → Bool
lists n ws = list_any (λ w. same_usn w.number n) ws

abbrev pub lists_at : List Item → ItemId → Usn → Bool
lists_at items id n = says (λ i. lists n i.writes) (item_of items id)

-- the identity that the change gives, where it is a Rebase of one of these items that drops the write
abbrev pub dropped_by : List Item → List ItemId → Usn → Change → List (List ℕ)
dropped_by items ids n (change.Rebase item identity len at) = when (has_id ids item && lists_at items item n && not (above n at)) (identity ∷ [])
dropped_by items ids n _ = []

abbrev pub dropped_from : List Item → List ItemId → Usn → List (Usn × Change) → List (List ℕ)
dropped_from items ids n [] = []
dropped_from items ids n (c ∷ cs) = dropped_by items ids n c.1 ++ dropped_from (effect items c.1 c.0) (with_copy c.1 ids) n cs

-- the identities by which the write went into a version of the remote
abbrev pub dropped : List (Usn × Change) → ItemId → Usn → List (List ℕ)
dropped log id n = dropped_from (root ∷ []) (id ∷ []) n log

-- the remote made the identity's version with this byte at p, whether it still holds it or not
abbrev pub made_with : Held → ℕ → ℕ → List ℕ → Bool
made_with held p b identity = says (λ x. x == b) (slice_get (base_bytes held (record root { identity = identity })) p)

abbrev pub keeps_at : List Item → Usn → ℕ → ItemId → Bool
keeps_at items n p id = says (λ i. lists n i.writes && is_here i p) (item_of items id)

-- The byte b that write n gave to position p of the item is kept: the write stands in the list of the item or of a copy,
-- and p is here; or a Rebase that dropped the write named a version with this byte.
abbrev pub is_kept : Held → List (Usn × Change) → ItemId → Usn → ℕ → ℕ → Bool
is_kept held log id n p b =
    list_any (keeps_at (items_of log) n p) (heirs_of log id) || list_any (made_with held p b) (dropped log id n)

-- the byte that a write gives to a position, its zeros included, in a file of this size
abbrev pub put_byte : ℕ → List ℕ → ℕ → Option ℕ
put_byte at bytes p = elim (nat_lt p at) as (λ _. Option ℕ) [ true ↦ Some 0 | false ↦ slice_get bytes (p - at) ]

abbrev pub byte_given : ℕ → LocalWrite → ℕ → Option ℕ
byte_given size (Put at bytes) p = elim (within (min at size) (at + length bytes) p) as (λ _. Option ℕ) [ true ↦ put_byte at bytes p | false ↦ None ]
byte_given size (Resize n) p = elim (within size n p) as (λ _. Option ℕ) [ true ↦ Some 0 | false ↦ None ]

-- a change takes the byte at a position of an item away: another write over it, a cut before it, or the item's removal
abbrev pub takes_away : List Item → ItemId → ℕ → Change → Bool
takes_away items id p (change.Write item at bytes) = (item.0 == id.0) && within (min at (part (λ i. length i.held) 0 (item_of items id))) (at + length bytes) p
takes_away items id p (change.Size item size) = (item.0 == id.0) && nat_le size p
takes_away items id p (change.Remove item) = item.0 == id.0
takes_away items id p _ = false
