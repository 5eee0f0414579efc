-- When the local items and those of the remote are alike.
use Rattle.std.specs.Prelude.{ℕ, Bool, true, false, not, List, [], map, count_by, ◌&&◌, ◌||◌, ◌∷◌, ◌==◌}
use Rattle.std.specs.Bool.{beq}
use Rattle.std.specs.List.{list_all}
use Rattle.cf_base.specs.declared.ids.ItemId.{ItemId}
use Rattle.cf_base.specs.declared.ids.Rid.{Rid}
use Rattle.cf_model.specs.Identities.{base_rid, base_version, has_target, target_of}
use Rattle.cf_model.specs.Items.{Item, is_dirty, item_of}
use Rattle.cf_model.specs.LookUp.{is_excluded, item_line}
use Rattle.cf_model.specs.Skips.{in_use}
use Rattle.cf_model.specs.State.{State, book_now, items_now}
use Rattle.cf_model.specs.Store.{Held, Stored, latest, line_of, stored_at}
use Rattle.cf_model.specs.Words.{is_empty, part, same, says}

-- the names from an item up to the root
abbrev pub local_names : List Item → ItemId → List (List ℕ)
local_names items id = map (λ k. part (λ i. i.name) [] (item_of items (record { 0 = k }))) (item_line items id)

abbrev pub remote_names : Held → Rid → List (List ℕ)
remote_names held rid = map (λ r. part (λ i. i.name) [] (stored_at held.items (record { 0 = r }))) (line_of held rid)

abbrev pub same_names : List (List ℕ) → List (List ℕ) → Bool
same_names [] [] = true
same_names [] (n ∷ ns) = false
same_names (m ∷ ms) [] = false
same_names (m ∷ ms) (n ∷ ns) = same m n && same_names ms ns

-- the file has no local write, and the latest version as its base
abbrev pub is_latest : Item → Stored → Bool
is_latest i r = not (is_dirty i) && ((base_rid i).0 == r.rid.0) && ((base_version i).0 == latest r)

-- the local item and that of the remote are of one kind, at one path, with the same bytes
abbrev pub is_alike : State → Item → Stored → Bool
is_alike s i r =
    r.live && beq r.directory i.directory && same_names (local_names (items_now s) i.id) (remote_names s.link.remote r.rid) && (i.directory || is_latest i r)

-- an item that is neither excluded nor in use is in sync, and alike its target
abbrev pub is_settled_item : State → Item → Bool
is_settled_item s i =
    (i.id.0 == 1) || is_excluded (items_now s) i.id || in_use s i.id || (i.in_sync && says (is_alike s i) (stored_at s.link.remote.items (target_of i)))

-- a live item of the remote is the target of just one local item
abbrev pub has_one_local : State → Stored → Bool
has_one_local s r = not r.live || (count_by (λ i. has_target i r.rid) (items_now s) == 1)

-- All items are settled and no tombstone is left. Where no directory is populated only when it is listed, each live item of
-- the remote is here.
abbrev pub is_settled : Bool → State → Bool
is_settled all_populated s =
    is_empty (book_now s).tombstones && list_all (is_settled_item s) (items_now s) && (not all_populated || list_all (has_one_local s) s.link.remote.items)
