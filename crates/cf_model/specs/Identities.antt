-- What the engine's identities say: which item of the remote a local one is, and where its bytes come from.
use Rattle.std.specs.Prelude.{ℕ, Bool, cond, List, [], take, drop, Option, find, unwrap_or, nat_lt, ◌++◌, ◌==◌, ◌&&◌}
use Rattle.cf_base.specs.declared.ids.Rid.{Rid}
use Rattle.cf_base.specs.declared.ids.Version.{Version}
use Rattle.cf_base.specs.declared.items.SeenPath.{SeenPath}
use Rattle.cf_base.specs.declared.messages.Entry.{Entry}
use Rattle.cf_model.specs.Books.{Book, seen_of}
use Rattle.cf_model.specs.Items.{Item, item_of, writes_of}
use Rattle.cf_model.specs.Numbers.{no_rid, no_version, root_rid}
use Rattle.cf_model.specs.Overlay.{over}
use Rattle.cf_model.specs.Store.{Held, bytes_of}
use Rattle.cf_model.specs.Words.{in_bytes, number_of, part, same, says}

-- 24 bytes: the target, and the item and version of the base; 0 means none
abbrev pub identity_of : Rid → Rid → Version → List ℕ
identity_of target base version = in_bytes 8 target.0 ++ in_bytes 8 base.0 ++ in_bytes 8 version.0

abbrev pub no_identity : List ℕ
no_identity = identity_of no_rid no_rid no_version

-- of an item of the remote: a directory has no base
abbrev pub identity_for : Bool → Rid → Version → List ℕ
identity_for directory rid version = cond directory (identity_of rid no_rid no_version) (identity_of rid rid version)

abbrev pub entry_identity : Entry → List ℕ
entry_identity e = identity_for e.dir e.rid e.version

-- the item of the remote that a local one is; that of the root is the root
abbrev pub target_of : Item → Rid
target_of i = cond (i.id.0 == 1) root_rid (record { 0 = number_of (take 8 i.identity) })

-- 0 names no item of the remote
abbrev pub has_target : Item → Rid → Bool
has_target i rid = nat_lt 0 rid.0 && ((target_of i).0 == rid.0)

-- no item of the remote
abbrev pub is_untargeted : Item → Bool
is_untargeted i = (target_of i).0 == 0

abbrev pub base_rid : Item → Rid
base_rid i = record { 0 = number_of (take 8 (drop 8 i.identity)) }

abbrev pub base_version : Item → Version
base_version i = record { 0 = number_of (drop 16 i.identity) }

-- the bytes of the base, and none where there is no base
abbrev pub base_bytes : Held → Item → List ℕ
base_bytes held i = unwrap_or (bytes_of held (base_rid i) (base_version i)) []

-- the file's base version under its local writes
abbrev pub content : Held → Item → List ℕ
content held i = over (base_bytes held i) (writes_of i)

-- the local item that an item of the remote is
abbrev pub by_target : List Item → Rid → Option Item
by_target items rid = find (λ i. has_target i rid) items

-- the target of an item's parent, 0 for none
abbrev pub parent_target : List Item → Item → Rid
parent_target items i = part target_of no_rid (item_of items i.parent)

-- the item stands at the place: in the item of the remote, under the name
abbrev pub stands_at : List Item → Item → Rid → List ℕ → Bool
stands_at items i parent name = ((parent_target items i).0 == parent.0) && same i.name name

abbrev pub stands_at_path : List Item → Item → SeenPath → Bool
stands_at_path items i p = stands_at items i p.parent p.name

-- the item stands at the path seen
abbrev pub stands_at_seen : List Item → Book → Item → Bool
stands_at_seen items b i = says (stands_at_path items i) (seen_of b i.id)
