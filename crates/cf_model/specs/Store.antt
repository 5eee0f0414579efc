-- The remote: what it holds, and what a request makes of it.
use Rattle.std.specs.Prelude.{ℕ, zero, suc, Bool, true, false, not, cond, List, [], length, drop, map, filter, Option, Some, None, find, max, nat_le, nat_lt, slice_get, slice_range, sum_by, count_by, ◌+◌, ◌-◌, ◌&&◌, ◌||◌, ◌∷◌, ◌++◌, ◌==◌, if◌then◌else◌}
use Rattle.std.specs.List.{flat_map, list_any}
use Rattle.cf_base.specs.declared.limits.TheConstants.{MOST_FILE_BYTES, MOST_ITEMS, MOST_PATH_NAMES}
use Rattle.cf_model.specs.Texts.{is_name}
use Rattle.cf_base.specs.declared.ids.Key.{Key}
use Rattle.cf_base.specs.declared.ids.Rid.{Rid}
use Rattle.cf_base.specs.declared.ids.Token.{Token}
use Rattle.cf_base.specs.declared.ids.Version.{Version}
use Rattle.cf_base.specs.declared.messages.Entry.{Entry}
use Rattle.cf_base.specs.declared.messages.Reply.{Reply}
use Rattle.cf_base.specs.declared.messages.Reply.TheVariants as reply
use Rattle.cf_base.specs.declared.messages.Request.{Request}
use Rattle.cf_base.specs.declared.messages.Request.TheVariants as request
use Rattle.cf_base.specs.declared.messages.Why.{Why}
use Rattle.cf_base.specs.declared.messages.Why.TheVariants as why
use Rattle.cf_model.specs.Numbers.{no_rid, no_version, root_rid, same_key}
use Rattle.cf_model.specs.Words.{comes_before, counting, first_of, greatest, last_of, part, same, says, sorted}

-- an item of the remote; the versions of a file are all that were ever made, of which those from `least` on are held
pub record Stored : Type 0 where
  pub rid : Rid
  pub parent : Rid
  pub name : List ℕ
  pub directory : Bool
  pub live : Bool
  pub versions : List (List ℕ)
  pub least : ℕ
  -- the clock of its last change
  pub changed : ℕ

-- what became of a token
pub data Recorded : Type 0 where
  RecordedDone : (rid : Rid) (version : Version) → Recorded
  RecordedVoid : Recorded

-- the items stand in order of rid, which are given from 1 without gaps
pub record Held : Type 0 where
  pub items : List Stored
  pub clock : ℕ
  pub tokens : List (Token × Recorded)
  -- how many versions of each file are held, where not all are
  pub keep : Option ℕ

-- a remote with its root alone
abbrev pub empty_remote : Held
empty_remote = record {
  items = record { rid = root_rid; parent = no_rid; name = []; directory = true; live = true; versions = []; least = 1; changed = 0 } ∷ [];
  clock = 0;
  tokens = [];
  keep = None;
}

-- look-ups

abbrev pub stored_at : List Stored → Rid → Option Stored
stored_at items rid = find (λ s. s.rid.0 == rid.0) items

-- the latest version of a file, and 0 of a directory
abbrev pub latest : Stored → ℕ
latest s = length s.versions

abbrev pub version_bytes : Option Stored → ℕ → Option (List ℕ)
version_bytes None version = None
version_bytes (Some s) zero = None
version_bytes (Some s) (suc version) = slice_get s.versions version

-- one version's bytes, held or not
abbrev pub bytes_of : Held → Rid → Version → Option (List ℕ)
bytes_of held rid version = version_bytes (stored_at held.items rid) version.0

abbrev pub is_held : Held → Rid → Version → Bool
is_held held rid version = says (λ s. nat_le s.least version.0) (stored_at held.items rid)

abbrev pub is_live : Held → Rid → Bool
is_live held rid = says (λ s. s.live) (stored_at held.items rid)

abbrev pub is_live_dir : Held → Rid → Bool
is_live_dir held rid = says (λ s. s.live && s.directory) (stored_at held.items rid)

abbrev pub is_live_file : Held → Rid → Bool
is_live_file held rid = says (λ s. s.live && not s.directory) (stored_at held.items rid)

abbrev pub latest_at : Held → Rid → Version
latest_at held rid = record { 0 = part latest 0 (stored_at held.items rid) }

-- a live child of the parent, but for one item, has the name
abbrev pub is_taken : Held → Rid → List ℕ → Rid → Bool
is_taken held parent name but = list_any (λ s. s.live && (s.parent.0 == parent.0) && same s.name name && not (s.rid.0 == but.0)) held.items

-- the items from one up to the root, the root left out; fuel is the number of items
abbrev pub ancestors : ℕ → List Stored → Option Stored → List ℕ
ancestors zero items s = []
ancestors (suc fuel) items None = []
ancestors (suc fuel) items (Some s) = cond (s.rid.0 == 1) [] (s.rid.0 ∷ ancestors fuel items (stored_at items s.parent))

abbrev pub line_of : Held → Rid → List ℕ
line_of held rid = ancestors (length held.items) held.items (stored_at held.items rid)

-- how many names the path of an item has
abbrev pub depth_of : Held → Rid → ℕ
depth_of held rid = length (line_of held rid)

-- the item is the other or below it
abbrev pub is_under : Held → Rid → Rid → Bool
is_under held rid top = list_any (λ r. r == top.0) (line_of held rid)

-- how many names the longest path of a live item below has more
abbrev pub height_of : Held → Rid → ℕ
height_of held rid = greatest (map (λ s. depth_of held s.rid) (filter (λ s. s.live && is_under held s.rid rid) held.items)) - depth_of held rid

-- what is told

abbrev pub len_of : List (List ℕ) → ℕ
len_of versions = length (last_of [] versions)

abbrev pub entry_told : Stored → Entry
entry_told s = record { rid = s.rid; parent = s.parent; name = s.name; dir = s.directory; live = s.live; version = record { 0 = latest s }; len = len_of s.versions; changed = s.changed }

-- all that changed above the clock, but the root: live items by depth and rid, then dead ones by rid
abbrev pub feed_of : Held → ℕ → List Entry
feed_of held after =
    let seen : List Stored = filter (λ s. nat_lt after s.changed && not (s.rid.0 == 1)) held.items in
    map entry_told (flat_map (λ d. filter (λ s. s.live && (depth_of held s.rid == d)) seen) (counting 1 MOST_PATH_NAMES) ++ filter (λ s. not s.live) seen)

-- the live children of a directory, by name
abbrev pub listing_of : Held → Rid → List Entry
listing_of held rid = sorted (λ e f. comes_before e.name f.name) (map entry_told (filter (λ s. s.live && (s.parent.0 == rid.0)) held.items))

-- what a fetch is told of a version: nothing where it was never made, or the span does not lie in it
abbrev pub bytes_told : Key → ℕ → ℕ → Bool → Option (List ℕ) → Reply
bytes_told key start len held None = reply.Missing key
bytes_told key start len false (Some bytes) = reply.Gone key
bytes_told key start len true (Some bytes) = if nat_le (start + len) (length bytes) then reply.Bytes key start (slice_range bytes start (start + len)) else reply.Missing key

-- what an accepted request makes of the items

abbrev pub at_rid : Rid → (Stored → Stored) → List Stored → List Stored
at_rid rid f items = map (λ s. cond (s.rid.0 == rid.0) (f s) s) items

abbrev pub next_rid : Held → Rid
next_rid held = record { 0 = length held.items + 1 }

abbrev pub with_new : Held → Rid → List ℕ → Bool → List (List ℕ) → List Stored
with_new held parent name directory versions = held.items ++ record {
  rid = next_rid held;
  parent = parent;
  name = name;
  directory = directory;
  live = true;
  versions = versions;
  least = 1;
  changed = held.clock + 1;
} ∷ []

-- only the last `count` versions are held from now on
abbrev pub trimmed : Option ℕ → Stored → Stored
trimmed None s = s
trimmed (Some count) s = cond s.directory s (record s { least = max s.least (latest s + 1 - count) })

abbrev pub with_version : Held → Rid → List ℕ → List Stored
with_version held rid bytes = at_rid rid (λ s. trimmed held.keep (record s { versions = s.versions ++ bytes ∷ []; changed = held.clock + 1 })) held.items

abbrev pub with_place : Held → Rid → Rid → List ℕ → List Stored
with_place held rid parent name = at_rid rid (λ s. record s { parent = parent; name = name; changed = held.clock + 1 }) held.items

abbrev pub with_dead : Held → Rid → List Stored
with_dead held rid = at_rid rid (λ s. record s { live = false; changed = held.clock + 1 }) held.items

-- the first refusal that holds

abbrev pub versions_held : Stored → List (List ℕ)
versions_held s = drop (s.least - 1) s.versions

-- the versions held would have too many bytes
abbrev pub passes_bytes : List Stored → Bool
passes_bytes items = nat_lt 536870912 (sum_by (λ s. sum_by length (versions_held s)) items)

-- the live items would be too many
abbrev pub passes_items : List Stored → Bool
passes_items items = nat_lt MOST_ITEMS (count_by (λ s. s.live) items)

abbrev pub why_new_file : Held → Rid → List ℕ → List ℕ → Option Why
why_new_file held parent name bytes =
    let after : List Stored = with_new held parent name false (bytes ∷ []) in
    first_of (
    (not (is_live_dir held parent), why.NotThere) ∷ (not (is_name name), why.BadName) ∷ (nat_lt MOST_FILE_BYTES (length bytes), why.TooLarge)
    ∷ (nat_le MOST_PATH_NAMES (depth_of held parent), why.TooDeep) ∷ (is_taken held parent name no_rid, why.NameTaken)
    ∷ (passes_bytes after || passes_items after, why.Quota) ∷ [])

abbrev pub why_version : Held → Rid → Version → List ℕ → Option Why
why_version held rid expect bytes = first_of (
    (not (is_live_file held rid), why.NotThere) ∷ (nat_lt MOST_FILE_BYTES (length bytes), why.TooLarge)
    ∷ (not (expect.0 == (latest_at held rid).0), why.Conflict) ∷ (passes_bytes (with_version held rid bytes), why.Quota) ∷ [])

abbrev pub why_new_dir : Held → Rid → List ℕ → Option Why
why_new_dir held parent name = first_of (
    (not (is_live_dir held parent), why.NotThere) ∷ (not (is_name name), why.BadName)
    ∷ (nat_le MOST_PATH_NAMES (depth_of held parent), why.TooDeep) ∷ (is_taken held parent name no_rid, why.NameTaken)
    ∷ (passes_items (with_new held parent name true []), why.Quota) ∷ [])

abbrev pub why_move : Held → Rid → Rid → List ℕ → Option Why
why_move held rid parent name = first_of (
    ((rid.0 == 1) || not (is_live held rid) || not (is_live_dir held parent), why.NotThere)
    ∷ (not (is_name name), why.BadName) ∷ ((parent.0 == rid.0) || is_under held parent rid, why.Loop)
    ∷ (nat_lt MOST_PATH_NAMES (depth_of held parent + 1 + height_of held rid), why.TooDeep) ∷ (is_taken held parent name rid, why.NameTaken) ∷ [])

abbrev pub why_remove : Held → Rid → Version → Option Why
why_remove held rid expect = first_of (
    ((rid.0 == 1) || not (is_live held rid), why.NotThere)
    ∷ (is_live_file held rid && not (expect.0 == (latest_at held rid).0), why.Conflict)
    ∷ (list_any (λ s. s.live && (s.parent.0 == rid.0)) held.items, why.NotEmpty) ∷ [])

-- tokens

abbrev pub recorded_at : List (Token × Recorded) → Token → Option Recorded
recorded_at tokens token = part (λ t. Some t.1) None (find (λ t. same_key t.0.0 token.0) tokens)

abbrev pub as_recorded : Token → Recorded → Reply
as_recorded token (RecordedDone rid version) = reply.Done token rid version
as_recorded token RecordedVoid = reply.Void token

abbrev pub with_token : Token → Recorded → Held → Held
with_token token r held = record held { tokens = (token, r) ∷ held.tokens }

-- a request that changes the remote: why it is refused and which version that tells, else the item and version of its
-- Done, and what it makes of the items; it raises the clock
pub record Mutation : Type 0 where
  pub refusal : Option Why
  pub conflict : Version
  pub rid : Rid
  pub version : Version
  pub items : List Stored

abbrev pub put_new : Held → Rid → List ℕ → List ℕ → Mutation
put_new held parent name bytes = record {
  refusal = why_new_file held parent name bytes;
  conflict = no_version;
  rid = next_rid held;
  version = record { 0 = 1 };
  items = with_new held parent name false (bytes ∷ []);
}

abbrev pub put_version : Held → Rid → Version → List ℕ → Mutation
put_version held rid expect bytes = record {
  refusal = why_version held rid expect bytes;
  conflict = latest_at held rid;
  rid = rid;
  version = record { 0 = (latest_at held rid).0 + 1 };
  items = with_version held rid bytes;
}

abbrev pub make_dir : Held → Rid → List ℕ → Mutation
make_dir held parent name = record {
  refusal = why_new_dir held parent name;
  conflict = no_version;
  rid = next_rid held;
  version = no_version;
  items = with_new held parent name true [];
}

abbrev pub move_to : Held → Rid → Rid → List ℕ → Mutation
move_to held rid parent name = record {
  refusal = why_move held rid parent name;
  conflict = no_version;
  rid = rid;
  version = latest_at held rid;
  items = with_place held rid parent name;
}

abbrev pub remove_at : Held → Rid → Version → Mutation
remove_at held rid expect = record {
  refusal = why_remove held rid expect;
  conflict = latest_at held rid;
  rid = rid;
  version = latest_at held rid;
  items = with_dead held rid;
}

-- the version is told at a Conflict alone
abbrev pub version_told : Version → Why → Version
version_told version why.Conflict = version
version_told version _ = no_version

-- a refused request makes its token void for good
abbrev pub decide : Held → Token → Mutation → Option Why → Reply × Held
decide held token m (Some w) = (reply.Refused token w (version_told m.conflict w), with_token token RecordedVoid held)
decide held token m None = (reply.Done token m.rid m.version, with_token token (RecordedDone m.rid m.version) (record held { items = m.items; clock = held.clock + 1 }))

-- a request whose token came before is answered as it was then, or Void where it was refused
abbrev pub mutate : Held → Token → Mutation → Option Recorded → Reply × Held
mutate held token m (Some r) = (as_recorded token r, held)
mutate held token m None = decide held token m m.refusal

abbrev pub settle : Held → Token → Option Recorded → Reply × Held
settle held token (Some r) = (as_recorded token r, held)
settle held token None = (reply.Void token, with_token token RecordedVoid held)

-- only the last versions are held from now on; the clock stays
abbrev pub keep_last : Held → Token → ℕ → Option Recorded → Reply × Held
keep_last held token count (Some r) = (as_recorded token r, held)
keep_last held token count None = (
  reply.Done token root_rid no_version,
  with_token token (RecordedDone root_rid no_version) (record held { items = map (trimmed (Some count)) held.items; keep = Some count }),
)

abbrev pub remote_step : Held → Request → Reply × Held
remote_step held (request.Feed round after) = (reply.Feed round held.clock (feed_of held after), held)
remote_step held (request.List key rid) = (if is_live_dir held rid then reply.Listing key (listing_of held rid) else reply.Missing key, held)
remote_step held (request.Fetch key rid version start len) = (bytes_told key start len (is_held held rid version) (bytes_of held rid version), held)
remote_step held (request.Put token rid expect parent name bytes) =
    mutate held token (elim (rid.0 == 0) as (λ _. Mutation) [ true ↦ put_new held parent name bytes | false ↦ put_version held rid expect bytes ]) (recorded_at held.tokens token)
remote_step held (request.MakeDir token parent name) = mutate held token (make_dir held parent name) (recorded_at held.tokens token)
remote_step held (request.Move token rid parent name) = mutate held token (move_to held rid parent name) (recorded_at held.tokens token)
remote_step held (request.Remove token rid expect) = mutate held token (remove_at held rid expect) (recorded_at held.tokens token)
remote_step held (request.Settle token) = settle held token (recorded_at held.tokens token)
remote_step held (request.Keep token count) = keep_last held token count (recorded_at held.tokens token)
