-- Which changes the machine makes in `replay`.
use Rattle.std.specs.Prelude.{ℕ, Bool, true, false, List, [], length, take, drop, is_some, ◌≡◌, ◌⊎◌, ◌∷◌, ◌++◌}
use Rattle.std.specs.List.{list_all}
use Rattle.cf_base.specs.declared.changes.Change.{Change}
use Rattle.cf_base.specs.declared.changes.Change.TheVariants as change
use Rattle.cf_base.specs.declared.ids.ItemId.{ItemId}
use Rattle.cf_base.specs.declared.ids.Rid.{Rid}
use Rattle.cf_base.specs.declared.ids.Usn.{Usn}
use Rattle.cf_base.specs.declared.items.Kind.{Kind}
use Rattle.cf_base.specs.declared.items.Kind.TheVariants as kind
use Rattle.cf_base.specs.declared.policies.Policy.{Policy}
use Rattle.cf_model.specs.Books.{MoveItem, QueueEntry}
use Rattle.cf_model.specs.Contents.{base_named, up_to}
use Rattle.cf_model.specs.Dehydration.{in_use}
use Rattle.cf_model.specs.Effects.{is_directory, is_placeholder, size_made}
use Rattle.cf_model.specs.Feeds.{is_under}
use Rattle.cf_model.specs.Identities.{base_bytes, is_untargeted, target_of}
use Rattle.cf_model.specs.Items.{Item}
use Rattle.cf_model.specs.LookUp.{children}
use Rattle.cf_model.specs.Numbers.{no_usn}
use Rattle.cf_model.specs.Plans.{is_full_population}
use Rattle.cf_model.specs.Soundness.{Each}
use Rattle.cf_model.specs.State.{Filter}
use Rattle.cf_model.specs.Store.{Held}
use Rattle.cf_model.specs.Words.{number_of}
use Rattle.cf_model_laws.specs.Invariant.{All, HasBase, HasNone, IsAimed, IsUnmade, SameBase, put_bytes, target_in, waits_on}
use Rattle.cf_model_laws.specs.Marks.{IsMadeLast, StandsAtSeen}
use Rattle.cf_model_laws.specs.Seats.{IsBelowRoot, IsListed, IsOpenOn, IsSeated}

-- The identity of an item names a version that the remote has made, or none, and a target of the item's kind, or none. A directory has none, and a file that is no
-- placeholder has neither a base nor a target.
pub record NamesWell (r : Held) (directory placeholder : Bool) (identity : List ℕ) : Type 0 where
  pub based : HasBase r identity
  pub aimed : IsAimed r directory identity
  pub bare : directory ≡ true → HasNone identity
  pub plain : directory ≡ false → placeholder ≡ false → HasNone identity × (number_of (take 8 identity) ≡ 0)

-- no upload of the item is on its way
abbrev pub NoEntry : List QueueEntry → ItemId → Type 0
NoEntry es item = All (λ e. e.item.0 ≡ item.0 → ⊥) es

-- The identity takes the place of another with the same base; or, where no upload is on its way, of one that has the bytes of
-- a file's base with the writes up to the number: all bytes are here, or there are no such writes.
abbrev pub RebasesWell : Held → List QueueEntry → List Item → ItemId → List ℕ → Usn → Type 0
RebasesWell r es items item identity at =
    ((at ≡ no_usn) × Each item (λ i. SameBase identity i.identity) items)
    ⊎ (NoEntry es item × Each item (λ i. i.directory ≡ false → ((list_all is_some i.held ≡ true) ⊎ (up_to at i.writes ≡ [])) × (base_named r identity ≡ put_bytes (base_bytes r i) at i.writes)) items)

-- the last change is a copy of the item
abbrev pub IsCopied : List (Usn × Change) → ItemId → Type 0
IsCopied log item = (front : List (Usn × Change)) × (n : Usn) × (new : ItemId) × (parent : ItemId) × (name : List ℕ) × (log ≡ front ++ (n, change.Copy new item parent name) ∷ [])

-- What a change meets in the state before it, with this remote: so much keeps the whole sound.
abbrev pub Meets : Held → Filter → Change → Type 0
Meets r x (change.Make item parent name kind size identity) =
    (item.0 ≡ x.volume.next_item.0) × (length (base_named r identity) ≡ size_made kind size) × NamesWell r (is_directory kind) (is_placeholder kind) identity
Meets r x (change.Remove item) = in_use item x ≡ false
Meets r x (change.Filled item start bytes) = Each item (λ i. take (length bytes) (drop start (base_bytes r i)) ≡ bytes) x.volume.items
Meets r x (change.Emptied item start len) = Each item (λ i. i.in_sync ≡ true) x.volume.items
Meets r x (change.Mark item number) = Each item (λ i. (i.writes ≡ []) × (number ≡ i.number) × (is_untargeted i ≡ false)) x.volume.items
Meets r x (change.Convert item identity) = Each item (λ i. SameBase identity i.identity) x.volume.items × ((target_in identity).0 ≡ 0)
Meets r x (change.Revert item) = ⊥
Meets r x (change.Rebase item identity len at) =
    Each item (λ i. NamesWell r i.directory i.placeholder identity) x.volume.items × RebasesWell r x.volume.book.entries x.volume.items item identity at
Meets r x (change.Take item identity size) =
    Each item (λ i. (length (base_named r identity) ≡ size) × NamesWell r i.directory i.placeholder identity) x.volume.items
    × NoEntry x.volume.book.entries item × (waits_on item x.waiting.waits ≡ false)
    × (Each item (λ i. i.writes ≡ []) x.volume.items ⊎ IsCopied x.volume.log item) × (in_use item x ≡ false)
Meets r x (change.Copy item from parent name) = item.0 ≡ x.volume.next_item.0
Meets r x _ = Unit {0}

-- Of a removal that no application asked for, besides: a file has no local writes, and a directory no child.
abbrev pub IsVacant : List Item → Item → Type 0
IsVacant items i = (i.directory ≡ false → i.writes ≡ []) × (i.directory ≡ true → children items i.id ≡ [])

-- no upload of the item's place is on its way
abbrev pub NoMove : List QueueEntry → ItemId → Type 0
NoMove es item = All (λ e. e.action ≡ MoveItem → e.item.0 ≡ item.0 → ⊥) es

-- the identity aims at nothing, or at what the remote made for no upload on its way
abbrev pub AimsFree : Held → List QueueEntry → List ℕ → Type 0
AimsFree r es identity = ((target_in identity).0 ≡ 0) ⊎ IsUnmade r es (target_in identity)

-- no item has the target, if it is one
abbrev pub IsUnaimed : List Item → Rid → Type 0
IsUnaimed items rid = All (λ i. (target_of i).0 ≡ rid.0 → rid.0 ≡ 0) items

-- The item keeps its target; or no upload of it is on its way, and no item has the target that it comes to have.
abbrev pub AimsAlone : List QueueEntry → List Item → ItemId → List ℕ → Type 0
AimsAlone es items item identity = Each item (λ i. (target_of i).0 ≡ (target_in identity).0) items ⊎ (NoEntry es item × IsUnaimed items (target_in identity))

-- so it is of the identity that an item comes to have
abbrev pub Aims : Held → Filter → Change → Type 0
Aims r x (change.Make item parent name kind size identity) = AimsFree r x.volume.book.entries identity × IsUnaimed x.volume.items (target_in identity)
Aims r x (change.Rebase item identity len at) = AimsFree r x.volume.book.entries identity × AimsAlone x.volume.book.entries x.volume.items item identity
Aims r x (change.Take item identity size) = AimsFree r x.volume.book.entries identity × AimsAlone x.volume.book.entries x.volume.items item identity
Aims r x (change.Convert item identity) = Each item (λ i. (target_of i).0 ≡ 0) x.volume.items
Aims r x _ = Unit {0}

-- An item comes to stand in a directory that is here, or whose entries are asked for; a copy, and an item that only gets another name, in that where it stands. No item comes under itself.
abbrev pub Stands : Filter → Change → Type 0
Stands x (change.Make item parent name kind size identity) = IsSeated x.volume.items parent true ⊎ IsListed x parent
Stands x (change.Move item parent name) =
    Each item (λ i. i.parent.0 ≡ parent.0) x.volume.items ⊎ (IsSeated x.volume.items parent true × (is_under x.volume.items parent item ≡ false) × IsBelowRoot x.volume.items item)
Stands x (change.Copy item from parent name) = Each from (λ i. (i.parent.0 ≡ parent.0) × (i.directory ≡ false)) x.volume.items
Stands x _ = Unit {0}

-- A directory of which no entries are here yet is made under FULL population alone.
abbrev pub Populates : Policy → Kind → Type 0
Populates p kind.UnpopulatedDir = is_full_population p.population ≡ true
Populates p _ = Unit {0}

-- an item below the root that has no child
abbrev pub IsLeaf : List Item → ItemId → Type 0
IsLeaf items item = Each item (λ i. i.directory ≡ true → children items i.id ≡ []) items × IsBelowRoot items item

-- Of a write or a size: a handle is open on the file. Of a Mark, besides: its item stands at the path seen and no Move of it is on its way, or the last change made the item.
abbrev pub Fits : Held → Filter → Change → Type 0
Fits r x (change.Make item parent name kind size identity) =
    Meets r x (change.Make item parent name kind size identity) × Aims r x (change.Make item parent name kind size identity) × Stands x (change.Make item parent name kind size identity) × Populates x.policy kind
Fits r x (change.Move item parent name) = Stands x (change.Move item parent name)
Fits r x (change.Copy item from parent name) = Meets r x (change.Copy item from parent name) × Stands x (change.Copy item from parent name)
Fits r x (change.Rebase item identity len at) = Meets r x (change.Rebase item identity len at) × Aims r x (change.Rebase item identity len at)
Fits r x (change.Take item identity size) = Meets r x (change.Take item identity size) × Aims r x (change.Take item identity size)
Fits r x (change.Write item at bytes) = IsOpenOn x item
Fits r x (change.Size item size) = IsOpenOn x item
Fits r x (change.Convert item identity) = Meets r x (change.Convert item identity) × Aims r x (change.Convert item identity)
Fits r x (change.Remove item) = Meets r x (change.Remove item) × Each item (IsVacant x.volume.items) x.volume.items × IsBelowRoot x.volume.items item
Fits r x (change.Mark item number) =
    Meets r x (change.Mark item number) × ((StandsAtSeen x.volume.items x.volume.book item × NoMove x.volume.book.entries item) ⊎ IsMadeLast x.volume.log item)
Fits r x c = Meets r x c

-- a Mark or a Make
abbrev pub IsNaming : Change → Type 0
IsNaming (change.Mark item number) = Unit {0}
IsNaming (change.Make item parent name kind size identity) = Unit {0}
IsNaming _ = ⊥

-- a change that may bring the bytes that a file lacks
abbrev pub Touches : Change → ItemId → Type 0
Touches (change.Write item at bytes) id = id.0 ≡ item.0
Touches (change.Size item size) id = id.0 ≡ item.0
Touches (change.Filled item start bytes) id = id.0 ≡ item.0
Touches _ id = ⊥
