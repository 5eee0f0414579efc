-- What is tested of a change before it is made.
use Rattle.std.specs.Prelude.{◌≡◌, ◌==◌, ◌&&◌, ◌||◌, Bool, true, false, not, ℕ, List, [], ◌∷◌, length, Option, Some, None, MatchOption, nat_le, nat_lt, is_none, is_some}
use Rattle.cf_base.specs.declared.changes.Change.{Change}
use Rattle.cf_base.specs.declared.codes.Code.{Code}
use Rattle.cf_base.specs.declared.codes.Code.TheVariants as code
use Rattle.cf_base.specs.declared.ids.ItemId.{ItemId}
use Rattle.cf_base.specs.declared.ids.Usn.{Usn}
use Rattle.cf_engine_host.specs.Readings.{anchor_at}
use Rattle.cf_model.specs.Items.{Item, item_of, size_of}
use Rattle.cf_model.specs.LookUp.{child_of, depth_at, move_refused}
use Rattle.cf_model.specs.Numbers.{is_no_usn, same_usn}
use Rattle.cf_model.specs.Skips.{is_too_deep}
use Rattle.cf_model.specs.State.{Filter}
use Rattle.cf_model.specs.Texts.{is_name}
use Rattle.cf_model.specs.Words.{says}
use Rattle.cf_filter_steps.specs.Answering.{Sense}
use Rattle.cf_filter_steps.specs.Suiting.{IsFreePlace, IsOpenDirectory, Suiting}

-- an item is there, and has the property
abbrev pub says_at : (Item → Bool) → ItemId → Filter → Bool
says_at q id s = says q (item_of s.volume.items id)

abbrev pub is_placeholder : Item → Bool
is_placeholder i = i.placeholder

abbrev pub is_placeholder_file : Item → Bool
is_placeholder_file i = i.placeholder && not i.directory

abbrev pub is_open_directory : Item → Bool
is_open_directory i = i.directory && i.populated

-- a file whose identity has a place for its target
abbrev pub may_be_copied : Item → Bool
may_be_copied i = not i.directory && nat_le 8 (length i.identity)

-- a placeholder whose base can have this length, and take the writes up to the number in: none of them, those up to the anchor, or all
abbrev pub takes_writes : ℕ → Usn → Usn → Item → Bool
takes_writes len at anchor i = i.placeholder && (is_no_usn at || ((len == size_of i) && (same_usn at anchor || same_usn at i.number)))

abbrev pub takes_writes_at : ItemId → ℕ → Usn → Filter → Bool
takes_writes_at item len at s = says (takes_writes len at (anchor_at item s)) (item_of s.volume.items item)

-- an item has this number, which is not 0.0
abbrev pub has_this_number : Usn → Item → Bool
has_this_number number i = same_usn i.number number && not (is_no_usn number)

-- nothing has this name in the directory
abbrev pub is_free_at : ItemId → List ℕ → Filter → Bool
is_free_at parent name s = is_none (child_of s.volume.items parent name)

-- one more name is not too deep there
abbrev pub is_high_at : ItemId → Filter → Bool
is_high_at parent s = nat_lt (depth_at s.volume.items parent) 32

-- the next item gets this id
abbrev pub is_next_at : ItemId → Filter → Bool
is_next_at item s = item.0 == s.volume.next_item.0

-- where the test holds, a new item may come under the name in each state
pub record PlaceIf {X : Type 0} (S : Sense X) (parent : ItemId) (name : List ℕ) (x : X) (b : Bool) : Type 0 where
  pub place : b ≡ true → (s : Filter) → S.means x s → IsFreePlace s.volume.items parent name

-- where the test holds, the change suits each state
pub record SuitsIf {X : Type 0} (S : Sense X) (c : Change) (x : X) (b : Bool) : Type 0 where
  pub suits : b ≡ true → (s : Filter) → S.means x s → Suiting (c ∷ []) s

-- where the test holds, the item is there and not the root in each state, and the new place has a name in an open directory
pub record IsMove (item parent : ItemId) (name : List ℕ) (s : Filter) : Type 0 where
  pub below : (item.0 == 1) ≡ false
  pub there : is_some (item_of s.volume.items item) ≡ true
  pub named : is_name name ≡ true
  pub opened : MatchOption (item_of s.volume.items parent) ⊥ IsOpenDirectory

pub record MoveIf {X : Type 0} (S : Sense X) (item parent : ItemId) (name : List ℕ) (x : X) (b : Bool) : Type 0 where
  pub move : b ≡ true → (s : Filter) → S.means x s → IsMove item parent name s

-- the code is TooDeep, where there is one
abbrev pub IsDeepAtMost : Option Code → Type 0
IsDeepAtMost None = Unit {0}
IsDeepAtMost (Some c) = c ≡ code.TooDeep

-- the move of an item that is there is refused so in each state, at most as TooDeep
pub record MoveChecked {X : Type 0} (S : Sense X) (item parent : ItemId) (name : List ℕ) (x : X) (o : Option Code) : Type 0 where
  pub least : IsDeepAtMost o
  pub refused : (s : Filter) (i : Item) → S.means x s → item_of s.volume.items item ≡ Some i → move_refused s.volume.items item parent name ≡ o

-- where the test holds, the change is too deep in each state
pub record DeepIf {X : Type 0} (S : Sense X) (c : Change) (x : X) (b : Bool) : Type 0 where
  pub deep : b ≡ true → (s : Filter) → S.means x s → is_too_deep s.volume.items c ≡ true

-- a change suits each state, or is too deep in each
abbrev pub IsSuited : {X : Type 0} → Sense X → Change → X → Option Code → Type 0
IsSuited S c x None = SuitsIf S c x true
IsSuited S c x (Some d) = (d ≡ code.TooDeep) × DeepIf S c x true
