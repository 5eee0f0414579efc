-- What an event reports that a quiet one does not.
use Rattle.std.specs.Prelude.{Bool, true, false, List, None, Some, ◌||◌, ◌++◌, ◌≡◌, ◌⊎◌}
use Rattle.std.specs.List.{list_any}
use Rattle.cf_base.specs.declared.ids.ItemId.{ItemId}
use Rattle.cf_base.specs.declared.notices.Notice.{Notice}
use Rattle.cf_model.specs.Books.{Action, MakeDir, MoveItem, PutFile, RemoveItem}
use Rattle.cf_model.specs.Identities.{is_untargeted, stands_at_seen}
use Rattle.cf_model.specs.Items.{Item, is_all_here, is_dirty, item_of}
use Rattle.cf_model.specs.Pushes.{has_entry, is_hydrating, is_left_out, is_tombstone_left_out}
use Rattle.cf_model.specs.State.{State, book_now, items_now}
use Rattle.cf_model_laws.specs.Invariant.{All}
use Rattle.cf_model_convergence.specs.Quiet.{is_act, is_trouble}
use Rattle.cf_model_convergence.specs.Resting.{IsRested}

-- the remote did not keep its rules
abbrev pub IsUnfair : State → Type 0
IsUnfair t = t.link.honest ≡ false

-- a line that no quiet part has: of trouble, a change, an upload that was done, or one that was refused
abbrev pub is_loud : Notice → Bool
is_loud n = is_trouble n || is_act n

-- such a line came, or the remote did not keep its rules
pub record IsTold (s t : State) : Type 0 where
  pub lines : List Notice
  pub noted : t.filter.notes ≡ s.filter.notes ++ lines
  pub loud : (list_any is_loud lines ≡ true) ⊎ IsUnfair t

-- requests come to the remote at once, and steps that are left out have their lines
pub record IsListening (s : State) : Type 0 where
  pub inline : s.link.inline ≡ true
  pub shows : s.running.shows_skips ≡ true

-- what a pass has found of an item that it uploads
abbrev pub IsPushable : Action → State → Item → Type 0
IsPushable PutFile s i = (item_of (items_now s) i.id ≡ Some i) × (has_entry s i.id ≡ false) × (i.directory ≡ false) × (i.placeholder ≡ true) × (is_all_here i ≡ true)
IsPushable MakeDir s i = (item_of (items_now s) i.id ≡ Some i) × (has_entry s i.id ≡ false) × (i.directory ≡ true)
IsPushable MoveItem s i = (item_of (items_now s) i.id ≡ Some i) × (has_entry s i.id ≡ false) × (stands_at_seen (items_now s) (book_now s) i ≡ false)
IsPushable RemoveItem s i = ⊥

-- it is no item of the remote yet, or has local writes
abbrev pub IsToUpload : Item → Type 0
IsToUpload i = (is_untargeted i ≡ true) ⊎ (is_dirty i ≡ true)

-- The item is left out, rests, or is waited for to be hydrated.
abbrev pub IsAside : State → Item → Type 0
IsAside s i = (is_left_out s i ≡ true) ⊎ IsRested s i ⊎ (is_hydrating i.id s ≡ true)

-- A pass does nothing for the item: it is a file to be uploaded that lacks a byte, which is asked for now; or the state stays, and the item is
-- left out, rests or is waited for.
abbrev pub IsSpared : State → Item → State → Type 0
IsSpared s i t =
    ((i.directory ≡ false) × (is_all_here i ≡ false) × IsToUpload i × (is_hydrating i.id s ≡ false)) ⊎ ((t ≡ s) × IsAside s i)

-- what a pass leaves of an item that it does nothing for: it is not there, or it is spared
abbrev pub IsTurned : State → ItemId → State → Type 0
IsTurned s item t = ((item_of (items_now s) item ≡ None) × (t ≡ s)) ⊎ ((i : Item) × (item_of (items_now s) item ≡ Some i) × IsSpared s i t)

-- No file that is to be uploaded lacks a byte, but where it is waited for to be hydrated.
abbrev pub AreWhole : State → Type 0
AreWhole s = All (λ i. i.directory ≡ false → IsToUpload i → (is_all_here i ≡ true) ⊎ (is_hydrating i.id s ≡ true)) (items_now s)

-- The state stays. Each tombstone is left out, and each item is left out, rests, or is waited for.
pub record IsIdle (s t : State) : Type 0 where
  pub same : t ≡ s
  pub tombstones : All (λ x. is_tombstone_left_out s x ≡ true) (book_now s).tombstones
  pub items : All (λ i. (j : Item) → item_of (items_now s) i.id ≡ Some j → IsAside s j) (items_now s)
