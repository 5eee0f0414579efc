-- What is tested of an item before it is removed.
use Rattle.std.specs.Prelude.{◌≡◌, ◌==◌, Bool, true, false, [], is_some}
use Rattle.cf_base.specs.declared.ids.ItemId.{ItemId}
use Rattle.cf_filter_steps.specs.Answering.{Sense}
use Rattle.cf_filter_steps.specs.Putting.{MayGo}
use Rattle.cf_filter_steps.specs.Readings.{has_handle, has_wait}
use Rattle.cf_model.specs.Items.{Item, item_of}
use Rattle.cf_model.specs.LookUp.{children}
use Rattle.cf_model.specs.State.{Filter}

-- the item is there and not the root, has no child, no handle is open on it, and no wait is on it
pub record IsFreeToGo (item : ItemId) (s : Filter) : Type 0 where
  pub below : (item.0 == 1) ≡ false
  pub there : is_some (item_of s.volume.items item) ≡ true
  pub empty : children s.volume.items item ≡ []
  pub closed : has_handle item s ≡ false
  pub idle : has_wait item s ≡ false

-- so it is in each state
pub record CanGo {X : Type 0} (S : Sense X) (item : ItemId) (x : X) : Type 0 where
  pub goes : (s : Filter) → S.means x s → IsFreeToGo item s

-- where the test holds
pub record GoesIf {X : Type 0} (S : Sense X) (item : ItemId) (x : X) (b : Bool) : Type 0 where
  pub goes : b ≡ true → CanGo S item x

-- and a number is left for the change
abbrev pub GoesNow : ItemId → Filter → Type 0
GoesNow item s = (i : Item) × MayGo item i s
