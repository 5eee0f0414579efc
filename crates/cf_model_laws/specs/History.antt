-- What each change of a run met in the changes before it: the part of the invariant that speaks of the past.
use Rattle.std.specs.Prelude.{ℕ, true, false, List, [], length, None, ◌≡◌, ◌<◌, ◌⊎◌}
use Rattle.cf_base.specs.declared.changes.Change.{Change}
use Rattle.cf_base.specs.declared.changes.Change.TheVariants as change
use Rattle.cf_base.specs.declared.ids.ItemId.{ItemId}
use Rattle.cf_base.specs.declared.ids.Usn.{Usn}
use Rattle.cf_base.specs.declared.items.Pin.{Pin}
use Rattle.cf_model.specs.Contents.{RisesFrom, base_named}
use Rattle.cf_model.specs.Effects.{copied, rebased}
use Rattle.cf_model.specs.Given.{AllBelow}
use Rattle.cf_model.specs.Identities.{base_bytes, content, is_untargeted}
use Rattle.cf_model.specs.Items.{Item, item_of}
use Rattle.cf_model.specs.Logs.{items_of, next_of}
use Rattle.cf_model.specs.Numbers.{above, no_usn}
use Rattle.cf_model.specs.Soundness.{Each}
use Rattle.cf_model.specs.Store.{Held}
use Rattle.cf_model_laws.specs.Fitting.{IsCopied}
use Rattle.cf_model_laws.specs.Invariant.{All, HasBase, put_bytes}

-- each of these of an item, with its base there so that a remote that grows changes nothing of it

abbrev pub IsMeasured : Held → ℕ → Usn → Item → Type 0
IsMeasured r next n i = (i.id.0 < next) × All (λ w. above n w.number ≡ true) i.writes × (i.directory ≡ false → HasBase r i.identity × (length (content r i) ≡ length i.held))

abbrev pub IsMarkable : Held → Usn → Item → Type 0
IsMarkable r number i = (number ≡ i.number) × (i.writes ≡ []) × (is_untargeted i ≡ false) × HasBase r i.identity

abbrev pub IsRebasable : Held → List ℕ → ℕ → Usn → Item → Type 0
IsRebasable r identity len at i =
    i.directory ≡ false
    → HasBase r identity × HasBase r i.identity × (base_named r identity ≡ put_bytes (base_bytes r i) at i.writes) × (content r (rebased identity len at i) ≡ content r i) × RisesFrom no_usn i.writes

abbrev pub IsConvertible : Held → List ℕ → Item → Type 0
IsConvertible r identity i = HasBase r i.identity × HasBase r identity × (base_named r identity ≡ base_bytes r i)

abbrev pub IsCopyable : Held → ItemId → ItemId → List ℕ → Usn → Item → Type 0
IsCopyable r item parent name n i = i.directory ≡ false → HasBase r i.identity × ((pin : Pin) → content r (copied item parent name pin n i) ≡ content r i)

abbrev pub HasMet : Held → List (Usn × Change) → Usn → Change → Type 0
HasMet r front n (change.Make item parent name kind size identity) = item.0 ≡ next_of front
HasMet r front n (change.Write item at bytes) = Each item (IsMeasured r (next_of front) n) (items_of front)
HasMet r front n (change.Size item size) = Each item (IsMeasured r (next_of front) n) (items_of front)
HasMet r front n (change.Mark item number) = Each item (IsMarkable r number) (items_of front)
HasMet r front n (change.Convert item identity) = Each item (IsConvertible r identity) (items_of front)
HasMet r front n (change.Revert item) = ⊥
HasMet r front n (change.Rebase item identity len at) = Each item (IsRebasable r identity len at) (items_of front)
HasMet r front n (change.Take item identity size) = Each item (λ i. i.writes ≡ []) (items_of front) ⊎ IsCopied front item
HasMet r front n (change.Copy item from parent name) = (item.0 ≡ next_of front) × (item_of (items_of front) item ≡ None) × Each from (IsCopyable r item parent name n) (items_of front)
HasMet r front n _ = Unit {0}

-- and its number is above those before it
abbrev pub IsInOrder : Held → List (Usn × Change) → Usn → Change → Type 0
IsInOrder r front n c = AllBelow n front × HasMet r front n c
