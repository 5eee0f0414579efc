-- What a call on one item makes: the list of its changes, or its first refusal.
use Rattle.std.specs.Prelude.{ℕ, Bool, true, false, not, cond, List, [], length, filter, Option, Some, None, Result, Ok, Err, is_some, nat_lt, ◌&&◌, ◌||◌, ◌∷◌, ◌++◌, ◌==◌}
use Rattle.cf_base.specs.Policies.{is_always_full}
use Rattle.cf_base.specs.declared.changes.Change.{Change}
use Rattle.cf_base.specs.declared.changes.Change.TheVariants as change
use Rattle.cf_base.specs.declared.codes.Code.{Code}
use Rattle.cf_base.specs.declared.codes.Code.TheVariants as code
use Rattle.cf_base.specs.declared.ids.ItemId.{ItemId}
use Rattle.cf_base.specs.declared.ids.Usn.{Usn}
use Rattle.cf_base.specs.declared.items.Kind.{Kind}
use Rattle.cf_base.specs.declared.items.Kind.TheVariants as kind
use Rattle.cf_base.specs.declared.items.Pin.{Pin}
use Rattle.cf_base.specs.declared.items.Pin.TheVariants as pin
use Rattle.cf_base.specs.declared.items.Reach.{Reach}
use Rattle.cf_base.specs.declared.items.Reach.TheVariants as reach
use Rattle.cf_base.specs.declared.limits.TheConstants.{MOST_FILE_BYTES, MOST_IDENTITY_BYTES}
use Rattle.cf_base.specs.declared.policies.Policy.{Policy}
use Rattle.cf_base.specs.declared.policies.Population.{Population}
use Rattle.cf_base.specs.declared.policies.Population.TheVariants as population
use Rattle.cf_model.specs.Effects.{changed, pinned}
use Rattle.cf_model.specs.Items.{Item, base_of, is_all_here, pin_of}
use Rattle.cf_model.specs.LookUp.{child_of, tree_of}
use Rattle.cf_model.specs.Numbers.{is_no_usn, no_usn, same_usn}
use Rattle.cf_model.specs.Verdicts.{is_kept_full}
use Rattle.cf_model.specs.Words.{first_of, same, when}

-- the changes, or the first code whose condition holds
abbrev pub planned : Option Code → List Change → Result (List Change) Code
planned (Some c) cs = Err c
planned None cs = Ok cs

abbrev pub plan : List (Bool × Code) → List Change → Result (List Change) Code
plan tests cs = planned (first_of tests) cs

-- new items

pub data Creation : Type 0 where
  NewFile NewDir : Creation
  NewPlaceholder : (size : ℕ) (identity : List ℕ) (mark : Bool) → Creation
  NewPlaceholderDir : (identity : List ℕ) (mark : Bool) → Creation

abbrev pub is_full_population : Population → Bool
is_full_population population.Partial = false
is_full_population population.Full = true
is_full_population population.AlwaysFull = false

-- a directory placeholder made under FULL population has no entries yet
abbrev pub placeholder_dir : Policy → Kind
placeholder_dir p = cond (is_full_population p.population) kind.UnpopulatedDir kind.PlaceholderDir

-- a new item, and at once its mark where that is asked for
abbrev pub make_and_mark : ItemId → Usn → ItemId → List ℕ → Kind → ℕ → List ℕ → Bool → List Change
make_and_mark item next parent name kind size identity mark = change.Make item parent name kind size identity ∷ when mark (change.Mark item next ∷ [])

-- a new item at a place in a populated directory; `item` and `next` are the id and the number that it gets
abbrev pub plan_create : List Item → Policy → ItemId → Usn → ItemId → List ℕ → Creation → Result (List Change) Code
plan_create items p item next parent name NewFile =
    plan ((is_some (child_of items parent name), code.Exists) ∷ []) (make_and_mark item next parent name kind.File 0 [] false)
plan_create items p item next parent name NewDir =
    plan ((is_some (child_of items parent name), code.Exists) ∷ []) (make_and_mark item next parent name kind.Dir 0 [] false)
plan_create items p item next parent name (NewPlaceholder size identity mark) =
    plan ((is_some (child_of items parent name), code.Exists) ∷ (nat_lt MOST_IDENTITY_BYTES (length identity), code.IdentityTooLong)
    ∷ (nat_lt MOST_FILE_BYTES size, code.TooLarge) ∷ (is_always_full p.hydration && nat_lt 0 size, code.PolicyDenied) ∷ [])
    (make_and_mark item next parent name kind.PlaceholderFile size identity mark)
plan_create items p item next parent name (NewPlaceholderDir identity mark) =
    plan ((is_some (child_of items parent name), code.Exists) ∷ (nat_lt MOST_IDENTITY_BYTES (length identity), code.IdentityTooLong) ∷ [])
    (make_and_mark item next parent name (placeholder_dir p) 0 identity mark)

-- placeholders

abbrev pub plan_convert : Item → List ℕ → Result (List Change) Code
plan_convert i identity =
    plan ((i.placeholder, code.AlreadyPlaceholder) ∷ (nat_lt MOST_IDENTITY_BYTES (length identity), code.IdentityTooLong) ∷ []) (change.Convert i.id identity ∷ [])

abbrev pub plan_revert : Item → Bool → Result (List Change) Code
plan_revert i in_use =
    plan ((not i.placeholder, code.NotPlaceholder) ∷ (i.directory && not i.populated, code.NotPopulated)
    ∷ (not (is_all_here i), code.NotHydrated) ∷ (in_use, code.InUse) ∷ []) (change.Revert i.id ∷ [])

-- with a size another version takes the place of the file's bytes; without one only another identity makes a change
abbrev pub plan_update : Policy → Item → List ℕ → Option ℕ → Bool → Result (List Change) Code
plan_update p i identity None in_use =
    plan ((not i.placeholder, code.NotPlaceholder) ∷ (nat_lt MOST_IDENTITY_BYTES (length identity), code.IdentityTooLong) ∷ [])
    (when (not (same i.identity identity)) (change.Rebase i.id identity (base_of i) no_usn ∷ []))
plan_update p i identity (Some size) in_use =
    plan ((i.directory, code.IsDirectory) ∷ (not i.placeholder, code.NotPlaceholder) ∷ (nat_lt MOST_IDENTITY_BYTES (length identity), code.IdentityTooLong)
    ∷ (is_kept_full p i, code.PolicyDenied) ∷ (not i.in_sync, code.NotInSync) ∷ (in_use, code.InUse) ∷ (nat_lt MOST_FILE_BYTES size, code.TooLarge) ∷ [])
    (change.Take i.id identity size ∷ [])

-- 0.0 marks whatever the item's number is
abbrev pub plan_mark : Item → Usn → Result (List Change) Code
plan_mark i n =
    plan ((not i.placeholder, code.NotPlaceholder) ∷ (not (is_no_usn n || same_usn n i.number), code.UsnMismatch i.number) ∷ [])
    (when (not i.in_sync) (change.Mark i.id i.number ∷ []))

abbrev pub plan_unmark : Item → Result (List Change) Code
plan_unmark i = plan ((not i.placeholder, code.NotPlaceholder) ∷ []) (when i.in_sync (change.Clear i.id ∷ []))

-- whether a file is kept full
abbrev pub plan_keep : Item → Bool → Result (List Change) Code
plan_keep i on =
    plan ((i.directory, code.IsDirectory) ∷ (not i.placeholder, code.NotPlaceholder) ∷ [])
    (when (not (cond on i.keep (not i.keep))) (change.Keep i.id on ∷ []))

-- pins

abbrev pub pin_number : Pin → ℕ
pin_number pin.Unspecified = 0
pin_number pin.Pinned = 1
pin_number pin.Unpinned = 2
pin_number pin.Excluded = 3
pin_number pin.Inherit = 4

abbrev pub same_pin : Pin → Pin → Bool
same_pin a b = pin_number a == pin_number b

-- what is stored for a pin that is asked for: `inherit` is what the parent has stored, and unspecified at the root
abbrev pub stored_pin : Pin → List Item → Item → Pin
stored_pin pin.Unspecified items i = pin.Unspecified
stored_pin pin.Pinned items i = pin.Pinned
stored_pin pin.Unpinned items i = pin.Unpinned
stored_pin pin.Excluded items i = pin.Excluded
stored_pin pin.Inherit items i = pin_of items i.parent

-- one item after the other, each by what the ones before left
abbrev pub pin_changes : Pin → List Item → List Item → List Change
pin_changes asked items [] = []
pin_changes asked items (i ∷ is) =
    let p : Pin = stored_pin asked items i in
    when (not (same_pin p i.pin)) (change.SetPin i.id p ∷ []) ++ pin_changes asked (changed i.id (pinned p) items) is

abbrev pub reached : List Item → Item → Reach → List Item
reached items i reach.One = i ∷ []
reached items i reach.Recurse = tree_of items i.id
reached items i reach.RecurseOnly = filter (λ j. not (j.id.0 == i.id.0)) (tree_of items i.id)

abbrev pub plan_pin : List Item → Item → Pin → Reach → List Change
plan_pin items i asked reach = pin_changes asked items (reached items i reach)
