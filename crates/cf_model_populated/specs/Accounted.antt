-- What the cursor has passed is here or was removed here, where no directory was made unpopulated: of the remote, the items and the book.
use Rattle.std.specs.Prelude.{true, false, Bool, List, Some, ◌==◌, ◌<◌, ◌≡◌, ◌≤◌, ◌⊎◌}
use Rattle.std.specs.List.{list_any}
use Rattle.cf_base.specs.declared.changes.Change.{Change}
use Rattle.cf_base.specs.declared.changes.Change.TheVariants as change
use Rattle.cf_base.specs.declared.ids.Rid.{Rid}
use Rattle.cf_base.specs.declared.ids.Usn.{Usn}
use Rattle.cf_model.specs.Books.{Book, Tombstone}
use Rattle.cf_model.specs.Effects.{converted, rebased, took}
use Rattle.cf_model.specs.Identities.{has_target, target_of}
use Rattle.cf_model.specs.Items.{Item}
use Rattle.cf_model.specs.Numbers.{same_usn}
use Rattle.cf_model.specs.Soundness.{Each}
use Rattle.cf_model.specs.Store.{Held, Stored, stored_at}
use Rattle.cf_model_laws.specs.Invariant.{All, Among}
use Rattle.cf_model_convergence.specs.Lasting.{Fact}
use Rattle.cf_model_convergence.specs.Tidy.{IsLower}

-- an item here has the target
abbrev pub IsHeld : List Item → Rid → Type 0
IsHeld items rid = (i : Item) × Among i items × (has_target i rid ≡ true)

-- or a tombstone is of it
abbrev pub IsHereOrBuried : List Item → Book → Rid → Type 0
IsHereOrBuried items b rid = IsHeld items rid ⊎ ((t : Tombstone) × Among t b.tombstones × (t.rid.0 ≡ rid.0))

abbrev pub IsAccountedFor : List Item → Book → Stored → Type 0
IsAccountedFor items b x = IsLower x → x.live ≡ true → x.changed ≤ b.cursor → IsHereOrBuried items b x.rid

-- a tombstone is a directory's
abbrev pub buries_directory : Book → Bool
buries_directory b = list_any (λ t. t.version.0 == 0) b.tombstones

-- So it is of each item of the remote. With a directory's tombstone nothing is said: the cursor goes back before that goes.
abbrev pub AreAccountedFor : Fact
AreAccountedFor r items b = buries_directory b ≡ false → All (IsAccountedFor items b) r.items

-- nothing is said of the item of the remote: it is dead, or the cursor has not passed it
abbrev pub IsUnsaid : Held → Book → Rid → Type 0
IsUnsaid r b rid = (x : Stored) → stored_at r.items rid ≡ Some x → x.live ≡ true → b.cursor < x.changed

-- the target stays, or nothing was said of it
abbrev pub KeepsTarget : Held → Book → Item → Item → Type 0
KeepsTarget r b i j = ((target_of j).0 ≡ (target_of i).0) ⊎ IsUnsaid r b (target_of i)

-- so it is of an item that the change removes, or that it gives another identity
abbrev pub LosesUnsaid : Held → Book → List Item → Change → Usn → Type 0
LosesUnsaid r b items (change.Remove item) n = Each item (λ i. IsUnsaid r b (target_of i)) items
LosesUnsaid r b items (change.Convert item identity) n = Each item (λ i. KeepsTarget r b i (converted identity n i)) items
LosesUnsaid r b items (change.Revert item) n = ⊥
LosesUnsaid r b items (change.Rebase item identity len at) n = Each item (λ i. KeepsTarget r b i (rebased identity len at i)) items
LosesUnsaid r b items (change.Take item identity size) n = Each item (λ i. KeepsTarget r b i (took identity size n i)) items
LosesUnsaid r b items c n = Unit {0}

-- the tombstones of this number are of files, of which nothing is said
abbrev pub BuriesUnsaid : Held → Book → Usn → Type 0
BuriesUnsaid r b number = All (λ t. same_usn t.number number ≡ true → ((t.version.0 == 0) ≡ false) × IsUnsaid r b t.rid) b.tombstones
