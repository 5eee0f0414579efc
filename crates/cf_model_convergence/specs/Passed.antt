-- What the cursor has passed is known rightly: of the remote, the items and the book.
use Rattle.std.specs.Prelude.{ℕ, List, Some, false, take, true, ◌<◌, ◌≡◌, ◌≤◌, ◌⊎◌}
use Rattle.cf_base.specs.declared.changes.Change.{Change}
use Rattle.cf_base.specs.declared.changes.Change.TheVariants as change
use Rattle.cf_base.specs.declared.ids.Usn.{Usn}
use Rattle.cf_base.specs.declared.items.SeenPath.{SeenPath}
use Rattle.cf_base.specs.declared.messages.Entry.{Entry}
use Rattle.cf_model.specs.Books.{Book, seen_of}
use Rattle.cf_model.specs.Effects.{made, rebased, took}
use Rattle.cf_model.specs.Identities.{base_version, target_of}
use Rattle.cf_model.specs.Items.{Item, pin_of}
use Rattle.cf_model.specs.Soundness.{Each}
use Rattle.cf_model.specs.Store.{Held, Stored, entry_told, stored_at}
use Rattle.cf_model.specs.Words.{number_of}
use Rattle.cf_model_laws.specs.Invariant.{All, Among}
use Rattle.cf_model_convergence.specs.Lasting.{Fact}
use Rattle.cf_model_convergence.specs.Resting.{IsKnown}
use Rattle.cf_model_convergence.specs.Tidy.{IsLower}

abbrev pub IsPassedRight : Held → Book → Item → Type 0
IsPassedRight r b i = (i.id.0 ≡ 1 → ⊥) → (x : Stored) → stored_at r.items (target_of i) ≡ Some x → x.changed ≤ b.cursor → IsKnown b i x

abbrev pub ArePassedRight : Fact
ArePassedRight r items b = All (IsPassedRight r b) items

-- The property is of an item that the change gives a target or a base, if it does; and it gives none a target by a Convert.
abbrev pub NamesAs : (Item → Type 0) → List Item → Change → Usn → Type 0
NamesAs Q items (change.Make item parent name kind size identity) n = Q (made item parent name kind size identity (pin_of items parent) n)
NamesAs Q items (change.Convert item identity) n = number_of (take 8 identity) ≡ 0
NamesAs Q items (change.Revert item) n = ⊥
NamesAs Q items (change.Rebase item identity len at) n = Each item (λ i. Q (rebased identity len at i)) items
NamesAs Q items (change.Take item identity size) n = Each item (λ i. Q (took identity size n i)) items
NamesAs Q items c n = Unit {0}

abbrev pub NamesRight : Held → Book → List Item → Change → Usn → Type 0
NamesRight r b items c n = NamesAs (IsPassedRight r b) items c n

-- no item below the root is the remote's root
abbrev pub AreTargetsLower : List Item → Type 0
AreTargetsLower items = All (λ i. (i.id.0 ≡ 1 → ⊥) → (target_of i).0 ≡ 1 → ⊥) items

-- the item, if it is that of the entry, is known as that tells it
abbrev pub IsDoneAs : Book → Entry → Item → Type 0
IsDoneAs b e i =
    (i.id.0 ≡ 1 → ⊥) → (target_of i).0 ≡ e.rid.0
    → (e.live ≡ true) × (i.directory ≡ false → (base_version i).0 ≡ e.version.0) × ((p : SeenPath) → seen_of b i.id ≡ Some p → (p.parent.0 ≡ e.parent.0) × (p.name ≡ e.name))

-- the entries tell each item below the root, as it is, that was changed after the one time and no later than the other
abbrev pub TellsBetween : Held → ℕ → ℕ → List Entry → Type 0
TellsBetween r after clock es = All (λ x. IsLower x → after < x.changed → x.changed ≤ clock → Among (entry_told x) es) r.items

-- the entry tells its item as it is, or that was changed after the time
abbrev pub IsToldOrLate : Held → ℕ → Entry → Type 0
IsToldOrLate r clock e = (x : Stored) → stored_at r.items e.rid ≡ Some x → (clock < x.changed) ⊎ (e ≡ entry_told x)
