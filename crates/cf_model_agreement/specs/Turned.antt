-- What a feed's turns leave of an entry.
use Rattle.std.specs.Prelude.{Some, false, true, ◌≡◌, ◌≤◌}
use Rattle.cf_base.specs.declared.items.SeenPath.{SeenPath}
use Rattle.cf_base.specs.declared.messages.Entry.{Entry}
use Rattle.cf_model.specs.Books.{Book, seen_of}
use Rattle.cf_model.specs.Identities.{base_version, target_of}
use Rattle.cf_model.specs.Items.{Item}
use Rattle.cf_model.specs.State.{State, book_now, items_now}
use Rattle.cf_model_laws.specs.Invariant.{All}

-- The item, if it is that of the entry, which is live: its version is not older than the entry's, and a path that is seen is the entry's.
abbrev pub IsTurnedTo : Entry → Book → Item → Type 0
IsTurnedTo e b i =
    (i.id.0 ≡ 1 → ⊥) → (target_of i).0 ≡ e.rid.0
    → (e.live ≡ true) × (i.directory ≡ false → e.version.0 ≤ (base_version i).0) × ((p : SeenPath) → seen_of b i.id ≡ Some p → (p.parent.0 ≡ e.parent.0) × (p.name ≡ e.name))

abbrev pub AreTurnedTo : Entry → State → Type 0
AreTurnedTo e s = All (IsTurnedTo e (book_now s)) (items_now s)
