-- What holds of the remote, the items and the book: of the moment, and of each point that a restart may open.
use Rattle.std.specs.Prelude.{List, Some, false, length, take, ◌≡◌, ◌≤◌, ◌⊎◌}
use Rattle.cf_base.specs.declared.changes.Change.{Change}
use Rattle.cf_base.specs.declared.ids.Rid.{Rid}
use Rattle.cf_base.specs.declared.ids.Usn.{Usn}
use Rattle.cf_base.specs.declared.ids.Version.{Version}
use Rattle.cf_model.specs.Books.{Book}
use Rattle.cf_model.specs.Identities.{base_version, target_of}
use Rattle.cf_model.specs.Items.{Item}
use Rattle.cf_model.specs.Logs.{items_of}
use Rattle.cf_model.specs.State.{Link, Point, State, Volume}
use Rattle.cf_model.specs.Store.{Held, RecordedDone, Stored, latest, recorded_at, stored_at}
use Rattle.cf_model_laws.specs.Invariant.{All, AreApart, DidBy, HasBase, NamesTarget}
use Rattle.cf_model_laws.specs.Premises.{IsFair}
use Rattle.cf_model_convergence.specs.Resting.{AreTargetsApart, IsTargetRight}

-- of the remote, the items and the book
abbrev pub Fact : Type 1
Fact = Held → List Item → Book → Type 0

-- of the items and the book that a restart leaves which opens the point, with the remote as it is now
abbrev pub AtPoint : Fact → Held → List (Usn × Change) → Point → Type 0
AtPoint F r log p = (p.count ≤ length log) × F r (items_of (take p.count log)) p.book

abbrev pub LastsIn : Fact → Held → Volume → Type 0
LastsIn F r v = F r v.items v.book × All (AtPoint F r v.log) v.points

abbrev pub Lasts : Fact → Link → Volume → Type 0
Lasts F l v = IsFair l → LastsIn F l.remote v

-- over a remote that kept its rules
abbrev pub HoldsIn : Fact → State → Type 0
HoldsIn F s = Lasts F s.link s.filter.volume

-- The target of an item below the root is in the remote below its root, of the item's kind, and of a file it is the base too; or
-- there is none.
abbrev pub IsTargetedWell : Held → Item → Type 0
IsTargetedWell r i = ((target_of i).0 ≡ 0) ⊎ ((s : Stored) × (stored_at r.items (target_of i) ≡ Some s) × IsTargetRight i s × ((target_of i).0 ≡ 1 → ⊥))

abbrev pub AreTargetsRight : Fact
AreTargetsRight r items b = All (λ i. (i.id.0 ≡ 1 → ⊥) → IsTargetedWell r i) items

-- no two items have one target
abbrev pub AreTargetsAlone : Fact
AreTargetsAlone r items b = AreTargetsApart items

-- The upload of an item that is here names the item's target; that of a new file is of an item with none.
abbrev pub AreUploadsNamed : Fact
AreUploadsNamed r items b = All (NamesTarget items) b.entries

-- A base is a version that the remote made, or there is none.
abbrev pub AreBasesMade : Fact
AreBasesMade r items b = All (λ i. HasBase r i.identity) items

-- the base of a file with a target is no later than the target's latest version
abbrev pub IsBaseEarly : Held → Item → Type 0
IsBaseEarly r i = (i.id.0 ≡ 1 → ⊥) → i.directory ≡ false → ((target_of i).0 ≡ 0 → ⊥) → (s : Stored) → stored_at r.items (target_of i) ≡ Some s → (base_version i).0 ≤ latest s

abbrev pub AreBasesEarly : Fact
AreBasesEarly r items b = All (IsBaseEarly r) items

-- no two uploads on their way are about one item
abbrev pub AreUploadsApart : Fact
AreUploadsApart r items b = AreApart b.entries

-- What the remote did of an upload on its way, it did as that upload asks: a file or a directory was made, or the item is that of the
-- upload; one that was removed is dead.
abbrev pub AreUploadsDone : Fact
AreUploadsDone r items b = All (λ e. (rid : Rid) (version : Version) → recorded_at r.tokens e.token ≡ Some (RecordedDone rid version) → DidBy e.action r.items e.rid rid) b.entries

-- the cursor is a time that the remote has had
abbrev pub IsCursorEarly : Fact
IsCursorEarly r items b = b.cursor ≤ r.clock
