-- What the engine reads of a volume, and makes of entries, for a listing.
use Rattle.std.specs.Prelude.{◌≡◌, ◌≤◌, ◌<◌, ℕ, ◌+◌, Bool, true, false, not, List, [], ◌∷◌, ◌++◌, filter, get_or, length, map}
use Rattle.cf_base.specs.declared.ids.Rid.{Rid}
use Rattle.cf_base.specs.declared.items.SeenPath.{SeenPath}
use Rattle.cf_base.specs.declared.messages.Entry.{Entry}
use Rattle.cf_model.specs.Fits.{Known, is_known, is_of_kind, same_flag}
use Rattle.cf_model.specs.Identities.{is_untargeted}
use Rattle.cf_model.specs.Items.{Item}
use Rattle.cf_model.specs.Messages.{known_of}

-- the items that are items of the remote
abbrev pub known_in : List Item → List Known
known_in items = map known_of (filter (λ i. not (is_untargeted i)) items)

-- the same items of the remote are known, and entries are of the same kind
pub record AreAlike (ks ls : List Known) : Type 0 where
  pub known : (rid : Rid) → is_known ks rid ≡ is_known ls rid
  pub kind : (e : Entry) → is_of_kind ks e ≡ is_of_kind ls e

-- the targets of the files, or of the directories, among known items
abbrev pub targets_in : Bool → List Known → List ℕ
targets_in directory ks = map (λ k. k.rid.0) (filter (λ k. same_flag k.directory directory) ks)

abbrev pub known_as : Bool → ℕ → Known
known_as directory target = record { rid = record { 0 = target }; directory = directory }

-- known items by the targets of files and of directories
abbrev pub known_by : List ℕ → List ℕ → List Known
known_by files directories = map (known_as false) files ++ map (known_as true) directories

-- none is less than one before it
abbrev pub AreSorted : List ℕ → Type 0
AreSorted ns = (i j : ℕ) → i ≤ j → j < length ns → get_or ns i 0 ≤ get_or ns j 0

-- where the entry stands, as the path of the item with this id
abbrev pub path_of : ℕ → Entry → SeenPath
path_of id e = record { item = record { 0 = id }; parent = e.parent; name = e.name }

-- the paths of entries, as those of items with the ids from this one on
abbrev pub paths_from : ℕ → List Entry → List SeenPath
paths_from id [] = []
paths_from id (e ∷ es) = path_of id e ∷ paths_from (id + 1) es
