-- Which identities the items of an engine have, and that the entries of its directories have come. Throughout, the flag `full` says that
-- a policy of FULL population may have stood, under which a directory is made without its entries.
use Rattle.std.specs.Prelude.{◌≡◌, ◌⊎◌, ℕ, Bool, true, false, List, [], ◌∷◌, take, Some}
use Rattle.cf_base.specs.declared.changes.Change.{Change}
use Rattle.cf_base.specs.declared.changes.Change.TheVariants as change
use Rattle.cf_base.specs.declared.ids.ItemId.{ItemId}
use Rattle.cf_base.specs.declared.ids.Rid.{Rid}
use Rattle.cf_base.specs.declared.ids.Usn.{Usn}
use Rattle.cf_base.specs.declared.ids.Version.{Version}
use Rattle.cf_base.specs.declared.operations.NewItem.{NewItem}
use Rattle.cf_base.specs.declared.operations.Operation.{Operation}
use Rattle.cf_base.specs.declared.operations.Operation.TheVariants as operation
use Rattle.cf_base.specs.declared.policies.Population.{Population}
use Rattle.cf_model.specs.Effects.{effect, is_directory, is_populated}
use Rattle.cf_model.specs.Identities.{identity_for}
use Rattle.cf_model.specs.Items.{Item, item_of, root}
use Rattle.cf_model.specs.Logs.{items_of}
use Rattle.cf_model.specs.Plans.{is_full_population}
use Rattle.cf_model.specs.State.{Filter, is_replay, State, Volume}
use Rattle.cf_model.specs.Words.{number_of}
use Rattle.cf_model_laws.specs.Invariant.{All}

-- The identity has no target; or its 24 bytes are those that an engine spells, and that of a directory has no base.
abbrev pub IsNamedAs : Bool → List ℕ → Type 0
IsNamedAs directory identity =
    (number_of (take 8 identity) ≡ 0) ⊎ ((bare : Bool) × (rid : Rid) × (version : Version) × (directory ≡ true → bare ≡ true) × (identity ≡ identity_for bare rid version))

-- So is that of the item; and where no policy of FULL population stood, the entries of a directory have come.
pub record IsNamed (full : Bool) (i : Item) : Type 0 where
  pub identity : IsNamedAs i.directory i.identity
  pub filled : full ≡ false → i.directory ≡ true → i.populated ≡ true

abbrev pub AreNamed : Bool → List Item → Type 0
AreNamed full items = (id : ItemId) (i : Item) → item_of items id ≡ Some i → IsNamed full i

-- so it is after each of the changes
abbrev pub AreNamedAlong : Bool → List Item → List (Usn × Change) → Type 0
AreNamedAlong full items [] = AreNamed full items
AreNamedAlong full items (c ∷ cs) = AreNamed full items × AreNamedAlong full (effect items c.1 c.0) cs

-- so it is after each first part of the log, and so at each point that a restart may open
abbrev pub NamedVolume : Bool → Volume → Type 0
NamedVolume full v = AreNamedAlong full (root ∷ []) v.log × (v.items ≡ items_of v.log)

-- and the state is one of the command `replay`
abbrev pub NamedState : Bool → State → Type 0
NamedState full s = NamedVolume full s.filter.volume × (is_replay s.mode ≡ true)

-- no policy of FULL population stands, where none may have stood
abbrev pub StandsAs : Bool → Population → Type 0
StandsAs full population = full ≡ false → is_full_population population ≡ false

abbrev pub NamedIn : Bool → Filter → Type 0
NamedIn full x = NamedVolume full x.volume × StandsAs full x.policy.population

abbrev pub Named : Bool → State → Type 0
Named full s = NamedIn full s.filter × (is_replay s.mode ≡ true)

-- The identity that a change gives is such a one, and so are the directories that it makes. An item that has one already may get one that
-- is fit for a directory.
abbrev pub Gives : Bool → Change → Type 0
Gives full (change.Make item parent name kind size identity) = IsNamedAs (is_directory kind) identity × (full ≡ false → is_directory kind ≡ true → is_populated kind ≡ true)
Gives full (change.Convert item identity) = number_of (take 8 identity) ≡ 0
Gives full (change.Rebase item identity len at) = IsNamedAs true identity
Gives full (change.Take item identity size) = IsNamedAs true identity
Gives full _ = Unit {0}

-- The same of a change of these items: one of them gets an identity that fits its kind.
abbrev pub GivesOver : Bool → List Item → Change → Type 0
GivesOver full items (change.Rebase item identity len at) = (i : Item) → item_of items item ≡ Some i → IsNamedAs i.directory identity
GivesOver full items (change.Take item identity size) = (i : Item) → item_of items item ≡ Some i → IsNamedAs i.directory identity
GivesOver full items c = Gives full c

-- the new items that an operation makes have such identities

abbrev pub IsNew : NewItem → Type 0
IsNew e = IsNamedAs e.dir e.identity

abbrev pub GivesNew : Operation → Type 0
GivesNew (operation.Entries key list good) = All IsNew list
GivesNew _ = Unit {0}
