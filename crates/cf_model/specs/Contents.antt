-- What an item holds, laid over its base; and when that is its content.
use Rattle.std.specs.Prelude.{ℕ, true, List, [], length, map, take, drop, Option, unwrap_or, is_some, filter, not, ◌∷◌, ◌≡◌}
use Rattle.std.specs.List.{list_all}
use Rattle.cf_base.specs.declared.changes.Change.{Change}
use Rattle.cf_base.specs.declared.changes.Change.TheVariants as change
use Rattle.cf_base.specs.declared.ids.Usn.{Usn}
use Rattle.cf_model.specs.Effects.{later_than, size_made}
use Rattle.cf_model.specs.Identities.{base_bytes, content}
use Rattle.cf_model.specs.Items.{Item, root, writes_of}
use Rattle.cf_model.specs.Numbers.{above}
use Rattle.cf_model.specs.Overlay.{Written, over}
use Rattle.cf_model.specs.Soundness.{Each}
use Rattle.cf_model.specs.Store.{Held}

-- a byte where one is held, else the base's, and zero past the base
abbrev pub laid : List (Option ℕ) → List ℕ → List ℕ
laid [] bs = []
laid (h ∷ hs) [] = unwrap_or h 0 ∷ laid hs []
laid (h ∷ hs) (b ∷ bs) = unwrap_or h b ∷ laid hs bs

-- the content is what is held, laid over the base: so each byte here is the content's
abbrev pub IsTrueTo : Held → Item → Type 0
IsTrueTo held i = content held i ≡ laid i.held (base_bytes held i)

abbrev pub AllTrueTo : Held → List Item → Type 0
AllTrueTo held [] = Unit {0}
AllTrueTo held (i ∷ is) = IsTrueTo held i × AllTrueTo held is

-- the bytes of the base that an identity names
abbrev pub base_named : Held → List ℕ → List ℕ
base_named held identity = base_bytes held (record root { identity = identity })

-- the writes with a number up to at
abbrev pub up_to : Usn → List Written → List Written
up_to at ws = filter (λ w. not (above w.number at)) ws

-- the content by another base and fewer writes is the same, and what is held lies over both alike
abbrev pub StaysBy : List ℕ → List ℕ → List Written → Item → Type 0
StaysBy old new ws i = (over new (map (λ w. w.write) ws) ≡ over old (writes_of i)) × (laid i.held new ≡ laid i.held old)

-- What a change needs of the items, so that contents stay what is held over the base: bytes that come are the base's, none
-- leaves a file with local writes, and another base has the same bytes or takes the place of all.
abbrev pub Suits : Held → Change → List Item → Type 0
Suits r (change.Make item parent name kind size identity) items = length (base_named r identity) ≡ size_made kind size
Suits r (change.Filled item start bytes) items = Each item (λ i. take (length bytes) (drop start (base_bytes r i)) ≡ bytes) items
Suits r (change.Emptied item start len) items = Each item (λ i. i.writes ≡ []) items
Suits r (change.Mark item number) items = Each item (λ i. i.writes ≡ []) items
Suits r (change.Convert item identity) items = Each item (λ i. base_named r identity ≡ base_bytes r i) items
Suits r (change.Revert item) items = Each item (λ i. (list_all is_some i.held ≡ true) × (i.directory ≡ true → i.held ≡ [])) items
Suits r (change.Rebase item identity len at) items = Each item (λ i. StaysBy (base_bytes r i) (base_named r identity) (later_than at i.writes) i) items
Suits r (change.Take item identity size) items = Each item (λ i. length (base_named r identity) ≡ size) items
Suits r _ items = Unit {0}

-- the numbers of the writes rise
abbrev pub RisesFrom : Usn → List Written → Type 0
RisesFrom low [] = Unit {0}
RisesFrom low (w ∷ ws) = (above w.number low ≡ true) × RisesFrom w.number ws
