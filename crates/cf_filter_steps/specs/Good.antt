-- What holds of every filter that a program has: its items form a tree, and each of them is sound and within the limits.
use Rattle.std.specs.Prelude.{◌≡◌, ◌<◌, ◌≤◌, ◌==◌, false, true, List, [], ◌∷◌, MatchOption, length}
use Rattle.cf_base.specs.declared.ids.ItemId.{ItemId}
use Rattle.cf_base.specs.declared.limits.TheConstants.{MOST_FILE_BYTES, MOST_ITEMS}
use Rattle.cf_base.specs.declared.waits.WaitKind.{WaitKind}
use Rattle.cf_base.specs.declared.waits.WaitKind.TheVariants as wait_kind
use Rattle.cf_model.specs.Texts.{is_name}
use Rattle.cf_model.specs.Images.{image_len, most_image}
use Rattle.cf_model.specs.Items.{Item, base_of, item_of}
use Rattle.cf_model.specs.Soundness.{AllLater, AllSound}
use Rattle.cf_model.specs.Changes.{next_number}
use Rattle.cf_model.specs.Numbers.{no_key, same_key}
use Rattle.cf_model.specs.State.{Filter, Volume}
use Rattle.cf_table.specs.Reading.{IsStored}
use Rattle.cf_tree.specs.Trees.{AreOpen, IsTree}

-- the property holds of each
abbrev pub Every : {A : Type 0} → (A → Type 0) → List A → Type 0
Every P [] = Unit {0}
Every P (x ∷ xs) = P x × Every P xs

-- an item within the limits
pub record IsSmall (i : Item) : Type 0 where
  pub size : length i.held ≤ MOST_FILE_BYTES
  pub base : base_of i ≤ MOST_FILE_BYTES
  pub identity : length i.identity ≤ 65535
  pub name : (i.id.0 == 1) ≡ false → is_name i.name ≡ true

pub record IsGoodVolume (v : Volume) : Type 0 where
  pub tree : IsTree v.items
  pub opened : AreOpen v.items
  pub sound : AllSound v.items
  pub small : Every IsSmall v.items
  pub later : AllLater (next_number v) v.items
  pub below : Every (λ i. i.id.0 < v.next_item.0) v.items
  pub pins : Every (λ i. IsStored i.pin) v.items
  -- there are not too many items, and their table is not too long
  pub few : length v.items ≤ MOST_ITEMS
  pub short : image_len v.items v.book ≤ most_image

-- a file is there with this id
abbrev pub IsFileIn : List Item → ItemId → Type 0
IsFileIn items id = MatchOption (item_of items id) ⊥ (λ i. i.directory ≡ false)

-- what reads is on a file
abbrev pub IsOnFile : WaitKind → List Item → ItemId → Type 0
IsOnFile wait_kind.Read items item = IsFileIn items item
IsOnFile _ items item = Unit {0}

pub record IsGood (s : Filter) : Type 0 where
  pub volume : IsGoodVolume s.volume
  -- each handle leads to a file
  pub files : Every (λ o. IsFileIn s.volume.items o.item) s.handles
  -- each wait has a number
  pub numbered : Every (λ w. same_key w.id.0 no_key ≡ false) s.waiting.waits
  -- and each that reads is on a file
  pub reads : Every (λ w. IsOnFile w.kind s.volume.items w.item) s.waiting.waits
