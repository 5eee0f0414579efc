-- Removals and moves of items that are not the root.
use Rattle.std.specs.Prelude.{◌≡◌, ◌==◌, ◌&&◌, Bool, false, not, List, [], ◌∷◌, ℕ, Option, None}
use Rattle.cf_base.specs.declared.codes.Code.{Code}
use Rattle.cf_base.specs.declared.codes.Code.TheVariants as code
use Rattle.cf_base.specs.declared.ids.ItemId.{ItemId}
use Rattle.cf_base.specs.declared.policies.Mode.{Mode}
use Rattle.cf_base.specs.declared.answers.Shown.{Shown}
use Rattle.cf_model.specs.Arrows.{Arrow, reading}
use Rattle.cf_model.specs.Calls.{delete_now, delete_tests, number_next}
use Rattle.cf_model.specs.Changes.{no_places}
use Rattle.cf_model.specs.Items.{Item, item_of}
use Rattle.cf_model.specs.LookUp.{Place, children, move_refused}
use Rattle.cf_model.specs.State.{Filter}
use Rattle.cf_model.specs.Words.{first_of, is_empty, part, same}
use Rattle.cf_filter_steps.specs.Answering.{IsAt}
use Rattle.cf_filter_steps.specs.Finding.{IsPlace}

-- the item stands there, and is not the root
pub record IsBelowAt (id : ItemId) (i : Item) (s : Filter) : Type 0 where
  pub there : IsAt id i s
  pub below : (id.0 == 1) ≡ false

-- removals

abbrev pub is_unlisted : Item → Bool
is_unlisted i = i.directory && not i.populated

abbrev pub is_unlisted_at : ItemId → Filter → Bool
is_unlisted_at id s = part is_unlisted false (item_of s.volume.items id)

abbrev pub has_children : ItemId → Filter → Bool
has_children id s = not (is_empty (children s.volume.items id))

abbrev pub lacks_place : Filter → Bool
lacks_place s = no_places s.volume 1

-- the code of the first of four refusals
abbrev pub delete_code : Bool → Bool → Bool → Bool → Option Code
delete_code unlisted full used none = first_of ((unlisted, code.NotPopulated) ∷ (full, code.NotEmpty) ∷ (used, code.InUse) ∷ (none, code.Exhausted) ∷ [])

abbrev pub delete_refusal : Item → Filter → Option Code
delete_refusal i s = first_of (delete_tests i s)

abbrev pub removed_next : Mode → Item → Arrow Filter Shown
removed_next m i = reading number_next (delete_now m i)

-- moves

-- the item, and the place to which it moves
pub record IsMoveAt (id parent : ItemId) (name : List ℕ) (i : Item) (p : Place) (s : Filter) : Type 0 where
  pub item : IsBelowAt id i s
  pub named : p.name ≡ name
  pub place : IsPlace s.volume.items parent name p.parent

-- to which nothing hinders it
pub record MayMoveAt (id parent : ItemId) (name : List ℕ) (i : Item) (p : Place) (s : Filter) : Type 0 where
  pub move : IsMoveAt id parent name i p s
  pub free : move_refused s.volume.items id parent name ≡ None

-- the item stands in this directory under this name
abbrev pub stands_in : ItemId → List ℕ → Item → Bool
stands_in parent name i = (i.parent.0 == parent.0) && same i.name name
