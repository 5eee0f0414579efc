-- When a payload has all that changed.
use Rattle.std.specs.Prelude.{ℕ, Bool, List, cond, is_some, map, Option, None, ◌&&◌, ◌==◌, ◌≡◌}
use Rattle.std.specs.List.{list_any}
use Rattle.cf_base.specs.declared.answers.AuxRecord.{AuxRecord}
use Rattle.cf_base.specs.declared.ids.ItemId.{ItemId}
use Rattle.cf_model.specs.Rows.{Row}
use Rattle.cf_model.specs.Words.{same}
use Rattle.cf_volume_image.specs.Contents.{record_at, row_at}
use Rattle.cf_volume_image.specs.declared.contents.Contents.{Contents}
use Rattle.cf_table.specs.Spelling.{row_value}

abbrev pub has_id : List ItemId → ItemId → Bool
has_id ids id = list_any (λ i. i.0 == id.0) ids

abbrev pub has_key : List (List ℕ) → List ℕ → Bool
has_key keys key = list_any (λ k. same k key) keys

-- The row with this id that a payload leaves: that of now where it is there and named as changed, none where it is named as
-- removed, and else the one of before.
abbrev pub row_left : List Row → List Row → List ItemId → List ItemId → ItemId → Option Row
row_left old new removed changed id = cond (has_id changed id && is_some (row_at new id)) (row_at new id) (cond (has_id removed id) None (row_at old id))

abbrev pub record_left : List AuxRecord → List AuxRecord → List (List ℕ) → List (List ℕ) → List ℕ → Option AuxRecord
record_left old new removed changed key = cond (has_key changed key && is_some (record_at new key)) (record_at new key) (cond (has_key removed key) None (record_at old key))

-- what a payload of these leaves is what there is now
pub record NamesAll (old new : Contents) (removed changed : List ItemId) (removed_keys changed_keys : List (List ℕ)) : Type 0 where
  pub rows : (id : ItemId) → row_left (map row_value old.rows.rows) (map row_value new.rows.rows) removed changed id ≡ row_at (map row_value new.rows.rows) id
  pub records : (key : List ℕ) → record_left old.records new.records removed_keys changed_keys key ≡ record_at new.records key
