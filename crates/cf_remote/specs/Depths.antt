-- How deep items are, as the definitions say it, of a list of items alone.
use Rattle.std.specs.Prelude.{ℕ, Bool, List, length, map, filter, ◌&&◌, ◌==◌}
use Rattle.std.specs.List.{list_any}
use Rattle.cf_base.specs.declared.ids.Rid.{Rid}
use Rattle.cf_model.specs.Store.{Stored, ancestors, stored_at}
use Rattle.cf_model.specs.Words.{greatest}

abbrev pub line_in : List Stored → Rid → List ℕ
line_in items rid = ancestors (length items) items (stored_at items rid)

abbrev pub depth_in : List Stored → Rid → ℕ
depth_in items rid = length (line_in items rid)

abbrev pub is_under_in : List Stored → Rid → Rid → Bool
is_under_in items rid top = list_any (λ r. r == top.0) (line_in items rid)

-- the depth of the deepest live one of these that is the item or below it
abbrev pub deepest : List Stored → Rid → List Stored → ℕ
deepest items top some = greatest (map (λ s. depth_in items s.rid) (filter (λ s. s.live && is_under_in items s.rid top) some))
