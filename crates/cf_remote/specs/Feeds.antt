-- Which items a feed tells, in which order.
use Rattle.std.specs.Prelude.{ℕ, Bool, true, false, not, cond, List, map, filter, Option, Some, None, nat_lt, ◌&&◌, ◌==◌, ◌++◌}
use Rattle.std.specs.List.{filter_map, flat_map}
use Rattle.cf_base.specs.declared.messages.Entry.{Entry}
use Rattle.cf_model.specs.Store.{Stored, entry_told}
use Rattle.cf_model.specs.Words.{counting}
use Rattle.cf_remote.specs.Depths.{depth_in}
use Rattle.cf_remote.specs.Order.{told_at}
use Rattle.cf_remote.specs.declared.seen.Seen.{Seen}

-- all but the root that changed above the clock
abbrev pub is_seen : ℕ → Stored → Bool
is_seen after s = nat_lt after s.changed && not (s.rid.0 == 1)

-- the depth of a live item
abbrev pub level_in : List Stored → Stored → Option ℕ
level_in items s = cond s.live (Some (depth_in items s.rid)) None

abbrev pub seen_as : List Stored → Stored → Seen
seen_as items s = record { rid = s.rid; level = level_in items s }

abbrev pub same_level : Option ℕ → Option ℕ → Bool
same_level None None = true
same_level None (Some n) = false
same_level (Some m) None = false
same_level (Some m) (Some n) = m == n

-- what is told of those at one level, or of the dead ones
abbrev pub told_level : List Stored → Option ℕ → Seen → Option Entry
told_level items level x = cond (same_level x.level level) (told_at items x.rid) None

abbrev pub told_live : List Stored → List Seen → ℕ → List Entry
told_live items seen d = filter_map (told_level items (Some d)) seen

-- the feed of the definitions, of a list of items alone
abbrev pub feed_in : List Stored → ℕ → List Entry
feed_in items after =
    map entry_told (flat_map (λ d. filter (λ s. s.live && (depth_in items s.rid == d)) (filter (is_seen after) items)) (counting 1 32) ++ filter (λ s. not s.live) (filter (is_seen after) items))
