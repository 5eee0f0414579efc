use Rattle.std.proofs.Common.{◌≡◌, ◌≤◌, ◌++◌, length}
use Rattle.std.specs.Prelude.{filter}
use Rattle.std.specs.List.{All, filter_map}
use Rattle.cf_collections.specs.Split.{IsSplit}
use Rattle.cf_remote.specs.Order.{is_inside, told_at}
use Rattle.cf_remote.proofs.by_name.listing.Given as goal

abbrev pub invariant-loop-rid : goal.invariant-loop-rid
invariant-loop-rid l = record {
  split : IsSplit (is_inside l.items l.directory) l.left;
  told : l.entries.items ++ filter_map (told_at l.items) (filter (is_inside l.items l.directory) l.left) ≡ filter_map (told_at l.items) (filter (is_inside l.items l.directory) l.by_name);
  room : All (λ e. length e.name ≤ 255) l.entries.items;
}

abbrev pub decreases-loop-rid : goal.decreases-loop-rid
decreases-loop-rid l = length l.left
