use Rattle.std.proofs.Common.{◌≡◌, ◌++◌, ◌≤◌, length, take}
use Rattle.std.specs.List.{All, filter_map}
use Rattle.cf_remote.specs.Feeds.{told_level}
use Rattle.cf_remote.proofs.feeds.push_level.Given as goal

abbrev pub invariant-loop-one : goal.invariant-loop-one
invariant-loop-one l = record {
  told : l.entries.items ≡ l.fn.entries.items ++ filter_map (told_level l.items l.level) (take l.one-index l.seen);
  room : All (λ e. length e.name ≤ 255) l.fn.entries.items → All (λ e. length e.name ≤ 255) l.entries.items;
}
