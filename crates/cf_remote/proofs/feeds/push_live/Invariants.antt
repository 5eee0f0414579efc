use Rattle.std.proofs.Common.{◌≡◌, ◌++◌, ◌+◌, ◌-◌, ◌≤◌, length}
use Rattle.std.specs.List.{All, flat_map}
use Rattle.cf_model.specs.Words.{counting}
use Rattle.cf_remote.specs.Feeds.{told_live}
use Rattle.cf_remote.proofs.feeds.push_live.Given as goal

abbrev pub invariant-loop-depth : goal.invariant-loop-depth
invariant-loop-depth l = record {
  told : l.entries.items ++ flat_map (told_live l.items l.seen) (counting l.depth (l.most + 1 - l.depth)) ≡ l.fn.entries.items ++ flat_map (told_live l.items l.seen) (counting 1 l.most);
  room : All (λ e. length e.name ≤ 255) l.fn.entries.items → All (λ e. length e.name ≤ 255) l.entries.items;
}
