use Rattle.std.proofs.Common.{◌≡◌, map, take}
use Rattle.std.specs.Prelude.{filter}
use Rattle.cf_remote.specs.Feeds.{is_seen, seen_as}
use Rattle.cf_remote.proofs.feeds.seen_after.Given as goal

abbrev pub invariant-loop-item : goal.invariant-loop-item
invariant-loop-item l = l.seen.items ≡ map (seen_as l.items) (filter (is_seen l.after) (take l.item-index l.items))
