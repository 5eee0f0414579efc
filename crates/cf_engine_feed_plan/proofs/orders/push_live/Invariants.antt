use Rattle.std.proofs.Common.{◌≡◌, ◌++◌, drop}
use Rattle.cf_engine_feed_plan.specs.Orders.{live_from}
use Rattle.cf_engine_feed_plan.proofs.orders.push_live.Given as goal

abbrev pub invariant-loop-place : goal.invariant-loop-place
invariant-loop-place l = l.places.items ++ live_from l.place (drop l.place l.feed) ≡ l.fn.places.items ++ live_from 0 l.feed
