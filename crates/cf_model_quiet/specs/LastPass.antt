-- The last pass of a `sync`, as its report tells of it.
use Rattle.std.specs.Prelude.{Bool, true, false, not, cond, List, [], ◌∷◌, Option, Some, None, ◌&&◌}
use Rattle.std.specs.List.{list_any}
use Rattle.cf_base.specs.declared.messages.Request.TheVariants as request
use Rattle.cf_base.specs.declared.notices.Frame.{Frame}
use Rattle.cf_base.specs.declared.notices.Frame.TheVariants as frame
use Rattle.cf_base.specs.declared.notices.Notice.{Notice}
use Rattle.cf_base.specs.declared.notices.Notice.TheVariants as notice
use Rattle.cf_model_laws.specs.Taken.{is_feed}
use Rattle.cf_model_convergence.specs.Hearing.{is_heard}

abbrev pub is_settle : Frame → Bool
is_settle (frame.Request (request.Settle token)) = true
is_settle _ = false

-- a request for a feed, which was not lost
abbrev pub asks_round : Notice → Bool
asks_round (notice.Message m) = not m.lost && is_feed m.frame
asks_round _ = false

-- a request that asks what became of an upload
abbrev pub asks_settle : Notice → Bool
asks_settle (notice.Message m) = is_settle m.frame
asks_settle _ = false

-- the lines before the last of this kind, and those from it on
abbrev pub at_last : (Notice → Bool) → List Notice → Option (List Notice × List Notice)
at_last f [] = None
at_last f (n ∷ ns) =
    elim (at_last f ns) as (λ _. Option (List Notice × List Notice)) [ None ↦ cond (f n) (Some ([], n ∷ ns)) None | Some p ↦ Some (n ∷ p.0, p.1) ]

-- the lines from the first of this kind on
abbrev pub from_first : (Notice → Bool) → List Notice → List Notice
from_first f [] = []
from_first f (n ∷ ns) = cond (f n) (n ∷ ns) (from_first f ns)

abbrev pub since_last : Option (List Notice × List Notice) → List Notice → List Notice
since_last None ns = ns
since_last (Some p) ns = p.1

-- What a pass reports before its feed: from its first request on that asks what became of an upload.
abbrev pub before_feed : List Notice → List Notice
before_feed ns = from_first asks_settle (since_last (at_last asks_round ns) ns)

abbrev pub is_silent_by : Option (List Notice × List Notice) → Bool
is_silent_by None = false
is_silent_by (Some p) = not (list_any is_heard (before_feed p.0)) && not (list_any is_heard p.1)

-- The last pass is silent: no line from the last request for a feed on is heard, nor one of what it asked before, since the feed before that, of uploads.
abbrev pub ends_silent : List Notice → Bool
ends_silent ns = is_silent_by (at_last asks_round ns)
