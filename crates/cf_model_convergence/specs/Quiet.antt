-- What the report of a `sync` tells of it, and what a trace tells of the policies.
use Rattle.std.specs.Prelude.{Bool, true, false, not, cond, List, [], Option, Some, None, ◌&&◌, ◌||◌, ◌∷◌}
use Rattle.std.specs.List.{list_any}
use Rattle.cf_base.specs.declared.answers.Answer.{Answer}
use Rattle.cf_base.specs.declared.answers.Shown.{Shown}
use Rattle.cf_base.specs.declared.answers.Shown.TheVariants as shown
use Rattle.cf_base.specs.declared.calls.Call.TheVariants as call
use Rattle.cf_base.specs.declared.events.Event.{Event}
use Rattle.cf_base.specs.declared.events.Event.TheVariants as event
use Rattle.cf_base.specs.declared.messages.Reply.TheVariants as reply
use Rattle.cf_base.specs.declared.notices.Frame.{Frame}
use Rattle.cf_base.specs.declared.notices.Frame.TheVariants as frame
use Rattle.cf_base.specs.declared.notices.Notice.{Notice}
use Rattle.cf_base.specs.declared.notices.Notice.TheVariants as notice
use Rattle.cf_model.specs.Plans.{is_full_population}
use Rattle.cf_model_laws.specs.Taken.{is_feed}

-- messages

abbrev pub is_done : Frame → Bool
is_done (frame.Reply answers (reply.Done token rid version)) = true
is_done _ = false

abbrev pub is_refused : Frame → Bool
is_refused (frame.Reply answers (reply.Refused token w version)) = true
is_refused _ = false

abbrev pub is_gone : Frame → Bool
is_gone (frame.Reply answers (reply.Gone key)) = true
is_gone _ = false

-- notices

-- the remote failed, a step was left out, a message was lost, or a version is gone
abbrev pub is_trouble : Notice → Bool
is_trouble (notice.Fault message) = true
is_trouble (notice.Skipped c) = true
is_trouble (notice.Message m) = m.lost || is_gone m.frame
is_trouble _ = false

abbrev pub asks_feed : Notice → Bool
asks_feed (notice.Message m) = is_feed m.frame
asks_feed _ = false

-- a change, or an upload that was done
abbrev pub is_progress : Notice → Bool
is_progress (notice.Change number c) = true
is_progress (notice.Message m) = is_done m.frame
is_progress _ = false

-- or one that was refused
abbrev pub is_act : Notice → Bool
is_act (notice.Message m) = is_done m.frame || is_refused m.frame
is_act n = is_progress n

-- the notices before the last request for a feed, and those from it on
abbrev pub at_last_feed : List Notice → Option (List Notice × List Notice)
at_last_feed [] = None
at_last_feed (n ∷ ns) =
    elim (at_last_feed ns) as (λ _. Option (List Notice × List Notice)) [ None ↦ cond (asks_feed n) (Some ([], n ∷ ns)) None | Some p ↦ Some (n ∷ p.0, p.1) ]

-- The last part neither changes anything nor hears of an upload. Where it is the only one, what comes before it, which asks what
-- became of uploads, makes no progress either.
abbrev pub ends_idle : Option (List Notice × List Notice) → Bool
ends_idle None = false
ends_idle (Some p) = not (list_any is_act p.1) && (list_any asks_feed p.0 || not (list_any is_progress p.0))

abbrev pub is_count : Shown → Bool
is_count (shown.Count n) = true
is_count _ = false

-- the `sync` had its count, no trouble, and an idle end
abbrev pub is_quiet : Answer → Bool
is_quiet a = is_count a.shown && not (list_any is_trouble a.notes) && ends_idle (at_last_feed a.notes)

-- policies

abbrev pub is_accepted : Shown → Bool
is_accepted shown.Done = true
is_accepted _ = false

-- a policy by which directories are populated when they are listed was accepted
abbrev pub allows_unpopulated : Event × Answer → Bool
allows_unpopulated (event.Call (call.Policy p), a) = is_full_population p.population && is_accepted a.shown
allows_unpopulated (e, a) = false

-- each directory is populated from its start
abbrev pub is_always_populated : List (Event × Answer) → Bool
is_always_populated trace = not (list_any allows_unpopulated trace)
