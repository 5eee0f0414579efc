-- The end of a feed, by whether an entry was postponed.
use Rattle.std.specs.Prelude.{ℕ, Bool, []}
use Rattle.cf_model.specs.Arrows.{Arrow, reading}
use Rattle.cf_model.specs.Feeds.{cursor_if, end_feed, is_whole}
use Rattle.cf_model.specs.State.{State}

abbrev pub is_whole_by : ℕ → Bool → State → Bool
is_whole_by skips postponed = is_whole skips (record { postponed = postponed; later = [] })

abbrev pub end_cursor : ℕ → ℕ → Bool → Arrow State (Unit {0})
end_cursor clock skips postponed = reading (is_whole_by skips postponed) (cursor_if clock)

abbrev pub end_feed_by : ℕ → ℕ → Bool → Arrow State (Unit {0})
end_feed_by clock skips postponed = end_feed clock skips (record { postponed = postponed; later = [] })
