-- What a restart opens.
use Rattle.std.specs.Prelude.{ℕ, length, take, ◌≡◌, ◌≤◌}
use Rattle.cf_base.specs.declared.answers.OpenedBook.{OpenedBook}
use Rattle.cf_base.specs.declared.events.DeviceEvent.TheVariants as device
use Rattle.cf_base.specs.declared.events.Event.{Event}
use Rattle.cf_base.specs.declared.events.Event.TheVariants as event
use Rattle.cf_model.specs.Books.{opened_of}
use Rattle.cf_model.specs.Points.{Opens}
use Rattle.cf_model.specs.State.{Point, State, book_now}

abbrev pub restarting : Event
restarting = event.Device device.Restart

-- Of the points that a restart may open one was opened: the log is its first changes, as many as the answer tells, and the
-- book is its book, which the answer tells too.
pub record IsOpened (s : State) (n : ℕ) (opened : OpenedBook) (t : State) : Type 0 where
  pub point : Point
  pub opens : Opens s.filter.volume.points point
  pub count : n ≡ point.count
  pub log : t.filter.volume.log ≡ take n s.filter.volume.log
  pub book : book_now t ≡ point.book
  pub told : opened ≡ opened_of point.book

-- the log of the first state is the front of that of the second, and no longer than n
abbrev pub IsKeptIn : State → ℕ → State → Type 0
IsKeptIn flushed n t = (length flushed.filter.volume.log ≤ n) × (take (length flushed.filter.volume.log) t.filter.volume.log ≡ flushed.filter.volume.log)
