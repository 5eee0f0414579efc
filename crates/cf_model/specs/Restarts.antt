-- Crashes and restarts.
use Rattle.std.specs.Prelude.{ℕ, true, List, [], ◌∷◌, take, nat_lt, ◌+◌, None}
use Rattle.cf_base.specs.declared.answers.Shown.{Shown}
use Rattle.cf_base.specs.declared.answers.Shown.TheVariants as shown
use Rattle.cf_base.specs.declared.changes.Change.{Change}
use Rattle.cf_base.specs.declared.codes.Code.TheVariants as code
use Rattle.cf_base.specs.declared.ids.Usn.{Usn}
use Rattle.cf_model.specs.Arrows.{Arrow, choose, either, noted, reading, ret, then_do}
use Rattle.cf_model.specs.Books.{opened_of}
use Rattle.cf_model.specs.Items.{Item}
use Rattle.cf_model.specs.Logs.{items_of, next_of}
use Rattle.cf_model.specs.Numbers.{most}
use Rattle.cf_model.specs.Points.{points_to_open}
use Rattle.cf_model.specs.State.{Filter, Off, Point, Power, State, Volume, fresh, new_filter}
use Rattle.cf_model.specs.State as state
use Rattle.cf_model.specs.Trees.{Step}
use Rattle.cf_model.specs.Words.{counting}

-- handles, waits and asks are gone; how many numbers the epoch has given stays
abbrev pub without_calls : Filter → Filter
without_calls s = record s { handles = []; waiting = record s.waiting { waits = []; asks = [] }; outbox = []; own = None; ending = None }

-- the running filter and engine are gone; the volume is as a restart will find it
abbrev pub crashed : State → State
crashed s = record s { power = Off; filter = without_calls s.filter; plan = [] }

abbrev pub crash : Arrow State Shown
crash = then_do (noted crashed) (ret shown.Done)

-- the volume with the first changes, as many as the point has, and its book; the point is a sure one from now on
abbrev pub opened_at : Point → ℕ → Volume → Volume
opened_at p epoch v =
    let log : List (Usn × Change) = take p.count v.log in
    let items : List Item = items_of log in
    record {
      clusters = v.clusters;
      epoch = epoch;
      log = log;
      items = items;
      next_item = record { 0 = next_of log };
      place = 0;
      points = record { sure = true; count = p.count; book = p.book } ∷ [];
      items_then = items;
      put_since = 0;
      book = p.book;
    }

-- handles, waits, asks, the plan and what the engine knew are gone; policy, link, messages and remote stand
abbrev pub with_opened : Point → ℕ → State → State
with_opened p epoch s =
    record s { power = state.On; failed_opens = 0; filter = new_filter (opened_at p epoch s.filter.volume) s.filter.policy; plan = []; volatile = fresh }

-- the epoch after this one; each opening that failed may have taken one more
abbrev pub epoch_after : ℕ → State → ℕ
epoch_after skipped s = s.filter.volume.epoch + 1 + skipped

abbrev pub resumed : Point → Shown
resumed p = shown.Resumed p.count (opened_of p.book)

abbrev pub open_in : Point → ℕ → Arrow State Shown
open_in p epoch = choose (nat_lt most epoch) (ret (shown.Refused code.Exhausted)) (then_do (noted (with_opened p epoch)) (ret (resumed p)))

abbrev pub open_skipping : Point → ℕ → Arrow State Shown
open_skipping p skipped = reading (epoch_after skipped) (open_in p)

-- one of these, the first of them as a rule
abbrev pub one_of : {X : Type 0} → (X → Arrow State Shown) → X → List X → Arrow State Shown
one_of f x [] = f x
one_of f x (y ∷ ys) = either (f x) (one_of f y ys)

-- how many epochs failed openings may have taken, none first
abbrev pub more_epochs : State → List ℕ
more_epochs s = counting 1 s.failed_opens

abbrev pub open_point : Point → Arrow State Shown
open_point p = reading more_epochs (one_of (open_skipping p) 0)

abbrev pub points_at : State → List Point
points_at s = points_to_open s.filter.volume

abbrev pub open_points : List Point → Arrow State Shown
open_points [] = ret (shown.Refused code.NotAVolume)
open_points (p ∷ ps) = one_of open_point p ps

-- an opening is a step; one that the device stops leaves the volume off
abbrev pub failed_open : State → State
failed_open s = record s { failed_opens = s.failed_opens + 1 }

abbrev pub open_volume : Arrow State Shown
open_volume s = Step (failed_open s) (reading points_at open_points s)

abbrev pub restart_by : Power → Arrow State Shown
restart_by Off = open_volume
restart_by _ = ret (shown.Refused code.Running)

abbrev pub power_of : State → Power
power_of s = s.power

abbrev pub restart : Arrow State Shown
restart = reading power_of restart_by
