-- What a restart may open: points of the volume, made by commits.
use Rattle.std.specs.Prelude.{Bool, true, false, List, [], ◌∷◌, length, reverse, ◌≡◌, ◌⊎◌, ◌≤◌, ℕ}
use Rattle.cf_model.specs.Arrows.{Arrow, one_or}
use Rattle.cf_model.specs.State.{Point, Volume}

-- all changes so far and the book as it is
abbrev pub point_now : Bool → Volume → Point
point_now sure v = record { sure = sure; count = length v.log; book = v.book }

-- a commit was begun: its point may have been made
abbrev pub with_point_begun : Volume → Volume
with_point_begun v = record v { points = point_now false v ∷ v.points }

-- a commit for room was made: a restart may open its point, or an earlier one
abbrev pub with_room_point : Volume → Volume
with_room_point v = record v { points = point_now false v ∷ v.points; items_then = v.items; put_since = 0 }

-- a commit was made: no earlier point is opened any more
abbrev pub with_sure_point : Volume → Volume
with_sure_point v = record v { points = point_now true v ∷ []; items_then = v.items; put_since = 0 }

-- a commit at a flush, or before an upload
abbrev pub commit : Arrow Volume (Unit {0})
commit = one_or with_point_begun with_sure_point

-- a commit that makes room
abbrev pub commit_for_room : Arrow Volume (Unit {0})
commit_for_room = one_or with_point_begun with_room_point

-- the points that a restart may open, the sure one first
abbrev pub points_to_open : Volume → List Point
points_to_open v = reverse v.points

-- a restart may open the point now
abbrev pub Opens : List Point → Point → Type 0
Opens [] p = ⊥
Opens (q ∷ qs) p = (p ≡ q) ⊎ Opens qs p

-- The points of a log with n changes: the last is a sure one and no other is, none has more changes than the log, and an
-- earlier one has no more than a later one.
abbrev pub ArePoints : ℕ → List Point → Type 0
ArePoints n [] = ⊥
ArePoints n (p ∷ []) = (p.sure ≡ true) × (p.count ≤ n)
ArePoints n (p ∷ q ∷ ps) = (p.sure ≡ false) × (p.count ≤ n) × ArePoints p.count (q ∷ ps)

abbrev pub HasPoints : Volume → Type 0
HasPoints v = ArePoints (length v.log) v.points
