-- What keeps the volume of a filter aimed, by what is known of a filter.
use Rattle.std.proofs.Common.{◌≡◌, ◌≤◌, ◌+◌, ℕ, Bool, true, false, cond, List, [], ◌∷◌, length, inl, inr, refl, sym, subst, arith}
use Rattle.std.specs.Prelude.{◌==◌, Option, Some}
use Rattle.cf_base.specs.declared.changes.Change.{Change}
use Rattle.cf_base.specs.declared.ids.ItemId.{ItemId}
use Rattle.cf_disk.specs.Disk.{Settings, State}
use Rattle.cf_filter_machine.specs.Keeping.{HasKeptPoints}
use Rattle.cf_model.specs.Books.{Book}
use Rattle.cf_model.specs.Changes.{may_need_room, put_with_book}
use Rattle.cf_model.specs.Effects.{changed, populated}
use Rattle.cf_model.specs.Items.{Item}
use Rattle.cf_model.specs.Points.{Opens, with_room_point}
use Rattle.cf_model.specs.State.{Point, Volume}
use Rattle.cf_model_room.specs.Rooms.{sure_count}
use Rattle.cf_tree.specs.Trees.{RiseFrom}
use Rattle.cf_volume_points.specs.At.{At}
use Rattle.cf_volume_points.specs.Known.{Known}
use Rattle.cf_volume_room.proofs.Aimed.{put_aimed, room_put_aimed, same_aimed}
use Rattle.cf_volume_room.specs.Aims.{IsAimedBy, IsReady}
use Rattle.cf_volume_room.specs.Rising.{AreRising}

-- a call of the disk keeps its settings
pub aims_on : (d e : State) (v : Volume) → e.settings ≡ d.settings → IsAimedBy d.settings.aim v → IsAimedBy e.settings.aim v
aims_on d e v same h = subst (λ (z : Settings). IsAimedBy z.aim v) (sym same) h

-- another book
pub aims_book : (aim : Option ℕ) (v : Volume) (b : Book) → IsAimedBy aim v → IsAimedBy aim (record v { book = b })
aims_book aim v b h = same_aimed aim v (record v { book = b }) (record { clusters = refl; log = refl; points = refl; items_then = refl; put_since = refl }) h

-- items in order

rising_on : (low : ℕ) (items : List Item) → RiseFrom low items → AreRising low items
rising_on low [] h = record {}
rising_on low (i ∷ is) h = (h.0, rising_on (i.id.0 + 1) is h.1)

pub rising : (items : List Item) → RiseFrom 1 items → AreRising 0 items
rising [] h = record {}
rising (i ∷ is) h = (omega (arith, h.0), rising_on (i.id.0 + 1) is h.1)

-- also where the entries of a directory have not come
came_on : (dir : ItemId) (low : ℕ) (items : List Item) → RiseFrom low (changed dir populated items) → AreRising low items
came_on dir low [] h = record {}
came_on dir low (i ∷ is) h = by (i.id.0 == dir.0) (came_on dir (i.id.0 + 1) is) h
  where
    by : (t : Bool) → (RiseFrom (i.id.0 + 1) (changed dir populated is) → AreRising (i.id.0 + 1) is) → RiseFrom low (cond t (populated i) i ∷ changed dir populated is) → AreRising low (i ∷ is)
    by true rest k = (k.0, rest k.1)
    by false rest k = (k.0, rest k.1)

pub rising_coming : (dir : ItemId) (items : List Item) → RiseFrom 1 (changed dir populated items) → AreRising 0 items
rising_coming dir items h = lower items (came_on dir 1 items h)
  where
    lower : (items : List Item) → AreRising 1 items → AreRising 0 items
    lower [] r = record {}
    lower (i ∷ is) r = (omega (arith, r.0), r.1)

-- the last sure point has no more changes than the log
within : (n : ℕ) (ps : List Point) → ((p : Point) → Opens ps p → p.count ≤ n) → sure_count ps ≤ n
within n [] h = omega arith
within n (p ∷ ps) h = by p.sure (within n ps (λ q o. h q (inr o)))
  where
    by : (t : Bool) → sure_count ps ≤ n → cond t p.count (sure_count ps) ≤ n
    by true rest = h p (inl refl)
    by false rest = rest

pub ready : (d : State) (k : Known) (v : Volume) → At d k v → AreRising 0 v.items → HasKeptPoints v → IsReady v
ready d k v at rise points = record { items = at.now.of_log.0; rise = rise; there = within (length v.log) v.points (λ p o. (points p o).early) }

-- a change went in at once, or after a commit for room, as the disk wants it
pub record Follows (aim : Option ℕ) (c : Change) (v : Volume) (room : Bool) : Type 0 where
  pub at_once : room ≡ false → aim ≡ Some (length v.log) → may_need_room c v ≡ false
  pub after : room ≡ true → (n : ℕ) → aim ≡ Some n → n ≡ length v.log

abbrev pub from_room : Bool → Volume → Volume
from_room false v = v
from_room true v = with_room_point v

pub aims_put : (aim : Option ℕ) (f : Book → Book) (c : Change) (v : Volume) (room : Bool) → IsReady v → Follows aim c v room → IsAimedBy aim v → IsAimedBy aim (put_with_book f c (from_room room v))
aims_put aim f c v false is follows h = put_aimed aim f c v is (follows.at_once refl) h
aims_put aim f c v true is follows h = room_put_aimed aim f c v (follows.after refl) h

-- one that needs no room
pub needs_none : (aim : Option ℕ) (c : Change) (v : Volume) → may_need_room c v ≡ false → Follows aim c v false
needs_none aim c v none = record { at_once = λ here wanted. none; after = λ never. let z : false ≡ true = never in absurd cc }
