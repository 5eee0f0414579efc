-- Numbers that are given once: what was given so far is not above what the counters say.
use Rattle.std.specs.Prelude.{ℕ, true, List, [], ◌∷◌, length, ◌≡◌, ◌<◌, ◌≤◌, ◌⊎◌, ◌+◌}
use Rattle.cf_base.specs.declared.changes.Change.{Change}
use Rattle.cf_base.specs.declared.changes.Change.TheVariants as change
use Rattle.cf_base.specs.declared.ids.ItemId.{ItemId}
use Rattle.cf_base.specs.declared.ids.Usn.{Usn}
use Rattle.cf_model.specs.Requests.{Live}
use Rattle.cf_model.specs.Numbers.{above}
use Rattle.cf_model.specs.State.{State, Volume}
use Rattle.cf_model.specs.Logs.{items_of, next_of}
use Rattle.cf_model.specs.Changes.{next_number}

-- each number of the log is below this one
abbrev pub AllBelow : Usn → List (Usn × Change) → Type 0
AllBelow n [] = Unit {0}
AllBelow n (c ∷ cs) = (above n c.0 ≡ true) × AllBelow n cs

-- the keys of these asks are those after the first n of the epoch, in order
abbrev pub AreNext : ℕ → ℕ → List Live → Type 0
AreNext epoch n [] = Unit {0}
AreNext epoch n (a ∷ as') = (a.ask.key.epoch ≡ epoch) × (a.ask.key.number ≡ n + 1) × AreNext epoch (n + 1) as'

-- the item that a change is about; of a Copy it is the new one
abbrev pub named_by : Change → ItemId
named_by (change.Make item parent name kind size identity) = item
named_by (change.Remove item) = item
named_by (change.Move item parent name) = item
named_by (change.Write item at bytes) = item
named_by (change.Size item size) = item
named_by (change.Filled item start bytes) = item
named_by (change.Validated item start len) = item
named_by (change.Emptied item start len) = item
named_by (change.SetPin item pin) = item
named_by (change.Mark item number) = item
named_by (change.Clear item) = item
named_by (change.Convert item identity) = item
named_by (change.Revert item) = item
named_by (change.Rebase item identity len at) = item
named_by (change.Take item identity size) = item
named_by (change.Copy item from parent name) = item
named_by (change.Populated item) = item
named_by (change.Keep item on) = item

-- The second state has given no fewer numbers than the first. What counts in an epoch: it is a later one, or the same and
-- none of the counts of places, keys, waits, handles, rounds and tokens has fallen.
abbrev pub NotFewer : State → State → Type 0
NotFewer s t =
    (t.filter.volume.epoch ≡ s.filter.volume.epoch) × (s.filter.volume.place ≤ t.filter.volume.place)
    × (s.filter.waiting.key_count ≤ t.filter.waiting.key_count) × (s.filter.waiting.wait_count ≤ t.filter.waiting.wait_count)
    × (s.filter.handle_count ≤ t.filter.handle_count) × (s.volatile.rounds ≤ t.volatile.rounds) × (s.volatile.tokens ≤ t.volatile.tokens)

-- messages and the tokens of peers count over the whole run
abbrev pub Rises : State → State → Type 0
Rises s t =
    ((s.filter.volume.epoch < t.filter.volume.epoch) ⊎ NotFewer s t)
    × (length s.link.messages ≤ length t.link.messages) × (s.peer_tokens ≤ t.peer_tokens)

-- the waits and asks are of the volume's epoch
abbrev pub OfOneEpoch : State → Type 0
OfOneEpoch s = s.filter.waiting.epoch ≡ s.filter.volume.epoch

-- The items are what the log makes of the root alone, the next item is one above the greatest of the log, and each number
-- of the log is below the next.
abbrev pub IsOfLog : Volume → Type 0
IsOfLog v = (v.items ≡ items_of v.log) × (v.next_item.0 ≡ next_of v.log) × AllBelow (next_number v) v.log

abbrev pub OfLog : State → Type 0
OfLog s = IsOfLog s.filter.volume
