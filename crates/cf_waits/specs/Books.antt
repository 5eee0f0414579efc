-- Waits and asks as they are kept: in order of number, with an index by item.
use Rattle.std.specs.Prelude.{ℕ, Bool, true, false, not, List, [], ◌∷◌, length, map, filter, find, get_or, Option, Some, None, cond, ◌≤◌, ◌<◌, ◌-◌, ◌≡◌, ◌==◌}
use Rattle.std.specs.List.{AllByRecursion}
use Rattle.std.proofs.Math.ListN.{set}
use Rattle.std.specs.Ordering.{is_eq, is_lt, nat_cmp, ordering_then}
use Rattle.std.specs.declared.cmp.Ordering.{Ordering}
use Rattle.cf_ask_rule.specs.Fronts.{EndsBy}
use Rattle.cf_base.specs.declared.ids.ItemId.{ItemId}
use Rattle.cf_base.specs.declared.ids.Key.{Key}
use Rattle.cf_model.specs.Missing.{Wait}
use Rattle.cf_model.specs.Numbers.{same_key}
use Rattle.cf_model.specs.Requests.{Live, is_dehydrate, is_dehydrate_wait, is_list, live_of}
use Rattle.cf_model.specs.Words.{says, sorted}
use Rattle.cf_waits.specs.Lines.{InLine}
use Rattle.cf_waits.specs.Rising.{IsRising, ask_key, wait_key}
use Rattle.cf_waits.specs.declared.entries.Entry.{Entry}

-- by item, then by number
abbrev pub compared : Entry → Entry → Ordering
compared e f = ordering_then (nat_cmp e.item.0 f.item.0) (nat_cmp e.number f.number)

abbrev pub stands_before : Entry → Entry → Bool
stands_before e f = is_lt (compared e f)

-- how many entries come before the one that is asked for
pub record IsPlaceOf (key : Entry) (entries : List Entry) (n : ℕ) : Type 0 where
  pub in_range : n ≤ length entries
  pub before : (k : ℕ) (d : Entry) → k < n → stands_before (get_or entries k d) key ≡ true
  pub from : (k : ℕ) (d : Entry) → n ≤ k → k < length entries → stands_before (get_or entries k d) key ≡ false

abbrev pub without_entry : Entry → List Entry → List Entry
without_entry key entries = filter (λ e. not (is_eq (compared e key))) entries

abbrev pub is_entry_on : ItemId → Entry → Bool
is_entry_on item e = e.item.0 == item.0

abbrev pub wait_entry : Wait → Entry
wait_entry w = record { item = w.item; number = w.id.0.number }

abbrev pub ask_entry : Live → Entry
ask_entry a = record { item = a.ask.item; number = a.ask.key.number }

abbrev pub index_of : {A : Type 0} → (A → Entry) → List A → List Entry
index_of entry xs = sorted stands_before (map entry xs)

-- by number

-- how many have lesser numbers
pub record IsPlaceBy {A : Type 0} (key : A → Key) (n : ℕ) (xs : List A) (p : ℕ) : Type 0 where
  pub in_range : p ≤ length xs
  pub before : (k : ℕ) (d : A) → k < p → (key (get_or xs k d)).number < n
  pub from : (k : ℕ) (d : A) → p ≤ k → k < length xs → n ≤ (key (get_or xs k d)).number

abbrev pub at_number : {A : Type 0} → (A → Key) → ℕ → List A → Option A
at_number key n xs = find (λ x. (key x).number == n) xs

-- the one of a key, or none where the one of its number is of another epoch
abbrev pub if_key : {A : Type 0} → (A → Key) → Key → Option A → Option A
if_key key k None = None
if_key key k (Some x) = cond (same_key (key x) k) (Some x) None

-- the one at a place is changed
abbrev pub SetsLive : ℕ → List Live → (Live → Live) → List Live → Type 0
SetsLive place old f new = (x : Live) × (x ≡ get_or old place x) × (new ≡ set old place (f x))

-- those of some entries
abbrev pub with_found : {A : Type 0} → Option A → List A → List A
with_found None xs = xs
with_found (Some x) xs = x ∷ xs

abbrev pub found_of : {A : Type 0} → (A → Key) → List A → List Entry → List A
found_of key xs [] = []
found_of key xs (e ∷ es) = with_found (at_number key e.number xs) (found_of key xs es)

-- waits as they are kept, and for how many more there is room

pub record KeptWaits : Type 0 where
  pub waits : List Wait
  pub room : ℕ

abbrev pub is_plain_wait : Wait → Bool
is_plain_wait w = not (is_dehydrate_wait w.kind)

pub record HoldsWaits (waits : List Wait) (entries : List Entry) (plain : ℕ) (line : Option ℕ) : Type 0 where
  pub rising : IsRising wait_key waits
  pub index : entries ≡ index_of wait_entry waits
  pub count : plain ≡ length (filter is_plain_wait waits)
  pub in_line : InLine line waits

-- asks as they are kept

pub record KeptAsks : Type 0 where
  pub asks : List Live
  pub room : ℕ

abbrev pub is_plain_ask : Live → Bool
is_plain_ask a = not (is_dehydrate a.ask.kind)

abbrev pub is_list_ask : Live → Bool
is_list_ask a = is_list a.ask.kind

-- a kept ask has the tick at which its time began
abbrev pub aged_at : ℕ → Live → Live
aged_at now a = record a { ticks = now - a.ticks }

abbrev pub brought_forward : ℕ → Live → Live
brought_forward base a = record a { ticks = a.ticks - base }

-- the time of the ask began from oldest up to now
abbrev pub BeganWithin : ℕ → ℕ → Live → Type 0
BeganWithin oldest now a = (oldest ≤ a.ticks) × (a.ticks ≤ now)

pub record HoldsAsks (asks : List Live) (entries : List Entry) (plain lists oldest now end : ℕ) : Type 0 where
  pub rising : IsRising ask_key asks
  pub index : entries ≡ index_of ask_entry asks
  pub count : plain ≡ length (filter is_plain_ask asks)
  pub list_count : lists ≡ length (filter is_list_ask asks)
  pub begun : AllByRecursion (BeganWithin oldest now) asks
  pub order : oldest ≤ now
  pub ends : AllByRecursion (EndsBy end) asks

-- the ask of the key is live, and on another item
abbrev pub is_far : ItemId → List Live → Option Key → Bool
is_far item asks None = false
is_far item asks (Some k) = says (λ a. not (a.ask.item.0 == item.0)) (live_of asks k)
