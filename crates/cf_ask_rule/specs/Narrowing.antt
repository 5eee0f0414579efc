-- A view that lacks less than an earlier one, and what a step then looks at.
use Rattle.std.specs.Prelude.{◌≡◌, ℕ, Bool, true, false, not, cond, List, [], ◌∷◌, Option, None, Some, filter, length, max, min, nat_lt, ◌+◌, ◌*◌, ◌/◌, ◌^◌, ◌≤◌, ◌<◌, ◌&&◌, ◌==◌}
use Rattle.std.specs.List.{AllByRecursion, list_any}
use Rattle.cf_base.specs.declared.ids.ItemId.{ItemId}
use Rattle.cf_base.specs.declared.ids.Key.{Key}
use Rattle.cf_base.specs.declared.spans.Span.{Span}
use Rattle.cf_base.specs.declared.waits.Cause.{Cause}
use Rattle.cf_model.specs.Asks.{ended_of, misses_in, or_met}
use Rattle.cf_model.specs.Missing.{View, Wait, is_met, needed}
use Rattle.cf_model.specs.Numbers.{same_key}
use Rattle.cf_model.specs.Requests.{Deed, Expires, Leaves, Live, has_block, is_data, is_dehydrate_wait, live_of}
use Rattle.cf_model.specs.Words.{is_empty}
use Rattle.cf_ranges.specs.Positions.{contains, within}
use Rattle.cf_ask_rule.specs.Deeds.{cause_for}
use Rattle.cf_ask_rule.specs.Near.{IsFull}
use Rattle.cf_ask_rule.specs.Nexts.{lacks_at}
use Rattle.cf_ask_rule.specs.Owners.{AreApart}
use Rattle.cf_ask_rule.specs.Plans.{plan_of}
use Rattle.cf_ask_rule.specs.Settled.{IsSettled}

-- some position of the span lies from start up to end
abbrev pub reaches_into : Span → ℕ → ℕ → Bool
reaches_into s start end = nat_lt (max s.start start) (min (s.start + s.len) end)

-- The later runs have no position that the earlier ones lack, and outside of the span the same.
pub record IsCut (old new : List Span) (start end : ℕ) : Type 0 where
  pub less : (p : ℕ) → contains new p ≡ true → contains old p ≡ true
  pub same : (p : ℕ) → p < 2 ^ 32 → within start end p ≡ false → contains old p ≡ true → contains new p ≡ true

-- The later view lacks no position that the earlier one did not lack, and outside of the span the same. Else they show the
-- same, but for the base.
pub record Narrows (u v : View) (start end : ℕ) : Type 0 where
  pub size : length v.lacks ≡ length u.lacks
  pub whole : v.whole ≡ u.whole
  pub populated : v.populated ≡ u.populated
  pub less : (p : ℕ) → lacks_at v p ≡ true → lacks_at u p ≡ true
  pub same : (p : ℕ) → within start end p ≡ false → lacks_at u p ≡ true → lacks_at v p ≡ true

-- why a wait ends, where one that needs nothing of the span stays unmet
abbrev pub why_near : ItemId → View → Deed → Option Live → ℕ → ℕ → Wait → Option Cause
why_near item v d ask start end w = cond (w.item.0 == item.0) (or_met (cause_for d v ask w) (reaches_into (needed v w) start end && is_met v w)) None

-- Of the waits, these are all on the item that need something from start up to end: where no other ends, a look at these
-- finds what a look at all finds.
abbrev pub AreNear : ItemId → View → ℕ → ℕ → List Wait → List Wait → Type 0
AreNear item v start end near waits = (f : Wait → Option Cause) → ((w : Wait) → ((w.item.0 == item.0) && reaches_into (needed v w) start end) ≡ false → f w ≡ None) → ended_of f near ≡ ended_of f waits

-- The positions below 2^32 of the blocks of the ask, if there is one, lie from start up to end.
abbrev pub IsAround : ℕ → ℕ → Option Live → Type 0
IsAround start end None = Unit {0}
IsAround start end (Some a) = AllByRecursion (λ b. (start ≤ 4096 * b) × (min (4096 * b + 4096) (2 ^ 32) ≤ end)) a.owned

-- the ask, if there is one
abbrev pub those : Option Live → List Live
those None = []
those (Some a) = a ∷ []

-- What the wait needs below 2^32 lies from start up to end.
abbrev pub IsWithin : View → ℕ → ℕ → Wait → Type 0
IsWithin v start end w = (start ≤ (needed v w).start) × (min ((needed v w).start + (needed v w).len) (2 ^ 32) ≤ end)

-- an ask of the item that is not of the key has a block with a position below 2^32 from start up to end
abbrev pub is_touched : ItemId → Key → ℕ → ℕ → Live → Bool
is_touched item key start end a = (a.ask.item.0 == item.0) && not (same_key a.ask.key key) && list_any (within (start / 4096) ((min end (2 ^ 32) + 4095) / 4096)) a.owned

-- The asks are the same but for their ticks.
abbrev pub AreAlike : List Live → List Live → Type 0
AreAlike [] [] = Unit {0}
AreAlike [] (y ∷ ys) = ⊥
AreAlike (x ∷ xs) [] = ⊥
AreAlike (x ∷ xs) (y ∷ ys) = (y.ask ≡ x.ask) × (y.owned ≡ x.owned) × (y.wait ≡ x.wait) × AreAlike xs ys

-- Nothing was left to do for the item by an earlier view, and it is a file that no dehydration waits for; each ask is a data
-- ask that has a block; no other ask has the key; and no block has two owners.
pub record MayPlan (item : ItemId) (u : View) (key : Key) (waits : List Wait) (asks : List Live) : Type 0 where
  pub settled : IsSettled item u waits asks
  pub data_asks : AllByRecursion (λ a. is_data a.ask.kind ≡ true) asks
  pub plain : AllByRecursion (λ w. is_dehydrate_wait w.kind ≡ false) waits
  pub full : AllByRecursion IsFull asks
  pub unique : AllByRecursion (λ a. same_key a.ask.key key ≡ true → live_of asks key ≡ Some a) asks
  pub once : filter (λ a. same_key a.ask.key key) asks ≡ those (live_of asks key)
  pub apart : AreApart item asks

-- the ask without blocks, where it keeps others; its time begins anew
abbrev pub kept_without : List ℕ → Live → Option Live
kept_without blocks a = cond (is_empty (filter (λ b. not (has_block blocks b)) a.owned)) None (Some (record a { owned = filter (λ b. not (has_block blocks b)) a.owned; ticks = 0 }))

-- one of the waits on the item misses a byte in the blocks of the ask, if there is one
abbrev pub is_awaited : ItemId → View → List Wait → Option Live → Bool
is_awaited item v waits None = true
is_awaited item v waits (Some a) = list_any (λ w. (w.item.0 == item.0) && misses_in v a.owned w) waits

-- These waits end as blocks leave the ask of the key, which is kept so where it keeps blocks, and no other ask changes.
pub record PlansLeave (item : ItemId) (v : View) (key : Key) (blocks : List ℕ) (waits : List Wait) (asks : List Live) (ended : List (Wait × Cause)) (kept : Option Live) : Type 0 where
  pub ends : (plan_of item v (Leaves key blocks) waits asks).ended ≡ ended
  pub cancels : (plan_of item v (Leaves key blocks) waits asks).cancelled ≡ []
  pub keeps : live_of (plan_of item v (Leaves key blocks) waits asks).kept key ≡ kept
  pub makes : (plan_of item v (Leaves key blocks) waits asks).made ≡ []

-- These waits end as the ask of the key ends by time, and no other ask changes.
pub record PlansExpiry (item : ItemId) (v : View) (key : Key) (waits : List Wait) (asks : List Live) (ended : List (Wait × Cause)) (cancelled : List Key) : Type 0 where
  pub ends : (plan_of item v (Expires key) waits asks).ended ≡ ended
  pub cancels : (plan_of item v (Expires key) waits asks).cancelled ≡ cancelled
  pub makes : (plan_of item v (Expires key) waits asks).made ≡ []
