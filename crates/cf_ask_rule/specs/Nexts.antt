-- The next number of which a test holds.
use Rattle.std.specs.Prelude.{◌≡◌, ℕ, ◌<◌, ◌≤◌, Bool, true, false, Option, Some, None, ◌&&◌, ◌==◌, List, get_or, length, max, min, ◌-◌, ◌+◌, ◌*◌, ◌/◌, ◌^◌}
use Rattle.std.specs.List.{list_any}
use Rattle.cf_base.specs.declared.ids.ItemId.{ItemId}
use Rattle.cf_base.specs.declared.spans.Span.{Span}
use Rattle.cf_model.specs.Missing.{View, Wait, needed}
use Rattle.cf_model.specs.Words.{passes_at}
use Rattle.cf_ranges.specs.Positions.{contains, in_span}

-- the first from a number on, or that there is none
abbrev pub IsNext : (ℕ → Bool) → ℕ → Option ℕ → Type 0
IsNext f from (Some n) = (from ≤ n) × (f n ≡ true) × ((p : ℕ) → from ≤ p → p < n → f p ≡ false)
IsNext f from None = (p : ℕ) → from ≤ p → f p ≡ false

-- The first run that ends beyond a number, or that there is none.
abbrev pub IsFirstRun : List Span → ℕ → Option Span → Type 0
IsFirstRun runs from (Some r) = (from < r.start + r.len) × (r.start + r.len ≤ 2 ^ 40) × IsNext (contains runs) from (Some (max r.start from)) × ((p : ℕ) → r.start ≤ p → p < r.start + r.len → contains runs p ≡ true)
IsFirstRun runs from None = IsNext (contains runs) from None

-- So many runs end by a number, and the others beyond it.
pub record IsPlaceBeyond (from : ℕ) (runs : List Span) (place : ℕ) : Type 0 where
  pub in_range : place ≤ length runs
  pub by : (k : ℕ) (d : Span) → k < place → (get_or runs k d).start + (get_or runs k d).len ≤ from
  pub beyond : (k : ℕ) (d : Span) → place ≤ k → k < length runs → from < (get_or runs k d).start + (get_or runs k d).len

-- From a number on up to the end the runs have all positions; it is the number itself where they have not that one.
pub record IsEnd (runs : List Span) (at end : ℕ) : Type 0 where
  pub from : at ≤ end
  pub all : (p : ℕ) → at ≤ p → p < end → contains runs p ≡ true
  pub none : end ≡ at → contains runs at ≡ false
  pub small : at < end → end ≤ 2 ^ 40

-- the position is missing where it is needed
abbrev pub lacks_at : View → ℕ → Bool
lacks_at v p = passes_at (λ b. b) v.lacks p

-- what of a span lies below a size
abbrev pub cut : ℕ → Span → Span
cut size s = record { start = min s.start size; len = min s.len (size - min s.start size) }

-- a wait on the item needs the position
abbrev pub is_needed : ItemId → View → List Wait → ℕ → Bool
is_needed item v ws p = list_any (λ w. (w.item.0 == item.0) && in_span (needed v w) p) ws

-- A block is wanted where it has a position that lacks and is needed.
pub record Wants (v : View) (needs : List Span) (w : ℕ → Bool) : Type 0 where
  pub hit : (p : ℕ) → lacks_at v p ≡ true → contains needs p ≡ true → w (p / 4096) ≡ true
  pub miss : (b : ℕ) → ((p : ℕ) → 4096 * b ≤ p → p < 4096 * b + 4096 → (lacks_at v p && contains needs p) ≡ false) → w b ≡ false
