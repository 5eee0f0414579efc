-- What is looked at before a call leads to what the call asks for.
use Rattle.std.proofs.Common.{◌≡◌, ℕ, ◌+◌, ◌<◌, ◌≤◌, Bool, true, false, not, ◌&&◌, List, [], ◌∷◌, length, refl, sym, ap, ◌∙◌}
use Rattle.std.proofs.lemmas.Bool.{and_parts, ltb-true}
use Rattle.std.proofs.lemmas.List.Elements.{All-cons, All-nil}
use Rattle.std.specs.List.{list_all}
use Rattle.std.specs.Prelude.{All, nat_lt}
use Rattle.cf_base.specs.declared.changes.Change.{Change}
use Rattle.cf_base.specs.declared.changes.Change.TheVariants as change
use Rattle.cf_base.specs.declared.ids.ItemId.{ItemId}
use Rattle.cf_base.specs.declared.items.Pin.{Pin}
use Rattle.cf_base.specs.declared.limits.TheConstants.{MOST_FILE_BYTES}
use Rattle.cf_base.specs.declared.spans.Span.{Span}
use Rattle.cf_volume_image.proofs.SetTests.{inside}
use Rattle.cf_ranges.specs.Positions.{IsMissing, contains, in_span}
use Rattle.cf_table.specs.Applied.{FitsRow}
use Rattle.cf_table.specs.Changing.{Fits, FitsRows, item_of_change}
use Rattle.cf_table.specs.declared.rows.Row.{Row}

-- each id is below
pub all_below : (n : ℕ) (rs : List Row) → list_all (λ r. nat_lt r.id.0 n) rs ≡ true → All (λ r. r.id.0 < n) rs
all_below n [] e = All-nil (λ r. r.id.0 < n)
all_below n (r ∷ rs) e = All-cons (λ r. r.id.0 < n) r rs (ltb-true r.id.0 n (and_parts _ (list_all (λ r. nat_lt r.id.0 n) rs) e).0) (all_below n rs (and_parts (nat_lt r.id.0 n) _ e).1)

not_missing : (b c : Bool) → b ≡ true → false ≡ (b && not c) → c ≡ true
not_missing true true h e = refl
not_missing true false h e = e
not_missing false true h e = refl
not_missing false false h e = h

-- where no place of the span is missing, each is there
pub here_all : (runs : List Span) (s : Span) (gaps : List Span) → IsMissing runs s gaps → gaps ≡ [] → (p : ℕ) → s.start ≤ p → p < s.start + s.len → contains runs p ≡ true
here_all runs s gaps missing none p from to = not_missing (in_span s p) (contains runs p) (inside s.start (s.start + s.len) p from to) (sym (ap (λ g. contains g p) none) ∙ missing p)

-- a change that fits each row fits the rows
fits_rows : (c : Change) → ((r : Row) → FitsRow c r) → (rs : List Row) → FitsRows c rs
fits_rows c f [] = All-nil (λ r. r.id.0 ≡ (item_of_change c).0 → FitsRow c r)
fits_rows c f (r ∷ rs) = All-cons (λ r. r.id.0 ≡ (item_of_change c).0 → FitsRow c r) r rs (λ e. f r) (fits_rows c f rs)

-- a write up to the most bytes of a file fits any rows
pub fits_write : (item : ItemId) (at : ℕ) (bytes : List ℕ) (rs : List Row) → at + length bytes ≤ MOST_FILE_BYTES → Fits (change.Write item at bytes) rs
fits_write item at bytes rs h = fits_rows (change.Write item at bytes) (λ r. h) rs

-- and so does a pin
pub fits_pin : (item : ItemId) (state : Pin) (rs : List Row) → Fits (change.SetPin item state) rs
fits_pin item state rs = fits_rows (change.SetPin item state) (λ r. record {}) rs
