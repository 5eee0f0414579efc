-- The blocks of a file that are owned, and the claims on them.
use Rattle.std.specs.Prelude.{◌≡◌, ℕ, zero, suc, ◌+◌, ◌==◌, Bool, true, false, ◌&&◌, ◌||◌, not, List, [], ◌∷◌}
use Rattle.std.specs.List.{list_any}
use Rattle.cf_base.specs.declared.ids.Key.{Key}
use Rattle.cf_base.specs.declared.spans.Span.{Span}
use Rattle.cf_ranges.specs.Positions.{in_span}

-- n numbers from i on
abbrev pub counting : ℕ → ℕ → List ℕ
counting i zero = []
counting i (suc n) = i ∷ counting (i + 1) n

abbrev pub is_owned : List ℕ → ℕ → Bool
is_owned owned b = list_any (λ c. c == b) owned

-- some block of the span is owned
abbrev pub overlaps : List ℕ → Span → Bool
overlaps owned blocks = list_any (in_span blocks) owned

-- new has just the blocks of old and those of the span
abbrev pub TakesBlocks : List ℕ → List ℕ → Span → Type 0
TakesBlocks old new blocks = (b : ℕ) → is_owned new b ≡ (is_owned old b || in_span blocks b)

-- new has just the blocks of old that are not in the span
abbrev pub GivesBack : List ℕ → List ℕ → Span → Type 0
GivesBack old new blocks = (b : ℕ) → is_owned new b ≡ (is_owned old b && not (in_span blocks b))

-- each block of the span is owned
abbrev pub OwnsAll : List ℕ → Span → Type 0
OwnsAll owned blocks = (b : ℕ) → in_span blocks b ≡ true → is_owned owned b ≡ true

abbrev pub Disjoint : Span → Span → Type 0
Disjoint s t = (b : ℕ) → in_span s b ≡ true → in_span t b ≡ false

abbrev pub ApartFrom : Span → List (Key × Span) → Type 0
ApartFrom s [] = Unit {0}
ApartFrom s (c ∷ cs) = Disjoint s c.1 × ApartFrom s cs

-- each claim's blocks are owned, and no two claims share one
abbrev pub AreClaims : List ℕ → List (Key × Span) → Type 0
AreClaims owned [] = Unit {0}
AreClaims owned (c ∷ cs) = OwnsAll owned c.1 × ApartFrom c.1 cs × AreClaims owned cs
