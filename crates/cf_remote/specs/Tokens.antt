-- What became of the tokens, and where that stands.
use Rattle.std.specs.Prelude.{◌≡◌, ℕ, List, Option, Some, None, map, reverse, slice_get}
use Rattle.std.specs.BTreeMap.{BTreeMap, get}
use Rattle.std.specs.declared.cmp.Ordering.{Ordering}
use Rattle.std.specs.Ordering.{nat_cmp, ordering_then}
use Rattle.cf_base.specs.declared.ids.Token.{Token}
use Rattle.cf_model.specs.Store.{Recorded, RecordedDone, RecordedVoid, recorded_at}
use Rattle.cf_remote.specs.declared.outcomes.Outcome.{Outcome}
use Rattle.cf_remote.specs.declared.outcomes.Outcome.TheVariants as outcome
use Rattle.cf_remote.specs.declared.outcomes.TokenRecord.{TokenRecord}

abbrev pub recorded_of : Outcome → Recorded
recorded_of (outcome.Done rid version) = RecordedDone rid version
recorded_of outcome.Void = RecordedVoid

abbrev pub token_of : TokenRecord → Token × Recorded
token_of r = (r.token, recorded_of r.outcome)

-- the records, which stand in the order in which they were made, as the definitions have them: the latest first
abbrev pub tokens_of : List TokenRecord → List (Token × Recorded)
tokens_of records = reverse (map token_of records)

abbrev pub token_order : Token → Token → Ordering
token_order a b = ordering_then (nat_cmp a.0.epoch b.0.epoch) (nat_cmp a.0.number b.0.number)

-- what the place that is kept of a token says
abbrev pub IsPlaceOf : List TokenRecord → Token → Option ℕ → Type 0
IsPlaceOf records token None = recorded_at (tokens_of records) token ≡ None
IsPlaceOf records token (Some place) = (r : TokenRecord) × (slice_get records place ≡ Some r) × (recorded_at (tokens_of records) token ≡ Some (recorded_of r.outcome))

-- each token's place is kept
abbrev pub AreKept : List TokenRecord → BTreeMap Token ℕ → Type 0
AreKept records places = (token : Token) → IsPlaceOf records token (get token_order places token)
