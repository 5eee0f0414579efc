-- Auxiliary records by their keys.
use Rattle.std.specs.Prelude.{◌≡◌, ℕ, Bool, true, List, [], ◌∷◌, Option, find, nat_lt}
use Rattle.std.specs.List.{AllByRecursion}
use Rattle.cf_base.specs.declared.answers.AuxRecord.{AuxRecord}
use Rattle.cf_model.specs.Words.{comes_before, same}

-- each record's key comes before those of all after it
abbrev pub AreByKey : List AuxRecord → Type 0
AreByKey [] = Unit {0}
AreByKey (r ∷ rs) = AllByRecursion (λ x. comes_before r.key x.key ≡ true) rs × AreByKey rs

-- the record with the key
abbrev pub record_at : List ℕ → List AuxRecord → Option AuxRecord
record_at key rs = find (λ r. same r.key key) rs

-- the first byte of a key says of which kind the record is

abbrev pub begins_below : ℕ → List ℕ → Bool
begins_below kind [] = true
begins_below kind (k ∷ ks) = nat_lt k kind

-- the record is of a kind below this one
abbrev pub is_kind_below : ℕ → AuxRecord → Bool
is_kind_below kind r = begins_below kind r.key
