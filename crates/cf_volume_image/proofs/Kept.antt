-- Kept records are short.
use Rattle.std.proofs.Common.{◌≡◌, ℕ, List, [], ◌∷◌, Option, Some, None, subst}
use Rattle.std.specs.Prelude.{All}
use Rattle.std.proofs.lemmas.List.Elements.{All-cons, All-head, All-nil, All-tail}
use Rattle.cf_base.specs.declared.answers.AuxRecord.{AuxRecord}
use Rattle.cf_volume_image.specs.RecordLists.{IsShort}
use Rattle.cf_volume_image.specs.Spelled.{AreRecordsFrom}

all_short_from : (before : Option (List ℕ)) (rs : List AuxRecord) → AreRecordsFrom before rs → All IsShort rs
all_short_from before [] h = All-nil IsShort
all_short_from before (r ∷ rs) h = All-cons IsShort r rs (h.0.0.0, h.0.1) (all_short_from (Some r.key) rs h.1)

pub all_short : (rs : List AuxRecord) → AreRecordsFrom None rs → All IsShort rs
all_short rs h = all_short_from None rs h

-- the first of short records, and the rest

pub first_short : (left rest : List AuxRecord) (r : AuxRecord) → left ≡ r ∷ rest → All IsShort left → IsShort r
first_short left rest r is all = All-head IsShort r rest (subst (λ (l : List AuxRecord). All IsShort l) is all)

pub rest_short : (left rest : List AuxRecord) (r : AuxRecord) → left ≡ r ∷ rest → All IsShort left → All IsShort rest
rest_short left rest r is all = All-tail IsShort r rest (subst (λ (l : List AuxRecord). All IsShort l) is all)
