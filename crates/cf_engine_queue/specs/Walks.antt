-- A walk over records in order of key.
use Rattle.std.specs.Prelude.{◌≡◌, ℕ, cond, List, [], ◌∷◌, ◌++◌, Option, None, Some}
use Rattle.cf_base.specs.declared.answers.AuxRecord.{AuxRecord}
use Rattle.cf_model.specs.Words.{same}
use Rattle.cf_volume_image.specs.Spelled.{AreRecordsFrom}

-- the first record, where it has the key
abbrev pub first_at : List ℕ → List AuxRecord → Option AuxRecord
first_at key [] = None
first_at key (r ∷ rs) = cond (same r.key key) (Some r) None

-- These are the last ones of all records, whose keys rise.
pub record IsWalk (ahead all : List AuxRecord) : Type 0 where
  pub past : List AuxRecord
  pub is : all ≡ past ++ ahead
  pub rise : AreRecordsFrom None all
