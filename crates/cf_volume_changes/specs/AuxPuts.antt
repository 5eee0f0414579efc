-- Auxiliary records put and taken out.
use Rattle.std.specs.Prelude.{◌≡◌, ℕ, true, false, Option, None, Some, Result, Ok, Err}
use Rattle.cf_base.specs.declared.answers.AuxRecord.{AuxRecord}
use Rattle.cf_base.specs.declared.codes.Code.TheVariants.{TableFull}
use Rattle.cf_base.specs.declared.codes.CallError.{CallError}
use Rattle.cf_base.specs.declared.codes.CallError.TheVariants.{OutOfMemory, No}
use Rattle.cf_model.specs.Books.{Book}
use Rattle.cf_model.specs.Images.{aux_len, table_full}
use Rattle.cf_model.specs.State.{Volume}
use Rattle.cf_volume_points.specs.Known.{Known}

-- how many bytes spell a record, and 0 where there is none
abbrev pub len_if : Option AuxRecord → ℕ
len_if None = 0
len_if (Some r) = aux_len r

-- a record is not put where the table would be full
abbrev pub IsAuxPut : Volume → Book → Result (Unit {0}) CallError → Type 0
IsAuxPut v b (Ok n) = table_full v.items b ≡ false
IsAuxPut v b (Err OutOfMemory) = Unit {0}
IsAuxPut v b (Err (No code)) = table_full v.items b ≡ true

-- then it is refused as that, and nothing is done
abbrev pub IsAuxKept : Known → Result (Unit {0}) CallError → Known → Type 0
IsAuxKept old (Ok n) new = Unit {0}
IsAuxKept old (Err OutOfMemory) new = Unit {0}
IsAuxKept old (Err (No code)) new = (code ≡ TableFull) × (new ≡ old)
