-- What a look-up of the definitions comes to where items are told by their ids.
use Rattle.std.specs.Prelude.{ℕ, List, Option, Some, None, Result, Ok, Err, ◌≡◌}
use Rattle.cf_base.specs.declared.codes.Code.{Code}
use Rattle.cf_base.specs.declared.codes.CallError.{CallError}
use Rattle.cf_base.specs.declared.codes.CallError.TheVariants as fail
use Rattle.cf_base.specs.declared.ids.ItemId.{ItemId}
use Rattle.cf_model.specs.Items.{Item}
use Rattle.cf_model.specs.LookUp.{Place}

-- the id of the item that is found
abbrev pub found : Result Item Code → Result ItemId Code
found (Ok i) = Ok i.id
found (Err c) = Err c

-- the directory and the name that are found
abbrev pub placed : Result Place Code → Result (ItemId × List ℕ) Code
placed (Ok p) = Ok (p.parent.id, p.name)
placed (Err c) = Err c

-- the answer is the one that is meant, or there was no memory
abbrev pub IsAnswer : {X : Type 0} → Result X CallError → Result X Code → Type 0
IsAnswer (Ok x) meant = meant ≡ Ok x
IsAnswer (Err (fail.No c)) meant = meant ≡ Err c
IsAnswer (Err fail.OutOfMemory) meant = Unit {0}

-- the answer is the refusal that is meant, or none where none is, or there was no memory
abbrev pub IsChecked : Result (Unit {0}) CallError → Option Code → Type 0
IsChecked (Ok done) refused = refused ≡ None
IsChecked (Err (fail.No c)) refused = refused ≡ Some c
IsChecked (Err fail.OutOfMemory) refused = Unit {0}
