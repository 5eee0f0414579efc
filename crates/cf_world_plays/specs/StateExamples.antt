-- A file of which two runs are here, for a worked line.
use Rattle.std.specs.Prelude.{false, true, [], ◌∷◌, None, Some, codes}
use Rattle.cf_base.specs.declared.items.Pin.TheVariants as pin
use Rattle.cf_model.specs.Items.{Item}

abbrev pub two_runs : Item
two_runs = record {
  id = record { 0 = 12 };
  parent = record { 0 = 1 };
  name = codes "a b%";
  directory = false;
  placeholder = true;
  identity = 10 ∷ 255 ∷ [];
  base = Some 5;
  pin = pin.Pinned;
  in_sync = true;
  populated = false;
  number = record { epoch = 3; place = 40 };
  keep = false;
  writes = [];
  held = Some 97 ∷ Some 98 ∷ None ∷ None ∷ Some 99 ∷ [];
  valid = false ∷ false ∷ false ∷ false ∷ false ∷ [];
}
