-- What a change that fits a row needs of it.
use Rattle.std.proofs.Common.{◌≡◌, true, refl, arith}
use Rattle.cf_base.specs.declared.changes.Change.{Change}
use Rattle.cf_base.specs.declared.changes.Change.TheVariants as change
use Rattle.cf_volume_blocks.specs.Bytes.{HasEnd}
use Rattle.cf_table.specs.Applied.{FitsRow}
use Rattle.cf_table.specs.Changing.{stays}
use Rattle.cf_table.specs.declared.rows.Row.{Row}

pub fits_end : (c : Change) (r : Row) → FitsRow c r → HasEnd c
fits_end (change.Make item parent name kind size identity) r f = absurd f
fits_end (change.Remove item) r f = absurd f
fits_end (change.Move item parent name) r f = tt
fits_end (change.Write item at bytes) r f = omega (arith, f)
fits_end (change.Size item size) r f = omega (arith, f)
fits_end (change.Filled item start bytes) r f = f
fits_end (change.Validated item start len) r f = tt
fits_end (change.Emptied item start len) r f = tt
fits_end (change.SetPin item state) r f = tt
fits_end (change.Mark item at) r f = tt
fits_end (change.Clear item) r f = tt
fits_end (change.Convert item identity) r f = tt
fits_end (change.Revert item) r f = tt
fits_end (change.Rebase item identity len at) r f = tt
fits_end (change.Take item identity size) r f = tt
fits_end (change.Copy item from parent name) r f = absurd f
fits_end (change.Populated item) r f = tt
fits_end (change.Keep item on) r f = tt

-- it is of an item that stays
pub fits_stays : (c : Change) (r : Row) → FitsRow c r → stays c ≡ true
fits_stays (change.Make item parent name kind size identity) r f = absurd f
fits_stays (change.Remove item) r f = absurd f
fits_stays (change.Move item parent name) r f = refl
fits_stays (change.Write item at bytes) r f = refl
fits_stays (change.Size item size) r f = refl
fits_stays (change.Filled item start bytes) r f = refl
fits_stays (change.Validated item start len) r f = refl
fits_stays (change.Emptied item start len) r f = refl
fits_stays (change.SetPin item state) r f = refl
fits_stays (change.Mark item at) r f = refl
fits_stays (change.Clear item) r f = refl
fits_stays (change.Convert item identity) r f = refl
fits_stays (change.Revert item) r f = refl
fits_stays (change.Rebase item identity len at) r f = refl
fits_stays (change.Take item identity size) r f = refl
fits_stays (change.Copy item from parent name) r f = absurd f
fits_stays (change.Populated item) r f = refl
fits_stays (change.Keep item on) r f = refl
