-- The computed digits are std's.
use Rattle.std.specs.Prelude.{◌≡◌, ℕ, refl}
use Rattle.std.specs.Prelude as std
use Rattle.std.specs.Fmt.{digits}
use Rattle.cf_model.specs.Words.{decimal}

pub decimal_is : (n : ℕ) → decimal n ≡ std.decimal n
unfolding digits
decimal_is n = refl
