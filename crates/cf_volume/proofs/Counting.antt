-- A count of 64 bits, which stays at its greatest.
use Rattle.std.proofs.Common.{◌≡◌, ℕ, ◌+◌, min, arith}
use Rattle.cf_volume_points.specs.Holding.{CountsMore}

pub counted : (old added more new : ℕ) → added ≡ more → new ≡ min (old + added) 18446744073709551615 → CountsMore old more new
counted old added more new same is = record { most = omega (arith, same, is); exact = λ small. omega (arith, same, is, small) }
