-- What is put in parts.
use Rattle.std.proofs.Common.{◌≡◌, ℕ, List, ◌++◌}
use Rattle.cf_table.proofs.Fields.{joined}

pub four_joined : (o a b c d p q r s : List ℕ) → a ≡ o ++ p → b ≡ a ++ q → c ≡ b ++ r → d ≡ c ++ s → d ≡ o ++ (p ++ q ++ r ++ s)
four_joined o a b c d p q r s i j k l = joined o c d (p ++ q ++ r) s (joined o b c (p ++ q) r (joined o a b p q i j) k) l
