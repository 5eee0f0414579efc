-- What no request takes from a remote.
use Rattle.std.specs.Prelude.{ℕ, List, [], Some, drop, length, take, ◌+◌, ◌∷◌, ◌≡◌}
use Rattle.cf_base.specs.declared.ids.Rid.{Rid}
use Rattle.cf_base.specs.declared.ids.Token.{Token}
use Rattle.cf_base.specs.declared.ids.Version.{Version}
use Rattle.cf_base.specs.declared.messages.Reply.{Reply}
use Rattle.cf_base.specs.declared.messages.Reply.TheVariants as reply
use Rattle.cf_model.specs.Store.{Held, Recorded, Stored, bytes_of, recorded_at}

-- each version that was made has its bytes still, and each token its record
pub record Extends (old new : Held) : Type 0 where
  pub versions : (rid : Rid) (version : Version) (bytes : List ℕ) → bytes_of old rid version ≡ Some bytes → bytes_of new rid version ≡ Some bytes
  pub tokens : (token : Token) (r : Recorded) → recorded_at old.tokens token ≡ Some r → recorded_at new.tokens token ≡ Some r

-- the rids are the numbers from n on, in order
abbrev pub CountsFrom : ℕ → List Stored → Type 0
CountsFrom n [] = Unit {0}
CountsFrom n (s ∷ ss) = (s.rid.0 ≡ n) × CountsFrom (n + 1) ss

-- rids are given in order, from 1 for the root
abbrev pub IsCounted : Held → Type 0
IsCounted held = CountsFrom 1 held.items

-- where the reply is Done, the version that it names has these bytes
abbrev pub NamesBytes : Held → List ℕ → Reply → Type 0
NamesBytes held bytes (reply.Done token rid version) = bytes_of held rid version ≡ Some bytes
NamesBytes held bytes _ = Unit {0}

-- the bytes of a reply stand at their place in these
abbrev pub AreOf : List ℕ → Reply → Type 0
AreOf base (reply.Bytes key start bytes) = take (length bytes) (drop start base) ≡ bytes
AreOf base _ = Unit {0}
