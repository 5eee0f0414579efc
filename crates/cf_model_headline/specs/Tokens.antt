-- What the tokens of uploads make.
use Rattle.std.specs.Prelude.{List, Some, ◌≡◌, ◌⊎◌, ℕ}
use Rattle.cf_base.specs.declared.ids.Rid.{Rid}
use Rattle.cf_base.specs.declared.ids.Token.{Token}
use Rattle.cf_base.specs.declared.ids.Version.{Version}
use Rattle.cf_model.specs.Store.{Held, RecordedDone, bytes_of, recorded_at}

-- the remote has on record that a request with this token was done, and left this version of this item
abbrev pub WasDone : Held → Token → Rid → Version → Type 0
WasDone held token rid version = recorded_at held.tokens token ≡ Some (RecordedDone rid version)

-- Each version of the remote that was not there at first has a token by which it was made, and no token has two: so each token
-- makes at most one version.
pub record OneVersionEach (first last : Held) : Type 0 where
  pub made : (rid : Rid) (version : Version) (bytes : List ℕ) → bytes_of last rid version ≡ Some bytes → (bytes_of first rid version ≡ Some bytes) ⊎ ((token : Token) × WasDone last token rid version)
  pub one : (token : Token) (rid other : Rid) (version next : Version) → WasDone last token rid version → WasDone last token other next → (rid ≡ other) × (version ≡ next)
