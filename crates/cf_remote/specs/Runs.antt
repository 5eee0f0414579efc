-- Any asks of a remote, one after the other.
use Rattle.std.specs.Prelude.{◌≡◌, List, [], ◌∷◌, Option, Some, Result}
use Rattle.cf_base.specs.declared.ids.Token.{Token}
use Rattle.cf_base.specs.declared.messages.Reply.{Reply}
use Rattle.cf_base.specs.declared.messages.Request.{Request}
use Rattle.cf_base.specs.declared.messages.Request.TheVariants as request
use Rattle.cf_model.specs.Growth.{Extends}
use Rattle.cf_model.specs.Store.{Held}
use Rattle.cf_remote.specs.Told.{Asks, Told}
use Rattle.cf_remote.specs.declared.ask_errors.AskError.{AskError}

-- each ask with its result
abbrev pub Runs : Told → List (Request × Result Reply AskError) → Told → Type 0
Runs old [] new = new ≡ old
Runs old (a ∷ as') new = (mid : Told) × Asks a.0 old a.1 mid × Runs mid as' new

-- what is held now has all versions and all records of tokens that were held before
abbrev pub HoldsMore : Held → Option Held → Type 0
HoldsMore old new = (held : Held) × (new ≡ Some held) × Extends old held

-- the request has the token
abbrev pub HasToken : Request → Token → Type 0
HasToken (request.Put token rid expect parent name bytes) t = token ≡ t
HasToken (request.MakeDir token parent name) t = token ≡ t
HasToken (request.Move token rid parent name) t = token ≡ t
HasToken (request.Remove token rid expect) t = token ≡ t
HasToken (request.Settle token) t = token ≡ t
HasToken (request.Keep token count) t = token ≡ t
HasToken _ t = ⊥
