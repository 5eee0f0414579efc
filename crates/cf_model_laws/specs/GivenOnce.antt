-- Numbers that were given, and requests that come again.
use Rattle.std.specs.Prelude.{ℕ, List, [], length, Option, Some, None, ◌+◌, ◌∷◌, ◌≡◌, ◌<◌, ◌≤◌, ◌⊎◌}
use Rattle.cf_base.specs.declared.ids.Key.{Key}
use Rattle.cf_base.specs.declared.ids.Token.{Token}
use Rattle.cf_base.specs.declared.messages.Reply.{Reply}
use Rattle.cf_base.specs.declared.messages.Request.{Request}
use Rattle.cf_base.specs.declared.messages.Request.TheVariants as request
use Rattle.cf_model.specs.Numbers.{key_after}
use Rattle.cf_model.specs.State.{State}
use Rattle.cf_model.specs.Store.{Held, Recorded, Stored, as_recorded, remote_step}

-- what an epoch gives numbers to
pub data Numbered : Type 0 where
  Changes Asks Waits Handles Rounds Uploads : Numbered

-- how many numbers the epoch has given
abbrev pub count_of : Numbered → State → ℕ
count_of Changes s = s.filter.volume.place
count_of Asks s = s.filter.waiting.key_count
count_of Waits s = s.filter.waiting.wait_count
count_of Handles s = s.filter.handle_count
count_of Rounds s = s.volatile.rounds
count_of Uploads s = s.volatile.tokens

-- the number was given in this epoch or an earlier one
abbrev pub WasGiven : ℕ → ℕ → Key → Type 0
WasGiven epoch count k = (k.epoch < epoch) ⊎ ((k.epoch ≡ epoch) × (k.number ≤ count))

abbrev pub IsGiven : Numbered → State → Key → Type 0
IsGiven what s k = WasGiven s.filter.volume.epoch (count_of what s) k

-- the number that is given next
abbrev pub next_of : Numbered → State → Key
next_of what s = key_after s.filter.volume.epoch (count_of what s)

-- messages and the tokens of peers count over the whole run
abbrev pub messages_of : State → ℕ
messages_of s = length s.link.messages

-- the token under which a request changes the remote
abbrev pub token_of : Request → Option Token
token_of (request.Put token rid expect parent name bytes) = Some token
token_of (request.MakeDir token parent name) = Some token
token_of (request.Move token rid parent name) = Some token
token_of (request.Remove token rid expect) = Some token
token_of (request.Settle token) = Some token
token_of (request.Keep token count) = Some token
token_of _ = None

-- how many versions were ever made
abbrev pub versions_of : List Stored → ℕ
versions_of [] = 0
versions_of (s ∷ ss) = length s.versions + versions_of ss

abbrev pub versions_made : Held → ℕ
versions_made held = versions_of held.items

-- the request changes nothing, and is answered by the record of its token
abbrev pub IsAnsweredAgain : Held → Request → Token → Recorded → Type 0
IsAnsweredAgain held q token r = ◌≡◌ {A = Reply × Held} (remote_step held q) (as_recorded token r, held)
