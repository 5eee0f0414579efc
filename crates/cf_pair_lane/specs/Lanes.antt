-- What a device sees of the remote through its lane, and what an ask through it is.
use Rattle.std.specs.Prelude.{◌≡◌, ◌+◌, ℕ, Bool, true, nat_lt, Option, Some, None, option_map, Result, Ok, Err}
use Rattle.cf_base.specs.declared.ids.Token.{Token}
use Rattle.cf_base.specs.declared.messages.Reply.{Reply}
use Rattle.cf_base.specs.declared.messages.Request.{Request}
use Rattle.cf_base.specs.declared.messages.Request.TheVariants as request
use Rattle.cf_model.specs.Words.{part}
use Rattle.cf_pair_model.specs.Seen.{held_seen, reply_seen, request_sent}
use Rattle.cf_pair_model.specs.declared.devices.Device.{Device}
use Rattle.cf_pair_model.specs.declared.limits.TheConstants.{LANE_EPOCHS}
use Rattle.cf_remote.specs.Told.{Answers, Faults, Told}
use Rattle.cf_remote.specs.declared.ask_errors.AskError.{AskError}
use Rattle.cf_remote.specs.declared.ask_errors.AskError.TheVariants as ask

-- the remote, whose lane it is, and how many requests did not come to the remote
pub record Laned (R : Type 0) : Type 0 where
  pub inner : R
  pub device : Device
  pub faults : ℕ

-- what the remote holds, as the device sees it, and how often an ask failed at the remote or in the lane
abbrev pub told_by : {R : Type 0} → (R → Told) → Laned R → Told
told_by told l = record { held = option_map (held_seen l.device) (told l.inner).held; asks = None; fails = None; faults = (told l.inner).faults + l.faults }

abbrev pub token_of : Request → Option Token
token_of (request.Put token rid expect parent name bytes) = Some token
token_of (request.MakeDir token parent name) = Some token
token_of (request.Move token rid parent name) = Some token
token_of (request.Remove token rid expect) = Some token
token_of (request.Settle token) = Some token
token_of (request.Keep token count) = Some token
token_of _ = None

-- the token of the request, where it has one, is one that a device gives on its own side
abbrev pub is_of_lane : Request → Bool
is_of_lane q = part (λ t. nat_lt t.0.epoch LANE_EPOCHS) true (token_of q)

-- the remote was asked what the device asks, and the result is as the device gets it
abbrev pub Sends : {R : Type 0} → (R → Told) → Device → Request → R → Result Reply AskError → R → Type 0
Sends told device q old (Ok r) new = (reply : Reply) × Answers (request_sent device q) reply (told old) (told new) × (r ≡ reply_seen device reply)
Sends told device q old (Err ask.Fault) new = Faults (told old) (told new)
Sends told device q old (Err ask.OutOfMemory) new = told new ≡ told old
