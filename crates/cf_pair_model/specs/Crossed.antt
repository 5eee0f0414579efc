-- The tokens of two devices at one remote: each epoch of one device stands for the same of the other, with a step between.
use Rattle.std.specs.Prelude.{ℕ, ◌+◌, ◌-◌, cond, List, map, nat_lt}
use Rattle.cf_base.specs.declared.ids.Token.{Token}
use Rattle.cf_base.specs.declared.messages.Reply.{Reply}
use Rattle.cf_base.specs.declared.messages.Reply.TheVariants as reply
use Rattle.cf_base.specs.declared.messages.Request.{Request}
use Rattle.cf_base.specs.declared.messages.Request.TheVariants as request
use Rattle.cf_model.specs.Store.{Held, Recorded}
use Rattle.cf_pair_model.specs.declared.limits.TheConstants.{LANE_EPOCHS}

-- the numbers below a step change places with those from there to its double; all others stay
abbrev pub exchanged : ℕ → ℕ → ℕ
exchanged step n = cond (nat_lt n step) (n + step) (cond (nat_lt n (step + step)) (n - step) n)

-- a token with the epoch that it has on the other side of the lane
abbrev pub crossed : Token → Token
crossed token = record { 0 = record { epoch = exchanged LANE_EPOCHS token.0.epoch; number = token.0.number } }

abbrev pub crossed_request : Request → Request
crossed_request (request.Feed round after) = request.Feed round after
crossed_request (request.List key rid) = request.List key rid
crossed_request (request.Fetch key rid version start len) = request.Fetch key rid version start len
crossed_request (request.Put token rid expect parent name bytes) = request.Put (crossed token) rid expect parent name bytes
crossed_request (request.MakeDir token parent name) = request.MakeDir (crossed token) parent name
crossed_request (request.Move token rid parent name) = request.Move (crossed token) rid parent name
crossed_request (request.Remove token rid expect) = request.Remove (crossed token) rid expect
crossed_request (request.Settle token) = request.Settle (crossed token)
crossed_request (request.Keep token count) = request.Keep (crossed token) count

abbrev pub crossed_reply : Reply → Reply
crossed_reply (reply.Feed round clock entries) = reply.Feed round clock entries
crossed_reply (reply.Listing key entries) = reply.Listing key entries
crossed_reply (reply.Bytes key start bytes) = reply.Bytes key start bytes
crossed_reply (reply.Missing key) = reply.Missing key
crossed_reply (reply.Done token rid version) = reply.Done (crossed token) rid version
crossed_reply (reply.Void token) = reply.Void (crossed token)
crossed_reply (reply.Refused token why version) = reply.Refused (crossed token) why version
crossed_reply (reply.Gone key) = reply.Gone key

abbrev pub crossed_record : Token × Recorded → Token × Recorded
crossed_record r = (crossed r.0, r.1)

abbrev pub crossed_records : List (Token × Recorded) → List (Token × Recorded)
crossed_records records = map crossed_record records

-- what is held, with each recorded token crossed
abbrev pub crossed_held : Held → Held
crossed_held held = record held { tokens = crossed_records held.tokens }

abbrev pub crossed_step : Reply × Held → Reply × Held
crossed_step step = (crossed_reply step.0, crossed_held step.1)
