-- Messages: their numbers, what the remote answers, and what its replies do.
use Rattle.std.specs.Prelude.{ℕ, zero, suc, Bool, true, false, not, List, [], length, map, filter, Option, Some, None, is_some, nat_le, nat_lt, slice_get, ◌+◌, ◌&&◌, ◌||◌, ◌∷◌, ◌++◌, ◌==◌}
use Rattle.std.specs.List.{list_any}
use Rattle.cf_base.specs.declared.ids.Key.{Key}
use Rattle.cf_base.specs.declared.ids.Rid.{Rid}
use Rattle.cf_base.specs.declared.ids.Token.{Token}
use Rattle.cf_base.specs.declared.messages.Reply.{Reply}
use Rattle.cf_base.specs.declared.messages.Reply.TheVariants as reply
use Rattle.cf_base.specs.declared.messages.Request.{Request}
use Rattle.cf_base.specs.declared.messages.Request.TheVariants as request
use Rattle.cf_base.specs.declared.notices.Frame.{Frame}
use Rattle.cf_base.specs.declared.notices.Frame.TheVariants as frame
use Rattle.cf_base.specs.declared.notices.Notice.TheVariants as notice
use Rattle.cf_model.specs.Arrows.{Arrow, choose, one, reading, ret, seq, then_do, unit}
use Rattle.cf_model.specs.Books.{QueueEntry, entry_of}
use Rattle.cf_model.specs.Feeds.{apply_feed}
use Rattle.cf_model.specs.Fetching.{live_ask, take_bytes, take_gone, take_listing, take_missing}
use Rattle.cf_model.specs.Fits.{Known, fits}
use Rattle.cf_model.specs.Frames.{spell_frame}
use Rattle.cf_model.specs.Identities.{is_untargeted, target_of}
use Rattle.cf_model.specs.Items.{Item}
use Rattle.cf_model.specs.Numbers.{most, no_rid}
use Rattle.cf_model.specs.Points.{commit}
use Rattle.cf_model.specs.PushReplies.{is_new_entry, take_done, take_refused, take_void}
use Rattle.cf_model.specs.State.{State, book_now, in_filter, in_volume, items_now, note, with_link}
use Rattle.cf_model.specs.Store.{Held, remote_step}
use Rattle.cf_model.specs.Trees.{AsItKeeps, Asked, Faults, Telling, Tells, Tree, Ret}
use Rattle.cf_model.specs.Words.{is_empty, part}

-- numbers

abbrev pub next_message : State → ℕ
next_message s = length s.link.messages + 1

abbrev pub most_kept : ℕ
most_kept = 268435456

abbrev pub line_of : ℕ → Frame → Bool → State → State
line_of n f lost s = note (notice.Message (record { message = n; frame = f; lost = lost })) s

-- a message that would pass the limit of kept bytes is not kept
abbrev pub with_lost : Frame → State → State
with_lost f s = line_of (next_message s) f true (with_link (record s.link { messages = s.link.messages ++ None ∷ [] }) s)

abbrev pub with_message : Frame → State → State
with_message f s =
    line_of (next_message s) f false (with_link (record s.link { messages = s.link.messages ++ Some f ∷ []; kept_bytes = s.link.kept_bytes + length (spell_frame f) }) s)

-- after the last number a message gets none, and no line
abbrev pub no_number : State → Bool
no_number s = nat_lt most (next_message s)

abbrev pub no_bytes : Frame → State → Bool
no_bytes f s = nat_lt most_kept (s.link.kept_bytes + length (spell_frame f))

abbrev pub was_kept : Bool → Unit {0} → Arrow State Bool
was_kept kept u = ret kept

abbrev pub post_by : Frame → Bool → Arrow State Bool
post_by f true = seq (one (with_lost f)) (was_kept false)
post_by f false = seq (one (with_message f)) (was_kept true)

abbrev pub post_unless : Frame → Bool → Arrow State Bool
post_unless f true = ret false
post_unless f false = reading (no_bytes f) (post_by f)

-- the message under the next number, with its line; whether it is kept
abbrev pub post : Frame → Arrow State Bool
post f = reading no_number (post_unless f)

-- the remote

abbrev pub counted : State → State
counted s = with_link (record s.link { remote_asks = s.link.remote_asks + 1 }) s

abbrev pub with_remote : Held → State → State
with_remote held s = with_link (record s.link { remote = held }) s

-- the remote did not keep its rules
abbrev pub distrusted : State → State
distrusted s = with_link (record s.link { honest = false }) s

-- where the remote fails its state is as before
abbrev pub after_ask : Reply × Held → State → Telling → Tree State (Option Reply)
after_ask r s AsItKeeps = Ret (Some r.0) (with_remote r.1 (counted s))
after_ask r s Faults = Ret None (counted s)
after_ask r s (Tells other) = Ret (Some other) (distrusted (with_remote r.1 (counted s)))

abbrev pub told : Reply × Held → State → Tree State (Option Reply)
told r s = Asked (after_ask r s)

-- the remote's reply to a request, none where it fails
abbrev pub ask : Request → Arrow State (Option Reply)
ask q s = told (remote_step s.link.remote q) s

abbrev pub fault_line : ℕ → State → State
fault_line m s = note (notice.Fault m) s

abbrev pub failed : Unit {0} → Arrow State (Option Reply)
failed u = ret None

abbrev pub if_kept : Reply → Bool → Arrow State (Option Reply)
if_kept r true = ret (Some r)
if_kept r false = ret None

abbrev pub answered : ℕ → Option Reply → Arrow State (Option Reply)
answered m None = seq (one (fault_line m)) failed
answered m (Some r) = seq (post (frame.Reply m r)) (if_kept r)

-- request m comes to the remote, which sends its reply, if that is kept; or there is the line that it failed
abbrev pub come : ℕ → Request → Arrow State (Option Reply)
come m q = seq (ask q) (answered m)

-- replies

abbrev pub known_of : Item → Known
known_of i = record { rid = target_of i; directory = i.directory }

-- the items of the remote that local ones are
abbrev pub known_now : State → List Known
known_now s = map known_of (filter (λ i. not (is_untargeted i)) (items_now s))

abbrev pub entry_live : State → Token → Option QueueEntry
entry_live s token = entry_of (book_now s) token

-- the item of the remote that a Settle is about, 0 for a new one
abbrev pub settled_rid : State → Request → Rid
settled_rid s (request.Settle token) = part (λ e. e.rid) no_rid (entry_live s token)
settled_rid s _ = no_rid

abbrev pub is_latest_round : State → Key → Bool
is_latest_round s round = (round.epoch == s.filter.volume.epoch) && (round.number == s.volatile.rounds)

-- Nothing waits for the reply any more: its key or token is not live; it is a Listing while a new item is on its way to
-- the remote; or it is a feed that is not of the latest round, whose round was closed by a reply, that is older than the
-- cursor, or that came while an upload was on its way.
abbrev pub is_old : State → Reply → Bool
is_old s (reply.Feed round clock es) =
    not (is_latest_round s round.0 && s.volatile.round_open && nat_le (book_now s).cursor clock && is_empty (book_now s).entries)
is_old s (reply.Listing key es) = not (is_some (live_ask s key)) || list_any is_new_entry (book_now s).entries
is_old s (reply.Bytes key start bytes) = not (is_some (live_ask s key))
is_old s (reply.Missing key) = not (is_some (live_ask s key))
is_old s (reply.Done token rid version) = not (is_some (entry_live s token))
is_old s (reply.Void token) = not (is_some (entry_live s token))
is_old s (reply.Refused token w version) = not (is_some (entry_live s token))
is_old s (reply.Gone key) = not (is_some (live_ask s key))

-- the reply does not fit its request, or nothing waits for it any more
abbrev pub is_stale : Request → Reply → State → Bool
is_stale q r s = not (fits (known_now s) (settled_rid s q) q r) || is_old s r

abbrev pub with_entry : (QueueEntry → Arrow State (Unit {0})) → Option QueueEntry → Arrow State (Unit {0})
with_entry f None = ret unit
with_entry f (Some e) = f e

abbrev pub act_on : Reply → Arrow State (Unit {0})
act_on (reply.Feed round clock es) s = apply_feed clock es s
act_on (reply.Listing key es) s = take_listing key es s
act_on (reply.Bytes key start bytes) s = take_bytes key start bytes s
act_on (reply.Missing key) s = take_missing key s
act_on (reply.Done token rid version) s = with_entry (λ e. take_done e rid version) (entry_live s token) s
act_on (reply.Void token) s = with_entry take_void (entry_live s token) s
act_on (reply.Refused token w version) s = with_entry (λ e. take_refused e w) (entry_live s token) s
act_on (reply.Gone key) s = take_gone key s

abbrev pub act_unless : Reply → Bool → Arrow State (Unit {0})
act_unless r true = ret unit
act_unless r false = act_on r

-- a reply that is stale has no effect and no line
abbrev pub take_reply : Request → Reply → Arrow State (Unit {0})
take_reply q r = reading (is_stale q r) (act_unless r)

-- requests of the engine

abbrev pub is_upload : Request → Bool
is_upload (request.Put token rid expect parent name bytes) = true
is_upload (request.MakeDir token parent name) = true
is_upload (request.Move token rid parent name) = true
is_upload (request.Remove token rid expect) = true
is_upload _ = false

abbrev pub take_if_any : Request → Option Reply → Arrow State (Unit {0})
take_if_any q None = ret unit
take_if_any q (Some r) = take_reply q r

-- the last message comes to the remote, and its reply is taken
abbrev pub come_now : Request → Arrow State (Unit {0})
come_now q s = seq (come (length s.link.messages) q) (take_if_any q) s

abbrev pub is_inline : State → Bool
is_inline s = s.link.inline

abbrev pub come_if : Request → Bool → Arrow State (Unit {0})
come_if q true = come_now q
come_if q false = ret unit

abbrev pub after_post : Request → Bool → Arrow State (Unit {0})
after_post q true = reading is_inline (come_if q)
after_post q false = ret unit

-- under an inline link a request comes to the remote at once, and its reply is taken
abbrev pub send_now : Request → Arrow State (Unit {0})
send_now q = seq (post (frame.Request q)) (after_post q)

-- what an upload is about is durable before it is sent
abbrev pub send : Request → Arrow State (Unit {0})
send q = choose (is_upload q) (then_do (in_filter (in_volume commit)) (send_now q)) (send_now q)

-- messages by hand

abbrev pub message_at : State → ℕ → Option Frame
message_at s zero = None
message_at s (suc n) = part (λ f. f) None (slice_get s.link.messages n)
