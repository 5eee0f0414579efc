-- Passes of the engine, and messages that are handed on one by one.
use Rattle.std.specs.Prelude.{ℕ, zero, suc, Bool, true, false, not, [], length, Option, Some, None, unwrap_or, min, nat_le, count_by, ◌+◌, ◌*◌, ◌&&◌, ◌||◌, ◌∷◌, ◌==◌}
use Rattle.cf_base.specs.declared.answers.Shown.{Shown}
use Rattle.cf_base.specs.declared.answers.Shown.TheVariants as shown
use Rattle.cf_base.specs.declared.codes.Code.{Code}
use Rattle.cf_base.specs.declared.codes.Code.TheVariants as code
use Rattle.cf_base.specs.declared.messages.Reply.{Reply}
use Rattle.cf_base.specs.declared.messages.Request.{Request}
use Rattle.cf_base.specs.declared.messages.Request.TheVariants as request
use Rattle.cf_base.specs.declared.notices.Frame.{Frame}
use Rattle.cf_base.specs.declared.notices.Frame.TheVariants as frame
use Rattle.cf_model.specs.Arrows.{Arrow, choose, each, noted, one, reading, ret, seq, then_do, unit}
use Rattle.cf_model.specs.Books.{QueueEntry}
use Rattle.cf_model.specs.Callbacks.{drain}
use Rattle.cf_model.specs.Items.{Item}
use Rattle.cf_model.specs.LookUp.{is_excluded}
use Rattle.cf_model.specs.Messages.{act_on, come, is_stale, message_at, send}
use Rattle.cf_model.specs.Numbers.{most}
use Rattle.cf_model.specs.Pushes.{push_all}
use Rattle.cf_model.specs.Skips.{in_use, tried, with_volatile}
use Rattle.cf_model.specs.State.{State, Volatile, book_now, items_now}
use Rattle.cf_model.specs.Trees.{Tree, Ret, bind}
use Rattle.cf_model.specs.Words.{first_of}

-- a pass

abbrev pub settle_entry : QueueEntry → Arrow State (Unit {0})
settle_entry e = send (request.Settle e.token)

-- what became of each upload that has no reply yet, by token
abbrev pub settle_all : Arrow State (Unit {0})
settle_all s = each settle_entry (book_now s).entries s

abbrev pub why_no_round : State → Option Code
why_no_round s = first_of ((nat_le most s.volatile.rounds, code.Exhausted) ∷ [])

abbrev pub with_round : Volatile → Volatile
with_round v = record v { rounds = v.rounds + 1; round_open = true }

-- a round is drawn: from now on only the reply to its feed counts
abbrev pub try_round : Arrow State Bool
try_round = tried why_no_round (one (with_volatile with_round))

abbrev pub feed_of : State → Request
feed_of s = request.Feed (record { 0 = record { epoch = s.filter.volume.epoch; number = s.volatile.rounds } }) (book_now s).cursor

abbrev pub send_feed : Arrow State (Unit {0})
send_feed s = send (feed_of s) s

abbrev pub feed_if : Bool → Arrow State (Unit {0})
feed_if true = send_feed
feed_if false = ret unit

abbrev pub ask_feed : Arrow State (Unit {0})
ask_feed = seq try_round feed_if

-- Settle for each live entry, Feed, and the uploads
abbrev pub pass : Arrow State (Unit {0})
pass = then_do settle_all (then_do ask_feed push_all)

-- events of the engine

-- `skipped` lines stand in this event
abbrev pub showing : State → State
showing s = record s { running = record s.running { shows_skips = true } }

abbrev pub is_down : State → Bool
is_down s = not s.filter.connected

abbrev pub unless_down : Arrow State Shown → Bool → Arrow State Shown
unless_down f true = ret (shown.Refused code.ProviderDown)
unless_down f false = f

-- refused without a provider
abbrev pub connected : Arrow State Shown → Arrow State Shown
connected f = reading is_down (unless_down f)

abbrev pub work_now : Arrow State Shown
work_now = then_do (noted showing) (then_do pass (then_do drain (ret shown.Done)))

-- one pass
abbrev pub work : Arrow State Shown
work = connected work_now

-- sync

-- no change stands in the pass, and no Done was taken
abbrev pub did_nothing : State → State → Bool
did_nothing before after = (length before.filter.volume.log == length after.filter.volume.log) && not after.running.took_done

-- 16 passes for each item and tombstone, for each clock of the first feed up to 100,000, and for 4 more
abbrev pub most_passes : ℕ → State → ℕ
most_passes l s = 16 * (l + min 100000 (unwrap_or s.running.first_clock 0) + 4)

abbrev pub without_done : State → State
without_done s = record s { running = record s.running { took_done = false } }

abbrev pub pass_anew : Arrow State (Unit {0})
pass_anew s = pass (without_done s)

abbrev pub is_last : ℕ → ℕ → State → State → Bool
is_last l made before after = did_nothing before after || nat_le (most_passes l after) (made + 1)

-- passes until one makes no change and takes no Done, or the most are made
abbrev pub passes : ℕ → ℕ → ℕ → Arrow State (Unit {0})
passes zero l made s = Ret unit s
passes (suc fuel) l made s = bind (pass_anew s) (λ _ t. elim (is_last l made s t) as (λ _. Tree State (Unit {0})) [ true ↦ Ret unit t | false ↦ passes fuel l (made + 1) t ])

-- items and tombstones, the root among them
abbrev pub things : State → ℕ
things s = length (items_now s) + length (book_now s).tombstones

abbrev pub sync_passes : Arrow State (Unit {0})
sync_passes s = choose s.link.inline (passes most (things s) 0) pass s

abbrev pub is_unsettled : State → Item → Bool
is_unsettled s i = not (i.id.0 == 1) && not i.in_sync && not (in_use s i.id) && not (is_excluded (items_now s) i.id)

-- the tombstones, and the items that are neither excluded, in use nor in sync
abbrev pub unsettled : State → ℕ
unsettled s = length (book_now s).tombstones + count_by (is_unsettled s) (items_now s)

abbrev pub show_unsettled : Arrow State Shown
show_unsettled s = ret (shown.Count (unsettled s)) s

abbrev pub sync_now : Arrow State Shown
sync_now = then_do (noted showing) (then_do sync_passes (then_do drain show_unsettled))

-- passes under an inline link, one pass under a queued one
abbrev pub sync : Arrow State Shown
sync = connected sync_now

-- messages by hand

abbrev pub no_message : Arrow State Shown
no_message = ret (shown.Refused code.NoMessage)

abbrev pub was_sent : Option Reply → Arrow State Shown
was_sent r = ret shown.Done

abbrev pub arrive_frame : ℕ → Option Frame → Arrow State Shown
arrive_frame m (Some (frame.Request q)) = seq (come m q) was_sent
arrive_frame m (Some (frame.Reply answers r)) = no_message
arrive_frame m None = no_message

-- a request is handed to the remote, which sends its reply
abbrev pub arrive : ℕ → Arrow State Shown
arrive m s = arrive_frame m (message_at s m) s

abbrev pub deliver_unless : Reply → Bool → Arrow State Shown
deliver_unless r true = ret (shown.Refused code.Stale)
deliver_unless r false = then_do (noted showing) (then_do (act_on r) (then_do drain (ret shown.Done)))

abbrev pub deliver_reply : Reply → Option Frame → Arrow State Shown
deliver_reply r (Some (frame.Request q)) = reading (is_stale q r) (deliver_unless r)
deliver_reply r (Some (frame.Reply answers other)) = ret (shown.Refused code.Stale)
deliver_reply r None = ret (shown.Refused code.Stale)

abbrev pub deliver_frame : Option Frame → Arrow State Shown
deliver_frame (Some (frame.Reply answers r)) s = deliver_reply r (message_at s answers) s
deliver_frame (Some (frame.Request q)) s = no_message s
deliver_frame None s = no_message s

abbrev pub deliver_now : ℕ → Arrow State Shown
deliver_now m s = deliver_frame (message_at s m) s

-- a reply is handed to the engine
abbrev pub deliver : ℕ → Arrow State Shown
deliver m = connected (deliver_now m)
