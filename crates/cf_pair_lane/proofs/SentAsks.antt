-- An ask through a lane is one that keeps what a remote promises.
use Rattle.std.proofs.Common.{◌≡◌, inl, inr, ℕ, ◌+◌, ◌-◌, ◌^◌, ◌≤◌, true, false, refl, sym, ap, ◌∙◌, subst, arith, min}
use Rattle.std.specs.Prelude.{Option, Some, None, option_map, Result, Ok, Err}
use Rattle.std.proofs.lemmas.Bool.{cases_lt, cases_Bool}
use Rattle.std.proofs.Math.Nat.{min-eq_left, min-eq_right, min-le_left, min-le_right}
use Rattle.cf_base.specs.declared.messages.Reply.{Reply}
use Rattle.cf_base.specs.declared.messages.Reply.TheVariants as reply
use Rattle.cf_base.specs.declared.messages.Request.{Request}
use Rattle.cf_model.specs.Store.{Held, remote_step}
use Rattle.cf_pair_lane.specs.Lanes.{Laned, Sends, is_of_lane, told_by}
use Rattle.cf_pair_model.proofs.Crossings.{step_seen_alike}
use Rattle.cf_pair_model.specs.Crossed.{crossed_reply}
use Rattle.cf_pair_model.specs.Seen.{held_seen, reply_seen, request_sent, step_seen}
use Rattle.cf_pair_model.specs.declared.devices.Device.{Device}
use Rattle.cf_pair_model.specs.declared.devices.Device.TheVariants as device
use Rattle.cf_remote.specs.Told.{Asks, Replies, Told, counted}
use Rattle.cf_remote.specs.declared.ask_errors.AskError.{AskError}
use Rattle.cf_remote.specs.declared.ask_errors.AskError.TheVariants as ask
use Rattle.cf_wire.specs.Spelled.{ReplyHasRoom}

-- room

reply_room_crossed : (r : Reply) → ReplyHasRoom r → ReplyHasRoom (crossed_reply r)
reply_room_crossed (reply.Feed round clock entries) h = h
reply_room_crossed (reply.Listing key entries) h = h
reply_room_crossed (reply.Bytes key start bytes) h = h
reply_room_crossed (reply.Missing key) h = h
reply_room_crossed (reply.Done token rid version) h = h
reply_room_crossed (reply.Void token) h = h
reply_room_crossed (reply.Refused token why version) h = h
reply_room_crossed (reply.Gone key) h = h

reply_room_seen : (d : Device) (r : Reply) → ReplyHasRoom r → ReplyHasRoom (reply_seen d r)
reply_room_seen device.First r h = h
reply_room_seen device.Second r h = reply_room_crossed r h

-- replies

replies_seen : (d : Device) (q : Request) (r : Reply) (old new : Option Held) → Replies (request_sent d q) r old new
    → Replies q (reply_seen d r) (option_map (held_seen d) old) (option_map (held_seen d) new)
replies_seen d q r None new h = ap (λ (o : Option Held). option_map (held_seen d) o) h
replies_seen d q r (Some held) new h =
    let is : remote_step (held_seen d held) q ≡ step_seen d (remote_step held (request_sent d q)) = step_seen_alike d held q in
    (ap (reply_seen d) h.0 ∙ sym (ap (λ (p : Reply × Held). p.0) is), ap (λ (o : Option Held). option_map (held_seen d) o) h.1 ∙ sym (ap (λ (p : Reply × Held). Some p.1) is))

-- counts

-- one more at the remote
rises_there : (n m own most : ℕ) → min (n + 1) most ≤ m → min (n + own + 1) most ≤ m + own
rises_there n m own most h = elim (cases_lt most (n + 1)) [
  | inl past ↦
      let e : min (n + 1) most ≡ most = min-eq_right (omega (past, arith)) in
      omega (e, h, min-le_right (n + own + 1) most, arith)
  | inr below ↦
      let e : min (n + 1) most ≡ n + 1 = min-eq_left below in
      omega (e, h, min-le_left (n + own + 1) most, arith)
]

-- one more in the lane
rises_here : (n own most : ℕ) → min (n + own + 1) most ≤ n + min (own + 1) most
rises_here n own most = elim (cases_lt most (own + 1)) [
  | inl past ↦
      let e : min (own + 1) most ≡ most = min-eq_right (omega (past, arith)) in
      omega (e, min-le_right (n + own + 1) most, arith)
  | inr below ↦
      let e : min (own + 1) most ≡ own + 1 = min-eq_left below in
      omega (e, min-le_left (n + own + 1) most, arith)
]

-- asks

through : {R : Type 0} (told : R → Told) (q : Request) (old : Laned R) (new : R) (result : Result Reply AskError) → Sends told old.device q old.inner result new
    → Asks q (told_by told old) result (told_by told (record old { inner = new }))
through told q old new (Ok r) h = subst (λ (x : Reply). Asks q (told_by told old) (Ok x) (told_by told (record old { inner = new }))) (sym h.2) (record {
  replies = replies_seen old.device q h.0 (told old.inner).held (told new).held h.1.replies;
  room = reply_room_seen old.device h.0 h.1.room;
  counts = record { asks = refl; fails = refl; which = tt };
  never_falls = omega (h.1.never_falls, arith);
})
through told q old new (Err ask.Fault) h = record {
  held = ap (λ (o : Option Held). option_map (held_seen old.device) o) h.held;
  counts = record { asks = refl; fails = refl; which = tt };
  rose = rises_there (told old.inner).faults (told new).faults old.faults (2 ^ 64 - 1) h.rose;
}
through told q old new (Err ask.OutOfMemory) h = ap (λ (t : Told). record { held = option_map (held_seen old.device) t.held; asks = None; fails = None; faults = t.faults + old.faults }) h

pub asked : {R : Type 0} (told : R → Told) (q : Request) (old new : Laned R) (result : Result Reply AskError)
    → (is_of_lane q ≡ true → Sends told old.device q old.inner result new.inner) → (is_of_lane q ≡ true → new ≡ record old { inner = new.inner })
    → (is_of_lane q ≡ false → result ≡ Err ask.Fault) → (is_of_lane q ≡ false → new ≡ record old { faults = counted old.faults })
    → Asks q (told_by told old) result (told_by told new)
asked {R} told q old new result sent stays vain counts = elim (cases_Bool (is_of_lane q)) [
  | inl h ↦ subst (λ (l : Laned R). Asks q (told_by told old) result (told_by told l)) (sym (stays h)) (through told q old new.inner result (sent h))
  | inr h ↦ subst (λ (l : Laned R). Asks q (told_by told old) result (told_by told l)) (sym (counts h))
      (subst (λ (r : Result Reply AskError). Asks q (told_by told old) r (told_by told (record old { faults = counted old.faults }))) (sym (vain h)) (record {
        held = refl;
        counts = record { asks = refl; fails = refl; which = tt };
        rose = rises_here (told old.inner).faults old.faults (2 ^ 64 - 1);
      }))
]
