-- The parts of `Messages` are sure, each by its own parts.
use Rattle.std.proofs.Common.{◌≡◌, refl, sym, ◌∙◌, ap, subst, inl, inr, ◌⊎◌, ◌<◌, ◌+◌, ◌&&◌, List, [], ◌∷◌, ◌++◌, append-nil, arith, nat_lt}
use Rattle.std.proofs.lemmas.Bool.{ltb-true}
use Rattle.std.specs.Prelude.{ℕ, Bool, true, false, length, Option, Some, None}
use Rattle.cf_base.specs.declared.notices.Notice.{Notice}
use Rattle.cf_base.specs.declared.notices.Notice.TheVariants as notice
use Rattle.cf_base.specs.declared.messages.Reply.{Reply}
use Rattle.cf_base.specs.declared.messages.Reply.TheVariants as reply
use Rattle.cf_base.specs.declared.messages.Request.{Request}
use Rattle.cf_base.specs.declared.notices.Frame.{Frame}
use Rattle.cf_base.specs.declared.notices.Frame.TheVariants as frame
use Rattle.cf_model.specs.Numbers.{most}
use Rattle.cf_model.specs.Arrows.{Arrow, one, seq, then_do, unit}
use Rattle.cf_model.specs.Books.{QueueEntry}
use Rattle.cf_model.specs.Points.{commit}
use Rattle.cf_model.specs.PushReplies.{take_done, take_refused, take_void}
use Rattle.cf_model.specs.State.{State, in_filter, in_volume}
use Rattle.cf_model.specs.Store.{remote_step}
use Rattle.cf_model.specs.Trees.{Stops, AsItKeeps, Ends, Faults, Telling, Tells}
use Rattle.cf_model.specs.Messages.{act_on, act_unless, after_ask, after_post, answered, come, come_if, come_now, counted, distrusted, entry_live, failed, fault_line, if_kept, is_inline, is_stale, is_upload, next_message, no_bytes, no_number, post, post_by, post_unless, send, send_now, take_if_any, take_reply, was_kept, with_entry, with_lost, with_message, with_remote}
use Rattle.cf_model.specs.Feeds.{apply_feed}
use Rattle.cf_model.specs.Fetching.{take_bytes, take_gone, take_listing, take_missing}
use Rattle.cf_check_ways.specs.Ways.{core_of, Alike, FailedIn, Grown, IsSure, Parted, SameEnd, fixed_state, is_good, of_state}
use Rattle.cf_check_ways.proofs.Sure.{becomes_same, front_here, grown_more, had_same, reads_fixed, same_points, sure_choose, sure_fixed, sure_one, sure_reading, sure_ret, sure_seq, sure_then}
use Rattle.cf_check_ways.proofs.VolumeSteps.{commit_sure, sure_in_filter}
use Rattle.cf_check_ways.proofs.StateSteps.{fault_line_plain, with_lost_plain, with_message_plain}
use Rattle.cf_check_ways.proofs.FeedsSure as feeds_sure
use Rattle.cf_check_ways.proofs.FetchingSure as fetching_sure
use Rattle.cf_check_ways.proofs.PushRepliesSure as push_replies_sure

pub was_kept_sure : (x1 : Bool) → (x2 : Unit {0}) → IsSure of_state (was_kept x1 x2)
was_kept_sure kept u = sure_ret of_state kept

pub post_by_sure : (x1 : Frame) → (x2 : Bool) → IsSure of_state (post_by x1 x2)
post_by_sure f true = sure_seq of_state (one (with_lost f)) (was_kept false) (sure_one of_state (with_lost f) (with_lost_plain f)) (was_kept_sure false)
post_by_sure f false = sure_seq of_state (one (with_message f)) (was_kept true) (sure_one of_state (with_message f) (with_message_plain f)) (was_kept_sure true)

pub post_unless_sure : (x1 : Frame) → (x2 : Bool) → IsSure of_state (post_unless x1 x2)
post_unless_sure f true = sure_ret of_state false
post_unless_sure f false = sure_reading of_state (no_bytes f) (post_by f) (reads_fixed of_state (no_bytes f) (λ s. refl)) (post_by_sure f)

pub post_sure : (x1 : Frame) → IsSure of_state (post x1)
post_sure f = sure_reading of_state no_number (post_unless f) (reads_fixed of_state no_number (λ s. refl)) (post_unless_sure f)

-- what the remote does, and what follows

failed_sure : (u : Unit {0}) → IsSure of_state (failed u)
failed_sure u = sure_ret of_state None

if_kept_sure : (r : Reply) (kept : Bool) → IsSure of_state (if_kept r kept)
if_kept_sure r true = sure_ret of_state (Some r)
if_kept_sure r false = sure_ret of_state None

answered_sure : (m : ℕ) (r : Option Reply) → IsSure of_state (answered m r)
answered_sure m None = sure_seq of_state (one (fault_line m)) failed (sure_one of_state (fault_line m) (fault_line_plain m)) failed_sure
answered_sure m (Some r) = sure_seq of_state (post (frame.Reply m r)) (if_kept r) (post_sure (frame.Reply m r)) (if_kept_sure r)

full_and_good : (honest : Bool) (limit n : ℕ) → nat_lt limit (n + 1) ≡ true → (honest && nat_lt n limit) ≡ true → ⊥
full_and_good false limit n full good = let z : false ≡ true = good in absurd cc
full_and_good true limit n full good = let a : limit < n + 1 = ltb-true limit (n + 1) full in let b : n < limit = ltb-true n limit good in omega (arith, a, b)

-- a reply that is noted has the line of its message, as long as there are numbers
replied : (m : ℕ) (r : Reply) (s : State) (a : Option Reply) (t : State) → Ends (answered m (Some r) s) a t → is_good t ≡ true
    → (lost : Bool) × (t.filter.notes ≡ s.filter.notes ++ notice.Message (record { message = next_message s; frame = frame.Reply m r; lost = lost }) ∷ [])
replied m r s a t h good = by (no_number s) (no_bytes (frame.Reply m r) s) refl refl h
  where
    by : (full bytes : Bool) → no_number s ≡ full → no_bytes (frame.Reply m r) s ≡ bytes → Ends (seq (post_unless (frame.Reply m r) full) (if_kept r) s) a t
        → (lost : Bool) × (t.filter.notes ≡ s.filter.notes ++ notice.Message (record { message = next_message s; frame = frame.Reply m r; lost = lost }) ∷ [])
    by true bytes is how g = absurd (full_and_good s.link.honest most (length s.link.messages) is (subst (λ (x : State). is_good x ≡ true) g.1 good))
    by false true is how g = let k : Ends (seq (post_by (frame.Reply m r) true) (if_kept r) s) a t = subst (λ (b : Bool). Ends (seq (post_by (frame.Reply m r) b) (if_kept r) s) a t) how g in (true, ap (λ (x : State). x.filter.notes) k.1)
    by false false is how g = let k : Ends (seq (post_by (frame.Reply m r) false) (if_kept r) s) a t = subst (λ (b : Bool). Ends (seq (post_by (frame.Reply m r) b) (if_kept r) s) a t) how g in (false, ap (λ (x : State). x.filter.notes) k.1)

-- the state once the remote was asked
abbrev after_reply : Request → State → State
after_reply q s = with_remote (remote_step s.link.remote q).1 (counted s)

abbrev after_other : Request → State → State
after_other q s = distrusted (after_reply q s)

pub quiet : (s t : State) → t.filter.notes ≡ s.filter.notes → length t.link.messages ≡ length s.link.messages → t.failed_opens ≡ s.failed_opens → (is_good t ≡ true → is_good s ≡ true) → Grown of_state s t
quiet s t same count fails good = record { notes = ([], same ∙ sym (append-nil s.filter.notes)); counted = omega (arith, count); opens = fails; good = good }

no_other : (q : Request) (s : State) (r : Reply) (m : ℕ) (a : Option Reply) (t : State) → Ends (answered m (Some r) (after_other q s)) a t → is_good t ≡ true → ⊥
no_other q s r m a t h good = let z : false ≡ true = ((answered_sure m (Some r)).grows (after_other q s) a t h).good good in absurd cc

come_grows : (m : ℕ) (q : Request) (s : State) (a : Option Reply) (t : State) (x : Telling) → Ends (seq (λ z. after_ask (remote_step z.link.remote q) z x) (answered m) s) a t → Grown of_state s t
come_grows m q s a t AsItKeeps h =
    grown_more of_state s (after_reply q s) t (quiet s (after_reply q s) refl refl refl (λ g. g)) ((answered_sure m (Some (remote_step s.link.remote q).0)).grows (after_reply q s) a t h)
come_grows m q s a t Faults h = grown_more of_state s (counted s) t (quiet s (counted s) refl refl refl (λ g. g)) ((answered_sure m None).grows (counted s) a t h)
come_grows m q s a t (Tells other) h =
    grown_more of_state s (after_other q s) t (quiet s (after_other q s) refl refl refl (λ g. let z : false ≡ true = g in absurd cc)) ((answered_sure m (Some other)).grows (after_other q s) a t h)

-- the one failed and the other replied
failed_here : (m : ℕ) (r : Reply) (s o n : State) (a b : Option Reply) (t u : State) → s.filter.notes ≡ o.filter.notes → n.filter.notes ≡ o.filter.notes
    → Ends (answered m None (counted s)) a t → Ends (answered m (Some r) n) b u → is_good u ≡ true → FailedIn t.filter.notes u.filter.notes
failed_here m r s o n a b t u same rest h k good =
    let x = replied m r n b u k good in record {
      before = s.filter.notes;
      message = m;
      number = next_message n;
      reply = r;
      lost = x.0;
      after = [];
      others = [];
      first_is = ap (λ (z : State). z.filter.notes) h.1;
      second_is = x.1 ∙ ap (λ (ns : List Notice). ns ++ notice.Message (record { message = next_message n; frame = frame.Reply m r; lost = x.0 }) ∷ []) (rest ∙ sym same);
    }

come_one : (m : ℕ) (q : Request) (s o : State) → Alike of_state s o → (a b : Option Reply) (t u : State) (x y : Telling)
    → Ends (seq (λ z. after_ask (remote_step z.link.remote q) z x) (answered m) s) a t → Ends (seq (λ z. after_ask (remote_step z.link.remote q) z y) (answered m) o) b u
    → is_good t ≡ true → is_good u ≡ true → SameEnd of_state a t b u ⊎ Parted t.filter.notes u.filter.notes
come_one m q s o e a b t u (Tells other) y h k good well = absurd (no_other q s other m a t h good)
come_one m q s o e a b t u x (Tells other) h k good well = absurd (no_other q o other m b u k well)
come_one m q s o e a b t u AsItKeeps AsItKeeps h k good well =
    let same : (remote_step s.link.remote q).0 ≡ (remote_step o.link.remote q).0 = ap (λ (z : State). (remote_step z.link.remote q).0) e in
    (answered_sure m (Some (remote_step s.link.remote q).0)).one (after_reply q s) (after_reply q o) (ap (λ (z : State). fixed_state (after_reply q z)) e) a b t u h
    (subst (λ (r : Reply). Ends (answered m (Some r) (after_reply q o)) b u) (sym same) k) good well
come_one m q s o e a b t u Faults Faults h k good well = (answered_sure m None).one (counted s) (counted o) (ap (λ (z : State). fixed_state (counted z)) e) a b t u h k good well
come_one m q s o e a b t u Faults AsItKeeps h k good well =
    inr (inl (failed_here m (remote_step o.link.remote q).0 s o (after_reply q o) a b t u (ap (λ (z : State). z.filter.notes) e) refl h k well))
come_one m q s o e a b t u AsItKeeps Faults h k good well =
    inr (inr (failed_here m (remote_step s.link.remote q).0 o s (after_reply q s) b a u t (sym (ap (λ (z : State). z.filter.notes) e)) refl k h good))

-- where the device stops it nothing was noted yet

quiet_stop : (m : ℕ) (r : Option Reply) (s t : State) → Stops (answered m r s) t → t ≡ s
quiet_stop m None s t (inl e) = e
quiet_stop m None s t (inr h) = absurd h
quiet_stop m (Some r) s t h = by (no_number s) (no_bytes (frame.Reply m r) s) refl h
  where
    by : (full bytes : Bool) → no_bytes (frame.Reply m r) s ≡ bytes → Stops (seq (post_unless (frame.Reply m r) full) (if_kept r) s) t → t ≡ s
    by true bytes how g = absurd g
    by false true how g = let k : Stops (seq (post_by (frame.Reply m r) true) (if_kept r) s) t = subst (λ (b : Bool). Stops (seq (post_by (frame.Reply m r) b) (if_kept r) s) t) how g in elim k as (λ _. t ≡ s) [ inl e ↦ e | inr x ↦ absurd x ]
    by false false how g = let k : Stops (seq (post_by (frame.Reply m r) false) (if_kept r) s) t = subst (λ (b : Bool). Stops (seq (post_by (frame.Reply m r) b) (if_kept r) s) t) how g in elim k as (λ _. t ≡ s) [ inl e ↦ e | inr x ↦ absurd x ]

come_halts : (m : ℕ) (q : Request) (s t : State) (x : Telling) → Stops (seq (λ z. after_ask (remote_step z.link.remote q) z x) (answered m) s) t → Grown of_state s t × (t.filter.notes ≡ s.filter.notes)
come_halts m q s t AsItKeeps h =
    let e : t ≡ after_reply q s = quiet_stop m (Some (remote_step s.link.remote q).0) (after_reply q s) t h in
    (subst (λ (z : State). Grown of_state s z) (sym e) (quiet s (after_reply q s) refl refl refl (λ g. g)), ap (λ (z : State). z.filter.notes) e)
come_halts m q s t Faults h =
    let e : t ≡ counted s = quiet_stop m None (counted s) t h in
    (subst (λ (z : State). Grown of_state s z) (sym e) (quiet s (counted s) refl refl refl (λ g. g)), ap (λ (z : State). z.filter.notes) e)
come_halts m q s t (Tells other) h =
    let e : t ≡ after_other q s = quiet_stop m (Some other) (after_other q s) t h in
    (subst (λ (z : State). Grown of_state s z) (sym e) (quiet s (after_other q s) refl refl refl (λ g. let z : false ≡ true = g in absurd cc)), ap (λ (z : State). z.filter.notes) e)

-- what commits are made of stays

answered_core : (m : ℕ) (r : Option Reply) (s : State) (a : Option Reply) (t : State) → Ends (answered m r s) a t → core_of t.filter.volume ≡ core_of s.filter.volume
answered_core m None s a t h = ap (λ (z : State). core_of z.filter.volume) h.1
answered_core m (Some r) s a t h = by (no_number s) (no_bytes (frame.Reply m r) s) refl h
  where
    by : (full bytes : Bool) → no_bytes (frame.Reply m r) s ≡ bytes → Ends (seq (post_unless (frame.Reply m r) full) (if_kept r) s) a t → core_of t.filter.volume ≡ core_of s.filter.volume
    by true bytes how g = ap (λ (z : State). core_of z.filter.volume) g.1
    by false true how g = let k : Ends (seq (post_by (frame.Reply m r) true) (if_kept r) s) a t = subst (λ (b : Bool). Ends (seq (post_by (frame.Reply m r) b) (if_kept r) s) a t) how g in ap (λ (z : State). core_of z.filter.volume) k.1
    by false false how g = let k : Ends (seq (post_by (frame.Reply m r) false) (if_kept r) s) a t = subst (λ (b : Bool). Ends (seq (post_by (frame.Reply m r) b) (if_kept r) s) a t) how g in ap (λ (z : State). core_of z.filter.volume) k.1

come_core : (m : ℕ) (q : Request) (s : State) (a : Option Reply) (t : State) (x : Telling) → Ends (seq (λ z. after_ask (remote_step z.link.remote q) z x) (answered m) s) a t → core_of t.filter.volume ≡ core_of s.filter.volume
come_core m q s a t AsItKeeps h = answered_core m (Some (remote_step s.link.remote q).0) (after_reply q s) a t h
come_core m q s a t Faults h = answered_core m None (counted s) a t h
come_core m q s a t (Tells other) h = answered_core m (Some other) (after_other q s) a t h

pub come_sure : (m : ℕ) (q : Request) → IsSure of_state (come m q)
come_sure m q = record {
  grows = λ s a t h. come_grows m q s a t h.0 h.1;
  one = λ s o e a b t u h k good well. come_one m q s o e a b t u h.0 k.0 h.1 k.1 good well;
  rooms = λ s a t h. becomes_same (core_of s.filter.volume) (core_of t.filter.volume) (come_core m q s a t h.0 h.1);
  keeps = λ s o e _ _ same a b t u h k _ _. inl (same_points (core_of s.filter.volume) (core_of o.filter.volume) (core_of t.filter.volume) (core_of u.filter.volume) (come_core m q s a t h.0 h.1) (come_core m q o b u k.0 k.1) same);
  halts = λ s t h. (come_halts m q s t h.0 h.1).0;
  fits = λ s may a t h had. had_same (core_of s.filter.volume) (core_of t.filter.volume) (come_core m q s a t h.0 h.1) had;
  stop = λ s o e t b u h k good well. inl (front_here of_state t s o u (come_halts m q s t h.0 h.1).1 e (come_grows m q o b u k.0 k.1));
}

pub with_entry_sure : (x1 : (QueueEntry → Arrow State (Unit {0}))) → ((z0_0 : QueueEntry) → IsSure of_state (x1 z0_0)) → (x2 : Option QueueEntry) → IsSure of_state (with_entry x1 x2)
with_entry_sure f f_sure None = sure_ret of_state unit
with_entry_sure f f_sure (Some e) = f_sure e

pub act_on_sure : (x1 : Reply) → IsSure of_state (act_on x1)
act_on_sure (reply.Feed round clock es) = sure_fixed of_state (act_on (reply.Feed round clock es)) (λ x. apply_feed clock es) (λ s. refl) (λ x. feeds_sure.apply_feed_sure clock es)
act_on_sure (reply.Listing key es) = sure_fixed of_state (act_on (reply.Listing key es)) (λ x. take_listing key es) (λ s. refl) (λ x. fetching_sure.take_listing_sure key es)
act_on_sure (reply.Bytes key start bytes) = sure_fixed of_state (act_on (reply.Bytes key start bytes)) (λ x. take_bytes key start bytes) (λ s. refl) (λ x. fetching_sure.take_bytes_sure key start bytes)
act_on_sure (reply.Missing key) = sure_fixed of_state (act_on (reply.Missing key)) (λ x. take_missing key) (λ s. refl) (λ x. fetching_sure.take_missing_sure key)
act_on_sure (reply.Done token rid version) = sure_fixed of_state (act_on (reply.Done token rid version)) (λ x. with_entry (λ e. take_done e rid version) (entry_live x token)) (λ s. refl) (λ x. with_entry_sure (λ e. take_done e rid version) (λ e. (push_replies_sure.take_done_sure e rid version)) (entry_live x token))
act_on_sure (reply.Void token) = sure_fixed of_state (act_on (reply.Void token)) (λ x. with_entry take_void (entry_live x token)) (λ s. refl) (λ x. with_entry_sure take_void (push_replies_sure.take_void_sure) (entry_live x token))
act_on_sure (reply.Refused token w version) = sure_fixed of_state (act_on (reply.Refused token w version)) (λ x. with_entry (λ e. take_refused e w) (entry_live x token)) (λ s. refl) (λ x. with_entry_sure (λ e. take_refused e w) (λ e. (push_replies_sure.take_refused_sure e w)) (entry_live x token))
act_on_sure (reply.Gone key) = sure_fixed of_state (act_on (reply.Gone key)) (λ x. take_gone key) (λ s. refl) (λ x. fetching_sure.take_gone_sure key)

pub act_unless_sure : (x1 : Reply) → (x2 : Bool) → IsSure of_state (act_unless x1 x2)
act_unless_sure r true = sure_ret of_state unit
act_unless_sure r false = act_on_sure r

pub take_reply_sure : (x1 : Request) → (x2 : Reply) → IsSure of_state (take_reply x1 x2)
take_reply_sure q r = sure_reading of_state (is_stale q r) (act_unless r) (reads_fixed of_state (is_stale q r) (λ s. refl)) (act_unless_sure r)

pub take_if_any_sure : (x1 : Request) → (x2 : Option Reply) → IsSure of_state (take_if_any x1 x2)
take_if_any_sure q None = sure_ret of_state unit
take_if_any_sure q (Some r) = take_reply_sure q r

pub come_now_sure : (x1 : Request) → IsSure of_state (come_now x1)
come_now_sure q = sure_fixed of_state (come_now q) (λ x. seq (come (length x.link.messages) q) (take_if_any q)) (λ s. refl) (λ x. sure_seq of_state (come (length x.link.messages) q) (take_if_any q) (come_sure (length x.link.messages) q) (take_if_any_sure q))

pub come_if_sure : (x1 : Request) → (x2 : Bool) → IsSure of_state (come_if x1 x2)
come_if_sure q true = come_now_sure q
come_if_sure q false = sure_ret of_state unit

pub after_post_sure : (x1 : Request) → (x2 : Bool) → IsSure of_state (after_post x1 x2)
after_post_sure q true = sure_reading of_state is_inline (come_if q) (reads_fixed of_state is_inline (λ s. refl)) (come_if_sure q)
after_post_sure q false = sure_ret of_state unit

pub send_now_sure : (x1 : Request) → IsSure of_state (send_now x1)
send_now_sure q = sure_seq of_state (post (frame.Request q)) (after_post q) (post_sure (frame.Request q)) (after_post_sure q)

pub send_sure : (x1 : Request) → IsSure of_state (send x1)
send_sure q = sure_choose of_state (is_upload q) (then_do (in_filter (in_volume commit)) (send_now q)) (send_now q) (sure_then of_state (in_filter (in_volume commit)) (send_now q) (sure_in_filter (in_volume commit) commit_sure) (send_now_sure q)) (send_now_sure q)
