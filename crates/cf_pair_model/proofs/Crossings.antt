-- A step of the remote, seen with crossed tokens.
use Rattle.std.proofs.Common.{◌≡◌, inl, inr, ℕ, ◌+◌, ◌-◌, ◌<◌, ◌≤◌, ◌&&◌, ◌==◌, Bool, true, false, cond, List, [], ◌∷◌, map, refl, sym, ap, ◌∙◌, arith, eqb-true, eq-eqb}
use Rattle.std.specs.Prelude.{Option, Some, None, nat_le, nat_lt, find, length, slice_range, if◌then◌else◌}
use Rattle.std.proofs.lemmas.Bool.{cases_lt, lt-ltb, le-ltb}
use Rattle.cf_base.specs.declared.ids.Key.{Key}
use Rattle.cf_base.specs.declared.ids.Token.{Token}
use Rattle.cf_base.specs.declared.messages.Entry.{Entry}
use Rattle.cf_base.specs.declared.messages.Reply.{Reply}
use Rattle.cf_base.specs.declared.messages.Reply.TheVariants as reply
use Rattle.cf_base.specs.declared.messages.Request.{Request}
use Rattle.cf_base.specs.declared.messages.Request.TheVariants as request
use Rattle.cf_base.specs.declared.messages.Why.{Why}
use Rattle.cf_model.specs.Numbers.{no_version, root_rid, same_key}
use Rattle.cf_model.specs.Store as store
use Rattle.cf_model.specs.Store.{Held, Mutation, Recorded, RecordedDone, RecordedVoid, as_recorded, bytes_of, bytes_told, decide, is_held, is_live_dir, keep_last, listing_of, mutate, recorded_at, remote_step, settle, trimmed, version_told, with_token}
use Rattle.cf_model.specs.Words.{part}
use Rattle.cf_pair_model.specs.Crossed.{crossed, crossed_held, crossed_record, crossed_records, crossed_reply, crossed_request, crossed_step, exchanged}
use Rattle.cf_pair_model.specs.Seen.{held_seen, request_sent, step_seen}
use Rattle.cf_pair_model.specs.declared.devices.Device.{Device}
use Rattle.cf_pair_model.specs.declared.devices.Device.TheVariants as device
use Rattle.cf_pair_model.specs.declared.limits.TheConstants.{LANE_EPOCHS}

-- numbers that change places

module _ (step n : ℕ) where
  below : n < step → exchanged step n ≡ n + step
  below h = ap (λ (b : Bool). cond b (n + step) (cond (nat_lt n (step + step)) (n - step) n)) (lt-ltb n step h)

  above : step ≤ n → exchanged step n ≡ cond (nat_lt n (step + step)) (n - step) n
  above h = ap (λ (b : Bool). cond b (n + step) (cond (nat_lt n (step + step)) (n - step) n)) (le-ltb n step h)

  between : step ≤ n → n < step + step → exchanged step n ≡ n - step
  between h k = above h ∙ ap (λ (b : Bool). cond b (n - step) n) (lt-ltb n (step + step) k)

  beyond : step ≤ n → step + step ≤ n → exchanged step n ≡ n
  beyond h k = above h ∙ ap (λ (b : Bool). cond b (n - step) n) (le-ltb n (step + step) k)

pub exchanged_twice : (step n : ℕ) → exchanged step (exchanged step n) ≡ n
exchanged_twice step n = elim (cases_lt n step) [
  | inl low ↦ ap (exchanged step) (below step n low) ∙ between step (n + step) (omega arith) (omega arith) ∙ omega arith
  | inr high ↦ elim (cases_lt n (step + step)) [
    | inl mid ↦ ap (exchanged step) (between step n high mid) ∙ below step (n - step) (omega arith) ∙ omega arith
    | inr far ↦ ap (exchanged step) (beyond step n high far) ∙ beyond step n high far
  ]
]

both : (a b : Bool) → (a ≡ true → b ≡ true) → (b ≡ true → a ≡ true) → a ≡ b
both true b f g = sym (f refl)
both false true f g = g refl
both false false f g = refl

exchanged_tests : (step n m : ℕ) → (exchanged step n == m) ≡ (n == exchanged step m)
exchanged_tests step n m = both (exchanged step n == m) (n == exchanged step m)
    (λ h. eq-eqb n (exchanged step m) (sym (exchanged_twice step n) ∙ ap (exchanged step) (eqb-true (exchanged step n) m h)))
    (λ h. eq-eqb (exchanged step n) m (ap (exchanged step) (eqb-true n (exchanged step m) h) ∙ exchanged_twice step m))

-- tokens and their records

pub token_twice : (token : Token) → crossed (crossed token) ≡ token
token_twice token = ap (λ (n : ℕ). record { 0 = record { epoch = n; number = token.0.number } }) (exchanged_twice LANE_EPOCHS token.0.epoch)

pub lanes_apart : (a b : Token) → a.0.epoch < LANE_EPOCHS → b.0.epoch < LANE_EPOCHS → a ≡ crossed b → ⊥
lanes_apart a b la lb e =
    let n : a.0.epoch ≡ b.0.epoch + LANE_EPOCHS = ap (λ (t : Token). t.0.epoch) e ∙ below LANE_EPOCHS b.0.epoch lb in
    omega (n, la, arith)

same_crossed : (a b : Token) → same_key (crossed a).0 b.0 ≡ same_key a.0 (crossed b).0
same_crossed a b = ap (λ (x : Bool). x && (a.0.number == b.0.number)) (exchanged_tests LANE_EPOCHS a.0.epoch b.0.epoch)

records_twice : (records : List (Token × Recorded)) → crossed_records (crossed_records records) ≡ records
records_twice [] = refl
records_twice (r ∷ rs) = ap (λ (t : Token). (t, r.1) ∷ crossed_records (crossed_records rs)) (token_twice r.0) ∙ ap (λ (all : List (Token × Recorded)). r ∷ all) (records_twice rs)

pub held_twice : (held : Held) → crossed_held (crossed_held held) ≡ held
held_twice held = ap (λ (records : List (Token × Recorded)). record held { tokens = records }) (records_twice held.tokens)

recorded_first : (r : Token × Recorded) (rs : List (Token × Recorded)) (token : Token) → recorded_at (r ∷ rs) token ≡ cond (same_key r.0.0 token.0) (Some r.1) (recorded_at rs token)
recorded_first r rs token = one (same_key r.0.0 token.0) where
  one : (b : Bool) → part (λ (x : Token × Recorded). Some x.1) None (cond b (Some r) (find (λ (x : Token × Recorded). same_key x.0.0 token.0) rs)) ≡ cond b (Some r.1) (recorded_at rs token)
  one true = refl
  one false = refl

pub recorded_crossed : (records : List (Token × Recorded)) (token : Token) → recorded_at (crossed_records records) token ≡ recorded_at records (crossed token)
recorded_crossed [] token = refl
recorded_crossed (r ∷ rs) token =
    recorded_first (crossed_record r) (crossed_records rs) token
    ∙ ap (λ (b : Bool). cond b (Some r.1) (recorded_at (crossed_records rs) token)) (same_crossed r.0 token)
    ∙ ap (λ (o : Option Recorded). cond (same_key r.0.0 (crossed token).0) (Some r.1) o) (recorded_crossed rs token)
    ∙ sym (recorded_first r rs (crossed token))

-- what tokens do

with_token_crossed : (held : Held) (token : Token) (r : Recorded) → with_token token r (crossed_held held) ≡ crossed_held (with_token (crossed token) r held)
with_token_crossed held token r = ap (λ (t : Token). with_token t r (crossed_held held)) (sym (token_twice token))

recalled_crossed : (token : Token) (r : Recorded) → as_recorded token r ≡ crossed_reply (as_recorded (crossed token) r)
recalled_crossed token (RecordedDone rid version) = ap (λ (t : Token). reply.Done t rid version) (sym (token_twice token))
recalled_crossed token RecordedVoid = ap (λ (t : Token). reply.Void t) (sym (token_twice token))

-- a reply and a state, each equal
steps : (a b : Reply) (h k : Held) → a ≡ b → h ≡ k → ◌≡◌ {A = Reply × Held} (a, h) (b, k)
steps a b h k e f = λ i. (e i, f i)

decide_crossed : (held : Held) (token : Token) (m : Mutation) (o : Option Why) → decide (crossed_held held) token m o ≡ crossed_step (decide held (crossed token) m o)
decide_crossed held token m (Some w) =
    steps (reply.Refused token w (version_told m.conflict w)) (reply.Refused (crossed (crossed token)) w (version_told m.conflict w))
    (with_token token RecordedVoid (crossed_held held)) (crossed_held (with_token (crossed token) RecordedVoid held))
    (ap (λ (t : Token). reply.Refused t w (version_told m.conflict w)) (sym (token_twice token))) (with_token_crossed held token RecordedVoid)
decide_crossed held token m None =
    let after : Held = record held { items = m.items; clock = held.clock + 1 } in
    steps (reply.Done token m.rid m.version) (reply.Done (crossed (crossed token)) m.rid m.version)
    (with_token token (RecordedDone m.rid m.version) (crossed_held after)) (crossed_held (with_token (crossed token) (RecordedDone m.rid m.version) after))
    (ap (λ (t : Token). reply.Done t m.rid m.version) (sym (token_twice token))) (with_token_crossed after token (RecordedDone m.rid m.version))

mutate_crossed : (held : Held) (token : Token) (m : Mutation) (o : Option Recorded) → mutate (crossed_held held) token m o ≡ crossed_step (mutate held (crossed token) m o)
mutate_crossed held token m (Some r) = steps (as_recorded token r) (crossed_reply (as_recorded (crossed token) r)) (crossed_held held) (crossed_held held) (recalled_crossed token r) refl
mutate_crossed held token m None = decide_crossed held token m m.refusal

settle_crossed : (held : Held) (token : Token) (o : Option Recorded) → settle (crossed_held held) token o ≡ crossed_step (settle held (crossed token) o)
settle_crossed held token (Some r) = steps (as_recorded token r) (crossed_reply (as_recorded (crossed token) r)) (crossed_held held) (crossed_held held) (recalled_crossed token r) refl
settle_crossed held token None =
    steps (reply.Void token) (reply.Void (crossed (crossed token))) (with_token token RecordedVoid (crossed_held held)) (crossed_held (with_token (crossed token) RecordedVoid held))
    (ap (λ (t : Token). reply.Void t) (sym (token_twice token))) (with_token_crossed held token RecordedVoid)

keep_crossed : (held : Held) (token : Token) (count : ℕ) (o : Option Recorded) → keep_last (crossed_held held) token count o ≡ crossed_step (keep_last held (crossed token) count o)
keep_crossed held token count (Some r) = steps (as_recorded token r) (crossed_reply (as_recorded (crossed token) r)) (crossed_held held) (crossed_held held) (recalled_crossed token r) refl
keep_crossed held token count None =
    let after : Held = record held { items = map (trimmed (Some count)) held.items; keep = Some count } in
    steps (reply.Done token root_rid no_version) (reply.Done (crossed (crossed token)) root_rid no_version)
    (with_token token (RecordedDone root_rid no_version) (crossed_held after)) (crossed_held (with_token (crossed token) (RecordedDone root_rid no_version) after))
    (ap (λ (t : Token). reply.Done t root_rid no_version) (sym (token_twice token))) (with_token_crossed after token (RecordedDone root_rid no_version))

mutation_crossed : (held : Held) (token : Token) (m : Mutation)
    → mutate (crossed_held held) token m (recorded_at (crossed_records held.tokens) token) ≡ crossed_step (mutate held (crossed token) m (recorded_at held.tokens (crossed token)))
mutation_crossed held token m = ap (mutate (crossed_held held) token m) (recorded_crossed held.tokens token) ∙ mutate_crossed held token m (recorded_at held.tokens (crossed token))

-- replies without tokens

listed_crossed : (key : Key) (entries : List Entry) (b : Bool) → (if b then reply.Listing key entries else reply.Missing key) ≡ crossed_reply (if b then reply.Listing key entries else reply.Missing key)
listed_crossed key entries true = refl
listed_crossed key entries false = refl

fetched_crossed : (key : Key) (start len : ℕ) (held : Bool) (o : Option (List ℕ)) → bytes_told key start len held o ≡ crossed_reply (bytes_told key start len held o)
fetched_crossed key start len held None = refl
fetched_crossed key start len false (Some bytes) = refl
fetched_crossed key start len true (Some bytes) = one (nat_le (start + len) (length bytes)) where
  one : (b : Bool) → (if b then reply.Bytes key start (slice_range bytes start (start + len)) else reply.Missing key) ≡ crossed_reply (if b then reply.Bytes key start (slice_range bytes start (start + len)) else reply.Missing key)
  one true = refl
  one false = refl

-- a step

step_crossed : (held : Held) (q : Request) → remote_step (crossed_held held) q ≡ crossed_step (remote_step held (crossed_request q))
step_crossed held (request.Feed round after) = refl
step_crossed held (request.List key rid) =
    let is : Reply = if is_live_dir held rid then reply.Listing key (listing_of held rid) else reply.Missing key in
    steps is (crossed_reply is) (crossed_held held) (crossed_held held) (listed_crossed key (listing_of held rid) (is_live_dir held rid)) refl
step_crossed held (request.Fetch key rid version start len) =
    let is : Reply = bytes_told key start len (is_held held rid version) (bytes_of held rid version) in
    steps is (crossed_reply is) (crossed_held held) (crossed_held held) (fetched_crossed key start len (is_held held rid version) (bytes_of held rid version)) refl
step_crossed held (request.Put token rid expect parent name bytes) =
    mutation_crossed held token (elim (rid.0 == 0) as (λ _. Mutation) [ true ↦ store.put_new held parent name bytes | false ↦ store.put_version held rid expect bytes ])
step_crossed held (request.MakeDir token parent name) = mutation_crossed held token (store.make_dir held parent name)
step_crossed held (request.Move token rid parent name) = mutation_crossed held token (store.move_to held rid parent name)
step_crossed held (request.Remove token rid expect) = mutation_crossed held token (store.remove_at held rid expect)
step_crossed held (request.Settle token) = ap (settle (crossed_held held) token) (recorded_crossed held.tokens token) ∙ settle_crossed held token (recorded_at held.tokens (crossed token))
step_crossed held (request.Keep token count) = ap (keep_last (crossed_held held) token count) (recorded_crossed held.tokens token) ∙ keep_crossed held token count (recorded_at held.tokens (crossed token))

pub step_seen_alike : (device : Device) (held : Held) (q : Request) → remote_step (held_seen device held) q ≡ step_seen device (remote_step held (request_sent device q))
step_seen_alike device.First held q = refl
step_seen_alike device.Second held q = step_crossed held q
