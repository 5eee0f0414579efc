-- What a request leaves of tokens and versions, and what its reply tells.
use Rattle.std.proofs.Common.{◌≡◌, ◌⊎◌, ◌≤◌, ◌+◌, ◌-◌, ℕ, zero, suc, Bool, true, false, List, [], ◌∷◌, ◌++◌, refl, sym, ◌∙◌, ap, subst, inl, inr, arith, length, eq-eqb}
use Rattle.std.specs.Prelude.{Option, Some, None, cond, map, filter, not, take, drop, slice_get, slice_range, nat_le, nat_lt, ◌&&◌, ◌==◌}
use Rattle.std.specs.List.{flat_map}
use Rattle.cf_base.specs.declared.ids.Rid.{Rid}
use Rattle.cf_base.specs.declared.ids.Token.{Token}
use Rattle.cf_base.specs.declared.ids.Version.{Version}
use Rattle.cf_base.specs.declared.messages.Reply.TheVariants as reply
use Rattle.cf_base.specs.declared.messages.Request.{Request}
use Rattle.cf_base.specs.declared.messages.Request.TheVariants as request
use Rattle.cf_base.specs.declared.messages.Why.{Why}
use Rattle.cf_model.specs.Growth.{CountsFrom, IsCounted, NamesBytes}
use Rattle.cf_model.specs.Numbers.{no_version, root_rid, same_key}
use Rattle.cf_model.specs.Store.{Held, Mutation, at_rid, with_dead, with_new, with_place, with_version, Recorded, RecordedDone, RecordedVoid, Stored, bytes_of, bytes_told, decide, depth_of, entry_told, feed_of, is_held, is_live_dir, keep_last, latest, len_of, listing_of, make_dir, move_to, mutate, put_new, put_version, recorded_at, remote_step, remove_at, stored_at, trimmed, version_bytes, with_token}
use Rattle.cf_model.specs.Store as store
use Rattle.std.proofs.lemmas.List.{length-append, length-map}
use Rattle.cf_model.specs.Words.{comes_before, counting, last_of}
use Rattle.cf_model.proofs.ReplyLaws.{put_names}
use Rattle.cf_model.proofs.StoreLaws.{recorded-first, same_key-refl}
use Rattle.std.proofs.lemmas.Bool.{eqb-true}
use Rattle.cf_model_laws.specs.Invariant.{All, Carries, HasEntry, IsIn, IsWithNoToken, IsWithToken, TellsBytes, TellsTruth}
use Rattle.cf_model_laws.proofs.Gathered.{all_found as all_one, all_append, all_both, all_filter, all_flat, all_map, all_sorted, all_weaker}
use Rattle.cf_model_laws.proofs.SoundSettles.{left_true, right_true}

pub none_some : {A : Type 0} {B : Type 0} (x : A) → ◌≡◌ {A = Option A} None (Some x) → B
none_some x e = absurd (w e) where
  w : None ≡ Some x → ⊥
  w e = cc

pub same_token : (t token : Token) → same_key t.0 token.0 ≡ true → t ≡ token
same_token t token h =
    λ i. record { 0 = record { epoch = eqb-true t.0.epoch token.0.epoch (left_true (t.0.epoch == token.0.epoch) (t.0.number == token.0.number) h) i; number = eqb-true t.0.number token.0.number (right_true (t.0.epoch == token.0.epoch) (t.0.number == token.0.number) h) i } }

-- a Done that is recorded anew

abbrev Names : Held → Token → List ℕ → Type 0
Names held token bytes = (rid : Rid) (version : Version) → recorded_at held.tokens token ≡ Some (RecordedDone rid version) → bytes_of held rid version ≡ Some bytes

decided_names : (held : Held) (token : Token) (m : Mutation) (bytes : List ℕ) (w : Option Why) → NamesBytes (decide held token m w).1 bytes (decide held token m w).0 → Names (decide held token m w).1 token bytes
decided_names held token m bytes (Some w) h rid version e =
    let z : ◌≡◌ {A = Option Recorded} (Some RecordedVoid) (Some (RecordedDone rid version)) = sym (recorded-first held.tokens token RecordedVoid) ∙ e in cc
decided_names held token m bytes None h rid version e =
    let z : ◌≡◌ {A = Option Recorded} (Some (RecordedDone m.rid m.version)) (Some (RecordedDone rid version)) = sym (recorded-first held.tokens token (RecordedDone m.rid m.version)) ∙ e in
    let a : m.rid ≡ rid = cc in let b : m.version ≡ version = cc in
    subst (λ (x : Rid). bytes_of (decide held token m None).1 x version ≡ Some bytes) a (subst (λ (x : Version). bytes_of (decide held token m None).1 m.rid x ≡ Some bytes) b h)

mutated_names : (held : Held) (token : Token) (m : Mutation) (bytes : List ℕ) (o : Option Recorded) → o ≡ None → NamesBytes (mutate held token m o).1 bytes (mutate held token m o).0 → Names (mutate held token m o).1 token bytes
mutated_names held token m bytes (Some r) e h = let z : None ≡ Some r = sym e in none_some r z
mutated_names held token m bytes None e h = decided_names held token m bytes m.refusal h

pub other_first : (ts : List (Token × Recorded)) (t token : Token) (new : Recorded) → same_key t.0 token.0 ≡ false → recorded_at ((t, new) ∷ ts) token ≡ recorded_at ts token
other_first ts t token new e = rw e refl

decided_other : (held : Held) (t token : Token) (m : Mutation) (w : Option Why) → same_key t.0 token.0 ≡ false → recorded_at (decide held t m w).1.tokens token ≡ recorded_at held.tokens token
decided_other held t token m (Some w) e = other_first held.tokens t token RecordedVoid e
decided_other held t token m None e = other_first held.tokens t token (RecordedDone m.rid m.version) e

pub mutated_other : (held : Held) (t token : Token) (m : Mutation) (o : Option Recorded) → same_key t.0 token.0 ≡ false → recorded_at (mutate held t m o).1.tokens token ≡ recorded_at held.tokens token
mutated_other held t token m (Some r) e = refl
mutated_other held t token m None e = decided_other held t token m m.refusal e

unrecorded : (held new : Held) (token : Token) (bytes : List ℕ) → recorded_at held.tokens token ≡ None → recorded_at new.tokens token ≡ recorded_at held.tokens token → Names new token bytes
unrecorded held new token bytes none same rid version e = none_some (RecordedDone rid version) (sym none ∙ sym same ∙ e)

-- a token without a record, and a request that is right about it
pub recorded_new : (held : Held) (q : Request) (token : Token) (bytes : List ℕ) → IsCounted held → recorded_at held.tokens token ≡ None → Carries token bytes q → Names (remote_step held q).1 token bytes
recorded_new held (request.Feed round after) token bytes counted none c = unrecorded held held token bytes none refl
recorded_new held (request.List key rid) token bytes counted none c = unrecorded held held token bytes none refl
recorded_new held (request.Fetch key rid version start len) token bytes counted none c = unrecorded held held token bytes none refl
recorded_new held (request.Put t rid expect parent name bs) token bytes counted none c = by (same_key t.0 token.0) refl where
  by : (b : Bool) → same_key t.0 token.0 ≡ b → Names (remote_step held (request.Put t rid expect parent name bs)).1 token bytes
  by true e =
      let same : token ≡ t = sym (same_token t token e) in
      let free : recorded_at held.tokens t ≡ None = subst (λ (x : Token). recorded_at held.tokens x ≡ None) same none in
      subst (λ (x : Token). Names (remote_step held (request.Put t rid expect parent name bs)).1 x bytes) (sym same)
      (subst (λ (x : List ℕ). Names (remote_step held (request.Put t rid expect parent name bs)).1 t x) (c e)
      (mutated_names held t (elim (rid.0 == 0) as (λ _. Mutation) [ true ↦ put_new held parent name bs | false ↦ put_version held rid expect bs ]) bs (recorded_at held.tokens t) free (put_names held t rid expect parent name bs counted free)))
  by false e =
      unrecorded held (remote_step held (request.Put t rid expect parent name bs)).1 token bytes none
      (mutated_other held t token (elim (rid.0 == 0) as (λ _. Mutation) [ true ↦ put_new held parent name bs | false ↦ put_version held rid expect bs ]) (recorded_at held.tokens t) e)
recorded_new held (request.MakeDir t parent name) token bytes counted none c =
    unrecorded held (remote_step held (request.MakeDir t parent name)).1 token bytes none (mutated_other held t token (make_dir held parent name) (recorded_at held.tokens t) c)
recorded_new held (request.Move t rid parent name) token bytes counted none c =
    unrecorded held (remote_step held (request.Move t rid parent name)).1 token bytes none (mutated_other held t token (move_to held rid parent name) (recorded_at held.tokens t) c)
recorded_new held (request.Remove t rid expect) token bytes counted none c =
    unrecorded held (remote_step held (request.Remove t rid expect)).1 token bytes none (mutated_other held t token (remove_at held rid expect) (recorded_at held.tokens t) c)
recorded_new held (request.Settle t) token bytes counted none c = by (recorded_at held.tokens t) (same_key t.0 token.0) refl where
  by : (o : Option Recorded) (b : Bool) → same_key t.0 token.0 ≡ b → Names (store.settle held t o).1 token bytes
  by (Some r) b e = unrecorded held held token bytes none refl
  by None true e = λ rid version k.
      let same : t ≡ token = same_token t token e in
      let z : ◌≡◌ {A = Option Recorded} (Some RecordedVoid) (Some (RecordedDone rid version)) = sym (recorded-first held.tokens t RecordedVoid) ∙ ap (λ (x : Token). recorded_at ((t, RecordedVoid) ∷ held.tokens) x) same ∙ k in cc
  by None false e = unrecorded held (with_token t RecordedVoid held) token bytes none (other_first held.tokens t token RecordedVoid e)
recorded_new held (request.Keep t count) token bytes counted none c = by (recorded_at held.tokens t) where
  by : (o : Option Recorded) → Names (keep_last held t count o).1 token bytes
  by (Some r) = unrecorded held held token bytes none refl
  by None = unrecorded held (keep_last held t count None).1 token bytes none (other_first held.tokens t token (RecordedDone root_rid no_version) c)

-- the tokens that have a record

abbrev Kept : (Token × Recorded → Type 0) → Held → Type 0
Kept P held = All P held.tokens

mutated_kept : (P : Token × Recorded → Type 0) (held : Held) (t : Token) (m : Mutation) → ((r : Recorded) → P (t, r)) → Kept P held → (o : Option Recorded) → Kept P (mutate held t m o).1
mutated_kept P held t m k h (Some r) = h
mutated_kept P held t m k h None = by m.refusal where
  by : (w : Option Why) → Kept P (decide held t m w).1
  by (Some w) = (k RecordedVoid, h)
  by None = (k (RecordedDone m.rid m.version), h)

-- the token of a request, if it has one
abbrev pub HasToken : (Token → Type 0) → Request → Type 0
HasToken P (request.Put t rid expect parent name bytes) = P t
HasToken P (request.MakeDir t parent name) = P t
HasToken P (request.Move t rid parent name) = P t
HasToken P (request.Remove t rid expect) = P t
HasToken P (request.Settle t) = P t
HasToken P (request.Keep t count) = P t
HasToken P _ = Unit {0}

pub tokens_kept : (P : Token → Type 0) (held : Held) (q : Request) → HasToken P q → All (λ t. P t.0) held.tokens → All (λ t. P t.0) (remote_step held q).1.tokens
tokens_kept P held (request.Feed round after) k h = h
tokens_kept P held (request.List key rid) k h = h
tokens_kept P held (request.Fetch key rid version start len) k h = h
tokens_kept P held (request.Put t rid expect parent name bytes) k h = mutated_kept (λ t. P t.0) held t (elim (rid.0 == 0) as (λ _. Mutation) [ true ↦ put_new held parent name bytes | false ↦ put_version held rid expect bytes ]) (λ r. k) h (recorded_at held.tokens t)
tokens_kept P held (request.MakeDir t parent name) k h = mutated_kept (λ t. P t.0) held t (make_dir held parent name) (λ r. k) h (recorded_at held.tokens t)
tokens_kept P held (request.Move t rid parent name) k h = mutated_kept (λ t. P t.0) held t (move_to held rid parent name) (λ r. k) h (recorded_at held.tokens t)
tokens_kept P held (request.Remove t rid expect) k h = mutated_kept (λ t. P t.0) held t (remove_at held rid expect) (λ r. k) h (recorded_at held.tokens t)
tokens_kept P held (request.Settle t) k h = by (recorded_at held.tokens t) where
  by : (o : Option Recorded) → All (λ t. P t.0) (store.settle held t o).1.tokens
  by (Some r) = h
  by None = (k, h)
tokens_kept P held (request.Keep t count) k h = by (recorded_at held.tokens t) where
  by : (o : Option Recorded) → All (λ t. P t.0) (keep_last held t count o).1.tokens
  by (Some r) = h
  by None = (k, h)

-- each entry that is told of an item of the remote is there

last-of : {A : Type 0} (d : A) (x : A) (xs : List A) → slice_get (x ∷ xs) (length xs) ≡ Some (last_of x xs)
last-of d x [] = refl
last-of d x (y ∷ ys) = last-of d y ys

last_told : (versions : List (List ℕ)) → ((length versions ≡ 0) × (len_of versions ≡ 0)) ⊎ ((bytes : List ℕ) × (k : ℕ) × (length versions ≡ suc k) × (slice_get versions k ≡ Some bytes) × (length bytes ≡ len_of versions))
last_told [] = inl (refl, refl)
last_told (v ∷ vs) = inr (last_of v vs, length vs, refl, last-of v v vs, refl)

abbrev Found : List Stored → Stored → Type 0
Found ss s = stored_at ss s.rid ≡ Some s

all_found : (n : ℕ) (ss : List Stored) → CountsFrom n ss → All (λ s. (Found ss s) × (n ≤ s.rid.0)) ss
all_found n [] c = tt
all_found n (t ∷ ss) c = (
  (rw (same t.rid.0) refl, let z : t.rid.0 ≡ n = c.0 in let y : n ≤ t.rid.0 = omega (arith, z) in y),
  all_weaker (λ s. (Found ss s) × (n + 1 ≤ s.rid.0)) (λ s. (Found (t ∷ ss) s) × (n ≤ s.rid.0)) (λ s k. (past s k.0 (differ t.rid.0 s.rid.0 n c.0 k.1), let z : n + 1 ≤ s.rid.0 = k.1 in let y : n ≤ s.rid.0 = omega (arith, z) in y)) ss (all_found (n + 1) ss c.1),
) where
  same : (m : ℕ) → (m == m) ≡ true
  same m = eq-eqb m m refl

  past : (s : Stored) → stored_at ss s.rid ≡ Some s → (t.rid.0 == s.rid.0) ≡ false → stored_at (t ∷ ss) s.rid ≡ Some s
  past s f e = rw e f

  differ : (a b n : ℕ) → a ≡ n → n + 1 ≤ b → (a == b) ≡ false
  differ a b n e h = by (a == b) refl where
    by : (c : Bool) → (a == b) ≡ c → c ≡ false
    by true q = let z : a ≡ b = eqb-true a b q in absurd (omega (arith, z, e, h))
    by false q = refl

all_under : (n : ℕ) (ss : List Stored) → CountsFrom n ss → All (λ s. s.rid.0 + 1 ≤ n + length ss) ss
all_under n [] c = tt
all_under n (s ∷ ss) c = (here s.rid.0 n (length ss) c.0, all_weaker (λ t. t.rid.0 + 1 ≤ n + 1 + length ss) (λ t. t.rid.0 + 1 ≤ n + suc (length ss)) (λ t k. there t.rid.0 n (length ss) k) ss (all_under (n + 1) ss c.1)) where
  here : (a n k : ℕ) → a ≡ n → a + 1 ≤ n + suc k
  here a n k e = omega (arith, e)

  there : (a n k : ℕ) → a + 1 ≤ n + 1 + k → a + 1 ≤ n + suc k
  there a n k h = omega (arith, h)

pub kind_under : (items : List Stored) (rid : Rid) (d : Bool) → CountsFrom 1 items → IsIn (λ s. s.directory ≡ d) items rid → rid.0 + 1 ≤ 1 + length items
kind_under items rid d c h =
    let k : (h.0.rid.0 + 1 ≤ 1 + length items) × ((h.0.rid.0 == rid.0) ≡ true) = all_one (λ s. s.rid.0 + 1 ≤ 1 + length items) (λ s. s.rid.0 == rid.0) items h.0 h.1 (all_under 1 items c) in
    subst (λ (n : ℕ). n + 1 ≤ 1 + length items) (eqb-true h.0.rid.0 rid.0 k.1) k.0

told_one : (held : Held) (s : Stored) → Found held.items s → 1 ≤ s.rid.0 → s.rid.0 ≤ length held.items → HasEntry held (entry_told s)
told_one held s found some below = (some, below, (λ file. by (last_told s.versions)), (s, found, refl)) where
  by : ((length s.versions ≡ 0) × (len_of s.versions ≡ 0)) ⊎ ((bytes : List ℕ) × (k : ℕ) × (length s.versions ≡ suc k) × (slice_get s.versions k ≡ Some bytes) × (length bytes ≡ len_of s.versions))
      → ((length s.versions ≡ 0) × (len_of s.versions ≡ 0)) ⊎ ((bytes : List ℕ) × (bytes_of held s.rid (record { 0 = latest s }) ≡ Some bytes) × (length bytes ≡ len_of s.versions))
  by (inl h) = inl h
  by (inr h) = inr (h.0, ap (λ (o : Option Stored). version_bytes o (length s.versions)) found ∙ ap (λ (n : ℕ). version_bytes (Some s) n) h.2 ∙ h.3, h.4)

told_all : (held : Held) → IsCounted held → All (λ s. HasEntry held (entry_told s)) held.items
told_all held c =
    all_both (λ s. (Found held.items s) × (1 ≤ s.rid.0)) (λ s. s.rid.0 + 1 ≤ 1 + length held.items) (λ s. HasEntry held (entry_told s)) (λ s k b. told_one held s k.0 k.1 (less s.rid.0 (length held.items) b)) held.items (all_found 1 held.items c) (all_under 1 held.items c) where
      less : (a b : ℕ) → a + 1 ≤ 1 + b → a ≤ b
      less a b h = omega (arith, h)

feed_told : (held : Held) (after : ℕ) → IsCounted held → All (HasEntry held) (feed_of held after)
feed_told held after c =
    let seen : List Stored = filter (λ s. nat_lt after s.changed && not (s.rid.0 == 1)) held.items in
    let all : All (λ s. HasEntry held (entry_told s)) seen = all_filter (λ s. HasEntry held (entry_told s)) (λ s. nat_lt after s.changed && not (s.rid.0 == 1)) held.items (told_all held c) in
    all_map (λ s. HasEntry held (entry_told s)) (HasEntry held) entry_told (λ s k. k) (flat_map (λ d. filter (λ s. s.live && (depth_of held s.rid == d)) seen) (counting 1 32) ++ filter (λ s. not s.live) seen)
    (all_append (λ s. HasEntry held (entry_told s)) (flat_map (λ d. filter (λ s. s.live && (depth_of held s.rid == d)) seen) (counting 1 32)) (filter (λ s. not s.live) seen)
    (all_flat (λ s. HasEntry held (entry_told s)) (λ d. filter (λ s. s.live && (depth_of held s.rid == d)) seen) (λ d. all_filter (λ s. HasEntry held (entry_told s)) (λ s. s.live && (depth_of held s.rid == d)) seen all) (counting 1 32))
    (all_filter (λ s. HasEntry held (entry_told s)) (λ s. not s.live) seen all))

listing_told : (held : Held) (rid : Rid) → IsCounted held → All (HasEntry held) (listing_of held rid)
listing_told held rid c =
    all_sorted (HasEntry held) (λ e f. comes_before e.name f.name) (map entry_told (filter (λ s. s.live && (s.parent.0 == rid.0)) held.items))
    (all_map (λ s. HasEntry held (entry_told s)) (HasEntry held) entry_told (λ s k. k) (filter (λ s. s.live && (s.parent.0 == rid.0)) held.items)
    (all_filter (λ s. HasEntry held (entry_told s)) (λ s. s.live && (s.parent.0 == rid.0)) held.items (told_all held c)))

mutated_tells : (held : Held) (t : Token) (m : Mutation) (o : Option Recorded) → recorded_at held.tokens t ≡ o → TellsTruth (mutate held t m o).1 (mutate held t m o).0
mutated_tells held t m (Some (RecordedDone rid version)) e = e
mutated_tells held t m (Some RecordedVoid) e = tt
mutated_tells held t m None e = by m.refusal where
  by : (w : Option Why) → TellsTruth (decide held t m w).1 (decide held t m w).0
  by (Some w) = tt
  by None = recorded-first held.tokens t (RecordedDone m.rid m.version)

pub tells_truth : (held : Held) (q : Request) → IsCounted held → TellsTruth (remote_step held q).1 (remote_step held q).0
tells_truth held (request.Feed round after) c = (same held.clock, feed_told held after c) where
  same : (n : ℕ) → n ≤ n
  same n = omega arith
tells_truth held (request.List key rid) c = by (is_live_dir held rid) where
  by : (b : Bool) → TellsTruth held (cond b (reply.Listing key (listing_of held rid)) (reply.Missing key))
  by true = listing_told held rid c
  by false = tt
tells_truth held (request.Fetch key rid version start len) c = by (is_held held rid version) (bytes_of held rid version) where
  one : (bytes : List ℕ) (b : Bool) → TellsTruth held (cond b (reply.Bytes key start (slice_range bytes start (start + len))) (reply.Missing key))
  one bytes true = tt
  one bytes false = tt

  by : (h : Bool) (o : Option (List ℕ)) → TellsTruth held (bytes_told key start len h o)
  by true None = tt
  by false None = tt
  by false (Some bytes) = tt
  by true (Some bytes) = one bytes (nat_le (start + len) (length bytes))
tells_truth held (request.Put t rid expect parent name bytes) c = mutated_tells held t (elim (rid.0 == 0) as (λ _. Mutation) [ true ↦ put_new held parent name bytes | false ↦ put_version held rid expect bytes ]) (recorded_at held.tokens t) refl
tells_truth held (request.MakeDir t parent name) c = mutated_tells held t (make_dir held parent name) (recorded_at held.tokens t) refl
tells_truth held (request.Move t rid parent name) c = mutated_tells held t (move_to held rid parent name) (recorded_at held.tokens t) refl
tells_truth held (request.Remove t rid expect) c = mutated_tells held t (remove_at held rid expect) (recorded_at held.tokens t) refl
tells_truth held (request.Settle t) c = by (recorded_at held.tokens t) refl where
  by : (o : Option Recorded) → recorded_at held.tokens t ≡ o → TellsTruth (store.settle held t o).1 (store.settle held t o).0
  by (Some (RecordedDone rid version)) e = e
  by (Some RecordedVoid) e = tt
  by None e = tt
tells_truth held (request.Keep t count) c = by (recorded_at held.tokens t) refl where
  by : (o : Option Recorded) → recorded_at held.tokens t ≡ o → TellsTruth (keep_last held t count o).1 (keep_last held t count o).0
  by (Some (RecordedDone rid version)) e = e
  by (Some RecordedVoid) e = tt
  by None e = recorded-first held.tokens t (RecordedDone root_rid no_version)

take-itself : (n : ℕ) (xs : List ℕ) → take (length (take n xs)) xs ≡ take n xs
take-itself zero xs = refl
take-itself (suc n) [] = refl
take-itself (suc n) (x ∷ xs) = ap (λ (r : List ℕ). x ∷ r) (take-itself n xs)

-- each reply to an upload has its token
decided_with : (held : Held) (t : Token) (m : Mutation) (o : Option Recorded) → IsWithToken t (mutate held t m o).0
decided_with held t m (Some (RecordedDone rid version)) = same_key-refl t.0
decided_with held t m (Some RecordedVoid) = same_key-refl t.0
decided_with held t m None = by m.refusal where
  by : (w : Option Why) → IsWithToken t (decide held t m w).0
  by (Some w) = same_key-refl t.0
  by None = same_key-refl t.0

settled_with : (held : Held) (t : Token) (o : Option Recorded) → IsWithToken t (store.settle held t o).0
settled_with held t (Some (RecordedDone rid version)) = same_key-refl t.0
settled_with held t (Some RecordedVoid) = same_key-refl t.0
settled_with held t None = same_key-refl t.0

kept_with : (held : Held) (t : Token) (count : ℕ) (o : Option Recorded) → IsWithToken t (keep_last held t count o).0
kept_with held t count (Some (RecordedDone rid version)) = same_key-refl t.0
kept_with held t count (Some RecordedVoid) = same_key-refl t.0
kept_with held t count None = same_key-refl t.0

pub tells_bytes : (held : Held) (q : Request) → TellsBytes held q (remote_step held q).0
tells_bytes held (request.Feed round after) = tt
tells_bytes held (request.List key rid) = by (is_live_dir held rid) where
  by : (b : Bool) → IsWithNoToken (cond b (reply.Listing key (listing_of held rid)) (reply.Missing key))
  by true = tt
  by false = tt
tells_bytes held (request.Fetch key rid version start len) = by (is_held held rid version) (bytes_of held rid version) refl where
  one : (bytes : List ℕ) → bytes_of held rid version ≡ Some bytes → (b : Bool) → TellsBytes held (request.Fetch key rid version start len) (cond b (reply.Bytes key start (slice_range bytes start (start + len))) (reply.Missing key))
  one bytes e true = (bytes, e, take-itself (start + len - start) (drop start bytes))
  one bytes e false = tt

  by : (h : Bool) (o : Option (List ℕ)) → bytes_of held rid version ≡ o → TellsBytes held (request.Fetch key rid version start len) (bytes_told key start len h o)
  by true None e = tt
  by false None e = tt
  by false (Some bytes) e = tt
  by true (Some bytes) e = one bytes e (nat_le (start + len) (length bytes))
tells_bytes held (request.Put t rid expect parent name bytes) = decided_with held t _ (recorded_at held.tokens t)
tells_bytes held (request.MakeDir t parent name) = decided_with held t _ (recorded_at held.tokens t)
tells_bytes held (request.Move t rid parent name) = decided_with held t _ (recorded_at held.tokens t)
tells_bytes held (request.Remove t rid expect) = decided_with held t _ (recorded_at held.tokens t)
tells_bytes held (request.Settle t) = settled_with held t (recorded_at held.tokens t)
tells_bytes held (request.Keep t count) = kept_with held t count (recorded_at held.tokens t)

-- no item is lost

same_at : (rid : Rid) (f : Stored → Stored) (ss : List Stored) → length (at_rid rid f ss) ≡ length ss
same_at rid f ss = length-map ss (λ s. cond (s.rid.0 == rid.0) (f s) s)

decided_grow : (held : Held) (t : Token) (m : Mutation) (o : Option Recorded) → length held.items ≤ length m.items → length held.items ≤ length (mutate held t m o).1.items
decided_grow held t m (Some d) h = same (length held.items) where
  same : (n : ℕ) → n ≤ n
  same n = omega arith
decided_grow held t m None h = by m.refusal where
  same : (n : ℕ) → n ≤ n
  same n = omega arith

  by : (w : Option Why) → length held.items ≤ length (decide held t m w).1.items
  by (Some w) = same (length held.items)
  by None = h

pub items_grow : (held : Held) (q : Request) → length held.items ≤ length (remote_step held q).1.items
items_grow held q = by q where
  same : (n : ℕ) → n ≤ n
  same n = omega arith

  equal : (n m : ℕ) → m ≡ n → n ≤ m
  equal n m e = omega (arith, e)

  longer : (a b d : ℕ) → d ≡ a + b → a ≤ d
  longer a b d e = omega (arith, e)

  new : (parent : Rid) (name : List ℕ) (directory : Bool) (versions : List (List ℕ)) → length held.items ≤ length (with_new held parent name directory versions)
  new parent name directory versions = longer (length held.items) 1 (length (with_new held parent name directory versions)) (length-append held.items _)

  settled : (t : Token) (o : Option Recorded) → length held.items ≤ length (store.settle held t o).1.items
  settled t (Some d) = same (length held.items)
  settled t None = same (length held.items)

  kept : (t : Token) (count : ℕ) (o : Option Recorded) → length held.items ≤ length (keep_last held t count o).1.items
  kept t count (Some d) = same (length held.items)
  kept t count None = equal (length held.items) (length (map (trimmed (Some count)) held.items)) (length-map held.items (trimmed (Some count)))

  put : (t : Token) (rid : Rid) (expect : Version) (parent : Rid) (name bytes : List ℕ) (b : Bool)
      → length held.items ≤ length (mutate held t (elim b as (λ _. Mutation) [ true ↦ put_new held parent name bytes | false ↦ put_version held rid expect bytes ]) (recorded_at held.tokens t)).1.items
  put t rid expect parent name bytes true = decided_grow held t (put_new held parent name bytes) (recorded_at held.tokens t) (new parent name false (bytes ∷ []))
  put t rid expect parent name bytes false = decided_grow held t (put_version held rid expect bytes) (recorded_at held.tokens t) (equal (length held.items) (length (with_version held rid bytes)) (same_at rid _ held.items))

  by : (q : Request) → length held.items ≤ length (remote_step held q).1.items
  by (request.Feed round after) = same (length held.items)
  by (request.List key rid) = same (length held.items)
  by (request.Fetch key rid version start len) = same (length held.items)
  by (request.Put t rid expect parent name bytes) = put t rid expect parent name bytes (rid.0 == 0)
  by (request.MakeDir t parent name) = decided_grow held t (make_dir held parent name) (recorded_at held.tokens t) (new parent name true [])
  by (request.Move t rid parent name) = decided_grow held t (move_to held rid parent name) (recorded_at held.tokens t) (equal (length held.items) (length (with_place held rid parent name)) (same_at rid _ held.items))
  by (request.Remove t rid expect) = decided_grow held t (remove_at held rid expect) (recorded_at held.tokens t) (equal (length held.items) (length (with_dead held rid)) (same_at rid _ held.items))
  by (request.Settle t) = settled t (recorded_at held.tokens t)
  by (request.Keep t count) = kept t count (recorded_at held.tokens t)
