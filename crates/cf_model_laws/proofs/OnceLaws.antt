-- Numbers are given once, and a token makes one version.
use Rattle.std.proofs.Common.{◌≡◌, ◌<◌, ◌≤◌, ◌+◌, ℕ, Bool, true, false, List, [], ◌∷◌, ◌++◌, ◌⊎◌, inl, inr, refl, sym, ◌∙◌, ap, subst, arith, length, eq-eqb}
use Rattle.std.specs.Prelude.{Option, Some, None, cond, ◌==◌, map, max, ◌-◌, ◌&&◌}
use Rattle.std.proofs.lemmas.Bool.{eqb-true}
use Rattle.std.proofs.lemmas.List.{length-append}
use Rattle.cf_base.specs.declared.answers.Answer.{Answer}
use Rattle.cf_base.specs.declared.events.Event.{Event}
use Rattle.cf_base.specs.declared.ids.Key.{Key}
use Rattle.cf_base.specs.declared.ids.Rid.{Rid}
use Rattle.cf_base.specs.declared.ids.Token.{Token}
use Rattle.cf_base.specs.declared.messages.Reply.{Reply}
use Rattle.cf_base.specs.declared.messages.Request.{Request}
use Rattle.cf_base.specs.declared.messages.Request.TheVariants as request
use Rattle.cf_base.specs.declared.messages.Why.{Why}
use Rattle.cf_base.specs.declared.policies.Mode.{Mode}
use Rattle.cf_model.specs.Given.{NotFewer, Rises}
use Rattle.cf_model.specs.Growth.{CountsFrom, IsCounted}
use Rattle.cf_model.specs.Lawful.{Runs}
use Rattle.cf_model.specs.Numbers.{key_after, no_version, root_rid, same_key}
use Rattle.cf_model.specs.State.{State}
use Rattle.cf_model.specs.Store.{Held, Mutation, Recorded, RecordedDone, RecordedVoid, Stored, as_recorded, at_rid, decide, latest, make_dir, move_to, mutate, put_new, put_version, recorded_at, remote_step, remove_at, trimmed, with_dead, with_new, with_place, with_token}
use Rattle.cf_model.specs.Store as store
use Rattle.cf_model.proofs.CountLaws.{runs_rise}
use Rattle.cf_model.proofs.RemoteLaws.{runs_extend}
use Rattle.cf_model_laws.specs.GivenOnce.{Asks, Changes, Handles, IsGiven, Numbered, Rounds, Uploads, Waits, WasGiven, count_of, messages_of, next_of, token_of, versions_made, versions_of}

-- numbers

counts_rise : (s t : State) (what : Numbered) → NotFewer s t → count_of what s ≤ count_of what t
counts_rise s t Changes h = h.1
counts_rise s t Asks h = h.2
counts_rise s t Waits h = h.3
counts_rise s t Handles h = h.4
counts_rise s t Rounds h = h.5
counts_rise s t Uploads h = h.6

pub later : (e f c d : ℕ) (k : Key) → (e < f) ⊎ ((f ≡ e) × (c ≤ d)) → WasGiven e c k → WasGiven f d k
later e f c d k (inl h) (inl g) = let z : k.epoch < f = omega (arith, h, g) in inl z
later e f c d k (inl h) (inr g) = let z : k.epoch < f = let y : k.epoch ≡ e = g.0 in omega (arith, h, y) in inl z
later e f c d k (inr h) (inl g) = let z : k.epoch < f = let y : f ≡ e = h.0 in omega (arith, y, g) in inl z
later e f c d k (inr h) (inr g) = inr (g.0 ∙ sym h.0, let a : c ≤ d = h.1 in let b : k.number ≤ c = g.1 in omega (arith, a, b))

risen : (s t : State) (what : Numbered) → Rises s t → (s.filter.volume.epoch < t.filter.volume.epoch) ⊎ ((t.filter.volume.epoch ≡ s.filter.volume.epoch) × (count_of what s ≤ count_of what t))
risen s t what h = by h.0 where
  by : ((s.filter.volume.epoch < t.filter.volume.epoch) ⊎ NotFewer s t) → (s.filter.volume.epoch < t.filter.volume.epoch) ⊎ ((t.filter.volume.epoch ≡ s.filter.volume.epoch) × (count_of what s ≤ count_of what t))
  by (inl e) = inl e
  by (inr n) = inr (n.0, counts_rise s t what n)

pub stays_given : (m : Mode) (s : State) (trace : List (Event × Answer)) (t : State) (what : Numbered) (k : Key) → Runs m s trace t → IsGiven what s k → IsGiven what t k
stays_given m s trace t what k h g = later s.filter.volume.epoch t.filter.volume.epoch (count_of what s) (count_of what t) k (risen s t what (runs_rise m s trace t h)) g

not_next : (e c : ℕ) → WasGiven e c (key_after e c) → ⊥
not_next e c (inl h) = omega (arith, h)
not_next e c (inr h) = let z : c + 1 ≤ c = h.1 in omega (arith, z)

pub next_is_new : (m : Mode) (s : State) (trace : List (Event × Answer)) (t : State) (what : Numbered) → Runs m s trace t → IsGiven what s (next_of what t) → ⊥
next_is_new m s trace t what h g = not_next t.filter.volume.epoch (count_of what t) (stays_given m s trace t what (next_of what t) h g)

less : (a b : ℕ) → a ≤ b → a < b + 1
less a b h = omega (arith, h)

pub messages_rise : (m : Mode) (s : State) (trace : List (Event × Answer)) (t : State) → Runs m s trace t → messages_of s < messages_of t + 1
messages_rise m s trace t h = less (messages_of s) (messages_of t) (runs_rise m s trace t h).1

pub peers_rise : (m : Mode) (s : State) (trace : List (Event × Answer)) (t : State) → Runs m s trace t → s.peer_tokens < t.peer_tokens + 1
peers_rise m s trace t h = less s.peer_tokens t.peer_tokens (runs_rise m s trace t h).2

-- versions

same_count : (f : Stored → Stored) → ((s : Stored) → length (f s).versions ≡ length s.versions) → (ss : List Stored) → versions_of (map f ss) ≡ versions_of ss
same_count f k [] = refl
same_count f k (s ∷ ss) = sums (length (f s).versions) (length s.versions) (versions_of (map f ss)) (versions_of ss) (k s) (same_count f k ss) where
  sums : (a b c d : ℕ) → a ≡ b → c ≡ d → a + c ≡ b + d
  sums a b c d h g = omega (arith, h, g)

at_same : (rid : Rid) (f : Stored → Stored) → ((s : Stored) → length (f s).versions ≡ length s.versions) → (ss : List Stored) → versions_of (at_rid rid f ss) ≡ versions_of ss
at_same rid f k ss = same_count (λ s. cond (s.rid.0 == rid.0) (f s) s) (λ s. by s (s.rid.0 == rid.0)) ss where
  by : (s : Stored) (b : Bool) → length (cond b (f s) s).versions ≡ length s.versions
  by s true = k s
  by s false = refl

-- no item from n on has the rid
none_at : (rid : Rid) (f : Stored → Stored) (n : ℕ) (ss : List Stored) → CountsFrom n ss → rid.0 < n → versions_of (at_rid rid f ss) ≡ versions_of ss
none_at rid f n [] h small = refl
none_at rid f n (s ∷ ss) h small = by (s.rid.0 == rid.0) (λ e. eqb-true s.rid.0 rid.0 e) (none_at rid f (n + 1) ss h.1 (omega (arith, small))) where
  by : (b : Bool) → (b ≡ true → s.rid.0 ≡ rid.0) → versions_of (at_rid rid f ss) ≡ versions_of ss → versions_of (cond b (f s) s ∷ at_rid rid f ss) ≡ versions_of (s ∷ ss)
  by true e g = let z : s.rid.0 ≡ rid.0 = e refl in let y : s.rid.0 ≡ n = h.0 in absurd (omega (arith, z, y, small))
  by false e g = ap (λ (m : ℕ). length s.versions + m) g

one_more : (rid : Rid) (f : Stored → Stored) → ((s : Stored) → length (f s).versions ≡ length s.versions + 1) → (n : ℕ) (ss : List Stored) → CountsFrom n ss → versions_of (at_rid rid f ss) ≤ versions_of ss + 1
one_more rid f k n [] h = omega arith
one_more rid f k n (s ∷ ss) h = by (s.rid.0 == rid.0) (λ e. eqb-true s.rid.0 rid.0 e) (one_more rid f k (n + 1) ss h.1) where
  past : (a b c d e : ℕ) → a ≡ b + 1 → c ≡ d → a + c ≤ b + d + 1
  past a b c d e h g = omega (arith, h, g)

  stays : (a c d : ℕ) → c ≤ d + 1 → a + c ≤ a + d + 1
  stays a c d h = omega (arith, h)

  by : (b : Bool) → (b ≡ true → s.rid.0 ≡ rid.0) → versions_of (at_rid rid f ss) ≤ versions_of ss + 1 → versions_of (cond b (f s) s ∷ at_rid rid f ss) ≤ versions_of (s ∷ ss) + 1
  by true e g =
      let small : rid.0 < n + 1 = let z : s.rid.0 ≡ rid.0 = e refl in let y : s.rid.0 ≡ n = h.0 in omega (arith, z, y) in
      past (length (f s).versions) (length s.versions) (versions_of (at_rid rid f ss)) (versions_of ss) 0 (k s) (none_at rid f (n + 1) ss h.1 small)
  by false e g = stays (length s.versions) (versions_of (at_rid rid f ss)) (versions_of ss) g

appended : (ss : List Stored) (s : Stored) → versions_of (ss ++ s ∷ []) ≡ versions_of ss + length s.versions
appended [] s = let z : length s.versions + 0 ≡ 0 + length s.versions = omega arith in z
appended (t ∷ ss) s = sums (length t.versions) (versions_of (ss ++ s ∷ [])) (versions_of ss) (length s.versions) (appended ss s) where
  sums : (a b c d : ℕ) → b ≡ c + d → a + b ≡ a + c + d
  sums a b c d h = omega (arith, h)

trim_keeps : (keep : Option ℕ) (s : Stored) → length (trimmed keep s).versions ≡ length s.versions
trim_keeps None s = refl
trim_keeps (Some n) s = by s.directory where
  by : (d : Bool) → length (cond d s (record s { least = max s.least (latest s + 1 - n) })).versions ≡ length s.versions
  by true = refl
  by false = refl

version_added : (keep : Option ℕ) (bytes : List ℕ) (clock : ℕ) (s : Stored) → length (trimmed keep (record s { versions = s.versions ++ bytes ∷ []; changed = clock })).versions ≡ length s.versions + 1
version_added keep bytes clock s = trim_keeps keep (record s { versions = s.versions ++ bytes ∷ []; changed = clock }) ∙ length-append s.versions (bytes ∷ [])

same : (a b : ℕ) → a ≡ b → a ≤ b + 1
same a b h = omega (arith, h)

at_most : (a b c : ℕ) → a ≡ b + c → c ≤ 1 → a ≤ b + 1
at_most a b c h g = omega (arith, h, g)

decided_one : (held : Held) (token : Token) (m : Mutation) (w : Option Why) → versions_of m.items ≤ versions_of held.items + 1 → versions_made (decide held token m w).1 ≤ versions_made held + 1
decided_one held token m (Some w) h = same (versions_of held.items) (versions_of held.items) refl
decided_one held token m None h = h

mutated_one : (held : Held) (token : Token) (m : Mutation) (r : Option Recorded) → versions_of m.items ≤ versions_of held.items + 1 → versions_made (mutate held token m r).1 ≤ versions_made held + 1
mutated_one held token m (Some r) h = same (versions_of held.items) (versions_of held.items) refl
mutated_one held token m None h = decided_one held token m m.refusal h

pub one_version : (held : Held) (q : Request) → IsCounted held → versions_made (remote_step held q).1 ≤ versions_made held + 1
one_version held (request.Feed round after) c = same _ _ refl
one_version held (request.List key rid) c = same _ _ refl
one_version held (request.Fetch key rid version start len) c = same _ _ refl
one_version held (request.Put token rid expect parent name bytes) c = by (rid.0 == 0) where
  by : (new : Bool) → versions_made (mutate held token (elim new as (λ _. Mutation) [ true ↦ put_new held parent name bytes | false ↦ put_version held rid expect bytes ]) (recorded_at held.tokens token)).1 ≤ versions_made held + 1
  by true = mutated_one held token (put_new held parent name bytes) (recorded_at held.tokens token) (at_most (versions_of (with_new held parent name false (bytes ∷ []))) (versions_of held.items) 1 (appended held.items _) (omega arith))
  by false = mutated_one held token (put_version held rid expect bytes) (recorded_at held.tokens token) (one_more rid _ (version_added held.keep bytes (held.clock + 1)) 1 held.items c)
one_version held (request.MakeDir token parent name) c = mutated_one held token (make_dir held parent name) (recorded_at held.tokens token) (at_most (versions_of (with_new held parent name true [])) (versions_of held.items) 0 (appended held.items _) (omega arith))
one_version held (request.Move token rid parent name) c = mutated_one held token (move_to held rid parent name) (recorded_at held.tokens token) (same (versions_of (with_place held rid parent name)) (versions_of held.items) (at_same rid _ (λ s. refl) held.items))
one_version held (request.Remove token rid expect) c = mutated_one held token (remove_at held rid expect) (recorded_at held.tokens token) (same (versions_of (with_dead held rid)) (versions_of held.items) (at_same rid _ (λ s. refl) held.items))
one_version held (request.Settle token) c = by (recorded_at held.tokens token) where
  by : (r : Option Recorded) → versions_made (store.settle held token r).1 ≤ versions_made held + 1
  by (Some r) = same _ _ refl
  by None = same _ _ refl
one_version held (request.Keep token count) c = by (recorded_at held.tokens token) where
  by : (r : Option Recorded) → versions_made (store.keep_last held token count r).1 ≤ versions_made held + 1
  by (Some r) = same _ _ refl
  by None = same (versions_of (map (trimmed (Some count)) held.items)) (versions_of held.items) (same_count (trimmed (Some count)) (trim_keeps (Some count)) held.items)

-- records

self : (t : Token) → same_key t.0 t.0 ≡ true
self t = both (t.0.epoch == t.0.epoch) (t.0.number == t.0.number) (eq-eqb t.0.epoch t.0.epoch refl) (eq-eqb t.0.number t.0.number refl) where
  both : (a b : Bool) → a ≡ true → b ≡ true → (a && b) ≡ true
  both true true h g = refl
  both true false h g = g
  both false b h g = h

abbrev HasRecord : Held → Token → Type 0
HasRecord held token = (r : Recorded) × (recorded_at held.tokens token ≡ Some r)

recorded_now : (held : Held) (token : Token) (r : Recorded) → HasRecord (with_token token r held) token
recorded_now held token r = (r, rw (self token) refl)

by_decided : (held : Held) (token : Token) (m : Mutation) (w : Option Why) → HasRecord (decide held token m w).1 token
by_decided held token m (Some w) = recorded_now held token RecordedVoid
by_decided held token m None = recorded_now (record held { items = m.items; clock = held.clock + 1 }) token (RecordedDone m.rid m.version)

by_mutated : (held : Held) (token : Token) (m : Mutation) (o : Option Recorded) → recorded_at held.tokens token ≡ o → HasRecord (mutate held token m o).1 token
by_mutated held token m (Some r) e = (r, e)
by_mutated held token m None e = by_decided held token m m.refusal

abbrev RecordOf : Held → Request → Token → Type 0
RecordOf held q token = HasRecord (remote_step held q).1 token

own_record : (held : Held) (q : Request) (token : Token) → token_of q ≡ Some token → RecordOf held q token
own_record held (request.Feed round after) token e = cc
own_record held (request.List key rid) token e = cc
own_record held (request.Fetch key rid version start len) token e = cc
own_record held (request.Put t rid expect parent name bytes) token e =
    subst (λ (x : Token). RecordOf held (request.Put t rid expect parent name bytes) x) (let z : t ≡ token = cc in z)
    (by_mutated held t (elim (rid.0 == 0) as (λ _. Mutation) [ true ↦ put_new held parent name bytes | false ↦ put_version held rid expect bytes ]) (recorded_at held.tokens t) refl)
own_record held (request.MakeDir t parent name) token e =
    subst (λ (x : Token). RecordOf held (request.MakeDir t parent name) x) (let z : t ≡ token = cc in z) (by_mutated held t (make_dir held parent name) (recorded_at held.tokens t) refl)
own_record held (request.Move t rid parent name) token e =
    subst (λ (x : Token). RecordOf held (request.Move t rid parent name) x) (let z : t ≡ token = cc in z) (by_mutated held t (move_to held rid parent name) (recorded_at held.tokens t) refl)
own_record held (request.Remove t rid expect) token e =
    subst (λ (x : Token). RecordOf held (request.Remove t rid expect) x) (let z : t ≡ token = cc in z) (by_mutated held t (remove_at held rid expect) (recorded_at held.tokens t) refl)
own_record held (request.Settle t) token e = subst (λ (x : Token). RecordOf held (request.Settle t) x) (let z : t ≡ token = cc in z) (by (recorded_at held.tokens t) refl) where
  by : (o : Option Recorded) → recorded_at held.tokens t ≡ o → HasRecord (store.settle held t o).1 t
  by (Some r) e = (r, e)
  by None e = recorded_now held t RecordedVoid
own_record held (request.Keep t count) token e = subst (λ (x : Token). RecordOf held (request.Keep t count) x) (let z : t ≡ token = cc in z) (by (recorded_at held.tokens t) refl) where
  by : (o : Option Recorded) → recorded_at held.tokens t ≡ o → HasRecord (store.keep_last held t count o).1 t
  by (Some r) e = (r, e)
  by None e = recorded_now (record held { items = map (trimmed (Some count)) held.items; keep = Some count }) t (RecordedDone root_rid no_version)

pub leaves_record : (held : Held) (q : Request) (token : Token) → token_of q ≡ Some token → (r : Recorded) × (recorded_at (remote_step held q).1.tokens token ≡ Some r)
leaves_record held q token e = own_record held q token e

abbrev Again : Held → Request → Token → Recorded → Type 0
Again held q token r = remote_step held q ≡ (as_recorded token r, held)

again_of : (held : Held) (m : Mutation) (t : Token) (o : Option Recorded) (r : Recorded) → o ≡ Some r → ◌≡◌ {A = Reply × Held} (mutate held t m o) (as_recorded t r, held)
again_of held m t o r e = rw e refl

again : (held : Held) (q : Request) (token : Token) (r : Recorded) → recorded_at held.tokens token ≡ Some r → token_of q ≡ Some token → ◌≡◌ {A = Reply × Held} (remote_step held q) (as_recorded token r, held)
again held (request.Feed round after) token r h e = cc
again held (request.List key rid) token r h e = cc
again held (request.Fetch key rid version start len) token r h e = cc
again held (request.Put t rid expect parent name bytes) token r h e =
    let z : token ≡ t = cc in rw z (again_of held (elim (rid.0 == 0) as (λ _. Mutation) [ true ↦ put_new held parent name bytes | false ↦ put_version held rid expect bytes ]) t (recorded_at held.tokens t) r (subst (λ (x : Token). recorded_at held.tokens x ≡ Some r) z h))
again held (request.MakeDir t parent name) token r h e = let z : token ≡ t = cc in rw z (again_of held (make_dir held parent name) t (recorded_at held.tokens t) r (subst (λ (x : Token). recorded_at held.tokens x ≡ Some r) z h))
again held (request.Move t rid parent name) token r h e = let z : token ≡ t = cc in rw z (again_of held (move_to held rid parent name) t (recorded_at held.tokens t) r (subst (λ (x : Token). recorded_at held.tokens x ≡ Some r) z h))
again held (request.Remove t rid expect) token r h e = let z : token ≡ t = cc in rw z (again_of held (remove_at held rid expect) t (recorded_at held.tokens t) r (subst (λ (x : Token). recorded_at held.tokens x ≡ Some r) z h))
again held (request.Settle t) token r h e = let z : token ≡ t = cc in rw z (by (recorded_at held.tokens t) (subst (λ (x : Token). recorded_at held.tokens x ≡ Some r) z h)) where
  by : (o : Option Recorded) → o ≡ Some r → ◌≡◌ {A = Reply × Held} (store.settle held t o) (as_recorded t r, held)
  by o k = rw k refl
again held (request.Keep t count) token r h e = let z : token ≡ t = cc in rw z (by (recorded_at held.tokens t) (subst (λ (x : Token). recorded_at held.tokens x ≡ Some r) z h)) where
  by : (o : Option Recorded) → o ≡ Some r → ◌≡◌ {A = Reply × Held} (store.keep_last held t count o) (as_recorded t r, held)
  by o k = rw k refl

pub done_once : (m : Mode) (s : State) (trace : List (Event × Answer)) (t : State) (token : Token) (r : Recorded) (q : Request)
    → Runs m s trace t → recorded_at s.link.remote.tokens token ≡ Some r → token_of q ≡ Some token → ◌≡◌ {A = Reply × Held} (remote_step t.link.remote q) (as_recorded token r, t.link.remote)
done_once m s trace t token r q h e k = again t.link.remote q token r ((runs_extend m s trace t h).tokens token r e) k
