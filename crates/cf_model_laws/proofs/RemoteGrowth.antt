-- What grows in a remote by a request, and what was told of it stays true.
use Rattle.std.proofs.Common.{◌≡◌, ◌⊎◌, ◌≤◌, ◌+◌, ◌-◌, ℕ, Bool, true, false, List, [], ◌∷◌, ◌++◌, refl, ◌∙◌, ap, inl, inr, arith, length, subst}
use Rattle.std.specs.Prelude.{Option, Some, None, cond, map, max, ◌==◌}
use Rattle.cf_base.specs.declared.ids.Rid.{Rid}
use Rattle.cf_base.specs.declared.ids.Token.{Token}
use Rattle.cf_base.specs.declared.ids.Version.{Version}
use Rattle.cf_base.specs.declared.messages.Entry.{Entry}
use Rattle.cf_base.specs.declared.messages.Reply.{Reply}
use Rattle.cf_base.specs.declared.messages.Reply.TheVariants as reply
use Rattle.cf_base.specs.declared.messages.Request.{Request}
use Rattle.cf_base.specs.declared.messages.Request.TheVariants as request
use Rattle.cf_base.specs.declared.messages.Why.{Why}
use Rattle.cf_model.specs.Growth.{Extends}
use Rattle.cf_model.specs.Store.{Held, Mutation, Recorded, RecordedDone, Stored, at_rid, bytes_of, decide, keep_last, latest, make_dir, move_to, mutate, put_new, put_version, recorded_at, remote_step, remove_at, settle, stored_at, trimmed, with_version}
use Rattle.cf_model_laws.specs.Invariant.{HasEntry, IsIn, IsOfKind, TellsBytes, TellsTruth}
use Rattle.cf_model_laws.proofs.Gathered.{all_weaker}
use Rattle.cf_model_laws.proofs.RemoteSteps.{items_grow, none_some}

-- the clock

clock_after : (n : ℕ) → n ≤ n + 1
clock_after n = omega arith

clock_still : (n : ℕ) → n ≤ n
clock_still n = omega arith

mutated_clock : (held : Held) (token : Token) (m : Mutation) (o : Option Recorded) → held.clock ≤ (mutate held token m o).1.clock
mutated_clock held token m (Some r) = clock_still held.clock
mutated_clock held token m None = by m.refusal where
  by : (w : Option Why) → held.clock ≤ (decide held token m w).1.clock
  by (Some w) = clock_still held.clock
  by None = clock_after held.clock

pub clock_rises : (held : Held) (q : Request) → held.clock ≤ (remote_step held q).1.clock
clock_rises held (request.Feed round after) = clock_still held.clock
clock_rises held (request.List key rid) = clock_still held.clock
clock_rises held (request.Fetch key rid version start len) = clock_still held.clock
clock_rises held (request.Put token rid expect parent name bytes) = mutated_clock held token (elim (rid.0 == 0) as (λ _. Mutation) [ true ↦ put_new held parent name bytes | false ↦ put_version held rid expect bytes ]) (recorded_at held.tokens token)
clock_rises held (request.MakeDir token parent name) = mutated_clock held token (make_dir held parent name) (recorded_at held.tokens token)
clock_rises held (request.Move token rid parent name) = mutated_clock held token (move_to held rid parent name) (recorded_at held.tokens token)
clock_rises held (request.Remove token rid expect) = mutated_clock held token (remove_at held rid expect) (recorded_at held.tokens token)
clock_rises held (request.Settle token) = by (recorded_at held.tokens token) where
  by : (o : Option Recorded) → held.clock ≤ (settle held token o).1.clock
  by (Some r) = clock_still held.clock
  by None = clock_still held.clock
clock_rises held (request.Keep token count) = by (recorded_at held.tokens token) where
  by : (o : Option Recorded) → held.clock ≤ (keep_last held token count o).1.clock
  by (Some r) = clock_still held.clock
  by None = clock_still held.clock

-- what no request takes from an item

pub record Stays (Q : Stored → Type 0) : Type 0 where
  pub trims : (keep : Option ℕ) (s : Stored) → Q s → Q (trimmed keep s)
  pub writes : (versions : List (List ℕ)) (changed : ℕ) (s : Stored) → Q s → Q (record s { versions = versions; changed = changed })
  pub moves : (parent : Rid) (name : List ℕ) (changed : ℕ) (s : Stored) → Q s → Q (record s { parent = parent; name = name; changed = changed })
  pub dies : (changed : ℕ) (s : Stored) → Q s → Q (record s { live = false; changed = changed })

in_mapped : (Q : Stored → Type 0) (f : Stored → Stored) → ((s : Stored) → (f s).rid ≡ s.rid) → ((s : Stored) → Q s → Q (f s)) → (ss : List Stored) (rid : Rid) → IsIn Q ss rid → IsIn Q (map f ss) rid
in_mapped Q f same k [] rid h = none_some h.0 h.1
in_mapped Q f same k (s ∷ ss) rid h = by (s.rid.0 == rid.0) refl h (in_mapped Q f same k ss rid) where
  some : (a b : Stored) → ◌≡◌ {A = Option Stored} (Some a) (Some b) → b ≡ a
  some a b e = cc

  by : (b : Bool) → (s.rid.0 == rid.0) ≡ b → ((t : Stored) × (cond b (Some s) (stored_at ss rid) ≡ Some t) × Q t) → (IsIn Q ss rid → IsIn Q (map f ss) rid) → IsIn Q (f s ∷ map f ss) rid
  by true q j more = (f s, ap (λ (c : Bool). cond c (Some (f s)) (stored_at (map f ss) rid)) (ap (λ (x : Rid). x.0 == rid.0) (same s) ∙ q), k s (subst Q (some s j.0 j.1) j.2))
  by false q j more = ((more j).0, ap (λ (c : Bool). cond c (Some (f s)) (stored_at (map f ss) rid)) (ap (λ (x : Rid). x.0 == rid.0) (same s) ∙ q) ∙ (more j).1, (more j).2)

in_more : (Q : Stored → Type 0) (ss : List Stored) (t : Stored) (rid : Rid) → IsIn Q ss rid → IsIn Q (ss ++ t ∷ []) rid
in_more Q [] t rid h = none_some h.0 h.1
in_more Q (s ∷ ss) t rid h = by (s.rid.0 == rid.0) h (in_more Q ss t rid) where
  by : (b : Bool) → ((u : Stored) × (cond b (Some s) (stored_at ss rid) ≡ Some u) × Q u) → (IsIn Q ss rid → IsIn Q (ss ++ t ∷ []) rid) → (u : Stored) × (cond b (Some s) (stored_at (ss ++ t ∷ []) rid) ≡ Some u) × Q u
  by true j more = j
  by false j more = more j

trimmed_rid : (keep : Option ℕ) (s : Stored) → (trimmed keep s).rid ≡ s.rid
trimmed_rid None s = refl
trimmed_rid (Some n) s = by s.directory where
  by : (b : Bool) → (cond b s (record s { least = max s.least (latest s + 1 - n) })).rid ≡ s.rid
  by true = refl
  by false = refl

pub in_at : (Q : Stored → Type 0) (at : Rid) (f : Stored → Stored) → ((s : Stored) → (f s).rid ≡ s.rid) → ((s : Stored) → Q s → Q (f s)) → (ss : List Stored) (rid : Rid) → IsIn Q ss rid → IsIn Q (at_rid at f ss) rid
in_at Q at f same k ss rid h = in_mapped Q (λ s. cond (s.rid.0 == at.0) (f s) s) (λ s. by s (s.rid.0 == at.0)) (λ s. also s (s.rid.0 == at.0)) ss rid h where
  by : (s : Stored) (b : Bool) → (cond b (f s) s).rid ≡ s.rid
  by s true = same s
  by s false = refl

  also : (s : Stored) (b : Bool) → Q s → Q (cond b (f s) s)
  also s true j = k s j
  also s false j = j

in_mutated : (Q : Stored → Type 0) (held : Held) (token : Token) (m : Mutation) (o : Option Recorded) (rid : Rid) → (IsIn Q held.items rid → IsIn Q m.items rid) → IsIn Q held.items rid → IsIn Q (mutate held token m o).1.items rid
in_mutated Q held token m (Some r) rid k h = h
in_mutated Q held token m None rid k h = by m.refusal where
  by : (w : Option Why) → IsIn Q (decide held token m w).1.items rid
  by (Some w) = h
  by None = k h

pub in_version : (Q : Stored → Type 0) → Stays Q → (held : Held) (at : Rid) (bytes : List ℕ) (rid : Rid) → IsIn Q held.items rid → IsIn Q (with_version held at bytes) rid
in_version Q stays held at bytes rid h =
    in_at Q at (λ s. trimmed held.keep (record s { versions = s.versions ++ bytes ∷ []; changed = held.clock + 1 })) (λ s. trimmed_rid held.keep (record s { versions = s.versions ++ bytes ∷ []; changed = held.clock + 1 }))
    (λ s j. stays.trims held.keep (record s { versions = s.versions ++ bytes ∷ []; changed = held.clock + 1 }) (stays.writes (s.versions ++ bytes ∷ []) (held.clock + 1) s j)) held.items rid h

pub step_stays : (Q : Stored → Type 0) → Stays Q → (held : Held) (q : Request) (rid : Rid) → IsIn Q held.items rid → IsIn Q (remote_step held q).1.items rid
step_stays Q stays held (request.Feed round after) rid h = h
step_stays Q stays held (request.List key at) rid h = h
step_stays Q stays held (request.Fetch key at version start len) rid h = h
step_stays Q stays held (request.Put token at expect parent name bytes) rid h = by (at.0 == 0) where
  by : (b : Bool) → IsIn Q (mutate held token (elim b as (λ _. Mutation) [ true ↦ put_new held parent name bytes | false ↦ put_version held at expect bytes ]) (recorded_at held.tokens token)).1.items rid
  by true = in_mutated Q held token (put_new held parent name bytes) (recorded_at held.tokens token) rid (λ k. in_more Q held.items _ rid k) h
  by false = in_mutated Q held token (put_version held at expect bytes) (recorded_at held.tokens token) rid (λ k. in_version Q stays held at bytes rid k) h
step_stays Q stays held (request.MakeDir token parent name) rid h = in_mutated Q held token (make_dir held parent name) (recorded_at held.tokens token) rid (λ k. in_more Q held.items _ rid k) h
step_stays Q stays held (request.Move token at parent name) rid h =
    in_mutated Q held token (move_to held at parent name) (recorded_at held.tokens token) rid (λ k. in_at Q at (λ s. record s { parent = parent; name = name; changed = held.clock + 1 }) (λ s. refl) (λ s j. stays.moves parent name (held.clock + 1) s j) held.items rid k) h
step_stays Q stays held (request.Remove token at expect) rid h =
    in_mutated Q held token (remove_at held at expect) (recorded_at held.tokens token) rid (λ k. in_at Q at (λ s. record s { live = false; changed = held.clock + 1 }) (λ s. refl) (λ s j. stays.dies (held.clock + 1) s j) held.items rid k) h
step_stays Q stays held (request.Settle token) rid h = by (recorded_at held.tokens token) where
  by : (o : Option Recorded) → IsIn Q (settle held token o).1.items rid
  by (Some r) = h
  by None = h
step_stays Q stays held (request.Keep token count) rid h = by (recorded_at held.tokens token) where
  by : (o : Option Recorded) → IsIn Q (keep_last held token count o).1.items rid
  by (Some r) = h
  by None = in_mapped Q (trimmed (Some count)) (trimmed_rid (Some count)) (λ s j. stays.trims (Some count) s j) held.items rid h

pub kind_stays : (d : Bool) → Stays (λ s. s.directory ≡ d)
kind_stays d = record { trims = trims; writes = λ versions changed s h. h; moves = λ parent name changed s h. h; dies = λ changed s h. h } where
  trims : (keep : Option ℕ) (s : Stored) → s.directory ≡ d → (trimmed keep s).directory ≡ d
  trims None s h = h
  trims (Some n) s h = by s.directory h where
    by : (b : Bool) → s.directory ≡ d → (cond b s (record s { least = max s.least (latest s + 1 - n) })).directory ≡ d
    by true h = h
    by false h = h

pub any_stays : Stays (λ s. Unit {0})
any_stays = record { trims = λ keep s h. tt; writes = λ versions changed s h. tt; moves = λ parent name changed s h. tt; dies = λ changed s h. tt }

pub dead_stays : Stays (λ s. s.live ≡ false)
dead_stays = record { trims = trims; writes = λ versions changed s h. h; moves = λ parent name changed s h. h; dies = λ changed s h. refl } where
  trims : (keep : Option ℕ) (s : Stored) → s.live ≡ false → (trimmed keep s).live ≡ false
  trims None s h = h
  trims (Some n) s h = by s.directory where
    by : (b : Bool) → (cond b s (record s { least = max s.least (latest s + 1 - n) })).live ≡ false
    by true = h
    by false = h

-- what grows in a remote: the count of its items and its clock; a kind stays
pub record GrowsTo (old new : Held) : Type 0 where
  pub longer : length old.items ≤ length new.items
  pub later : old.clock ≤ new.clock
  pub kinds : (rid : Rid) (directory : Bool) → IsOfKind old rid directory → IsOfKind new rid directory

pub step_grows : (held : Held) (q : Request) → GrowsTo held (remote_step held q).1
step_grows held q = record { longer = items_grow held q; later = clock_rises held q; kinds = λ rid d h. step_stays (λ s. s.directory ≡ d) (kind_stays d) held q rid h }

-- what was told stays true

pub still_there : (old new : Held) (e : Entry) → Extends old new → GrowsTo old new → HasEntry old e → HasEntry new e
still_there old new e x g h = (h.0, most e.rid.0 (length old.items) (length new.items) h.1 g.longer, (λ file. by (h.2 file)), g.kinds e.rid e.dir h.3) where
  most : (a b c : ℕ) → a ≤ b → b ≤ c → a ≤ c
  most a b c h k = omega (arith, h, k)

  by : ((e.version.0 ≡ 0) × (e.len ≡ 0)) ⊎ ((bytes : List ℕ) × (bytes_of old e.rid e.version ≡ Some bytes) × (length bytes ≡ e.len)) → ((e.version.0 ≡ 0) × (e.len ≡ 0)) ⊎ ((bytes : List ℕ) × (bytes_of new e.rid e.version ≡ Some bytes) × (length bytes ≡ e.len))
  by (inl k) = inl k
  by (inr k) = inr (k.0, x.versions e.rid e.version k.0 k.1, k.2)

pub still_true : (old new : Held) (a : Reply) → Extends old new → GrowsTo old new → TellsTruth old a → TellsTruth new a
still_true old new (reply.Done token rid version) x g h = x.tokens token (RecordedDone rid version) h
still_true old new (reply.Feed round clock es) x g h = (late clock old.clock new.clock h.0 g.later, all_weaker (HasEntry old) (HasEntry new) (λ e k. still_there old new e x g k) es h.1) where
  late : (a b c : ℕ) → a ≤ b → b ≤ c → a ≤ c
  late a b c h k = omega (arith, h, k)
still_true old new (reply.Listing key es) x g h = all_weaker (HasEntry old) (HasEntry new) (λ e k. still_there old new e x g k) es h
still_true old new (reply.Bytes key start bytes) x g h = tt
still_true old new (reply.Missing key) x g h = tt
still_true old new (reply.Void token) x g h = tt
still_true old new (reply.Refused token w version) x g h = tt
still_true old new (reply.Gone key) x g h = tt

still_at : (old new : Held) (rid : Rid) (version : Version) (a : Reply) → Extends old new → TellsBytes old (request.Fetch (record { epoch = 0; number = 0 }) rid version 0 0) a → TellsBytes new (request.Fetch (record { epoch = 0; number = 0 }) rid version 0 0) a
still_at old new rid version (reply.Bytes key start bytes) x h = (h.0, x.versions rid version h.0 h.1, h.2)
still_at old new rid version (reply.Done token r v) x h = h
still_at old new rid version (reply.Feed round clock es) x h = tt
still_at old new rid version (reply.Listing key es) x h = tt
still_at old new rid version (reply.Missing key) x h = tt
still_at old new rid version (reply.Void token) x h = h
still_at old new rid version (reply.Refused token w v) x h = h
still_at old new rid version (reply.Gone key) x h = tt

pub still_bytes : (old new : Held) (q : Request) (a : Reply) → Extends old new → TellsBytes old q a → TellsBytes new q a
still_bytes old new (request.Fetch key rid version start len) a x h = still_at old new rid version a x h
still_bytes old new (request.Feed round after) a x h = h
still_bytes old new (request.List key rid) a x h = h
still_bytes old new (request.Put t rid expect parent name bytes) a x h = h
still_bytes old new (request.MakeDir t parent name) a x h = h
still_bytes old new (request.Move t rid parent name) a x h = h
still_bytes old new (request.Remove t rid expect) a x h = h
still_bytes old new (request.Settle t) a x h = h
still_bytes old new (request.Keep t count) a x h = h
