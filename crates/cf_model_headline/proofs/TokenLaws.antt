-- Each version that is made is recorded with the token of the request that made it.
use Rattle.std.proofs.Common.{◌≡◌, ◌⊎◌, ◌+◌, ℕ, zero, suc, Bool, true, false, List, [], ◌∷◌, ◌++◌, refl, sym, ◌∙◌, ap, subst, inl, inr, arith, length}
use Rattle.std.specs.Prelude.{Option, Some, None, cond, map, max, slice_get, ◌-◌, ◌==◌}
use Rattle.std.proofs.lemmas.Bool.{eqb-true}
use Rattle.cf_base.specs.declared.answers.Answer.{Answer}
use Rattle.cf_base.specs.declared.events.Event.{Event}
use Rattle.cf_base.specs.declared.ids.Rid.{Rid}
use Rattle.cf_base.specs.declared.ids.Token.{Token}
use Rattle.cf_base.specs.declared.ids.Version.{Version}
use Rattle.cf_base.specs.declared.messages.Request.{Request}
use Rattle.cf_base.specs.declared.messages.Request.TheVariants as request
use Rattle.cf_base.specs.declared.messages.Why.{Why}
use Rattle.cf_base.specs.declared.policies.Mode.{Mode}
use Rattle.cf_model.specs.Growth.{Extends}
use Rattle.cf_model.specs.Lawful.{Runs}
use Rattle.cf_model.specs.State.{State}
use Rattle.cf_model.specs.Store.{Held, Mutation, Recorded, RecordedDone, RecordedVoid, Stored, at_rid, bytes_of, decide, keep_last, latest, latest_at, make_dir, move_to, mutate, next_rid, put_new, put_version, recorded_at, remote_step, remove_at, stored_at, trimmed, version_bytes, with_dead, with_new, with_place, with_token, with_version}
use Rattle.cf_model.specs.Store as store
use Rattle.cf_model.specs.Words.{part}
use Rattle.cf_model.proofs.RemoteLaws.{runs_keep_remote}
use Rattle.cf_model.proofs.StoreLaws.{recorded-first, step_extends}
use Rattle.cf_model_headline.specs.Tokens.{OneVersionEach, WasDone}

-- what a request adds: at most this version of this item
abbrev Adds : List Stored → List Stored → Rid → ℕ → Type 0
Adds ss ts at n = (rid : Rid) (v : ℕ) (bytes : List ℕ) → version_bytes (stored_at ts rid) v ≡ Some bytes → (version_bytes (stored_at ss rid) v ≡ Some bytes) ⊎ ((rid.0 ≡ at.0) × (v ≡ n))

appended : (ss : List Stored) (x : Stored) (rid : Rid) (v : ℕ) (bytes : List ℕ) → version_bytes (stored_at (ss ++ x ∷ []) rid) v ≡ Some bytes
    → (version_bytes (stored_at ss rid) v ≡ Some bytes) ⊎ ((rid.0 ≡ x.rid.0) × (version_bytes (Some x) v ≡ Some bytes))
appended [] x rid v bytes e = by (x.rid.0 == rid.0) refl e where
  by : (b : Bool) → (x.rid.0 == rid.0) ≡ b → version_bytes (cond b (Some x) None) v ≡ Some bytes → (version_bytes None v ≡ Some bytes) ⊎ ((rid.0 ≡ x.rid.0) × (version_bytes (Some x) v ≡ Some bytes))
  by true q e = inr (sym (eqb-true x.rid.0 rid.0 q), e)
  by false q e = inl e
appended (s ∷ ss) x rid v bytes e = by (s.rid.0 == rid.0) e (appended ss x rid v bytes) where
  by : (b : Bool) → version_bytes (cond b (Some s) (stored_at (ss ++ x ∷ []) rid)) v ≡ Some bytes
      → (version_bytes (stored_at (ss ++ x ∷ []) rid) v ≡ Some bytes → (version_bytes (stored_at ss rid) v ≡ Some bytes) ⊎ ((rid.0 ≡ x.rid.0) × (version_bytes (Some x) v ≡ Some bytes)))
      → (version_bytes (cond b (Some s) (stored_at ss rid)) v ≡ Some bytes) ⊎ ((rid.0 ≡ x.rid.0) × (version_bytes (Some x) v ≡ Some bytes))
  by true e k = inl e
  by false e k = k e

-- the item that the changed one was
mapped : (f : Stored → Stored) → ((s : Stored) → (f s).rid.0 ≡ s.rid.0) → (ss : List Stored) (rid : Rid) (v : ℕ) (bytes : List ℕ) → version_bytes (stored_at (map f ss) rid) v ≡ Some bytes
    → (s : Stored) × (stored_at ss rid ≡ Some s) × (s.rid.0 ≡ rid.0) × (version_bytes (Some (f s)) v ≡ Some bytes)
mapped f k [] rid v bytes e = cc
mapped f k (s ∷ ss) rid v bytes e =
    by (s.rid.0 == rid.0) refl (subst (λ (n : ℕ). version_bytes (cond (n == rid.0) (Some (f s)) (stored_at (map f ss) rid)) v ≡ Some bytes) (k s) e) (mapped f k ss rid v bytes)
  where
    by : (b : Bool) → (s.rid.0 == rid.0) ≡ b → version_bytes (cond b (Some (f s)) (stored_at (map f ss) rid)) v ≡ Some bytes
        → (version_bytes (stored_at (map f ss) rid) v ≡ Some bytes → (t : Stored) × (stored_at ss rid ≡ Some t) × (t.rid.0 ≡ rid.0) × (version_bytes (Some (f t)) v ≡ Some bytes))
        → (t : Stored) × (cond b (Some s) (stored_at ss rid) ≡ Some t) × (t.rid.0 ≡ rid.0) × (version_bytes (Some (f t)) v ≡ Some bytes)
    by true q e g = (s, refl, eqb-true s.rid.0 rid.0 q, e)
    by false q e g = g e

-- a change that leaves the versions
plainly : (f : Stored → Stored) → ((s : Stored) → (f s).rid.0 ≡ s.rid.0) → ((s : Stored) → (f s).versions ≡ s.versions) → (ss : List Stored) (at : Rid) (n : ℕ) → Adds ss (map f ss) at n
plainly f k same ss at n rid v bytes e =
    let x = mapped f k ss rid v bytes e in
    inl (ap (λ (o : Option Stored). version_bytes o v) x.1 ∙ versions x.0 (f x.0) v (sym (same x.0)) ∙ x.3)
  where
    versions : (s t : Stored) (v : ℕ) → s.versions ≡ t.versions → version_bytes (Some s) v ≡ version_bytes (Some t) v
    versions s t zero e = refl
    versions s t (suc v) e = ap (λ (vs : List (List ℕ)). slice_get vs v) e

one_plain : (g : Stored → Stored) → ((s : Stored) → (g s).rid.0 ≡ s.rid.0) → ((s : Stored) → (g s).versions ≡ s.versions) → (of : Rid) (ss : List Stored) (at : Rid) (n : ℕ) → Adds ss (at_rid of g ss) at n
one_plain g k same of ss at n = plainly (λ s. cond (s.rid.0 == of.0) (g s) s) (λ s. rid s (s.rid.0 == of.0)) (λ s. versions s (s.rid.0 == of.0)) ss at n where
  rid : (s : Stored) (b : Bool) → (cond b (g s) s).rid.0 ≡ s.rid.0
  rid s true = k s
  rid s false = refl

  versions : (s : Stored) (b : Bool) → (cond b (g s) s).versions ≡ s.versions
  versions s true = same s
  versions s false = refl

trimmed_rid : (keep : Option ℕ) (s : Stored) → (trimmed keep s).rid.0 ≡ s.rid.0
trimmed_rid None s = refl
trimmed_rid (Some n) s = by s.directory where
  by : (d : Bool) → (cond d s (record s { least = max s.least (latest s + 1 - n) })).rid.0 ≡ s.rid.0
  by true = refl
  by false = refl

trimmed_versions : (keep : Option ℕ) (s : Stored) → (trimmed keep s).versions ≡ s.versions
trimmed_versions None s = refl
trimmed_versions (Some n) s = by s.directory where
  by : (d : Bool) → (cond d s (record s { least = max s.least (latest s + 1 - n) })).versions ≡ s.versions
  by true = refl
  by false = refl

-- the last of more versions
last_or_old : (vs : List (List ℕ)) (new : List ℕ) (v : ℕ) (bytes : List ℕ) → slice_get (vs ++ new ∷ []) v ≡ Some bytes → (slice_get vs v ≡ Some bytes) ⊎ (v ≡ length vs)
last_or_old [] new zero bytes e = inr refl
last_or_old [] new (suc v) bytes e = cc
last_or_old (x ∷ vs) new zero bytes e = inl e
last_or_old (x ∷ vs) new (suc v) bytes e = elim (last_or_old vs new v bytes e) as (λ _. (slice_get vs v ≡ Some bytes) ⊎ (suc v ≡ suc (length vs))) [ inl h ↦ inl h | inr h ↦ inr (ap suc h) ]

rid_at : (a b : Rid) → a.0 ≡ b.0 → a ≡ b
rid_at a b e = ap (λ (n : ℕ). make n) e where
  make : ℕ → Rid
  make n = record { 0 = n }

version_adds : (held : Held) (at : Rid) (new : List ℕ) → Adds held.items (with_version held at new) at ((latest_at held at).0 + 1)
version_adds held at new rid v bytes e =
    let x = mapped (λ s. cond (s.rid.0 == at.0) (newer s) s) (λ s. rids s (s.rid.0 == at.0)) held.items rid v bytes e in
    by x.0 x.1 x.2 (x.0.rid.0 == at.0) refl v x.3
  where
    newer : Stored → Stored
    newer s = trimmed held.keep (record s { versions = s.versions ++ new ∷ []; changed = held.clock + 1 })

    rids : (s : Stored) (b : Bool) → (cond b (newer s) s).rid.0 ≡ s.rid.0
    rids s true = trimmed_rid held.keep (record s { versions = s.versions ++ new ∷ []; changed = held.clock + 1 })
    rids s false = refl

    plus : (n : ℕ) → suc n ≡ n + 1
    plus n = omega arith

    last : (s : Stored) → stored_at held.items rid ≡ Some s → rid.0 ≡ at.0 → (latest_at held at).0 ≡ length s.versions
    last s found same = ap (λ (r : Rid). part latest 0 (stored_at held.items r)) (sym (rid_at rid at same)) ∙ ap (part latest 0) found

    by : (s : Stored) → stored_at held.items rid ≡ Some s → s.rid.0 ≡ rid.0 → (b : Bool) → (s.rid.0 == at.0) ≡ b → (v : ℕ) → version_bytes (Some (cond b (newer s) s)) v ≡ Some bytes
        → (version_bytes (stored_at held.items rid) v ≡ Some bytes) ⊎ ((rid.0 ≡ at.0) × (v ≡ (latest_at held at).0 + 1))
    by s found own false q v e = inl (ap (λ (o : Option Stored). version_bytes o v) found ∙ e)
    by s found own true q zero e = cc
    by s found own true q (suc v) e =
        let same : rid.0 ≡ at.0 = sym own ∙ eqb-true s.rid.0 at.0 q in
        elim (last_or_old s.versions new v bytes (ap (λ (vs : List (List ℕ)). slice_get vs v) (sym (trimmed_versions held.keep (record s { versions = s.versions ++ new ∷ []; changed = held.clock + 1 }))) ∙ e))
        as (λ _. (version_bytes (stored_at held.items rid) (suc v) ≡ Some bytes) ⊎ ((rid.0 ≡ at.0) × (suc v ≡ (latest_at held at).0 + 1)))
        [ inl h ↦ inl (ap (λ (o : Option Stored). version_bytes o (suc v)) found ∙ h) | inr h ↦ inr (same, ap suc h ∙ plus (length s.versions) ∙ ap (λ (n : ℕ). n + 1) (sym (last s found same))) ]

new_adds : (held : Held) (parent : Rid) (name : List ℕ) (bytes : List ℕ) → Adds held.items (with_new held parent name false (bytes ∷ [])) (next_rid held) 1
new_adds held parent name new rid v bytes e = by (appended held.items _ rid v bytes e) where
  one : (v : ℕ) → version_bytes (Some (record { rid = next_rid held; parent = parent; name = name; directory = false; live = true; versions = new ∷ []; least = 1; changed = held.clock + 1 })) v ≡ Some bytes → v ≡ 1
  one zero e = cc
  one (suc zero) e = refl
  one (suc (suc v)) e = cc

  by : (version_bytes (stored_at held.items rid) v ≡ Some bytes) ⊎ ((rid.0 ≡ (next_rid held).0) × (version_bytes (Some (record { rid = next_rid held; parent = parent; name = name; directory = false; live = true; versions = new ∷ []; least = 1; changed = held.clock + 1 })) v ≡ Some bytes))
      → (version_bytes (stored_at held.items rid) v ≡ Some bytes) ⊎ ((rid.0 ≡ (next_rid held).0) × (v ≡ 1))
  by (inl h) = inl h
  by (inr h) = inr (h.0, one v h.1)

dir_adds : (held : Held) (parent : Rid) (name : List ℕ) (at : Rid) (n : ℕ) → Adds held.items (with_new held parent name true []) at n
dir_adds held parent name at n rid v bytes e = by (appended held.items _ rid v bytes e) where
  none : (v : ℕ) → version_bytes (Some (record { rid = next_rid held; parent = parent; name = name; directory = true; live = true; versions = []; least = 1; changed = held.clock + 1 })) v ≡ Some bytes → ⊥
  none zero e = cc
  none (suc v) e = cc

  by : (version_bytes (stored_at held.items rid) v ≡ Some bytes) ⊎ ((rid.0 ≡ (next_rid held).0) × (version_bytes (Some (record { rid = next_rid held; parent = parent; name = name; directory = true; live = true; versions = []; least = 1; changed = held.clock + 1 })) v ≡ Some bytes))
      → (version_bytes (stored_at held.items rid) v ≡ Some bytes) ⊎ ((rid.0 ≡ at.0) × (v ≡ n))
  by (inl h) = inl h
  by (inr h) = absurd (none v h.1)

-- all requests

abbrev Made : Held → Held → Type 0
Made first held = (rid : Rid) (version : Version) (bytes : List ℕ) → bytes_of held rid version ≡ Some bytes → (bytes_of first rid version ≡ Some bytes) ⊎ ((token : Token) × WasDone held token rid version)

-- a state with the same versions and more tokens
same_made : (first held next : Held) → Extends held next → ((rid : Rid) (version : Version) (bytes : List ℕ) → bytes_of next rid version ≡ Some bytes → bytes_of held rid version ≡ Some bytes) → Made first held → Made first next
same_made first held next more same h rid version bytes e =
    elim (h rid version bytes (same rid version bytes e)) as (λ _. (bytes_of first rid version ≡ Some bytes) ⊎ ((token : Token) × WasDone next token rid version))
    [ inl k ↦ inl k | inr k ↦ inr (k.0, more.tokens k.0 (RecordedDone rid version) k.1) ]

version_at : (a b : Version) → a.0 ≡ b.0 → a ≡ b
version_at a b e = ap (λ (n : ℕ). make n) e where
  make : ℕ → Version
  make n = record { 0 = n }

decided_made : (first held : Held) (token : Token) (m : Mutation) (w : Option Why) → Extends held (decide held token m w).1 → Adds held.items m.items m.rid m.version.0 → Made first held → Made first (decide held token m w).1
decided_made first held token m (Some w) more adds h = same_made first held (decide held token m (Some w)).1 more (λ rid version bytes e. e) h
decided_made first held token m None more adds h = λ rid version bytes e. by rid version bytes (adds rid version.0 bytes e) where
  by : (rid : Rid) (version : Version) (bytes : List ℕ) → (version_bytes (stored_at held.items rid) version.0 ≡ Some bytes) ⊎ ((rid.0 ≡ m.rid.0) × (version.0 ≡ m.version.0))
      → (bytes_of first rid version ≡ Some bytes) ⊎ ((t : Token) × WasDone (decide held token m None).1 t rid version)
  by rid version bytes (inl k) =
      elim (h rid version bytes k) as (λ _. (bytes_of first rid version ≡ Some bytes) ⊎ ((t : Token) × WasDone (decide held token m None).1 t rid version))
      [ inl o ↦ inl o | inr t ↦ inr (t.0, more.tokens t.0 (RecordedDone rid version) t.1) ]
  by rid version bytes (inr k) =
      inr (
        token,
        subst (λ (r : Rid). WasDone (decide held token m None).1 token r version) (sym (rid_at rid m.rid k.0))
            (subst (λ (v : Version). WasDone (decide held token m None).1 token m.rid v) (sym (version_at version m.version k.1)) (recorded-first held.tokens token (RecordedDone m.rid m.version))),
      )

mutated_made : (first held : Held) (token : Token) (m : Mutation) (o : Option Recorded) → Extends held (mutate held token m o).1 → Adds held.items m.items m.rid m.version.0 → Made first held → Made first (mutate held token m o).1
mutated_made first held token m (Some r) more adds h = h
mutated_made first held token m None more adds h = decided_made first held token m m.refusal more adds h

step_made : (first held : Held) (q : Request) → Made first held → Made first (remote_step held q).1
step_made first held (request.Feed round after) h = h
step_made first held (request.List key rid) h = h
step_made first held (request.Fetch key rid version start len) h = h
step_made first held (request.Put token rid expect parent name bytes) h = by (rid.0 == 0) (step_extends held (request.Put token rid expect parent name bytes)) where
  by : (new : Bool) → Extends held (mutate held token (elim new as (λ _. Mutation) [ true ↦ put_new held parent name bytes | false ↦ put_version held rid expect bytes ]) (recorded_at held.tokens token)).1
      → Made first (mutate held token (elim new as (λ _. Mutation) [ true ↦ put_new held parent name bytes | false ↦ put_version held rid expect bytes ]) (recorded_at held.tokens token)).1
  by true more = mutated_made first held token (put_new held parent name bytes) (recorded_at held.tokens token) more (new_adds held parent name bytes) h
  by false more = mutated_made first held token (put_version held rid expect bytes) (recorded_at held.tokens token) more (version_adds held rid bytes) h
step_made first held (request.MakeDir token parent name) h = mutated_made first held token (make_dir held parent name) (recorded_at held.tokens token) (step_extends held (request.MakeDir token parent name)) (dir_adds held parent name (next_rid held) 0) h
step_made first held (request.Move token rid parent name) h =
    mutated_made first held token (move_to held rid parent name) (recorded_at held.tokens token) (step_extends held (request.Move token rid parent name))
    (one_plain (λ s. record s { parent = parent; name = name; changed = held.clock + 1 }) (λ s. refl) (λ s. refl) rid held.items rid (latest_at held rid).0) h
step_made first held (request.Remove token rid expect) h =
    mutated_made first held token (remove_at held rid expect) (recorded_at held.tokens token) (step_extends held (request.Remove token rid expect))
    (one_plain (λ s. record s { live = false; changed = held.clock + 1 }) (λ s. refl) (λ s. refl) rid held.items rid (latest_at held rid).0) h
step_made first held (request.Settle token) h = by (recorded_at held.tokens token) (step_extends held (request.Settle token)) where
  by : (o : Option Recorded) → Extends held (store.settle held token o).1 → Made first (store.settle held token o).1
  by (Some r) more = h
  by None more = same_made first held (with_token token RecordedVoid held) more (λ rid version bytes e. e) h
step_made first held (request.Keep token count) h = by (recorded_at held.tokens token) (step_extends held (request.Keep token count)) where
  kept : (rid : Rid) (version : Version) (bytes : List ℕ) → version_bytes (stored_at (map (trimmed (Some count)) held.items) rid) version.0 ≡ Some bytes → bytes_of held rid version ≡ Some bytes
  kept rid version bytes e =
      elim (plainly (trimmed (Some count)) (trimmed_rid (Some count)) (trimmed_versions (Some count)) held.items (record { 0 = rid.0 + 1 }) 0 rid version.0 bytes e) as (λ _. bytes_of held rid version ≡ Some bytes)
      [ inl k ↦ k | inr k ↦ absurd (apart rid.0 k.0) ]
    where
      apart : (n : ℕ) → n ≡ n + 1 → ⊥
      apart n e = omega (arith, e)

  by : (o : Option Recorded) → Extends held (keep_last held token count o).1 → Made first (keep_last held token count o).1
  by (Some r) more = h
  by None more = same_made first held (keep_last held token count None).1 more kept h

same_record : (a b : Rid) (v w : Version) (o : Option Recorded) → o ≡ Some (RecordedDone a v) → o ≡ Some (RecordedDone b w) → (a ≡ b) × (v ≡ w)
same_record a b v w o e f = inner (sym e ∙ f) where
  inner : ◌≡◌ {A = Option Recorded} (Some (RecordedDone a v)) (Some (RecordedDone b w)) → (a ≡ b) × (v ≡ w)
  inner z = (let x : a ≡ b = cc in x, let x : v ≡ w = cc in x)

pub one_version_each : (m : Mode) (s : State) (trace : List (Event × Answer)) (t : State) → Runs m s trace t → OneVersionEach s.link.remote t.link.remote
one_version_each m s trace t runs = record {
  made = runs_keep_remote (Made s.link.remote) (step_made s.link.remote) m s trace t runs (λ rid version bytes e. inl e);
  one = λ token rid other version next e f. same_record rid other version next (recorded_at t.link.remote.tokens token) e f;
}
