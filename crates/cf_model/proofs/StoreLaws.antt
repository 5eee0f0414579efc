-- No request changes a version that was made, or the record of a token; and one that comes twice is done once.
use Rattle.std.proofs.Common.{eq-eqb, List, [], ◌∷◌, ◌++◌, refl, ◌≡◌, ◌∙◌, sym, ap, subst, arith, ℕ, Bool, true, false, ◌+◌, length, map}
use Rattle.std.specs.Prelude.{Option, Some, None, zero, suc, cond, find, slice_get, ◌==◌}
use Rattle.std.proofs.lemmas.Bool.{eqb-true, and_parts}
use Rattle.cf_base.specs.declared.ids.Key.{Key}
use Rattle.cf_base.specs.declared.ids.Rid.{Rid}
use Rattle.cf_base.specs.declared.ids.Token.{Token}
use Rattle.cf_base.specs.declared.ids.Version.{Version}
use Rattle.cf_base.specs.declared.messages.Request.{Request}
use Rattle.cf_base.specs.declared.messages.Request.TheVariants as request
use Rattle.cf_base.specs.declared.messages.Why.{Why}
use Rattle.cf_model.specs.Growth.{CountsFrom, Extends, IsCounted}
use Rattle.cf_model.specs.Numbers.{no_version, root_rid, same_key}
use Rattle.cf_model.specs.Store.{Held, Mutation, Recorded, RecordedDone, RecordedVoid, Stored, decide, keep_last, make_dir, move_to, mutate, put_new, put_version, recorded_at, remote_step, remove_at, settle, stored_at, trimmed, version_bytes, with_dead, with_new, with_place, with_token, with_version}
use Rattle.cf_model.specs.Words.{part}

pub extends-self : (r : Held) → Extends r r
extends-self r = record { versions = λ rid v bytes e. e; tokens = λ t x e. e }

pub extends-then : (a b c : Held) → Extends a b → Extends b c → Extends a c
extends-then a b c h k = record {
  versions = λ rid v bytes e. k.versions rid v bytes (h.versions rid v bytes e);
  tokens = λ t x e. k.tokens t x (h.tokens t x e);
}

get-append : {A : Type 0} (xs ys : List A) (n : ℕ) (x : A) → slice_get xs n ≡ Some x → slice_get (xs ++ ys) n ≡ Some x
get-append [] ys n x e = cc
get-append (y ∷ xs) ys zero x e = e
get-append (y ∷ xs) ys (suc n) x e = get-append xs ys n x e

-- an item that has all versions that it had
pub keeps-more : (s t : Stored) (more : List (List ℕ)) (v : ℕ) (bytes : List ℕ) → t.versions ≡ s.versions ++ more
    → version_bytes (Some s) v ≡ Some bytes → version_bytes (Some t) v ≡ Some bytes
keeps-more s t more zero bytes e h = cc
keeps-more s t more (suc v) bytes e h = ap (λ (vs : List (List ℕ)). slice_get vs v) e ∙ get-append s.versions more v bytes h

get-same : (s t : Stored) → t.versions ≡ s.versions → (v : ℕ) (bytes : List ℕ) → version_bytes (Some s) v ≡ Some bytes → version_bytes (Some t) v ≡ Some bytes
get-same s t e zero bytes h = cc
get-same s t e (suc v) bytes h = ap (λ (vs : List (List ℕ)). slice_get vs v) e ∙ h

pub append-keeps : (ss more : List Stored) (rid : Rid) (v : ℕ) (bytes : List ℕ) → version_bytes (stored_at ss rid) v ≡ Some bytes → version_bytes (stored_at (ss ++ more) rid) v ≡ Some bytes
append-keeps [] more rid v bytes h = cc
append-keeps (s ∷ ss) more rid v bytes h = one (s.rid.0 == rid.0) (append-keeps ss more rid v bytes) h where
  one : (b : Bool) → (version_bytes (stored_at ss rid) v ≡ Some bytes → version_bytes (stored_at (ss ++ more) rid) v ≡ Some bytes)
      → version_bytes (cond b (Some s) (stored_at ss rid)) v ≡ Some bytes → version_bytes (cond b (Some s) (stored_at (ss ++ more) rid)) v ≡ Some bytes
  one true k h = h
  one false k h = k h

-- a change of an item that keeps its rid and its versions
pub record Keeps (f : Stored → Stored) : Type 0 where
  pub rid : (s : Stored) → (f s).rid.0 ≡ s.rid.0
  pub versions : (s : Stored) (v : ℕ) (bytes : List ℕ) → version_bytes (Some s) v ≡ Some bytes → version_bytes (Some (f s)) v ≡ Some bytes

pub map-keeps : (f : Stored → Stored) → Keeps f → (ss : List Stored) (rid : Rid) (v : ℕ) (bytes : List ℕ)
    → version_bytes (stored_at ss rid) v ≡ Some bytes → version_bytes (stored_at (map f ss) rid) v ≡ Some bytes
map-keeps f k [] rid v bytes h = h
map-keeps f k (s ∷ ss) rid v bytes h =
    subst (λ (n : ℕ). version_bytes (cond (n == rid.0) (Some (f s)) (stored_at (map f ss) rid)) v ≡ Some bytes) (sym (k.rid s)) (two (s.rid.0 == rid.0) (map-keeps f k ss rid v bytes) h) where
      two : (b : Bool) → (version_bytes (stored_at ss rid) v ≡ Some bytes → version_bytes (stored_at (map f ss) rid) v ≡ Some bytes)
          → version_bytes (cond b (Some s) (stored_at ss rid)) v ≡ Some bytes → version_bytes (cond b (Some (f s)) (stored_at (map f ss) rid)) v ≡ Some bytes
      two true q h = k.versions s v bytes h
      two false q h = q h

-- of one item alone
pub one-keeps : (f : Stored → Stored) → Keeps f → (at : Rid) → Keeps (λ s. cond (s.rid.0 == at.0) (f s) s)
one-keeps f k at = record { rid = λ s. same s (s.rid.0 == at.0); versions = λ s v bytes h. more s (s.rid.0 == at.0) v bytes h } where
  same : (s : Stored) (b : Bool) → (cond b (f s) s).rid.0 ≡ s.rid.0
  same s true = k.rid s
  same s false = refl

  more : (s : Stored) (b : Bool) (v : ℕ) (bytes : List ℕ) → version_bytes (Some s) v ≡ Some bytes → version_bytes (Some (cond b (f s) s)) v ≡ Some bytes
  more s true v bytes h = k.versions s v bytes h
  more s false v bytes h = h

trim-keeps : (keep : Option ℕ) → Keeps (trimmed keep)
trim-keeps None = record { rid = λ s. refl; versions = λ s v bytes h. h }
trim-keeps (Some n) = record { rid = λ s. same s s.directory refl; versions = λ s v bytes h. more s s.directory refl v bytes h } where
  same : (s : Stored) (b : Bool) → s.directory ≡ b → (trimmed (Some n) s).rid.0 ≡ s.rid.0
  same s true e = rw e refl
  same s false e = rw e refl

  more : (s : Stored) (b : Bool) → s.directory ≡ b → (v : ℕ) (bytes : List ℕ) → version_bytes (Some s) v ≡ Some bytes → version_bytes (Some (trimmed (Some n) s)) v ≡ Some bytes
  more s true e v bytes h = rw e h
  more s false e v bytes h = get-same s (trimmed (Some n) s) (rw e refl) v bytes h

-- what each request makes of the items

abbrev Stay : List Stored → List Stored → Type 0
Stay ss ts = (rid : Rid) (v : ℕ) (bytes : List ℕ) → version_bytes (stored_at ss rid) v ≡ Some bytes → version_bytes (stored_at ts rid) v ≡ Some bytes

put-keeps : (bytes : List ℕ) (clock : ℕ) → Keeps (λ s. record s { versions = s.versions ++ bytes ∷ []; changed = clock })
put-keeps new clock = record { rid = λ s. refl; versions = λ s v bytes h. keeps-more s (record s { versions = s.versions ++ new ∷ []; changed = clock }) (new ∷ []) v bytes refl h }

both-keep : (f g : Stored → Stored) → Keeps f → Keeps g → Keeps (λ s. g (f s))
both-keep f g a b = record { rid = λ s. b.rid (f s) ∙ a.rid s; versions = λ s v bytes h. b.versions (f s) v bytes (a.versions s v bytes h) }

new-stays : (held : Held) (parent : Rid) (name : List ℕ) (directory : Bool) (versions : List (List ℕ)) → Stay held.items (with_new held parent name directory versions)
new-stays held parent name directory versions rid v bytes h = append-keeps held.items _ rid v bytes h

version-stays : (held : Held) (at : Rid) (new : List ℕ) → Stay held.items (with_version held at new)
version-stays held at new rid v bytes h =
    let put : Stored → Stored = λ s. record s { versions = s.versions ++ new ∷ []; changed = held.clock + 1 } in
    map-keeps _ (one-keeps (λ s. trimmed held.keep (put s)) (both-keep put (trimmed held.keep) (put-keeps new (held.clock + 1)) (trim-keeps held.keep)) at) held.items rid v bytes h

place-stays : (held : Held) (at parent : Rid) (name : List ℕ) → Stay held.items (with_place held at parent name)
place-stays held at parent name rid v bytes h =
    map-keeps _ (one-keeps (λ s. record s { parent = parent; name = name; changed = held.clock + 1 })
    (record { rid = λ s. refl; versions = λ s v bytes h. get-same s (record s { parent = parent; name = name; changed = held.clock + 1 }) refl v bytes h }) at) held.items rid v bytes h

dead-stays : (held : Held) (at : Rid) → Stay held.items (with_dead held at)
dead-stays held at rid v bytes h =
    map-keeps _ (one-keeps (λ s. record s { live = false; changed = held.clock + 1 })
    (record { rid = λ s. refl; versions = λ s v bytes h. get-same s (record s { live = false; changed = held.clock + 1 }) refl v bytes h }) at) held.items rid v bytes h

-- tokens

same_key-eq : (a b : Key) → same_key a b ≡ true → a ≡ b
same_key-eq a b h = λ i. record { epoch = eqb-true a.epoch b.epoch (and_parts (a.epoch == b.epoch) (a.number == b.number) h).0 i; number = eqb-true a.number b.number (and_parts (a.epoch == b.epoch) (a.number == b.number) h).1 i }

pub same_key-refl : (a : Key) → same_key a a ≡ true
same_key-refl a = rw (eq-eqb a.epoch a.epoch refl, eq-eqb a.number a.number refl) refl

-- a new record stands before the others
recorded-more : (ts : List (Token × Recorded)) (token : Token) (new : Recorded) → recorded_at ts token ≡ None
    → (t : Token) (r : Recorded) → recorded_at ts t ≡ Some r → recorded_at ((token, new) ∷ ts) t ≡ Some r
recorded-more ts token new none t r e = one (same_key token.0 t.0) (λ h. same_key-eq token.0 t.0 h) where
  one : (b : Bool) → (b ≡ true → token.0 ≡ t.0) → part (λ (x : Token × Recorded). Some x.1) None (cond b (Some (token, new)) (find (λ (x : Token × Recorded). same_key x.0.0 t.0) ts)) ≡ Some r
  one true h = let k : None ≡ Some r = sym none ∙ ap (λ (key : Key). recorded_at ts (record { 0 = key })) (h refl) ∙ e in cc
  one false h = e

pub recorded-first : (ts : List (Token × Recorded)) (token : Token) (new : Recorded) → recorded_at ((token, new) ∷ ts) token ≡ Some new
recorded-first ts token new = rw (same_key-refl token.0) refl

-- all requests

token-extends : (held : Held) (token : Token) (new : Recorded) → recorded_at held.tokens token ≡ None → Extends held (with_token token new held)
token-extends held token new none = record { versions = λ rid v bytes e. e; tokens = λ t r e. recorded-more held.tokens token new none t r e }

decide-extends : (held : Held) (token : Token) (m : Mutation) (why : Option Why) → Stay held.items m.items → recorded_at held.tokens token ≡ None → Extends held (decide held token m why).1
decide-extends held token m (Some w) stay none = token-extends held token RecordedVoid none
decide-extends held token m None stay none = record {
  versions = λ rid v bytes e. stay rid v.0 bytes e;
  tokens = λ t r e. recorded-more held.tokens token (RecordedDone m.rid m.version) none t r e;
}

mutate-extends : (held : Held) (token : Token) (m : Mutation) (o : Option Recorded) → Stay held.items m.items → recorded_at held.tokens token ≡ o → Extends held (mutate held token m o).1
mutate-extends held token m (Some r) stay e = extends-self held
mutate-extends held token m None stay e = decide-extends held token m m.refusal stay e

settle-extends : (held : Held) (token : Token) (o : Option Recorded) → recorded_at held.tokens token ≡ o → Extends held (settle held token o).1
settle-extends held token (Some r) e = extends-self held
settle-extends held token None e = token-extends held token RecordedVoid e

keep-extends : (held : Held) (token : Token) (count : ℕ) (o : Option Recorded) → recorded_at held.tokens token ≡ o → Extends held (keep_last held token count o).1
keep-extends held token count (Some r) e = extends-self held
keep-extends held token count None e = record {
  versions = λ rid v bytes h. map-keeps (trimmed (Some count)) (trim-keeps (Some count)) held.items rid v.0 bytes h;
  tokens = λ t r h. recorded-more held.tokens token (RecordedDone root_rid no_version) e t r h;
}

put-extends : (held : Held) (token : Token) (rid : Rid) (expect : Version) (parent : Rid) (name bytes : List ℕ) (new : Bool)
    → Extends held (mutate held token (elim new as (λ _. Mutation) [ true ↦ put_new held parent name bytes | false ↦ put_version held rid expect bytes ]) (recorded_at held.tokens token)).1
put-extends held token rid expect parent name bytes true = mutate-extends held token (put_new held parent name bytes) (recorded_at held.tokens token) (new-stays held parent name false (bytes ∷ [])) refl
put-extends held token rid expect parent name bytes false = mutate-extends held token (put_version held rid expect bytes) (recorded_at held.tokens token) (version-stays held rid bytes) refl

pub step_extends : (held : Held) (q : Request) → Extends held (remote_step held q).1
step_extends held (request.Feed round after) = extends-self held
step_extends held (request.List key rid) = extends-self held
step_extends held (request.Fetch key rid version start len) = extends-self held
step_extends held (request.Put token rid expect parent name bytes) = put-extends held token rid expect parent name bytes (rid.0 == 0)
step_extends held (request.MakeDir token parent name) = mutate-extends held token (make_dir held parent name) (recorded_at held.tokens token) (new-stays held parent name true []) refl
step_extends held (request.Move token rid parent name) = mutate-extends held token (move_to held rid parent name) (recorded_at held.tokens token) (place-stays held rid parent name) refl
step_extends held (request.Remove token rid expect) = mutate-extends held token (remove_at held rid expect) (recorded_at held.tokens token) (dead-stays held rid) refl
step_extends held (request.Settle token) = settle-extends held token (recorded_at held.tokens token) refl
step_extends held (request.Keep token count) = keep-extends held token count (recorded_at held.tokens token) refl

-- a request that comes twice

abbrev Recalls : Held → Token → Type 0
Recalls held token = (r : Recorded) × (recorded_at held.tokens token ≡ Some r)

decide-recalls : (held : Held) (token : Token) (m : Mutation) (why : Option Why) → Recalls (decide held token m why).1 token
decide-recalls held token m (Some w) = (RecordedVoid, recorded-first held.tokens token RecordedVoid)
decide-recalls held token m None = (RecordedDone m.rid m.version, recorded-first held.tokens token (RecordedDone m.rid m.version))

mutate-recalls : (held : Held) (token : Token) (m : Mutation) (o : Option Recorded) → recorded_at held.tokens token ≡ o → Recalls (mutate held token m o).1 token
mutate-recalls held token m (Some r) e = (r, e)
mutate-recalls held token m None e = decide-recalls held token m m.refusal

settle-recalls : (held : Held) (token : Token) (o : Option Recorded) → recorded_at held.tokens token ≡ o → Recalls (settle held token o).1 token
settle-recalls held token (Some r) e = (r, e)
settle-recalls held token None e = (RecordedVoid, recorded-first held.tokens token RecordedVoid)

keep-recalls : (held : Held) (token : Token) (count : ℕ) (o : Option Recorded) → recorded_at held.tokens token ≡ o → Recalls (keep_last held token count o).1 token
keep-recalls held token count (Some r) e = (r, e)
keep-recalls held token count None e = (RecordedDone root_rid no_version, recorded-first held.tokens token (RecordedDone root_rid no_version))

again-mutate : (held : Held) (token : Token) (m : Mutation) → Recalls held token → (mutate held token m (recorded_at held.tokens token)).1 ≡ held
again-mutate held token m h = ap (λ (o : Option Recorded). (mutate held token m o).1) h.1

again-settle : (held : Held) (token : Token) → Recalls held token → (settle held token (recorded_at held.tokens token)).1 ≡ held
again-settle held token h = ap (λ (o : Option Recorded). (settle held token o).1) h.1

again-keep : (held : Held) (token : Token) (count : ℕ) → Recalls held token → (keep_last held token count (recorded_at held.tokens token)).1 ≡ held
again-keep held token count h = ap (λ (o : Option Recorded). (keep_last held token count o).1) h.1

pub step_again : (held : Held) (q : Request) → (remote_step (remote_step held q).1 q).1 ≡ (remote_step held q).1
step_again held (request.Feed round after) = refl
step_again held (request.List key rid) = refl
step_again held (request.Fetch key rid version start len) = refl
step_again held (request.Put token rid expect parent name bytes) = again-mutate _ token _ (mutate-recalls held token _ (recorded_at held.tokens token) refl)
step_again held (request.MakeDir token parent name) = again-mutate _ token _ (mutate-recalls held token (make_dir held parent name) (recorded_at held.tokens token) refl)
step_again held (request.Move token rid parent name) = again-mutate _ token _ (mutate-recalls held token (move_to held rid parent name) (recorded_at held.tokens token) refl)
step_again held (request.Remove token rid expect) = again-mutate _ token _ (mutate-recalls held token (remove_at held rid expect) (recorded_at held.tokens token) refl)
step_again held (request.Settle token) = again-settle _ token (settle-recalls held token (recorded_at held.tokens token) refl)
step_again held (request.Keep token count) = again-keep _ token count (keep-recalls held token count (recorded_at held.tokens token) refl)

-- rids

counts-map : (f : Stored → Stored) → Keeps f → (n : ℕ) (ss : List Stored) → CountsFrom n ss → CountsFrom n (map f ss)
counts-map f k n [] h = tt
counts-map f k n (s ∷ ss) h = (k.rid s ∙ h.0, counts-map f k (n + 1) ss h.1)

counts-append : (n m : ℕ) (ss : List Stored) (s : Stored) → m ≡ n + length ss → s.rid.0 ≡ m → CountsFrom n ss → CountsFrom n (ss ++ s ∷ [])
counts-append n m [] s e is h = (is ∙ omega (arith, e), tt)
counts-append n m (t ∷ ss) s e is h = (h.0, counts-append (n + 1) m ss s (omega (arith, e)) is h.1)

new-counts : (held : Held) (parent : Rid) (name : List ℕ) (directory : Bool) (versions : List (List ℕ)) → IsCounted held → CountsFrom 1 (with_new held parent name directory versions)
new-counts held parent name directory versions h = counts-append 1 (length held.items + 1) held.items _ (omega arith) refl h

version-counts : (held : Held) (at : Rid) (new : List ℕ) → IsCounted held → CountsFrom 1 (with_version held at new)
version-counts held at new h =
    let put : Stored → Stored = λ s. record s { versions = s.versions ++ new ∷ []; changed = held.clock + 1 } in
    counts-map _ (one-keeps (λ s. trimmed held.keep (put s)) (both-keep put (trimmed held.keep) (put-keeps new (held.clock + 1)) (trim-keeps held.keep)) at) 1 held.items h

place-counts : (held : Held) (at parent : Rid) (name : List ℕ) → IsCounted held → CountsFrom 1 (with_place held at parent name)
place-counts held at parent name h =
    counts-map _ (one-keeps (λ s. record s { parent = parent; name = name; changed = held.clock + 1 })
    (record { rid = λ s. refl; versions = λ s v bytes h. get-same s (record s { parent = parent; name = name; changed = held.clock + 1 }) refl v bytes h }) at) 1 held.items h

dead-counts : (held : Held) (at : Rid) → IsCounted held → CountsFrom 1 (with_dead held at)
dead-counts held at h =
    counts-map _ (one-keeps (λ s. record s { live = false; changed = held.clock + 1 })
    (record { rid = λ s. refl; versions = λ s v bytes h. get-same s (record s { live = false; changed = held.clock + 1 }) refl v bytes h }) at) 1 held.items h

decide-counts : (held : Held) (token : Token) (m : Mutation) (why : Option Why) → IsCounted held → CountsFrom 1 m.items → IsCounted (decide held token m why).1
decide-counts held token m (Some w) h k = h
decide-counts held token m None h k = k

mutate-counts : (held : Held) (token : Token) (m : Mutation) (o : Option Recorded) → IsCounted held → CountsFrom 1 m.items → IsCounted (mutate held token m o).1
mutate-counts held token m (Some r) h k = h
mutate-counts held token m None h k = decide-counts held token m m.refusal h k

settle-counts : (held : Held) (token : Token) (o : Option Recorded) → IsCounted held → IsCounted (settle held token o).1
settle-counts held token (Some r) h = h
settle-counts held token None h = h

keep-counts : (held : Held) (token : Token) (count : ℕ) (o : Option Recorded) → IsCounted held → IsCounted (keep_last held token count o).1
keep-counts held token count (Some r) h = h
keep-counts held token count None h = counts-map (trimmed (Some count)) (trim-keeps (Some count)) 1 held.items h

put-counts : (held : Held) (token : Token) (rid : Rid) (expect : Version) (parent : Rid) (name bytes : List ℕ) (new : Bool) → IsCounted held
    → IsCounted (mutate held token (elim new as (λ _. Mutation) [ true ↦ put_new held parent name bytes | false ↦ put_version held rid expect bytes ]) (recorded_at held.tokens token)).1
put-counts held token rid expect parent name bytes true h = mutate-counts held token (put_new held parent name bytes) (recorded_at held.tokens token) h (new-counts held parent name false (bytes ∷ []) h)
put-counts held token rid expect parent name bytes false h = mutate-counts held token (put_version held rid expect bytes) (recorded_at held.tokens token) h (version-counts held rid bytes h)

pub step_counts : (held : Held) (q : Request) → IsCounted held → IsCounted (remote_step held q).1
step_counts held (request.Feed round after) h = h
step_counts held (request.List key rid) h = h
step_counts held (request.Fetch key rid version start len) h = h
step_counts held (request.Put token rid expect parent name bytes) h = put-counts held token rid expect parent name bytes (rid.0 == 0) h
step_counts held (request.MakeDir token parent name) h = mutate-counts held token (make_dir held parent name) (recorded_at held.tokens token) h (new-counts held parent name true [] h)
step_counts held (request.Move token rid parent name) h = mutate-counts held token (move_to held rid parent name) (recorded_at held.tokens token) h (place-counts held rid parent name h)
step_counts held (request.Remove token rid expect) h = mutate-counts held token (remove_at held rid expect) (recorded_at held.tokens token) h (dead-counts held rid h)
step_counts held (request.Settle token) h = settle-counts held token (recorded_at held.tokens token) h
step_counts held (request.Keep token count) h = keep-counts held token count (recorded_at held.tokens token) h
