-- What the remote's replies tell.
use Rattle.std.proofs.Common.{List, [], ◌∷◌, ◌++◌, refl, ◌≡◌, ◌∙◌, sym, ap, subst, arith, ℕ, Bool, true, false, ◌+◌, ◌-◌, ◌*◌, ◌/◌, ◌%◌, ◌<◌, ◌≤◌, length, eq-eqb}
use Rattle.std.specs.Prelude.{Option, Some, None, zero, suc, take, drop, cond, max, unwrap_or, slice_get, slice_range, nat_le, nat_lt, not, ◌==◌, ◌&&◌}
use Rattle.std.proofs.lemmas.Bool.{eqb-true}
use Rattle.cf_base.specs.declared.ids.Key.{Key}
use Rattle.cf_base.specs.declared.ids.Rid.{Rid}
use Rattle.cf_base.specs.declared.ids.Token.{Token}
use Rattle.cf_base.specs.declared.ids.Version.{Version}
use Rattle.cf_base.specs.declared.messages.Reply.TheVariants as reply
use Rattle.cf_base.specs.declared.messages.Request.TheVariants as request
use Rattle.cf_base.specs.declared.messages.Why.{Why}
use Rattle.cf_base.specs.declared.messages.Why.TheVariants as why
use Rattle.cf_model.specs.Growth.{AreOf, CountsFrom, IsCounted, NamesBytes}
use Rattle.cf_model.specs.Identities.{identity_of}
use Rattle.cf_model.specs.Contents.{base_named}
use Rattle.cf_model.specs.Store.{Held, Mutation, Recorded, Stored, at_rid, bytes_of, bytes_told, decide, is_held, is_live_file, latest, latest_at, mutate, next_rid, passes_bytes, put_new, put_version, recorded_at, remote_step, stored_at, trimmed, version_bytes, why_version, with_new, with_version}
use Rattle.cf_model.specs.Words.{first_of, in_bytes, number_of, part, says}

take-itself : {A : Type 0} (n : ℕ) (xs : List A) → take (length (take n xs)) xs ≡ take n xs
take-itself zero xs = refl
take-itself (suc n) [] = refl
take-itself (suc n) (x ∷ xs) = ap (λ r. x ∷ r) (take-itself n xs)

pub fetched : (held : Held) (key : Key) (rid : Rid) (version : Version) (start len : ℕ) → AreOf (unwrap_or (bytes_of held rid version) []) (remote_step held (request.Fetch key rid version start len)).0
fetched held key rid version start len = by (is_held held rid version) (bytes_of held rid version) where
  one : (bytes : List ℕ) (b : Bool) → AreOf bytes (cond b (reply.Bytes key start (slice_range bytes start (start + len))) (reply.Missing key))
  one bytes true = take-itself (start + len - start) (drop start bytes)
  one bytes false = tt

  by : (h : Bool) (o : Option (List ℕ)) → AreOf (unwrap_or o []) (bytes_told key start len h o)
  by true None = tt
  by false None = tt
  by false (Some bytes) = tt
  by true (Some bytes) = one bytes (nat_le (start + len) (length bytes))

-- no item has the next rid
none-past : (n : ℕ) (ss : List Stored) (new : Stored) (rid : Rid) → CountsFrom n ss → n + length ss ≤ rid.0 → new.rid.0 ≡ rid.0 → stored_at (ss ++ new ∷ []) rid ≡ Some new
none-past n [] new rid k h e = one (new.rid.0 == rid.0) (subst (λ (m : ℕ). (m == rid.0) ≡ true) (sym e) (eq-eqb rid.0 rid.0 refl)) where
  one : (b : Bool) → b ≡ true → cond b (Some new) None ≡ Some new
  one true q = refl
  one false q = cc
none-past n (s ∷ ss) new rid k h e = one (s.rid.0 == rid.0) (λ q. eqb-true s.rid.0 rid.0 q) (none-past (n + 1) ss new rid k.1 (let m : n + 1 + length ss ≤ rid.0 = omega (arith, h) in m) e) where
  one : (b : Bool) → (b ≡ true → s.rid.0 ≡ rid.0) → stored_at (ss ++ new ∷ []) rid ≡ Some new → cond b (Some s) (stored_at (ss ++ new ∷ []) rid) ≡ Some new
  one true q i = let m : s.rid.0 ≡ rid.0 = q refl in absurd (omega (arith, m, k.0, h))
  one false q i = i

last-get : {A : Type 0} (xs : List A) (x : A) → slice_get (xs ++ x ∷ []) (length xs) ≡ Some x
last-get [] x = refl
last-get (y ∷ xs) x = last-get xs x

-- a found item is found as it is changed
at_rid-finds : (rid : Rid) (f : Stored → Stored) → ((s : Stored) → (f s).rid.0 ≡ s.rid.0) → (ss : List Stored) (s : Stored) → stored_at ss rid ≡ Some s → stored_at (at_rid rid f ss) rid ≡ Some (f s)
at_rid-finds rid f k [] s e = cc
at_rid-finds rid f k (t ∷ ss) s e = one (t.rid.0 == rid.0) refl (at_rid-finds rid f k ss s) e where
  one : (b : Bool) → (t.rid.0 == rid.0) ≡ b → (stored_at ss rid ≡ Some s → stored_at (at_rid rid f ss) rid ≡ Some (f s))
      → cond b (Some t) (stored_at ss rid) ≡ Some s → stored_at (cond b (f t) t ∷ at_rid rid f ss) rid ≡ Some (f s)
  one true q i e =
      let m : t ≡ s = cc in
      let n : ((f t).rid.0 == rid.0) ≡ true = subst (λ (x : ℕ). (x == rid.0) ≡ true) (sym (k t)) q in
      ap (λ (b : Bool). cond b (Some (f t)) (stored_at (at_rid rid f ss) rid)) n ∙ ap (λ (x : Stored). Some (f x)) m
  one false q i e = ap (λ (b : Bool). cond b (Some t) (stored_at (at_rid rid f ss) rid)) q ∙ i e

live-stored : (o : Option Stored) → says (λ s. s.live && not s.directory) o ≡ true → (s : Stored) × (o ≡ Some s)
live-stored None e = cc
live-stored (Some s) e = (s, refl)

first-false : {A : Type 0} (b : Bool) (x : A) (more : List (Bool × A)) → first_of ((not b, x) ∷ more) ≡ None → b ≡ true
first-false true x more e = refl
first-false false x more e = cc

-- what is held back changes neither the rid nor the versions
trim-rid : (keep : Option ℕ) (s : Stored) → (trimmed keep s).rid.0 ≡ s.rid.0
trim-rid None s = refl
trim-rid (Some n) s = by s.directory where
  by : (d : Bool) → (cond d s (record s { least = max s.least (latest s + 1 - n) })).rid.0 ≡ s.rid.0
  by true = refl
  by false = refl

trim-versions : (keep : Option ℕ) (s : Stored) → (trimmed keep s).versions ≡ s.versions
trim-versions None s = refl
trim-versions (Some n) s = by s.directory where
  by : (d : Bool) → (cond d s (record s { least = max s.least (latest s + 1 - n) })).versions ≡ s.versions
  by true = refl
  by false = refl

put-new : (held : Held) (parent : Rid) (name bytes : List ℕ) → IsCounted held → version_bytes (stored_at (with_new held parent name false (bytes ∷ [])) (next_rid held)) 1 ≡ Some bytes
put-new held parent name bytes c =
    let new : Stored = record { rid = next_rid held; parent = parent; name = name; directory = false; live = true; versions = bytes ∷ []; least = 1; changed = held.clock + 1 } in
    ap (λ (o : Option Stored). version_bytes o 1) (none-past 1 held.items new (next_rid held) c (let m : 1 + length held.items ≤ (next_rid held).0 = omega arith in m) refl)

put-over : (held : Held) (rid : Rid) (bytes : List ℕ) → is_live_file held rid ≡ true → version_bytes (stored_at (with_version held rid bytes) rid) ((latest_at held rid).0 + 1) ≡ Some bytes
put-over held rid bytes live =
    let l : (s : Stored) × (stored_at held.items rid ≡ Some s) = live-stored (stored_at held.items rid) live in
    let s : Stored = l.0 in
    let f : Stored → Stored = λ (s : Stored). trimmed held.keep (record s { versions = s.versions ++ bytes ∷ []; changed = held.clock + 1 }) in
    let a : stored_at (at_rid rid f held.items) rid ≡ Some (f s) = at_rid-finds rid f (λ s. trim-rid held.keep (record s { versions = s.versions ++ bytes ∷ []; changed = held.clock + 1 })) held.items s l.1 in
    let n : (latest_at held rid).0 ≡ length s.versions = ap (λ (o : Option Stored). part latest 0 o) l.1 in
    let m : (latest_at held rid).0 + 1 ≡ suc (length s.versions) = omega (arith, n) in
    ap (λ (v : ℕ). version_bytes (stored_at (at_rid rid f held.items) rid) v) m
    ∙ ap (λ (o : Option Stored). version_bytes o (suc (length s.versions))) a
    ∙ ap (λ (vs : List (List ℕ)). slice_get vs (length s.versions)) (trim-versions held.keep (record s { versions = s.versions ++ bytes ∷ []; changed = held.clock + 1 }))
    ∙ last-get s.versions bytes

pub put_names : (held : Held) (token : Token) (rid : Rid) (expect : Version) (parent : Rid) (name bytes : List ℕ) → IsCounted held → recorded_at held.tokens token ≡ None
    → NamesBytes (remote_step held (request.Put token rid expect parent name bytes)).1 bytes (remote_step held (request.Put token rid expect parent name bytes)).0
put_names held token rid expect parent name bytes c none = by (rid.0 == 0) where
  of-new : (w : Option Why) → NamesBytes (decide held token (put_new held parent name bytes) w).1 bytes (decide held token (put_new held parent name bytes) w).0
  of-new (Some w) = tt
  of-new None = put-new held parent name bytes c

  of-version : (w : Option Why) → why_version held rid expect bytes ≡ w → NamesBytes (decide held token (put_version held rid expect bytes) w).1 bytes (decide held token (put_version held rid expect bytes) w).0
  of-version (Some w) e = tt
  of-version None e = put-over held rid bytes (first-false (is_live_file held rid) why.NotThere
      ((nat_lt 16777216 (length bytes), why.TooLarge) ∷ (not (expect.0 == (latest_at held rid).0), why.Conflict) ∷ (passes_bytes (with_version held rid bytes), why.Quota) ∷ []) e)

  decided : (m : Mutation) → NamesBytes (decide held token m m.refusal).1 bytes (decide held token m m.refusal).0 → NamesBytes (mutate held token m (recorded_at held.tokens token)).1 bytes (mutate held token m (recorded_at held.tokens token)).0
  decided m h = subst (λ (o : Option Recorded). NamesBytes (mutate held token m o).1 bytes (mutate held token m o).0) (sym none) h

  by : (new : Bool) → NamesBytes (mutate held token (elim new as (λ _. Mutation) [ true ↦ put_new held parent name bytes | false ↦ put_version held rid expect bytes ]) (recorded_at held.tokens token)).1 bytes
      (mutate held token (elim new as (λ _. Mutation) [ true ↦ put_new held parent name bytes | false ↦ put_version held rid expect bytes ]) (recorded_at held.tokens token)).0
  by true = decided (put_new held parent name bytes) (of-new (put_new held parent name bytes).refusal)
  by false = decided (put_version held rid expect bytes) (of-version (why_version held rid expect bytes) refl)

-- numbers and identities are read back

pub read_back : (n : ℕ) → n < 18446744073709551616 → number_of (in_bytes 8 n) ≡ n
read_back n h =
    let e7 : 0 + n / 72057594037927936 % 256 ≡ n / 72057594037927936 = omega (arith, h) in
    let e6 : n / 72057594037927936 * 256 + n / 281474976710656 % 256 ≡ n / 281474976710656 = omega arith in
    let e5 : n / 281474976710656 * 256 + n / 1099511627776 % 256 ≡ n / 1099511627776 = omega arith in
    let e4 : n / 1099511627776 * 256 + n / 4294967296 % 256 ≡ n / 4294967296 = omega arith in
    let e3 : n / 4294967296 * 256 + n / 16777216 % 256 ≡ n / 16777216 = omega arith in
    let e2 : n / 16777216 * 256 + n / 65536 % 256 ≡ n / 65536 = omega arith in
    let e1 : n / 65536 * 256 + n / 256 % 256 ≡ n / 256 = omega arith in
    let e0 : n / 256 * 256 + n / 1 % 256 ≡ n = omega arith in
    rw e7 (rw e6 (rw e5 (rw e4 (rw e3 (rw e2 (rw e1 e0))))))

pub base_read : (r : Held) (target rid : Rid) (version : Version) → rid.0 < 18446744073709551616 → version.0 < 18446744073709551616
    → base_named r (identity_of target rid version) ≡ unwrap_or (bytes_of r rid version) []
base_read r target rid version h k =
    ap (λ (b : ℕ). unwrap_or (bytes_of r (record { 0 = b }) (record { 0 = number_of (in_bytes 8 version.0) })) []) (read_back rid.0 h)
    ∙ ap (λ (v : ℕ). unwrap_or (bytes_of r rid (record { 0 = v })) []) (read_back version.0 k)
