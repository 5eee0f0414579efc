-- What was sent with the token of an upload is the upload, and so is what the remote did of it.
use Rattle.std.proofs.Common.{◌≡◌, ◌+◌, ℕ, suc, Bool, true, false, List, [], ◌∷◌, ◌++◌, refl, sym, ◌∙◌, ap, subst, inl, inr, arith, length, eq-eqb}
use Rattle.std.specs.Prelude.{Option, Some, None, cond, not, nat_lt, ◌&&◌, ◌||◌, ◌==◌}
use Rattle.std.specs.List.{list_any}
use Rattle.std.proofs.lemmas.Bool.{eqb-true}
use Rattle.cf_base.specs.declared.ids.Rid.{Rid}
use Rattle.cf_base.specs.declared.ids.Token.{Token}
use Rattle.cf_base.specs.declared.ids.Version.{Version}
use Rattle.cf_base.specs.declared.messages.Request.{Request}
use Rattle.cf_base.specs.declared.messages.Request.TheVariants as request
use Rattle.cf_base.specs.declared.messages.Why.{Why}
use Rattle.cf_base.specs.declared.messages.Why.TheVariants as why
use Rattle.cf_base.specs.declared.limits.TheConstants.{MOST_FILE_BYTES, MOST_PATH_NAMES}
use Rattle.cf_model.specs.Books.{Action, MakeDir, MoveItem, PutFile, QueueEntry, RemoveItem}
use Rattle.cf_model.specs.Growth.{CountsFrom, IsCounted}
use Rattle.cf_model.specs.Numbers.{no_version, root_rid, same_key}
use Rattle.cf_model.specs.Store.{depth_of, height_of, is_taken, is_under, Held, Mutation, Recorded, RecordedDone, RecordedVoid, Stored, at_rid, decide, is_live, is_live_dir, is_live_file, keep_last, latest_at, make_dir, move_to, mutate, next_rid, passes_bytes, put_new, put_version, recorded_at, remote_step, remove_at, settle, stored_at, with_dead, with_new, with_token, with_version, why_move, why_remove, with_place}
use Rattle.cf_model.specs.Texts.{is_name}
use Rattle.cf_model.specs.Words.{first_of, says}
use Rattle.cf_model.proofs.StoreLaws.{recorded-first}
use Rattle.cf_model_laws.specs.Invariant.{Asks, Carries, DidBy, IsIn}
use Rattle.cf_model_laws.proofs.RemoteGrowth.{any_stays, dead_stays, in_at, in_version, kind_stays, step_stays}
use Rattle.cf_model_laws.proofs.RemoteSteps.{mutated_other, none_some, other_first, same_token}
use Rattle.cf_model_laws.proofs.RightItems.{no_way, no_way_back}
use Rattle.cf_model_laws.proofs.SoundSettles.{right_true}

-- a request that is no Put of two contents is of no upload with this token

pub carries_asks : (e : QueueEntry) (q : Request) → ((bytes : List ℕ) → Carries e.token bytes q) → Asks e q
carries_asks e (request.Put t rid expect parent name bytes) h = λ z. absurd (none bytes (h [] z) (h (0 ∷ []) z)) where
  none : (bs : List ℕ) → bs ≡ [] → bs ≡ 0 ∷ [] → ⊥
  none bs a b = let z : ◌≡◌ {A = List ℕ} [] (0 ∷ []) = sym a ∙ b in cc
carries_asks e (request.MakeDir t parent name) h = λ z. no_way (sym (h []) ∙ z)
carries_asks e (request.Move t rid parent name) h = λ z. no_way (sym (h []) ∙ z)
carries_asks e (request.Remove t rid expect) h = λ z. no_way (sym (h []) ∙ z)
carries_asks e (request.Keep t count) h = h []
carries_asks e (request.Settle t) h = tt
carries_asks e (request.Feed round after) h = tt
carries_asks e (request.List key rid) h = tt
carries_asks e (request.Fetch key rid version start len) h = tt

-- what was done stays done

pub did_stays : (a : Action) (held : Held) (q : Request) (asked rid : Rid) → DidBy a held.items asked rid → DidBy a (remote_step held q).1.items asked rid
did_stays PutFile held q asked rid h = (step_stays (λ s. s.directory ≡ false) (kind_stays false) held q rid h.0, h.1)
did_stays MakeDir held q asked rid h = step_stays (λ s. s.directory ≡ true) (kind_stays true) held q rid h
did_stays MoveItem held q asked rid h = (h.0, step_stays (λ s. Unit {0}) any_stays held q rid h.1)
did_stays RemoveItem held q asked rid h = (h.0, step_stays (λ s. s.live ≡ false) dead_stays held q rid h.1)

-- what is done now

abbrev Done : Action → Token → Rid → Held → Type 0
Done a token asked held = (rid : Rid) (version : Version) → recorded_at held.tokens token ≡ Some (RecordedDone rid version) → DidBy a held.items asked rid

decided_did : (a : Action) (held : Held) (token : Token) (m : Mutation) (asked : Rid) (w : Option Why) → (w ≡ None → DidBy a m.items asked m.rid) → Done a token asked (decide held token m w).1
decided_did a held token m asked (Some w) k rid version e =
    let z : ◌≡◌ {A = Option Recorded} (Some RecordedVoid) (Some (RecordedDone rid version)) = sym (recorded-first held.tokens token RecordedVoid) ∙ e in cc
decided_did a held token m asked None k rid version e =
    let z : ◌≡◌ {A = Option Recorded} (Some (RecordedDone m.rid m.version)) (Some (RecordedDone rid version)) = sym (recorded-first held.tokens token (RecordedDone m.rid m.version)) ∙ e in
    let same : m.rid ≡ rid = cc in
    subst (λ (x : Rid). DidBy a m.items asked x) same (k refl)

mutated_did : (a : Action) (held : Held) (token : Token) (m : Mutation) (asked : Rid) (o : Option Recorded) → o ≡ None → (m.refusal ≡ None → DidBy a m.items asked m.rid) → Done a token asked (mutate held token m o).1
mutated_did a held token m asked (Some r) e k = let z : None ≡ Some r = sym e in none_some r z
mutated_did a held token m asked None e k = decided_did a held token m asked m.refusal k

unrecorded : (a : Action) (held new : Held) (token : Token) (asked : Rid) → recorded_at held.tokens token ≡ None → recorded_at new.tokens token ≡ recorded_at held.tokens token → Done a token asked new
unrecorded a held new token asked none same rid version e = none_some (RecordedDone rid version) (sym none ∙ sym same ∙ e)

-- the item that is made
made_in : (Q : Stored → Type 0) (n : ℕ) (ss : List Stored) (t : Stored) → CountsFrom n ss → t.rid.0 ≡ n + length ss → Q t → IsIn Q (ss ++ t ∷ []) t.rid
made_in Q n [] t c e h = (t, by (t.rid.0 == t.rid.0) (same t.rid.0), h) where
  same : (m : ℕ) → (m == m) ≡ true
  same m = eq-eqb m m refl

  by : (b : Bool) → b ≡ true → cond b (Some t) None ≡ Some t
  by true z = refl
  by false z = no_way_back (sym z)
made_in Q n (s ∷ ss) t c e h = by (s.rid.0 == t.rid.0) refl (made_in Q (n + 1) ss t c.1 (shift t.rid.0 n (length ss) e) h) where
  shift : (a n k : ℕ) → a ≡ n + suc k → a ≡ n + 1 + k
  shift a n k e = omega (arith, e)

  apart : (a b n k : ℕ) → a ≡ n → b ≡ n + suc k → a ≡ b → ⊥
  apart a b n k x y z = omega (arith, x, y, z)

  by : (b : Bool) → (s.rid.0 == t.rid.0) ≡ b → IsIn Q (ss ++ t ∷ []) t.rid → (u : Stored) × (cond b (Some s) (stored_at (ss ++ t ∷ []) t.rid) ≡ Some u) × Q u
  by true q k = absurd (apart s.rid.0 t.rid.0 n (length ss) c.0 e (eqb-true s.rid.0 t.rid.0 q))
  by false q k = k

new_in : (held : Held) (parent : Rid) (name : List ℕ) (d : Bool) (versions : List (List ℕ)) → IsCounted held → IsIn (λ s. s.directory ≡ d) (with_new held parent name d versions) (next_rid held)
new_in held parent name d versions counted =
    made_in (λ s. s.directory ≡ d) 1 held.items (record { rid = next_rid held; parent = parent; name = name; directory = d; live = true; versions = versions; least = 1; changed = held.clock + 1 }) counted (swap (length held.items)) refl where
      swap : (n : ℕ) → n + 1 ≡ 1 + n
      swap n = omega arith

-- the first refusal does not hold
pub first_none : (b : Bool) (w : Why) (ts : List (Bool × Why)) → first_of ((b, w) ∷ ts) ≡ None → b ≡ false
first_none true w ts e = none_some w (sym e)
first_none false w ts e = refl

pub not_false : (b : Bool) → not b ≡ false → b ≡ true
not_false true e = refl
not_false false e = no_way_back e

or_false : (a b : Bool) → (a || b) ≡ false → b ≡ false
or_false true b e = no_way_back e
or_false false b e = e

or_first : (a b : Bool) → (a || b) ≡ false → a ≡ false
or_first true b e = e
or_first false b e = refl

-- a live item of the kind that is looked for
said : (Q : Stored → Type 0) (f : Stored → Bool) (items : List Stored) (rid : Rid) → ((s : Stored) → f s ≡ true → Q s) → says f (stored_at items rid) ≡ true → IsIn Q items rid
said Q f items rid k e = by (stored_at items rid) refl e where
  by : (o : Option Stored) → stored_at items rid ≡ o → says f o ≡ true → (s : Stored) × (stored_at items rid ≡ Some s) × Q s
  by None q z = no_way z
  by (Some s) q z = (s, q, k s z)

-- the item that is removed
dead_at : (at : Rid) (changed : ℕ) (ss : List Stored) → IsIn (λ s. Unit {0}) ss at → IsIn (λ s. s.live ≡ false) (at_rid at (λ s. record s { live = false; changed = changed }) ss) at
dead_at at changed [] h = none_some h.0 h.1
dead_at at changed (s ∷ ss) h = by (s.rid.0 == at.0) refl h (dead_at at changed ss) where
  by : (b : Bool) → (s.rid.0 == at.0) ≡ b → ((u : Stored) × (cond b (Some s) (stored_at ss at) ≡ Some u) × Unit {0}) → (IsIn (λ u. Unit {0}) ss at → IsIn (λ u. u.live ≡ false) (at_rid at (λ u. record u { live = false; changed = changed }) ss) at)
      → IsIn (λ u. u.live ≡ false) (cond b (record s { live = false; changed = changed }) s ∷ at_rid at (λ u. record u { live = false; changed = changed }) ss) at
  by true q k more = (record s { live = false; changed = changed }, ap (λ (c : Bool). cond c (Some (record s { live = false; changed = changed })) (stored_at (at_rid at (λ u. record u { live = false; changed = changed }) ss) at)) q, refl)
  by false q k more = ((more k).0, ap (λ (c : Bool). cond c (Some s) (stored_at (at_rid at (λ u. record u { live = false; changed = changed }) ss) at)) q ∙ (more k).1, (more k).2)

put_did : (held : Held) (rid : Rid) (expect : Version) (parent : Rid) (name bytes : List ℕ) (asked : Rid) (b : Bool) → (rid.0 == 0) ≡ b → IsCounted held → rid.0 ≡ asked.0
    → (elim b as (λ _. Mutation) [ true ↦ put_new held parent name bytes | false ↦ put_version held rid expect bytes ]).refusal ≡ None
    → DidBy PutFile (elim b as (λ _. Mutation) [ true ↦ put_new held parent name bytes | false ↦ put_version held rid expect bytes ]).items asked (elim b as (λ _. Mutation) [ true ↦ put_new held parent name bytes | false ↦ put_version held rid expect bytes ]).rid
put_did held rid expect parent name bytes asked true q counted same none = (new_in held parent name false (bytes ∷ []) counted, inl (sym same ∙ eqb-true rid.0 0 q))
put_did held rid expect parent name bytes asked false q counted same none = (in_version (λ s. s.directory ≡ false) (kind_stays false) held rid bytes rid (said (λ s. s.directory ≡ false) (λ s. s.live && not s.directory) held.items rid file (not_false (is_live_file held rid) first)), inr same) where
  first : not (is_live_file held rid) ≡ false
  first = first_none (not (is_live_file held rid)) why.NotThere ((nat_lt MOST_FILE_BYTES (length bytes), why.TooLarge) ∷ (not (expect.0 == (latest_at held rid).0), why.Conflict) ∷ (passes_bytes (with_version held rid bytes), why.Quota) ∷ []) none

  file : (s : Stored) → (s.live && not s.directory) ≡ true → s.directory ≡ false
  file s e = by s.directory (right_true s.live (not s.directory) e) where
    by : (b : Bool) → not b ≡ true → b ≡ false
    by true z = no_way z
    by false z = refl

-- a token without a record, and a request that is right about it
pub did_new : (held : Held) (q : Request) (e : QueueEntry) → IsCounted held → recorded_at held.tokens e.token ≡ None → Asks e q → Done e.action e.token e.rid (remote_step held q).1
did_new held (request.Feed round after) e counted none c = unrecorded e.action held held e.token e.rid none refl
did_new held (request.List key rid) e counted none c = unrecorded e.action held held e.token e.rid none refl
did_new held (request.Fetch key rid version start len) e counted none c = unrecorded e.action held held e.token e.rid none refl
did_new held (request.Put t rid expect parent name bytes) e counted none c = by (same_key t.0 e.token.0) refl where
  by : (b : Bool) → same_key t.0 e.token.0 ≡ b → Done e.action e.token e.rid (remote_step held (request.Put t rid expect parent name bytes)).1
  by true z =
      let same : e.token ≡ t = sym (same_token t e.token z) in
      let free : recorded_at held.tokens t ≡ None = subst (λ (x : Token). recorded_at held.tokens x ≡ None) same none in
      subst (λ (a : Action). Done a e.token e.rid (remote_step held (request.Put t rid expect parent name bytes)).1) (sym (c z).0)
      (subst (λ (x : Token). Done PutFile x e.rid (remote_step held (request.Put t rid expect parent name bytes)).1) (sym same)
      (mutated_did PutFile held t (elim (rid.0 == 0) as (λ _. Mutation) [ true ↦ put_new held parent name bytes | false ↦ put_version held rid expect bytes ]) e.rid (recorded_at held.tokens t) free
      (put_did held rid expect parent name bytes e.rid (rid.0 == 0) refl counted (c z).1)))
  by false z =
      unrecorded e.action held (remote_step held (request.Put t rid expect parent name bytes)).1 e.token e.rid none
      (mutated_other held t e.token (elim (rid.0 == 0) as (λ _. Mutation) [ true ↦ put_new held parent name bytes | false ↦ put_version held rid expect bytes ]) (recorded_at held.tokens t) z)
did_new held (request.MakeDir t parent name) e counted none c = by (same_key t.0 e.token.0) refl where
  by : (b : Bool) → same_key t.0 e.token.0 ≡ b → Done e.action e.token e.rid (remote_step held (request.MakeDir t parent name)).1
  by true z =
      let same : e.token ≡ t = sym (same_token t e.token z) in
      let free : recorded_at held.tokens t ≡ None = subst (λ (x : Token). recorded_at held.tokens x ≡ None) same none in
      subst (λ (a : Action). Done a e.token e.rid (remote_step held (request.MakeDir t parent name)).1) (sym (c z))
      (subst (λ (x : Token). Done MakeDir x e.rid (remote_step held (request.MakeDir t parent name)).1) (sym same)
      (mutated_did MakeDir held t (make_dir held parent name) e.rid (recorded_at held.tokens t) free (λ _. new_in held parent name true [] counted)))
  by false z = unrecorded e.action held (remote_step held (request.MakeDir t parent name)).1 e.token e.rid none (mutated_other held t e.token (make_dir held parent name) (recorded_at held.tokens t) z)
did_new held (request.Move t rid parent name) e counted none c = by (same_key t.0 e.token.0) refl where
  moved : why_move held rid parent name ≡ None → IsIn (λ s. Unit {0}) (with_place held rid parent name) rid
  moved w =
      in_at (λ s. Unit {0}) rid (λ s. record s { parent = parent; name = name; changed = held.clock + 1 }) (λ s. refl) (λ s j. tt) held.items rid
      (said (λ s. Unit {0}) (λ s. s.live) held.items rid (λ s _. tt)
      (not_false (is_live held rid) (or_false (rid.0 == 1) (not (is_live held rid)) (or_first ((rid.0 == 1) || not (is_live held rid)) (not (is_live_dir held parent))
      (first_none ((rid.0 == 1) || not (is_live held rid) || not (is_live_dir held parent)) why.NotThere
      ((not (is_name name), why.BadName) ∷ ((parent.0 == rid.0) || is_under held parent rid, why.Loop) ∷ (nat_lt MOST_PATH_NAMES (depth_of held parent + 1 + height_of held rid), why.TooDeep) ∷ (is_taken held parent name rid, why.NameTaken) ∷ []) w)))))

  by : (b : Bool) → same_key t.0 e.token.0 ≡ b → Done e.action e.token e.rid (remote_step held (request.Move t rid parent name)).1
  by true z =
      let same : e.token ≡ t = sym (same_token t e.token z) in
      let free : recorded_at held.tokens t ≡ None = subst (λ (x : Token). recorded_at held.tokens x ≡ None) same none in
      subst (λ (a : Action). Done a e.token e.rid (remote_step held (request.Move t rid parent name)).1) (sym (c z).0)
      (subst (λ (x : Token). Done MoveItem x e.rid (remote_step held (request.Move t rid parent name)).1) (sym same)
      (mutated_did MoveItem held t (move_to held rid parent name) e.rid (recorded_at held.tokens t) free (λ w. ((c z).1, moved w))))
  by false z = unrecorded e.action held (remote_step held (request.Move t rid parent name)).1 e.token e.rid none (mutated_other held t e.token (move_to held rid parent name) (recorded_at held.tokens t) z)
did_new held (request.Remove t rid expect) e counted none c = by (same_key t.0 e.token.0) refl where
  gone : why_remove held rid expect ≡ None → IsIn (λ s. s.live ≡ false) (with_dead held rid) rid
  gone w =
      dead_at rid (held.clock + 1) held.items (said (λ s. Unit {0}) (λ s. s.live) held.items rid (λ s _. tt)
      (not_false (is_live held rid) (or_false (rid.0 == 1) (not (is_live held rid))
      (first_none ((rid.0 == 1) || not (is_live held rid)) why.NotThere ((is_live_file held rid && not (expect.0 == (latest_at held rid).0), why.Conflict) ∷ (list_any (λ s. s.live && (s.parent.0 == rid.0)) held.items, why.NotEmpty) ∷ []) w))))

  by : (b : Bool) → same_key t.0 e.token.0 ≡ b → Done e.action e.token e.rid (remote_step held (request.Remove t rid expect)).1
  by true z =
      let same : e.token ≡ t = sym (same_token t e.token z) in
      let free : recorded_at held.tokens t ≡ None = subst (λ (x : Token). recorded_at held.tokens x ≡ None) same none in
      subst (λ (a : Action). Done a e.token e.rid (remote_step held (request.Remove t rid expect)).1) (sym (c z).0)
      (subst (λ (x : Token). Done RemoveItem x e.rid (remote_step held (request.Remove t rid expect)).1) (sym same)
      (mutated_did RemoveItem held t (remove_at held rid expect) e.rid (recorded_at held.tokens t) free (λ w. ((c z).1, gone w))))
  by false z = unrecorded e.action held (remote_step held (request.Remove t rid expect)).1 e.token e.rid none (mutated_other held t e.token (remove_at held rid expect) (recorded_at held.tokens t) z)
did_new held (request.Settle t) e counted none c = by (recorded_at held.tokens t) (same_key t.0 e.token.0) refl where
  by : (o : Option Recorded) (b : Bool) → same_key t.0 e.token.0 ≡ b → Done e.action e.token e.rid (settle held t o).1
  by (Some r) b z = unrecorded e.action held held e.token e.rid none refl
  by None true z = λ rid version k.
      let same : t ≡ e.token = same_token t e.token z in
      let y : ◌≡◌ {A = Option Recorded} (Some RecordedVoid) (Some (RecordedDone rid version)) = sym (recorded-first held.tokens t RecordedVoid) ∙ ap (λ (x : Token). recorded_at ((t, RecordedVoid) ∷ held.tokens) x) same ∙ k in cc
  by None false z = unrecorded e.action held (with_token t RecordedVoid held) e.token e.rid none (other_first held.tokens t e.token RecordedVoid z)
did_new held (request.Keep t count) e counted none c = by (recorded_at held.tokens t) where
  by : (o : Option Recorded) → Done e.action e.token e.rid (keep_last held t count o).1
  by (Some r) = unrecorded e.action held held e.token e.rid none refl
  by None = unrecorded e.action held (keep_last held t count None).1 e.token e.rid none (other_first held.tokens t e.token (RecordedDone root_rid no_version) c)
