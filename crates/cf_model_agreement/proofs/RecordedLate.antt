-- What the remote does under a token that had no record, it does after its clock.
use Rattle.std.proofs.Common.{◌≡◌, ◌⊎◌, ◌<◌, ◌+◌, ℕ, Bool, true, false, List, [], ◌∷◌, ◌++◌, refl, sym, ◌∙◌, subst, inl, inr, arith, eq-eqb, length}
use Rattle.std.specs.Prelude.{Option, Some, None, cond, find, map, ◌==◌}
use Rattle.std.proofs.lemmas.Bool.{eqb-true}
use Rattle.cf_base.specs.declared.ids.Rid.{Rid}
use Rattle.cf_base.specs.declared.ids.Token.{Token}
use Rattle.cf_base.specs.declared.ids.Version.{Version}
use Rattle.cf_base.specs.declared.messages.Request.{Request}
use Rattle.cf_base.specs.declared.messages.Request.TheVariants as request
use Rattle.cf_base.specs.declared.messages.Why.{Why}
use Rattle.cf_model.specs.Books.{QueueEntry}
use Rattle.cf_model.specs.Growth.{IsCounted}
use Rattle.cf_model.specs.Numbers.{no_version, root_rid, same_key}
use Rattle.cf_model.specs.Store.{Held, Mutation, Recorded, RecordedDone, RecordedVoid, Stored, decide, keep_last, make_dir, move_to, mutate, next_rid, put_new, put_version, recorded_at, remote_step, remove_at, settle, stored_at, trimmed, with_new, with_token}
use Rattle.cf_model.specs.Words.{part}
use Rattle.cf_model_laws.specs.Invariant.{All, Asks}
use Rattle.cf_model_laws.proofs.Gathered.{all_any, all_append, all_found, all_map, all_weaker}
use Rattle.cf_model_laws.proofs.RightItems.{no_way}
use Rattle.cf_model_convergence.proofs.LateChanges.{trim_changed}
use Rattle.cf_model_convergence.proofs.TidyItems.{below_next, each_found}
use Rattle.cf_model_agreement.specs.Messages.{IsLate}

module _ (r : Held) (counted : IsCounted r) where
  -- the item of this rid was changed after the clock
  abbrev Late : Rid → Stored → Type 0
  Late rid s = s.rid.0 ≡ rid.0 → r.clock < s.changed

  behind : (n : ℕ) → n < n + 1
  behind n = omega arith

  late_found : (items : List Stored) (rid : Rid) → All (Late rid) items → (x : Stored) → stored_at items rid ≡ Some x → r.clock < x.changed
  late_found items rid h x found = let k = all_found (Late rid) (λ s. s.rid.0 == rid.0) items x found h in k.0 (eqb-true x.rid.0 rid.0 k.1)

  new_late : (parent : Rid) (name : List ℕ) (directory : Bool) (versions : List (List ℕ)) → All (Late (next_rid r)) (with_new r parent name directory versions)
  new_late parent name directory versions = all_append (Late (next_rid r)) r.items _ (all_weaker (λ s. stored_at r.items s.rid ≡ Some s) (Late (next_rid r)) old r.items (each_found 1 r.items counted)) ((λ e. behind r.clock), tt) where
    never : (a n : ℕ) → a < 1 + n → a ≡ n + 1 → ⊥
    never a n h e = omega (arith, h, e)

    old : (s : Stored) → stored_at r.items s.rid ≡ Some s → Late (next_rid r) s
    old s found e = absurd (never s.rid.0 (length r.items) (below_next 1 r.items s.rid s counted found).1 e)

  changed_late : (f : Stored → Stored) (rid : Rid) → ((s : Stored) → (f s).changed ≡ r.clock + 1) → All (Late rid) (map (λ s. cond (s.rid.0 == rid.0) (f s) s) r.items)
  changed_late f rid now = all_map (λ s. Unit {0}) (Late rid) (λ s. cond (s.rid.0 == rid.0) (f s) s) (λ s _. by s (s.rid.0 == rid.0) refl) r.items (all_any (λ s. Unit {0}) (λ s. tt) r.items) where
    by : (s : Stored) (b : Bool) → (s.rid.0 == rid.0) ≡ b → Late rid (cond b (f s) s)
    by s true q e = subst (λ (n : ℕ). r.clock < n) (sym (now s)) (behind r.clock)
    by s false q e = no_way (sym q ∙ subst (λ (n : ℕ). (s.rid.0 == n) ≡ true) e (eq-eqb s.rid.0 s.rid.0 refl))

  same_done : (a b : Rid) (v w : Version) → ◌≡◌ {A = Option Recorded} (Some (RecordedDone a v)) (Some (RecordedDone b w)) → a ≡ b
  same_done a b v w e = cc

  not_void : (b : Rid) (w : Version) → ◌≡◌ {A = Option Recorded} (Some RecordedVoid) (Some (RecordedDone b w)) → ⊥
  not_void b w e = cc

  none_some : (x : Recorded) → ◌≡◌ {A = Option Recorded} None (Some x) → ⊥
  none_some x e = cc

  module _ (token : Token) (free : recorded_at r.tokens token ≡ None) (rid : Rid) (version : Version) where
    abbrev Did : Held → Type 0
    Did after = recorded_at after.tokens token ≡ Some (RecordedDone rid version)

    same_record : {A : Type 0} → Did r → A
    same_record e = absurd (none_some (RecordedDone rid version) (sym free ∙ e))

    -- with one record more
    one_more : (t : Token) (x : Recorded) (after : Held) → after.tokens ≡ r.tokens → Did (with_token t x after) → ((same_key t.0 token.0 ≡ true) × (◌≡◌ {A = Option Recorded} (Some x) (Some (RecordedDone rid version)))) ⊎ Did r
    one_more t x after same e = by (same_key t.0 token.0) refl e where
      by : (b : Bool) → same_key t.0 token.0 ≡ b → part (λ (y : Token × Recorded). Some y.1) None (cond b (Some (t, x)) (find (λ y. same_key y.0.0 token.0) after.tokens)) ≡ Some (RecordedDone rid version)
          → ((same_key t.0 token.0 ≡ true) × (◌≡◌ {A = Option Recorded} (Some x) (Some (RecordedDone rid version)))) ⊎ Did r
      by true q z = inl (q, z)
      by false q z = inr (subst (λ (ts : List (Token × Recorded)). recorded_at ts token ≡ Some (RecordedDone rid version)) same z)

    decided : (t : Token) (m : Mutation) (w : Option Why) → All (Late m.rid) m.items → Did (decide r t m w).1 → IsLate (decide r t m w).1 r.clock rid
    decided t m (Some w) late e = by (one_more t RecordedVoid r refl e) where
      by : ((same_key t.0 token.0 ≡ true) × (◌≡◌ {A = Option Recorded} (Some RecordedVoid) (Some (RecordedDone rid version)))) ⊎ Did r → IsLate (decide r t m (Some w)).1 r.clock rid
      by (inl z) = absurd (not_void rid version z.1)
      by (inr z) = same_record z
    decided t m None late e = by (one_more t (RecordedDone m.rid m.version) (record r { items = m.items; clock = r.clock + 1 }) refl e) where
      by : ((same_key t.0 token.0 ≡ true) × (◌≡◌ {A = Option Recorded} (Some (RecordedDone m.rid m.version)) (Some (RecordedDone rid version)))) ⊎ Did r → IsLate (decide r t m None).1 r.clock rid
      by (inl z) = subst (λ (x : Rid). IsLate (decide r t m None).1 r.clock x) (same_done m.rid rid m.version version z.1) (late_found m.items m.rid late)
      by (inr z) = same_record z

    mutated : (t : Token) (m : Mutation) (o : Option Recorded) → All (Late m.rid) m.items → Did (mutate r t m o).1 → IsLate (mutate r t m o).1 r.clock rid
    mutated t m (Some x) late e = same_record e
    mutated t m None late e = decided t m m.refusal late e

    put_late : (t : Token) (at : Rid) (expect : Version) (parent : Rid) (name bytes : List ℕ) (new : Bool)
        → Did (mutate r t (elim new as (λ _. Mutation) [ true ↦ put_new r parent name bytes | false ↦ put_version r at expect bytes ]) (recorded_at r.tokens t)).1
        → IsLate (mutate r t (elim new as (λ _. Mutation) [ true ↦ put_new r parent name bytes | false ↦ put_version r at expect bytes ]) (recorded_at r.tokens t)).1 r.clock rid
    put_late t at expect parent name bytes true e = mutated t (put_new r parent name bytes) (recorded_at r.tokens t) (new_late parent name false (bytes ∷ [])) e
    put_late t at expect parent name bytes false e =
        mutated t (put_version r at expect bytes) (recorded_at r.tokens t)
        (changed_late (λ s. trimmed r.keep (record s { versions = s.versions ++ bytes ∷ []; changed = r.clock + 1 })) at (λ s. trim_changed r.keep (record s { versions = s.versions ++ bytes ∷ []; changed = r.clock + 1 }))) e

    settled : (t : Token) (o : Option Recorded) → Did (settle r t o).1 → IsLate (settle r t o).1 r.clock rid
    settled t (Some x) e = same_record e
    settled t None e = by (one_more t RecordedVoid r refl e) where
      by : ((same_key t.0 token.0 ≡ true) × (◌≡◌ {A = Option Recorded} (Some RecordedVoid) (Some (RecordedDone rid version)))) ⊎ Did r → IsLate (settle r t None).1 r.clock rid
      by (inl z) = absurd (not_void rid version z.1)
      by (inr z) = same_record z

    kept : (t : Token) (count : ℕ) (o : Option Recorded) → same_key t.0 token.0 ≡ false → Did (keep_last r t count o).1 → IsLate (keep_last r t count o).1 r.clock rid
    kept t count (Some x) apart e = same_record e
    kept t count None apart e = by (one_more t (RecordedDone root_rid no_version) (record r { items = map (trimmed (Some count)) r.items; keep = Some count }) refl e) where
      by : ((same_key t.0 token.0 ≡ true) × (◌≡◌ {A = Option Recorded} (Some (RecordedDone root_rid no_version)) (Some (RecordedDone rid version)))) ⊎ Did r → IsLate (keep_last r t count None).1 r.clock rid
      by (inl z) = no_way (sym apart ∙ z.0)
      by (inr z) = same_record z

-- so it is of an upload whose token had no record
pub recorded_late : (r : Held) (q : Request) (e : QueueEntry) (rid : Rid) (version : Version) → IsCounted r → Asks e q → recorded_at r.tokens e.token ≡ None → recorded_at (remote_step r q).1.tokens e.token ≡ Some (RecordedDone rid version) → IsLate (remote_step r q).1 r.clock rid
recorded_late r (request.Feed round after) e rid version counted asks free did = same_record r counted e.token free rid version did
recorded_late r (request.List key at) e rid version counted asks free did = same_record r counted e.token free rid version did
recorded_late r (request.Fetch key at v start len) e rid version counted asks free did = same_record r counted e.token free rid version did
recorded_late r (request.Put t at expect parent name bytes) e rid version counted asks free did = put_late r counted e.token free rid version t at expect parent name bytes (at.0 == 0) did
recorded_late r (request.MakeDir t parent name) e rid version counted asks free did = mutated r counted e.token free rid version t (make_dir r parent name) (recorded_at r.tokens t) (new_late r counted parent name true []) did
recorded_late r (request.Move t at parent name) e rid version counted asks free did =
    mutated r counted e.token free rid version t (move_to r at parent name) (recorded_at r.tokens t) (changed_late r counted (λ s. record s { parent = parent; name = name; changed = r.clock + 1 }) at (λ s. refl)) did
recorded_late r (request.Remove t at expect) e rid version counted asks free did =
    mutated r counted e.token free rid version t (remove_at r at expect) (recorded_at r.tokens t) (changed_late r counted (λ s. record s { live = false; changed = r.clock + 1 }) at (λ s. refl)) did
recorded_late r (request.Settle t) e rid version counted asks free did = settled r counted e.token free rid version t (recorded_at r.tokens t) did
recorded_late r (request.Keep t count) e rid version counted asks free did = kept r counted e.token free rid version t count (recorded_at r.tokens t) asks did
