-- A request leaves a tidy remote tidy.
use Rattle.std.proofs.Common.{◌≡◌, ◌<◌, ◌≤◌, ◌+◌, ℕ, Bool, true, false, List, [], ◌∷◌, ◌++◌, refl, sym, ◌∙◌, ap, subst, arith, length, map, eq-eqb}
use Rattle.std.specs.Prelude.{Option, Some, None, cond, not, nat_lt, max, ◌-◌, ◌&&◌, ◌||◌, ◌==◌}
use Rattle.std.specs.List.{list_any}
use Rattle.std.proofs.lemmas.Bool.{eqb-true}
use Rattle.std.proofs.lemmas.List.{length-append}
use Rattle.cf_base.specs.declared.answers.Answer.{Answer}
use Rattle.cf_base.specs.declared.events.Event.{Event}
use Rattle.cf_base.specs.declared.ids.Rid.{Rid}
use Rattle.cf_base.specs.declared.ids.Token.{Token}
use Rattle.cf_base.specs.declared.ids.Version.{Version}
use Rattle.cf_base.specs.declared.limits.TheConstants.{MOST_FILE_BYTES, MOST_PATH_NAMES}
use Rattle.cf_base.specs.declared.messages.Request.{Request}
use Rattle.cf_base.specs.declared.messages.Request.TheVariants as request
use Rattle.cf_base.specs.declared.messages.Why.{Why}
use Rattle.cf_base.specs.declared.messages.Why.TheVariants as why
use Rattle.cf_base.specs.declared.policies.Mode.{Mode}
use Rattle.cf_model.specs.Lawful.{Runs}
use Rattle.cf_model.specs.Numbers.{no_version, root_rid}
use Rattle.cf_model.specs.State.{State, start}
use Rattle.cf_model.specs.Store.{Held, Mutation, Recorded, RecordedDone, RecordedVoid, Stored, decide, empty_remote, is_live, is_live_dir, is_live_file, is_under, keep_last, latest, latest_at, make_dir, move_to, mutate, next_rid, put_new, put_version, recorded_at, remote_step, remove_at, settle, stored_at, trimmed, with_dead, with_new, with_place, with_token, with_version}
use Rattle.cf_model.specs.Texts.{is_name}
use Rattle.cf_model.specs.Words.{says}
use Rattle.cf_model.proofs.RemoteLaws.{runs_keep_remote}
use Rattle.cf_model.proofs.StoreLaws.{step_counts}
use Rattle.cf_model_laws.specs.Invariant.{All}
use Rattle.cf_model_laws.proofs.FeedsGuarded.{or_right_false}
use Rattle.cf_model_laws.proofs.Gathered.{all_any, all_append, all_both, all_map, all_weaker}
use Rattle.cf_model_laws.proofs.RightItems.{no_way, no_way_back}
use Rattle.cf_model_laws.proofs.SoundSettles.{not_false}
use Rattle.cf_model_convergence.specs.Tidy.{IsPlacedAt, IsTidy, IsTidyItem}
use Rattle.cf_model_convergence.proofs.TidyDepths.{step_reached}
use Rattle.cf_model_convergence.proofs.TidyItems.{below_next, each_found, found_mapped, found_more, none_first, or_left_false, said, small}

-- an item beside a request

later_clock : (clock : ℕ) (s : Stored) → IsPlacedAt clock s → IsPlacedAt (clock + 1) s
later_clock clock s h = record { late = h.late; early = more s.changed clock h.early; named = h.named; apart = h.apart } where
  more : (a b : ℕ) → a ≤ b → a ≤ b + 1
  more a b h = omega (arith, h)

-- what stays of an item beside a request
kept_item : (held new : Held) → new.clock ≡ held.clock + 1 → (s : Stored) → ((rid : Rid) → s.live ≡ true → s.parent.0 ≡ rid.0 → is_live_dir held rid ≡ true → is_live_dir new rid ≡ true) → IsTidyItem held s → IsTidyItem new s
kept_item held new clock s dirs h = record {
  placed = λ low. subst (λ (n : ℕ). IsPlacedAt n s) (sym clock) (later_clock held.clock s (h.placed low));
  versions = h.versions;
  under = λ low live. dirs s.parent live refl (h.under low live);
}

now_late : (n : ℕ) → 1 ≤ n + 1
now_late n = omega (arith)

now_early : (n : ℕ) → n + 1 ≤ n + 1
now_early n = omega (arith)

-- which versions are held changes nothing else

trimmed_rid : (keep : Option ℕ) (s : Stored) → (trimmed keep s).rid.0 ≡ s.rid.0
trimmed_rid None s = refl
trimmed_rid (Some n) s = by s.directory where
  by : (b : Bool) → (cond b s (record s { least = max s.least (latest s + 1 - n) })).rid.0 ≡ s.rid.0
  by true = refl
  by false = refl

trimmed_dir : (keep : Option ℕ) (s : Stored) → (s.live && s.directory) ≡ true → ((trimmed keep s).live && (trimmed keep s).directory) ≡ true
trimmed_dir None s e = e
trimmed_dir (Some n) s e = by s.directory where
  by : (b : Bool) → (let t : Stored = cond b s (record s { least = max s.least (latest s + 1 - n) }) in t.live && t.directory) ≡ true
  by true = e
  by false = e

trimmed_item : (held : Held) (keep : Option ℕ) (s : Stored) → IsTidyItem held s → IsTidyItem held (trimmed keep s)
trimmed_item held None s h = h
trimmed_item held (Some n) s h = by s.directory where
  by : (b : Bool) → IsTidyItem held (cond b s (record s { least = max s.least (latest s + 1 - n) }))
  by true = h
  by false = record {
    placed = λ low. let p : IsPlacedAt held.clock s = h.placed low in record { late = p.late; early = p.early; named = p.named; apart = p.apart };
    versions = record { none = h.versions.none; some = h.versions.some; short = h.versions.short };
    under = h.under;
  }

-- all but that the rids count
abbrev Tidied : Held → Type 0
Tidied held = (is_live_dir held root_rid ≡ true) × All (IsTidyItem held) held.items

tidied : (held : Held) → IsTidy held → Tidied held
tidied held h = (h.root, h.items)

token_tidied : (held : Held) (token : Token) (r : Recorded) → Tidied held → Tidied (with_token token r held)
token_tidied held token r h = (h.0, all_weaker (IsTidyItem held) (IsTidyItem (with_token token r held)) (λ s k. record { placed = k.placed; versions = k.versions; under = k.under }) held.items h.1)

-- a new item

abbrev AreShort : List (List ℕ) → Type 0
AreShort versions = All (λ (bytes : List ℕ). length bytes ≤ MOST_FILE_BYTES) versions

module _ (held : Held) (h : IsTidy held) (token : Token) (r : Recorded) where
  abbrev After : List Stored → Held
  After items = with_token token r (record held { items = items; clock = held.clock + 1 })

  new_tidied : (parent : Rid) (name : List ℕ) (directory : Bool) (versions : List (List ℕ)) → is_live_dir held parent ≡ true → is_name name ≡ true → (directory ≡ true → versions ≡ []) → (directory ≡ false → 1 ≤ length versions) → AreShort versions
      → Tidied (After (with_new held parent name directory versions))
  new_tidied parent name directory versions up named none some short = (
    found_more (λ q. q.live && q.directory) held.items (made ∷ []) root_rid h.root,
    all_append (IsTidyItem (After (with_new held parent name directory versions))) held.items (made ∷ [])
        (all_weaker (IsTidyItem held) (IsTidyItem (After (with_new held parent name directory versions))) (λ s k. kept_item held (After (with_new held parent name directory versions)) refl s (λ rid live e d. found_more (λ q. q.live && q.directory) held.items (made ∷ []) rid d) k) held.items h.items) (new_item, tt),
  )
    where
      made : Stored
      made = record { rid = next_rid held; parent = parent; name = name; directory = directory; live = true; versions = versions; least = 1; changed = held.clock + 1 }

      past : (a b n : ℕ) → a < 1 + n → b ≡ n + 1 → a ≡ b → ⊥
      past a b n h d e = omega (arith, h, d, e)

      apart : parent.0 ≡ (next_rid held).0 → ⊥
      apart e = let x = said (λ q. q.live && q.directory) (stored_at held.items parent) up in past parent.0 (next_rid held).0 (length held.items) (below_next 1 held.items parent x.0 h.counted x.1).1 refl e

      new_item : IsTidyItem (After (with_new held parent name directory versions)) made
      new_item = record {
        placed = λ low. record { late = now_late held.clock; early = now_early held.clock; named = named; apart = apart };
        versions = record { none = none; some = some; short = short };
        under = λ low live. found_more (λ q. q.live && q.directory) held.items (made ∷ []) parent up;
      }

  -- an item that is changed

  abbrev moved : Rid → Rid → List ℕ → Stored → Stored
  moved rid parent name s = cond (s.rid.0 == rid.0) (record s { parent = parent; name = name; changed = held.clock + 1 }) s

  abbrev died : Rid → Stored → Stored
  died rid s = cond (s.rid.0 == rid.0) (record s { live = false; changed = held.clock + 1 }) s

  abbrev more : List ℕ → Stored → Stored
  more bytes s = record s { versions = s.versions ++ bytes ∷ []; changed = held.clock + 1 }

  abbrev grown : Rid → List ℕ → Stored → Stored
  grown rid bytes s = cond (s.rid.0 == rid.0) (trimmed held.keep (record s { versions = s.versions ++ bytes ∷ []; changed = held.clock + 1 })) s

  mapped_tidied : (g : Stored → Stored) (Q : Stored → Type 0) → All Q held.items → is_live_dir (After (map g held.items)) root_rid ≡ true → ((s : Stored) → stored_at held.items s.rid ≡ Some s → Q s → IsTidyItem held s → IsTidyItem (After (map g held.items)) (g s)) → Tidied (After (map g held.items))
  mapped_tidied g Q all root each = (
    root,
    all_map (λ s. (stored_at held.items s.rid ≡ Some s) × Q s × IsTidyItem held s) (IsTidyItem (After (map g held.items))) g (λ s k. each s k.0 k.1 k.2) held.items
        (all_both (λ s. stored_at held.items s.rid ≡ Some s) (λ s. Q s × IsTidyItem held s) (λ s. (stored_at held.items s.rid ≡ Some s) × Q s × IsTidyItem held s) (λ s e k. (e, k.0, k.1)) held.items (each_found 1 held.items h.counted)
        (all_both Q (IsTidyItem held) (λ s. Q s × IsTidyItem held s) (λ s e k. (e, k)) held.items all h.items)),
  )

  -- an item with another parent and name

  placed_tidied : (rid parent : Rid) (name : List ℕ) → is_live_dir held parent ≡ true → is_name name ≡ true → (parent.0 == rid.0) ≡ false → Tidied (After (with_place held rid parent name))
  placed_tidied rid parent name up named apart = mapped_tidied (moved rid parent name) (λ s. Unit {0}) (all_any (λ s. Unit {0}) (λ s. tt) held.items) (stays root_rid h.root) (λ s found q k. by s (s.rid.0 == rid.0) refl k) where
    same : (s : Stored) (b : Bool) → (cond b (record s { parent = parent; name = name; changed = held.clock + 1 }) s).rid.0 ≡ s.rid.0
    same s true = refl
    same s false = refl

    test : (s : Stored) (b : Bool) → (s.live && s.directory) ≡ true → (let t : Stored = cond b (record s { parent = parent; name = name; changed = held.clock + 1 }) s in t.live && t.directory) ≡ true
    test s true e = e
    test s false e = e

    stays : (at : Rid) → is_live_dir held at ≡ true → is_live_dir (After (with_place held rid parent name)) at ≡ true
    stays at d = found_mapped (λ q. q.live && q.directory) (moved rid parent name) at (λ s. same s (s.rid.0 == rid.0)) (λ s e f. test s (s.rid.0 == rid.0) f) held.items d

    other : (a b c : ℕ) → (a == b) ≡ false → c ≡ b → a ≡ c → ⊥
    other a b c e d f = no_way (sym e ∙ eq-eqb a b (f ∙ d))

    by : (s : Stored) (b : Bool) → (s.rid.0 == rid.0) ≡ b → IsTidyItem held s → IsTidyItem (After (with_place held rid parent name)) (cond b (record s { parent = parent; name = name; changed = held.clock + 1 }) s)
    by s false q k = kept_item held (After (with_place held rid parent name)) refl s (λ at live e d. stays at d) k
    by s true q k = record {
      placed = λ low. record { late = now_late held.clock; early = now_early held.clock; named = named; apart = other parent.0 rid.0 s.rid.0 apart (eqb-true s.rid.0 rid.0 q) };
      versions = record { none = k.versions.none; some = k.versions.some; short = k.versions.short };
      under = λ low live. stays parent up;
    }

  -- an item that is dead

  dead_tidied : (rid : Rid) → (rid.0 == 1) ≡ false → list_any (λ s. s.live && (s.parent.0 == rid.0)) held.items ≡ false → Tidied (After (with_dead held rid))
  dead_tidied rid low none = mapped_tidied (died rid) (λ s. (s.live && (s.parent.0 == rid.0)) ≡ false) (nothing (λ s. s.live && (s.parent.0 == rid.0)) held.items none) (stays root_rid (λ e. no_way (sym low ∙ eq-eqb rid.0 1 (sym e))) h.root) (λ s found q k. by s (s.rid.0 == rid.0) refl q k) where
    nothing : (f : Stored → Bool) (xs : List Stored) → list_any f xs ≡ false → All (λ s. f s ≡ false) xs
    nothing f [] e = tt
    nothing f (x ∷ xs) e = (left f x xs (f x) refl e, nothing f xs (right (f x) (list_any f xs) e)) where
      right : (a b : Bool) → (a || b) ≡ false → b ≡ false
      right true b e = no_way_back e
      right false b e = e

      left : (f : Stored → Bool) (x : Stored) (xs : List Stored) (b : Bool) → f x ≡ b → (f x || list_any f xs) ≡ false → f x ≡ false
      left f x xs true q e = no_way_back (sym (ap (λ (c : Bool). c || list_any f xs) q) ∙ e)
      left f x xs false q e = q

    same : (s : Stored) (b : Bool) → (cond b (record s { live = false; changed = held.clock + 1 }) s).rid.0 ≡ s.rid.0
    same s true = refl
    same s false = refl

    test : (s : Stored) (at : Rid) (b : Bool) → (s.rid.0 == rid.0) ≡ b → (at.0 ≡ rid.0 → ⊥) → s.rid.0 ≡ at.0 → (s.live && s.directory) ≡ true → (let t : Stored = cond b (record s { live = false; changed = held.clock + 1 }) s in t.live && t.directory) ≡ true
    test s at true q away e f = absurd (away (sym e ∙ eqb-true s.rid.0 rid.0 q))
    test s at false q away e f = f

    stays : (at : Rid) → (at.0 ≡ rid.0 → ⊥) → is_live_dir held at ≡ true → is_live_dir (After (with_dead held rid)) at ≡ true
    stays at away d = found_mapped (λ q. q.live && q.directory) (died rid) at (λ s. same s (s.rid.0 == rid.0)) (λ s e f. test s at (s.rid.0 == rid.0) refl away e f) held.items d

    away : (s : Stored) (at : Rid) → (s.live && (s.parent.0 == rid.0)) ≡ false → s.live ≡ true → s.parent.0 ≡ at.0 → at.0 ≡ rid.0 → ⊥
    away s at q live e f = no_way (sym q ∙ (ap (λ (c : Bool). c && (s.parent.0 == rid.0)) live ∙ eq-eqb s.parent.0 rid.0 (e ∙ f)))

    by : (s : Stored) (b : Bool) → (s.rid.0 == rid.0) ≡ b → (s.live && (s.parent.0 == rid.0)) ≡ false → IsTidyItem held s → IsTidyItem (After (with_dead held rid)) (cond b (record s { live = false; changed = held.clock + 1 }) s)
    by s false e q k = kept_item held (After (with_dead held rid)) refl s (λ at live d f. stays at (away s at q live d) f) k
    by s true e q k = record {
      placed = λ low. let p : IsPlacedAt held.clock s = k.placed low in record { late = now_late held.clock; early = now_early held.clock; named = p.named; apart = p.apart };
      versions = record { none = k.versions.none; some = k.versions.some; short = k.versions.short };
      under = λ low live. no_way live;
    }

  -- a file with another version

  version_tidied : (rid : Rid) (bytes : List ℕ) → is_live_file held rid ≡ true → length bytes ≤ MOST_FILE_BYTES → Tidied (After (with_version held rid bytes))
  version_tidied rid bytes file short = mapped_tidied (grown rid bytes) (λ s. Unit {0}) (all_any (λ s. Unit {0}) (λ s. tt) held.items) (stays root_rid h.root) (λ s found q k. by s (s.rid.0 == rid.0) refl found k) where
    same : (s : Stored) (b : Bool) → (cond b (trimmed held.keep (more bytes s)) s).rid.0 ≡ s.rid.0
    same s true = trimmed_rid held.keep (more bytes s)
    same s false = refl

    test : (s : Stored) (b : Bool) → (s.live && s.directory) ≡ true → (let t : Stored = cond b (trimmed held.keep (more bytes s)) s in t.live && t.directory) ≡ true
    test s true e = trimmed_dir held.keep (more bytes s) e
    test s false e = e

    stays : (at : Rid) → is_live_dir held at ≡ true → is_live_dir (After (with_version held rid bytes)) at ≡ true
    stays at d = found_mapped (λ q. q.live && q.directory) (grown rid bytes) at (λ s. same s (s.rid.0 == rid.0)) (λ s e f. test s (s.rid.0 == rid.0) f) held.items d

    is_file : (s : Stored) → (s.rid.0 == rid.0) ≡ true → stored_at held.items s.rid ≡ Some s → s.directory ≡ false
    is_file s q found =
        let at : stored_at held.items rid ≡ Some s = ap (λ (n : ℕ). stored_at held.items (record { 0 = n })) (sym (eqb-true s.rid.0 rid.0 q)) ∙ found in
        is_not s.live s.directory (subst (λ (o : Option Stored). says (λ t. t.live && not t.directory) o ≡ true) at file) where
          is_not : (a b : Bool) → (a && not b) ≡ true → b ≡ false
          is_not true false e = refl
          is_not true true e = no_way e
          is_not false b e = no_way e

    longer : (vs : List (List ℕ)) → 1 ≤ length (vs ++ bytes ∷ [])
    longer vs = subst (λ (n : ℕ). 1 ≤ n) (sym (length-append vs (bytes ∷ []))) (now_late (length vs))

    by : (s : Stored) (b : Bool) → (s.rid.0 == rid.0) ≡ b → stored_at held.items s.rid ≡ Some s → IsTidyItem held s → IsTidyItem (After (with_version held rid bytes)) (cond b (trimmed held.keep (more bytes s)) s)
    by s false q found k = kept_item held (After (with_version held rid bytes)) refl s (λ at live e d. stays at d) k
    by s true q found k = trimmed_item (After (with_version held rid bytes)) held.keep (more bytes s) (record {
      placed = λ low. let p : IsPlacedAt held.clock s = k.placed low in record { late = now_late held.clock; early = now_early held.clock; named = p.named; apart = p.apart };
      versions = record {
        none = λ d. no_way (sym (is_file s q found) ∙ d);
        some = λ d. longer s.versions;
        short = all_append (λ (b : List ℕ). length b ≤ MOST_FILE_BYTES) s.versions (bytes ∷ []) k.versions.short (short, tt);
      };
      under = λ low live. stays s.parent (k.under low live);
    })

-- all requests

abbrev Decided : Held → Token → Mutation → Held
Decided held token m = with_token token (RecordedDone m.rid m.version) (record held { items = m.items; clock = held.clock + 1 })

decided : (held : Held) (token : Token) (m : Mutation) (w : Option Why) → IsTidy held → (w ≡ None → Tidied (Decided held token m)) → Tidied (decide held token m w).1
decided held token m (Some w) h done = token_tidied held token RecordedVoid (tidied held h)
decided held token m None h done = done refl

mutated : (held : Held) (token : Token) (m : Mutation) (o : Option Recorded) → IsTidy held → (m.refusal ≡ None → Tidied (Decided held token m)) → Tidied (mutate held token m o).1
mutated held token m (Some r) h done = tidied held h
mutated held token m None h done = decided held token m m.refusal h done

one_short : (bytes : List ℕ) → nat_lt MOST_FILE_BYTES (length bytes) ≡ false → length bytes ≤ MOST_FILE_BYTES
one_short bytes e = small (length bytes) MOST_FILE_BYTES e

one : (bytes : List ℕ) → 1 ≤ length (bytes ∷ [])
one bytes = omega arith

put_new_tidied : (held : Held) → IsTidy held → (token : Token) (parent : Rid) (name bytes : List ℕ) → (put_new held parent name bytes).refusal ≡ None → Tidied (Decided held token (put_new held parent name bytes))
put_new_tidied held h token parent name bytes e =
    let a = none_first (not (is_live_dir held parent)) why.NotThere _ e in let b = none_first (not (is_name name)) why.BadName _ a.1 in let c = none_first (nat_lt MOST_FILE_BYTES (length bytes)) why.TooLarge _ b.1 in
    new_tidied held h token (RecordedDone (next_rid held) (record { 0 = 1 })) parent name false (bytes ∷ []) (not_false (is_live_dir held parent) a.0) (not_false (is_name name) b.0) (λ d. no_way d) (λ d. one bytes) (one_short bytes c.0, tt)

put_version_tidied : (held : Held) → IsTidy held → (token : Token) (rid : Rid) (expect : Version) (bytes : List ℕ) → (put_version held rid expect bytes).refusal ≡ None → Tidied (Decided held token (put_version held rid expect bytes))
put_version_tidied held h token rid expect bytes e =
    let a = none_first (not (is_live_file held rid)) why.NotThere _ e in let b = none_first (nat_lt MOST_FILE_BYTES (length bytes)) why.TooLarge _ a.1 in
    version_tidied held h token (RecordedDone rid (put_version held rid expect bytes).version) rid bytes (not_false (is_live_file held rid) a.0) (one_short bytes b.0)

make_tidied : (held : Held) → IsTidy held → (token : Token) (parent : Rid) (name : List ℕ) → (make_dir held parent name).refusal ≡ None → Tidied (Decided held token (make_dir held parent name))
make_tidied held h token parent name e =
    let a = none_first (not (is_live_dir held parent)) why.NotThere _ e in let b = none_first (not (is_name name)) why.BadName _ a.1 in
    new_tidied held h token (RecordedDone (next_rid held) no_version) parent name true [] (not_false (is_live_dir held parent) a.0) (not_false (is_name name) b.0) (λ d. refl) (λ d. no_way_back d) tt

move_tidied : (held : Held) → IsTidy held → (token : Token) (rid parent : Rid) (name : List ℕ) → (move_to held rid parent name).refusal ≡ None → Tidied (Decided held token (move_to held rid parent name))
move_tidied held h token rid parent name e =
    let a = none_first ((rid.0 == 1) || not (is_live held rid) || not (is_live_dir held parent)) why.NotThere _ e in let b = none_first (not (is_name name)) why.BadName _ a.1 in
    let c = none_first ((parent.0 == rid.0) || is_under held parent rid) why.Loop _ b.1 in
    placed_tidied held h token (RecordedDone rid (move_to held rid parent name).version) rid parent name
    (not_false (is_live_dir held parent) (or_right_false ((rid.0 == 1) || not (is_live held rid)) (not (is_live_dir held parent)) a.0)) (not_false (is_name name) b.0) (or_left_false (parent.0 == rid.0) (is_under held parent rid) c.0)

remove_tidied : (held : Held) → IsTidy held → (token : Token) (rid : Rid) (expect : Version) → (remove_at held rid expect).refusal ≡ None → Tidied (Decided held token (remove_at held rid expect))
remove_tidied held h token rid expect e =
    let a = none_first ((rid.0 == 1) || not (is_live held rid)) why.NotThere _ e in let b = none_first (is_live_file held rid && not (expect.0 == (latest_at held rid).0)) why.Conflict _ a.1 in
    let c = none_first (list_any (λ s. s.live && (s.parent.0 == rid.0)) held.items) why.NotEmpty _ b.1 in
    dead_tidied held h token (RecordedDone rid (remove_at held rid expect).version) rid (or_left_false (rid.0 == 1) (not (is_live held rid)) a.0) c.0

settle_tidied : (held : Held) (token : Token) (o : Option Recorded) → Tidied held → Tidied (settle held token o).1
settle_tidied held token (Some r) h = h
settle_tidied held token None h = token_tidied held token RecordedVoid h

keep_tidied : (held : Held) (token : Token) (count : ℕ) (o : Option Recorded) → Tidied held → Tidied (keep_last held token count o).1
keep_tidied held token count (Some r) h = h
keep_tidied held token count None h = (
  stays root_rid h.0,
  all_map (IsTidyItem held) (IsTidyItem (keep_last held token count None).1) (trimmed (Some count)) (λ s k. trimmed_item (keep_last held token count None).1 (Some count) s (record { placed = k.placed; versions = k.versions; under = λ low live. stays s.parent (k.under low live) })) held.items h.1,
)
  where
    stays : (at : Rid) → is_live_dir held at ≡ true → is_live_dir (keep_last held token count None).1 at ≡ true
    stays at d = found_mapped (λ q. q.live && q.directory) (trimmed (Some count)) at (trimmed_rid (Some count)) (λ s e f. trimmed_dir (Some count) s f) held.items d

put_tidied : (held : Held) → IsTidy held → (token : Token) (rid : Rid) (expect : Version) (parent : Rid) (name bytes : List ℕ) (new : Bool)
    → Tidied (mutate held token (elim new as (λ _. Mutation) [ true ↦ put_new held parent name bytes | false ↦ put_version held rid expect bytes ]) (recorded_at held.tokens token)).1
put_tidied held h token rid expect parent name bytes true = mutated held token (put_new held parent name bytes) (recorded_at held.tokens token) h (put_new_tidied held h token parent name bytes)
put_tidied held h token rid expect parent name bytes false = mutated held token (put_version held rid expect bytes) (recorded_at held.tokens token) h (put_version_tidied held h token rid expect bytes)

step_tidied : (held : Held) (q : Request) → IsTidy held → Tidied (remote_step held q).1
step_tidied held (request.Feed round after) h = tidied held h
step_tidied held (request.List key rid) h = tidied held h
step_tidied held (request.Fetch key rid version start len) h = tidied held h
step_tidied held (request.Put token rid expect parent name bytes) h = put_tidied held h token rid expect parent name bytes (rid.0 == 0)
step_tidied held (request.MakeDir token parent name) h = mutated held token (make_dir held parent name) (recorded_at held.tokens token) h (make_tidied held h token parent name)
step_tidied held (request.Move token rid parent name) h = mutated held token (move_to held rid parent name) (recorded_at held.tokens token) h (move_tidied held h token rid parent name)
step_tidied held (request.Remove token rid expect) h = mutated held token (remove_at held rid expect) (recorded_at held.tokens token) h (remove_tidied held h token rid expect)
step_tidied held (request.Settle token) h = settle_tidied held token (recorded_at held.tokens token) (tidied held h)
step_tidied held (request.Keep token count) h = keep_tidied held token count (recorded_at held.tokens token) (tidied held h)

pub step_tidy : (held : Held) (q : Request) → IsTidy held → IsTidy (remote_step held q).1
step_tidy held q h = let k : Tidied (remote_step held q).1 = step_tidied held q h in record { counted = step_counts held q h.counted; root = k.0; items = k.1; reached = step_reached held q h }

-- the laws

pub run_tidy : (m : Mode) (remote : Held) (clusters : ℕ) (trace : List (Event × Answer)) (s : State) → Runs m (start m remote clusters) trace s → IsTidy remote → IsTidy s.link.remote
run_tidy m remote clusters trace s runs h = runs_keep_remote IsTidy step_tidy m (start m remote clusters) trace s runs h

pub empty_tidy : IsTidy empty_remote
empty_tidy = record { counted = (refl, tt); root = refl; reached = ((λ live. (0, none, refl)), tt); items = (record { placed = λ low. absurd (low refl); versions = record { none = λ d. refl; some = λ d. no_way_back d; short = tt }; under = λ low live. absurd (low refl) }, tt) } where
  none : 0 ≤ MOST_PATH_NAMES
  none = omega arith
