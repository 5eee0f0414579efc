-- A request leaves each live item with a path of few names.
use Rattle.std.proofs.Common.{◌≡◌, ◌<◌, ◌≤◌, ◌+◌, ◌-◌, ℕ, zero, suc, Bool, true, false, List, [], ◌∷◌, ◌++◌, refl, sym, ◌∙◌, ap, subst, arith, length, map, eq-eqb}
use Rattle.std.specs.Prelude.{Option, Some, None, cond, filter, not, max, nat_le, nat_lt, ◌&&◌, ◌||◌, ◌==◌}
use Rattle.std.specs.List.{list_any}
use Rattle.std.proofs.lemmas.Bool.{eqb-true}
use Rattle.std.proofs.lemmas.Bool.Decides.{nat_tests}
use Rattle.cf_base.specs.declared.ids.Rid.{Rid}
use Rattle.cf_base.specs.declared.ids.Token.{Token}
use Rattle.cf_base.specs.declared.ids.Version.{Version}
use Rattle.cf_base.specs.declared.limits.TheConstants.{MOST_FILE_BYTES, MOST_PATH_NAMES}
use Rattle.cf_base.specs.declared.messages.Request.{Request}
use Rattle.cf_base.specs.declared.messages.Request.TheVariants as request
use Rattle.cf_base.specs.declared.messages.Why.{Why}
use Rattle.cf_base.specs.declared.messages.Why.TheVariants as why
use Rattle.cf_model.specs.Growth.{CountsFrom}
use Rattle.cf_model.specs.Numbers.{root_rid}
use Rattle.cf_model.specs.Store.{Held, Mutation, Recorded, Stored, ancestors, decide, depth_of, height_of, is_live, is_live_dir, is_under, keep_last, latest, make_dir, move_to, mutate, next_rid, put_new, put_version, recorded_at, remote_step, remove_at, settle, stored_at, trimmed, with_dead, with_new, with_place, with_version}
use Rattle.cf_model.specs.Texts.{is_name}
use Rattle.cf_model.specs.Words.{greatest, says}
use Rattle.cf_model_laws.specs.Invariant.{All}
use Rattle.cf_model_laws.proofs.FeedsGuarded.{or_right_false}
use Rattle.cf_model_laws.proofs.Gathered.{all_append, all_both, all_found, all_map, all_weaker}
use Rattle.cf_model_laws.proofs.RightItems.{no_way, no_way_back}
use Rattle.cf_model_laws.proofs.SoundSettles.{left_true, not_false}
use Rattle.cf_model_convergence.specs.Tidy.{IsReached, IsTidy, Reaches}
use Rattle.cf_model_convergence.proofs.Lines.{few, less, line_length, line_on, no_line, no_more, one_distance, reaches_at, unlike}
use Rattle.cf_model_convergence.proofs.TidyItems.{below_next, found_rid, none_first, or_left_false, said}

abbrev AreReached : List Stored → Type 0
AreReached items = All (IsReached items) items

-- more items, or items that are changed but for their rids and parents

stored_more : (ss more : List Stored) (rid : Rid) (s : Stored) → stored_at ss rid ≡ Some s → stored_at (ss ++ more) rid ≡ Some s
stored_more [] more rid s e = absurd (w e) where
  w : None ≡ Some s → ⊥
  w z = cc
stored_more (t ∷ ss) more rid s e = by (t.rid.0 == rid.0) e (stored_more ss more rid s) where
  by : (b : Bool) → cond b (Some t) (stored_at ss rid) ≡ Some s → (stored_at ss rid ≡ Some s → stored_at (ss ++ more) rid ≡ Some s) → cond b (Some t) (stored_at (ss ++ more) rid) ≡ Some s
  by true e k = e
  by false e k = k e

reaches_more : (ss more : List Stored) (n : ℕ) (rid : Rid) → Reaches ss n rid → Reaches (ss ++ more) n rid
reaches_more ss more zero rid h = h
reaches_more ss more (suc n) rid h = (h.0, h.1, stored_more ss more rid h.1 h.2, reaches_more ss more n h.1.parent h.3)

stored_mapped : (g : Stored → Stored) → ((s : Stored) → (g s).rid.0 ≡ s.rid.0) → (ss : List Stored) (rid : Rid) (s : Stored) → stored_at ss rid ≡ Some s → stored_at (map g ss) rid ≡ Some (g s)
stored_mapped g same [] rid s e = absurd (w e) where
  w : None ≡ Some s → ⊥
  w z = cc
stored_mapped g same (t ∷ ss) rid s e = subst (λ (n : ℕ). cond (n == rid.0) (Some (g t)) (stored_at (map g ss) rid) ≡ Some (g s)) (sym (same t)) (by (t.rid.0 == rid.0) e (stored_mapped g same ss rid s)) where
  by : (b : Bool) → cond b (Some t) (stored_at ss rid) ≡ Some s → (stored_at ss rid ≡ Some s → stored_at (map g ss) rid ≡ Some (g s)) → cond b (Some (g t)) (stored_at (map g ss) rid) ≡ Some (g s)
  by true e k = let z : t ≡ s = one e in ap (λ (x : Stored). Some (g x)) z where
    one : Some t ≡ Some s → t ≡ s
    one z = cc
  by false e k = k e

-- what keeps rids and parents, and revives none
record Stays (g : Stored → Stored) : Type 0 where
  rids : (s : Stored) → (g s).rid.0 ≡ s.rid.0
  parents : (s : Stored) → (g s).parent ≡ s.parent
  lives : (s : Stored) → (g s).live ≡ true → s.live ≡ true

reaches_mapped : (g : Stored → Stored) → Stays g → (ss : List Stored) (n : ℕ) (rid : Rid) → Reaches ss n rid → Reaches (map g ss) n rid
reaches_mapped g k ss zero rid h = h
reaches_mapped g k ss (suc n) rid h = (h.0, g h.1, stored_mapped g k.rids ss rid h.1 h.2, subst (λ (r : Rid). Reaches (map g ss) n r) (sym (k.parents h.1)) (reaches_mapped g k ss n h.1.parent h.3))

mapped_reached : (g : Stored → Stored) → Stays g → (ss : List Stored) → AreReached ss → AreReached (map g ss)
mapped_reached g k ss h = all_map (IsReached ss) (IsReached (map g ss)) g (λ s r live. let x = r (k.lives s live) in (x.0, x.1, reaches_at (map g ss) x.0 s.rid (g s).rid (sym (k.rids s)) (reaches_mapped g k ss x.0 s.rid x.2))) ss h

-- one of them alone
one_stays : (f : Stored → Stored) → Stays f → (at : Rid) → Stays (λ s. cond (s.rid.0 == at.0) (f s) s)
one_stays f k at = record { rids = λ s. same s (s.rid.0 == at.0); parents = λ s. up s (s.rid.0 == at.0); lives = λ s. live s (s.rid.0 == at.0) } where
  same : (s : Stored) (b : Bool) → (cond b (f s) s).rid.0 ≡ s.rid.0
  same s true = k.rids s
  same s false = refl

  up : (s : Stored) (b : Bool) → (cond b (f s) s).parent ≡ s.parent
  up s true = k.parents s
  up s false = refl

  live : (s : Stored) (b : Bool) → (cond b (f s) s).live ≡ true → s.live ≡ true
  live s true e = k.lives s e
  live s false e = e

trim_stays : (keep : Option ℕ) → Stays (trimmed keep)
trim_stays None = record { rids = λ s. refl; parents = λ s. refl; lives = λ s e. e }
trim_stays (Some n) = record { rids = λ s. same s s.directory; parents = λ s. up s s.directory; lives = λ s. live s s.directory } where
  same : (s : Stored) (b : Bool) → (cond b s (record s { least = max s.least (latest s + 1 - n) })).rid.0 ≡ s.rid.0
  same s true = refl
  same s false = refl

  up : (s : Stored) (b : Bool) → (cond b s (record s { least = max s.least (latest s + 1 - n) })).parent ≡ s.parent
  up s true = refl
  up s false = refl

  live : (s : Stored) (b : Bool) → (cond b s (record s { least = max s.least (latest s + 1 - n) })).live ≡ true → s.live ≡ true
  live s true e = e
  live s false e = e

-- distances and depths

module _ (held : Held) (h : IsTidy held) where
  -- the distance of a live item
  distance : (f : Stored → Bool) (rid : Rid) → ((s : Stored) → f s ≡ true → s.live ≡ true) → says f (stored_at held.items rid) ≡ true → (n : ℕ) × (n ≤ MOST_PATH_NAMES) × Reaches held.items n rid
  distance f rid live is =
      let x = said f (stored_at held.items rid) is in
      let r = (all_found (IsReached held.items) (λ s. s.rid.0 == rid.0) held.items x.0 x.1 h.reached).0 (live x.0 x.2) in (r.0, r.1, reaches_at held.items r.0 x.0.rid rid (found_rid held.items rid x.0 x.1) r.2)

  -- it is the depth
  depth : (n : ℕ) (rid : Rid) → Reaches held.items n rid → depth_of held rid ≡ n
  depth n rid r = line_length held.items n (length held.items) rid r (few held.items n rid h.counted r)

  of_dir : (rid : Rid) → is_live_dir held rid ≡ true → (n : ℕ) × (n ≤ MOST_PATH_NAMES) × Reaches held.items n rid
  of_dir rid is = distance (λ s. s.live && s.directory) rid (λ s e. left_true s.live s.directory e) is

  -- a new item

  new_reached : (parent : Rid) (name : List ℕ) (directory : Bool) (versions : List (List ℕ)) → is_live_dir held parent ≡ true → nat_le MOST_PATH_NAMES (depth_of held parent) ≡ false → AreReached (with_new held parent name directory versions)
  new_reached parent name directory versions up shallow =
      all_append (IsReached (with_new held parent name directory versions)) held.items (made ∷ []) (all_weaker (IsReached held.items) (IsReached (with_new held parent name directory versions)) (λ s r live. let x = r live in (x.0, x.1, reaches_more held.items (made ∷ []) x.0 s.rid x.2)) held.items h.reached)
      (λ live. (suc above.0, room above.0 (subst (λ (n : ℕ). nat_le MOST_PATH_NAMES n ≡ false) (depth above.0 parent above.2) shallow), (low, made, last 1 held.items made h.counted (next (length held.items)), reaches_more held.items (made ∷ []) above.0 parent above.2)), tt)
    where
      made : Stored
      made = record { rid = next_rid held; parent = parent; name = name; directory = directory; live = true; versions = versions; least = 1; changed = held.clock + 1 }

      above : (n : ℕ) × (n ≤ MOST_PATH_NAMES) × Reaches held.items n parent
      above = of_dir parent up

      room : (n : ℕ) → nat_le MOST_PATH_NAMES n ≡ false → suc n ≤ MOST_PATH_NAMES
      room n e = grind (arith, nat_tests, e)

      next : (n : ℕ) → n + 1 ≡ 1 + n
      next n = omega arith

      first : (n : ℕ) → 1 < 1 + n → n + 1 ≡ 1 → ⊥
      first n b e = omega (arith, b, e)

      low : ((next_rid held).0 ≡ 1) → ⊥
      low e = let x = said (λ s. s.live && s.directory) (stored_at held.items root_rid) h.root in first (length held.items) (below_next 1 held.items root_rid x.0 h.counted x.1).1 e

      last : (n : ℕ) (ss : List Stored) (x : Stored) → CountsFrom n ss → x.rid.0 ≡ n + length ss → stored_at (ss ++ x ∷ []) x.rid ≡ Some x
      last n [] x c e = rw (eq-eqb x.rid.0 x.rid.0 refl) refl
      last n (s ∷ ss) x c e = rw (unlike s.rid.0 x.rid.0 (λ z. before s.rid.0 x.rid.0 n (length ss) c.0 e z)) (last (n + 1) ss x c.1 (more x.rid.0 n (length ss) e)) where
        before : (a b n k : ℕ) → a ≡ n → b ≡ n + suc k → a ≡ b → ⊥
        before a b n k d e z = omega (arith, d, e, z)

        more : (b n k : ℕ) → b ≡ n + suc k → b ≡ n + 1 + k
        more b n k e = omega (arith, e)

  -- an item that moves, with all below it

  module _ (rid parent : Rid) (name : List ℕ) where
    abbrev moved : Stored → Stored
    moved s = cond (s.rid.0 == rid.0) (record s { parent = parent; name = name; changed = held.clock + 1 }) s

    abbrev After : List Stored
    After = with_place held rid parent name

    moved_rid : (s : Stored) → (moved s).rid.0 ≡ s.rid.0
    moved_rid s = by (s.rid.0 == rid.0) where
      by : (b : Bool) → (cond b (record s { parent = parent; name = name; changed = held.clock + 1 }) s).rid.0 ≡ s.rid.0
      by true = refl
      by false = refl

    stays_there : (x : Rid) (s : Stored) → stored_at held.items x ≡ Some s → (s.rid.0 == rid.0) ≡ false → stored_at After x ≡ Some s
    stays_there x s found e = stored_mapped moved moved_rid held.items x s found ∙ ap (λ (t : Stored). Some t) (by (s.rid.0 == rid.0) e) where
      by : (b : Bool) → b ≡ false → cond b (record s { parent = parent; name = name; changed = held.clock + 1 }) s ≡ s
      by true z = no_way_back z
      by false z = refl

    abbrev is_it : ℕ → Bool
    is_it r = r == rid.0

    -- a line that does not lead through it
    away : (n fuel : ℕ) (x : Rid) → Reaches held.items n x → n ≤ fuel → list_any is_it (ancestors fuel held.items (stored_at held.items x)) ≡ false → Reaches After n x
    away zero fuel x r k e = r
    away (suc n) zero x r k e = no_more n k
    away (suc n) (suc fuel) x r k e =
        let line : list_any is_it (r.1.rid.0 ∷ ancestors fuel held.items (stored_at held.items r.1.parent)) ≡ false = subst (λ (l : List ℕ). list_any is_it l ≡ false) (line_on fuel held.items x r.1 r.0 r.2) e in (
          r.0,
          r.1,
          stays_there x r.1 r.2 (or_left_false (is_it r.1.rid.0) (list_any is_it (ancestors fuel held.items (stored_at held.items r.1.parent))) line),
          away n fuel r.1.parent r.3 (less n fuel k) (or_right_false (is_it r.1.rid.0) (list_any is_it (ancestors fuel held.items (stored_at held.items r.1.parent))) line),
        )

    -- one that does: so far up to it, and then on as it goes on
    abbrev Through : ℕ → ℕ → Rid → Type 0
    Through k n x = (j : ℕ) × (n ≡ j + k) × ((m : ℕ) → Reaches After m rid → Reaches After (j + m) x)

    none_up : (n : ℕ) → n ≡ 0 + n
    none_up n = omega arith

    one_up : (j n : ℕ) → suc (j + n) ≡ suc j + n
    one_up j n = omega arith

    up_on : (j n k : ℕ) → n ≡ j + k → suc n ≡ suc j + k
    up_on j n k e = omega (arith, e)

    through : (k : ℕ) → Reaches held.items k rid → (n fuel : ℕ) (x : Rid) → Reaches held.items n x → n ≤ fuel → list_any is_it (ancestors fuel held.items (stored_at held.items x)) ≡ true → Through k n x
    through k at zero fuel x r b e = no_way (sym (ap (λ (l : List ℕ). list_any is_it l) (no_line fuel held.items x r)) ∙ e)
    through k at (suc n) zero x r b e = no_more n b
    through k at (suc n) (suc fuel) x r b e = by (r.1.rid.0 == rid.0) refl line (through k at n fuel r.1.parent r.3 (less n fuel b)) where
      line : (is_it r.1.rid.0 || list_any is_it (ancestors fuel held.items (stored_at held.items r.1.parent))) ≡ true
      line = subst (λ (l : List ℕ). list_any is_it l ≡ true) (line_on fuel held.items x r.1 r.0 r.2) e

      by : (c : Bool) → (r.1.rid.0 == rid.0) ≡ c → (c || list_any is_it (ancestors fuel held.items (stored_at held.items r.1.parent))) ≡ true
          → (list_any is_it (ancestors fuel held.items (stored_at held.items r.1.parent)) ≡ true → Through k n r.1.parent) → Through k (suc n) x
      by true q l rest =
          let same : x.0 ≡ rid.0 = sym (found_rid held.items x r.1 r.2) ∙ eqb-true r.1.rid.0 rid.0 q in
          (0, one_distance held.items (suc n) k rid (reaches_at held.items (suc n) x rid same r) at ∙ none_up k, λ m t. subst (λ (d : ℕ). Reaches After d x) (none_up m) (reaches_at After m rid x (sym same) t))
      by false q l rest =
          let y : Through k n r.1.parent = rest l in
          (suc y.0, up_on y.0 n k y.1, λ m t. subst (λ (d : ℕ). Reaches After d x) (one_up y.0 m) (r.0, r.1, stays_there x r.1 r.2 q, y.2 m t))

    -- the greatest depth of those that pass is no less than each
    at_most : (f : Stored → ℕ) (q : Stored → Bool) (ss : List Stored) → All (λ s. q s ≡ true → f s ≤ greatest (map f (filter q ss))) ss
    at_most f q [] = tt
    at_most f q (s ∷ ss) = (one (q s), all_weaker (λ t. q t ≡ true → f t ≤ greatest (map f (filter q ss))) (λ t. q t ≡ true → f t ≤ greatest (map f (cond (q s) (s ∷ filter q ss) (filter q ss)))) (λ t k e. two t (q s) (k e)) ss (at_most f q ss)) where
      left : (a b : ℕ) → a ≤ max a b
      left a b = omega arith

      right : (a b c : ℕ) → c ≤ b → c ≤ max a b
      right a b c k = omega (arith, k)

      one : (b : Bool) → b ≡ true → f s ≤ greatest (map f (cond b (s ∷ filter q ss) (filter q ss)))
      one true e = left (f s) (greatest (map f (filter q ss)))
      one false e = no_way e

      two : (t : Stored) (b : Bool) → f t ≤ greatest (map f (filter q ss)) → f t ≤ greatest (map f (cond b (s ∷ filter q ss) (filter q ss)))
      two t true k = right (f s) (greatest (map f (filter q ss))) (f t) k
      two t false k = k

    abbrev is_moved : Stored → Bool
    is_moved s = s.live && is_under held s.rid rid

    fits : (p j k n high : ℕ) → n ≡ j + k → n ≤ high → nat_lt MOST_PATH_NAMES (p + 1 + (high - k)) ≡ false → j + suc p ≤ MOST_PATH_NAMES
    fits p j k n high e f g = grind (arith, nat_tests, e, f, g)

    placed_reached : is_live_dir held parent ≡ true → is_live held rid ≡ true → (rid.0 == 1) ≡ false → is_under held parent rid ≡ false → nat_lt MOST_PATH_NAMES (depth_of held parent + 1 + height_of held rid) ≡ false → AreReached After
    placed_reached up live low loop shallow = all_map (λ s. IsReached held.items s × (is_moved s ≡ true → depth_of held s.rid ≤ high)) (IsReached After) moved (λ s k. each s k.0 k.1) held.items
        (all_both (IsReached held.items) (λ s. is_moved s ≡ true → depth_of held s.rid ≤ high) (λ s. IsReached held.items s × (is_moved s ≡ true → depth_of held s.rid ≤ high)) (λ s a b. (a, b)) held.items h.reached (at_most (λ s. depth_of held s.rid) is_moved held.items)) where
          high : ℕ
          high = greatest (map (λ s. depth_of held s.rid) (filter is_moved held.items))

          over : (n : ℕ) × (n ≤ MOST_PATH_NAMES) × Reaches held.items n parent
          over = of_dir parent up

          own : (n : ℕ) × (n ≤ MOST_PATH_NAMES) × Reaches held.items n rid
          own = distance (λ s. s.live) rid (λ s e. e) live

          it : (s : Stored) × (stored_at held.items rid ≡ Some s) × (s.live ≡ true)
          it = said (λ s. s.live) (stored_at held.items rid) live

          there : Reaches After (suc over.0) rid
          there = (λ z. no_way (sym low ∙ eq-eqb rid.0 1 z), moved it.0, stored_mapped moved moved_rid held.items rid it.0 it.1, subst (λ (r : Rid). Reaches After over.0 r) (sym (parent_now (it.0.rid.0 == rid.0) (eq-eqb it.0.rid.0 rid.0 (found_rid held.items rid it.0 it.1)))) (away over.0 (length held.items) parent over.2 (few held.items over.0 parent h.counted over.2) loop)) where
            parent_now : (b : Bool) → b ≡ true → (cond b (record it.0 { parent = parent; name = name; changed = held.clock + 1 }) it.0).parent ≡ parent
            parent_now true e = refl
            parent_now false e = no_way e

          was_live : (s : Stored) (b : Bool) → (cond b (record s { parent = parent; name = name; changed = held.clock + 1 }) s).live ≡ true → s.live ≡ true
          was_live s true e = e
          was_live s false e = e

          within : (s : Stored) → s.live ≡ true → IsReached held.items s → (is_moved s ≡ true → depth_of held s.rid ≤ high) → (b : Bool) → is_under held s.rid rid ≡ b → (n : ℕ) × (n ≤ MOST_PATH_NAMES) × Reaches After n s.rid
          within s alive r most false e = let x = r alive in (x.0, x.1, away x.0 (length held.items) s.rid x.2 (few held.items x.0 s.rid h.counted x.2) e)
          within s alive r most true e =
              let x = r alive in
              let t : Through own.0 x.0 s.rid = through own.0 own.2 x.0 (length held.items) s.rid x.2 (few held.items x.0 s.rid h.counted x.2) e in (
                t.0 + suc over.0,
                fits over.0 t.0 own.0 x.0 high t.1 (subst (λ (n : ℕ). n ≤ high) (depth x.0 s.rid x.2) (most (passes s.live (is_under held s.rid rid) alive e)))
                    (subst (λ (n : ℕ). nat_lt MOST_PATH_NAMES (over.0 + 1 + (high - n)) ≡ false) (depth own.0 rid own.2) (subst (λ (n : ℕ). nat_lt MOST_PATH_NAMES (n + 1 + height_of held rid) ≡ false) (depth over.0 parent over.2) shallow)),
                t.2 (suc over.0) there,
              )
            where
              passes : (a b : Bool) → a ≡ true → b ≡ true → (a && b) ≡ true
              passes true b d e = e
              passes false b d e = no_way d

          each : (s : Stored) → IsReached held.items s → (is_moved s ≡ true → depth_of held s.rid ≤ high) → IsReached After (moved s)
          each s r most live = let alive : s.live ≡ true = was_live s (s.rid.0 == rid.0) live in let x = within s alive r most (is_under held s.rid rid) refl in (x.0, x.1, reaches_at After x.0 s.rid (moved s).rid (sym (moved_rid s)) x.2)

-- all requests

decided : (held : Held) (token : Token) (m : Mutation) (w : Option Why) → IsTidy held → (w ≡ None → AreReached m.items) → AreReached (decide held token m w).1.items
decided held token m (Some w) h done = h.reached
decided held token m None h done = done refl

mutated : (held : Held) (token : Token) (m : Mutation) (o : Option Recorded) → IsTidy held → (m.refusal ≡ None → AreReached m.items) → AreReached (mutate held token m o).1.items
mutated held token m (Some r) h done = h.reached
mutated held token m None h done = decided held token m m.refusal h done

put_new_reached : (held : Held) → IsTidy held → (parent : Rid) (name bytes : List ℕ) → (put_new held parent name bytes).refusal ≡ None → AreReached (put_new held parent name bytes).items
put_new_reached held h parent name bytes e =
    let a = none_first (not (is_live_dir held parent)) why.NotThere _ e in let b = none_first (not (is_name name)) why.BadName _ a.1 in let c = none_first (nat_lt MOST_FILE_BYTES (length bytes)) why.TooLarge _ b.1 in
    let d = none_first (nat_le MOST_PATH_NAMES (depth_of held parent)) why.TooDeep _ c.1 in
    new_reached held h parent name false (bytes ∷ []) (not_false (is_live_dir held parent) a.0) d.0

put_version_reached : (held : Held) → IsTidy held → (rid : Rid) (bytes : List ℕ) → AreReached (with_version held rid bytes)
put_version_reached held h rid bytes =
    mapped_reached (λ s. cond (s.rid.0 == rid.0) (trimmed held.keep (record s { versions = s.versions ++ bytes ∷ []; changed = held.clock + 1 })) s)
    (one_stays (λ s. trimmed held.keep (record s { versions = s.versions ++ bytes ∷ []; changed = held.clock + 1 })) (record {
      rids = λ s. (trim_stays held.keep).rids (record s { versions = s.versions ++ bytes ∷ []; changed = held.clock + 1 });
      parents = λ s. (trim_stays held.keep).parents (record s { versions = s.versions ++ bytes ∷ []; changed = held.clock + 1 });
      lives = λ s e. (trim_stays held.keep).lives (record s { versions = s.versions ++ bytes ∷ []; changed = held.clock + 1 }) e;
    }) rid) held.items h.reached

make_reached : (held : Held) → IsTidy held → (parent : Rid) (name : List ℕ) → (make_dir held parent name).refusal ≡ None → AreReached (make_dir held parent name).items
make_reached held h parent name e =
    let a = none_first (not (is_live_dir held parent)) why.NotThere _ e in let b = none_first (not (is_name name)) why.BadName _ a.1 in let c = none_first (nat_le MOST_PATH_NAMES (depth_of held parent)) why.TooDeep _ b.1 in
    new_reached held h parent name true [] (not_false (is_live_dir held parent) a.0) c.0

move_reached : (held : Held) → IsTidy held → (rid parent : Rid) (name : List ℕ) → (move_to held rid parent name).refusal ≡ None → AreReached (move_to held rid parent name).items
move_reached held h rid parent name e =
    let a = none_first ((rid.0 == 1) || not (is_live held rid) || not (is_live_dir held parent)) why.NotThere _ e in let b = none_first (not (is_name name)) why.BadName _ a.1 in
    let c = none_first ((parent.0 == rid.0) || is_under held parent rid) why.Loop _ b.1 in let d = none_first (nat_lt MOST_PATH_NAMES (depth_of held parent + 1 + height_of held rid)) why.TooDeep _ c.1 in
    let front : ((rid.0 == 1) || not (is_live held rid)) ≡ false = or_left_false ((rid.0 == 1) || not (is_live held rid)) (not (is_live_dir held parent)) a.0 in
    placed_reached held h rid parent name (not_false (is_live_dir held parent) (or_right_false ((rid.0 == 1) || not (is_live held rid)) (not (is_live_dir held parent)) a.0))
    (not_false (is_live held rid) (or_right_false (rid.0 == 1) (not (is_live held rid)) front)) (or_left_false (rid.0 == 1) (not (is_live held rid)) front) (or_right_false (parent.0 == rid.0) (is_under held parent rid) c.0) d.0

remove_reached : (held : Held) → IsTidy held → (rid : Rid) → AreReached (with_dead held rid)
remove_reached held h rid =
    mapped_reached (λ s. cond (s.rid.0 == rid.0) (record s { live = false; changed = held.clock + 1 }) s)
    (one_stays (λ s. record s { live = false; changed = held.clock + 1 }) (record { rids = λ s. refl; parents = λ s. refl; lives = λ s e. no_way e }) rid) held.items h.reached

settle_reached : (held : Held) (token : Token) (o : Option Recorded) → IsTidy held → AreReached (settle held token o).1.items
settle_reached held token (Some r) h = h.reached
settle_reached held token None h = h.reached

keep_reached : (held : Held) (token : Token) (count : ℕ) (o : Option Recorded) → IsTidy held → AreReached (keep_last held token count o).1.items
keep_reached held token count (Some r) h = h.reached
keep_reached held token count None h = mapped_reached (trimmed (Some count)) (trim_stays (Some count)) held.items h.reached

put_reached : (held : Held) → IsTidy held → (token : Token) (rid : Rid) (expect : Version) (parent : Rid) (name bytes : List ℕ) (new : Bool)
    → AreReached (mutate held token (elim new as (λ _. Mutation) [ true ↦ put_new held parent name bytes | false ↦ put_version held rid expect bytes ]) (recorded_at held.tokens token)).1.items
put_reached held h token rid expect parent name bytes true = mutated held token (put_new held parent name bytes) (recorded_at held.tokens token) h (put_new_reached held h parent name bytes)
put_reached held h token rid expect parent name bytes false = mutated held token (put_version held rid expect bytes) (recorded_at held.tokens token) h (λ e. put_version_reached held h rid bytes)

pub step_reached : (held : Held) (q : Request) → IsTidy held → AreReached (remote_step held q).1.items
step_reached held (request.Feed round after) h = h.reached
step_reached held (request.List key rid) h = h.reached
step_reached held (request.Fetch key rid version start len) h = h.reached
step_reached held (request.Put token rid expect parent name bytes) h = put_reached held h token rid expect parent name bytes (rid.0 == 0)
step_reached held (request.MakeDir token parent name) h = mutated held token (make_dir held parent name) (recorded_at held.tokens token) h (make_reached held h parent name)
step_reached held (request.Move token rid parent name) h = mutated held token (move_to held rid parent name) (recorded_at held.tokens token) h (move_reached held h rid parent name)
step_reached held (request.Remove token rid expect) h = mutated held token (remove_at held rid expect) (recorded_at held.tokens token) h (λ e. remove_reached held h rid)
step_reached held (request.Settle token) h = settle_reached held token (recorded_at held.tokens token) h
step_reached held (request.Keep token count) h = keep_reached held token count (recorded_at held.tokens token) h
