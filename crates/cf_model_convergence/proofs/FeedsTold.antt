-- A feed of a tidy remote reports what was changed, once, and as it is.
use Rattle.std.proofs.Common.{◌≡◌, ◌<◌, ◌≤◌, ◌+◌, ℕ, zero, suc, Bool, true, false, List, [], ◌∷◌, ◌++◌, refl, sym, ◌∙◌, ap, subst, inl, inr, arith, length, map, eq-eqb}
use Rattle.std.specs.Prelude.{Some, cond, filter, not, nat_le, nat_lt, ◌&&◌, ◌||◌, ◌==◌}
use Rattle.std.specs.List.{flat_map, list_all}
use Rattle.std.proofs.lemmas.Bool.{eqb-true}
use Rattle.std.proofs.lemmas.Bool.Decides.{nat_tests}
use Rattle.cf_base.specs.declared.limits.TheConstants.{MOST_FILE_BYTES, MOST_PATH_NAMES}
use Rattle.cf_model.specs.Fits.{Known, are_distinct, are_entries, has_rid, is_entry, is_of_kind, same_flag}
use Rattle.cf_model.specs.Growth.{CountsFrom}
use Rattle.cf_model.specs.Store.{Held, Stored, depth_of, entry_told, feed_of, latest, len_of, stored_at}
use Rattle.cf_model.specs.Texts.{is_name}
use Rattle.cf_model.specs.Words.{counting, last_of}
use Rattle.cf_model_laws.specs.Invariant.{All, Among}
use Rattle.cf_model_laws.proofs.FoundItems.{both}
use Rattle.cf_model_laws.proofs.Gathered.{all_append, all_both, all_filter, all_flat, all_map, all_passed, all_weaker}
use Rattle.cf_model_laws.proofs.RightItems.{no_way, no_way_back}
use Rattle.cf_model_laws.proofs.SoundSettles.{left_true, not_true, right_true}
use Rattle.cf_model_convergence.specs.Feeds.{AreKindsOf, TellsAll, TellsNow}
use Rattle.cf_model_convergence.specs.Tidy.{HasVersions, IsLower, IsPlacedAt, IsReached, IsTidy, IsTidyItem, Reaches}
use Rattle.cf_model_convergence.proofs.Lines.{few, line_length, one_some, unlike}
use Rattle.cf_model_convergence.proofs.TidyItems.{below_next, each_found}

-- members

pub among_left : {A : Type 0} (x : A) (xs ys : List A) → Among x xs → Among x (xs ++ ys)
among_left x [] ys h = absurd h
among_left x (y ∷ xs) ys (inl e) = inl e
among_left x (y ∷ xs) ys (inr h) = inr (among_left x xs ys h)

pub among_right : {A : Type 0} (x : A) (xs ys : List A) → Among x ys → Among x (xs ++ ys)
among_right x [] ys h = h
among_right x (y ∷ xs) ys h = inr (among_right x xs ys h)

pub all_among : {A : Type 0} (P : A → Type 0) (xs : List A) (x : A) → Among x xs → All P xs → P x
all_among P [] x a h = absurd a
all_among P (y ∷ ys) x (inl e) h = subst P e h.0
all_among P (y ∷ ys) x (inr a) h = all_among P ys x a h.1

pub among_map : {A B : Type 0} (f : A → B) (x : A) (xs : List A) → Among x xs → Among (f x) (map f xs)
among_map f x [] h = absurd h
among_map f x (y ∷ xs) (inl e) = inl (ap f e)
among_map f x (y ∷ xs) (inr h) = inr (among_map f x xs h)

pub among_filter : {A : Type 0} (f : A → Bool) (x : A) (xs : List A) → f x ≡ true → Among x xs → Among x (filter f xs)
among_filter f x [] e h = absurd h
among_filter f x (y ∷ xs) e (inl d) = by (f y) (subst (λ (z : _). f z ≡ true) (sym d) e) where
  by : (b : Bool) → b ≡ true → Among x (cond b (y ∷ filter f xs) (filter f xs))
  by true k = inl d
  by false k = no_way k
among_filter f x (y ∷ xs) e (inr h) = by (f y) (among_filter f x xs e h) where
  by : (b : Bool) → Among x (filter f xs) → Among x (cond b (y ∷ filter f xs) (filter f xs))
  by true k = inr k
  by false k = k

among_flat : {A : Type 0} (f : ℕ → List A) (x : A) (d : ℕ) (n low : ℕ) → low ≤ d → d < low + n → Among x (f d) → Among x (flat_map f (counting low n))
among_flat f x d zero low h k m = absurd (none d low h k) where
  none : (d low : ℕ) → low ≤ d → d < low + zero → ⊥
  none d low h k = omega (arith, h, k)
among_flat f x d (suc n) low h k m = by (low == d) refl (among_flat f x d n (low + 1)) where
  by : (b : Bool) → (low == d) ≡ b → (low + 1 ≤ d → d < low + 1 + n → Among x (f d) → Among x (flat_map f (counting (low + 1) n))) → Among x (f low ++ flat_map f (counting (low + 1) n))
  by true e rest = among_left x (f low) (flat_map f (counting (low + 1) n)) (subst (λ (c : ℕ). Among x (f c)) (sym (eqb-true low d e)) m)
  by false e rest = among_right x (f low) (flat_map f (counting (low + 1) n)) (rest (above low d h (λ z. no_way (sym e ∙ eq-eqb low d z))) (still d low n k) m) where
    above : (a b : ℕ) → a ≤ b → ((a ≡ b) → ⊥) → a + 1 ≤ b
    above a b h k = omega (arith, h, k)

    still : (d low n : ℕ) → d < low + suc n → d < low + 1 + n
    still d low n k = omega (arith, k)

each_among : {A : Type 0} (xs : List A) → All (λ x. Among x xs) xs
each_among [] = tt
each_among (x ∷ xs) = (inl refl, all_weaker (λ y. Among y xs) (λ y. Among y (x ∷ xs)) (λ y h. inr h) xs (each_among xs))

-- items apart

abbrev Apart : List Stored → Type 0
Apart [] = Unit {0}
Apart (s ∷ ss) = All (λ t. (s.rid.0 ≡ t.rid.0) → ⊥) ss × Apart ss

apart_filter : (f : Stored → Bool) (ss : List Stored) → Apart ss → Apart (filter f ss)
apart_filter f [] h = tt
apart_filter f (s ∷ ss) h = by (f s) (apart_filter f ss h.1) where
  by : (b : Bool) → Apart (filter f ss) → Apart (cond b (s ∷ filter f ss) (filter f ss))
  by true k = (all_filter (λ t. (s.rid.0 ≡ t.rid.0) → ⊥) f ss h.0, k)
  by false k = k

apart_append : (ss ts : List Stored) → Apart ss → Apart ts → All (λ s. All (λ t. (s.rid.0 ≡ t.rid.0) → ⊥) ts) ss → Apart (ss ++ ts)
apart_append [] ts h k c = k
apart_append (s ∷ ss) ts h k c = (all_append (λ t. (s.rid.0 ≡ t.rid.0) → ⊥) ss ts h.0 c.0, apart_append ss ts h.1 k c.1)

apart_counted : (n : ℕ) (ss : List Stored) → CountsFrom n ss → Apart ss
apart_counted n [] c = tt
apart_counted n (s ∷ ss) c = (all_weaker (λ t. stored_at ss t.rid ≡ Some t) (λ t. (s.rid.0 ≡ t.rid.0) → ⊥) (λ t e z. later s.rid.0 t.rid.0 n c.0 (below_next (n + 1) ss t.rid t c.1 e).0 z) ss (each_found (n + 1) ss c.1), apart_counted (n + 1) ss c.1) where
  later : (a b n : ℕ) → a ≡ n → n + 1 ≤ b → a ≡ b → ⊥
  later a b n d h e = omega (arith, d, h, e)

-- all against all, by what each has
crossed : (P Q : Stored → Type 0) → ((s t : Stored) → P s → Q t → s.rid.0 ≡ t.rid.0 → ⊥) → (ss ts : List Stored) → All P ss → All Q ts → All (λ s. All (λ t. (s.rid.0 ≡ t.rid.0) → ⊥) ts) ss
crossed P Q k ss ts h g = all_weaker P (λ s. All (λ t. (s.rid.0 ≡ t.rid.0) → ⊥) ts) (λ s p. all_weaker Q (λ t. (s.rid.0 ≡ t.rid.0) → ⊥) (λ t q. k s t p q) ts g) ss h

are_apart : (ss : List Stored) → Apart ss → are_distinct (map entry_told ss) ≡ true
are_apart [] h = refl
are_apart (s ∷ ss) h = both (not (has_rid s.rid (map entry_told ss))) (are_distinct (map entry_told ss)) (ap (λ (b : Bool). not b) (none ss h.0)) (are_apart ss h.1) where
  none : (ts : List Stored) → All (λ t. (s.rid.0 ≡ t.rid.0) → ⊥) ts → has_rid s.rid (map entry_told ts) ≡ false
  none [] k = refl
  none (t ∷ ts) k = rw (unlike t.rid.0 s.rid.0 (λ z. k.0 (sym z))) (none ts k.1)

-- entries

module _ (held : Held) (h : IsTidy held) (after : ℕ) where
  abbrev pub was_changed : Stored → Bool
  was_changed s = nat_lt after s.changed && not (s.rid.0 == 1)

  abbrev pub seen : List Stored
  seen = filter was_changed held.items

  abbrev pub live_at : ℕ → List Stored
  live_at d = filter (λ s. s.live && (depth_of held s.rid == d)) seen

  abbrev pub told : List Stored
  told = flat_map live_at (counting 1 MOST_PATH_NAMES) ++ filter (λ s. not s.live) seen

  abbrev pub Tells : Stored → Type 0
  Tells s = (stored_at held.items s.rid ≡ Some s) × IsTidyItem held s × IsLower s × (after < s.changed)

  late : (n m : ℕ) → nat_lt n m ≡ true → n < m
  late n m e = grind (arith, nat_tests, e)

  is_late : (n m : ℕ) → n < m → nat_lt n m ≡ true
  is_late n m e = grind (arith, nat_tests, e)

  pub tells_seen : All Tells seen
  tells_seen = all_passed (λ s. (stored_at held.items s.rid ≡ Some s) × IsTidyItem held s) Tells was_changed
      (λ s e k. (k.0, k.1, (λ z. no_way (sym (not_true (s.rid.0 == 1) (right_true (nat_lt after s.changed) (not (s.rid.0 == 1)) e)) ∙ eq-eqb s.rid.0 1 z)), late after s.changed (left_true (nat_lt after s.changed) (not (s.rid.0 == 1)) e))) held.items
      (all_both (λ s. stored_at held.items s.rid ≡ Some s) (IsTidyItem held) (λ s. (stored_at held.items s.rid ≡ Some s) × IsTidyItem held s) (λ s a b. (a, b)) held.items (each_found 1 held.items h.counted) h.items)

  tells_told : All Tells told
  tells_told = all_append Tells (flat_map live_at (counting 1 MOST_PATH_NAMES)) (filter (λ s. not s.live) seen) (all_flat Tells live_at (λ d. all_filter Tells (λ s. s.live && (depth_of held s.rid == d)) seen tells_seen) (counting 1 MOST_PATH_NAMES)) (all_filter Tells (λ s. not s.live) seen tells_seen)

  feed_now : All (TellsNow held after) (feed_of held after)
  feed_now = all_map Tells (TellsNow held after) entry_told (λ s k. (s, k.0, refl, k.2, k.3)) told tells_told

  -- all are told

  pub depth_is : (s : Stored) → IsLower s → s.live ≡ true → IsReached held.items s → (1 ≤ depth_of held s.rid) × (depth_of held s.rid ≤ MOST_PATH_NAMES)
  depth_is s low live r = let x = r live in by x.0 x.1 x.2 where
    some : (n : ℕ) → 1 ≤ suc n
    some n = omega arith

    by : (n : ℕ) → n ≤ MOST_PATH_NAMES → Reaches held.items n s.rid → (1 ≤ depth_of held s.rid) × (depth_of held s.rid ≤ MOST_PATH_NAMES)
    by zero b k = absurd (low k)
    by (suc n) b k = let d : depth_of held s.rid ≡ suc n = line_length held.items (suc n) (length held.items) s.rid k (few held.items (suc n) s.rid h.counted k) in (subst (λ (m : ℕ). 1 ≤ m) (sym d) (some n), subst (λ (m : ℕ). m ≤ MOST_PATH_NAMES) (sym d) b)

  one_told : (s : Stored) → Among s held.items → IsReached held.items s → IsLower s → after < s.changed → Among s told
  one_told s there r low changed = by s.live refl where
    in_seen : Among s seen
    in_seen = among_filter was_changed s held.items (both (nat_lt after s.changed) (not (s.rid.0 == 1)) (is_late after s.changed changed) (ap (λ (b : Bool). not b) (unlike s.rid.0 1 low))) there

    under : (d : ℕ) → d ≤ MOST_PATH_NAMES → d < 1 + MOST_PATH_NAMES
    under d k = omega (arith, k)

    by : (b : Bool) → s.live ≡ b → Among s told
    by true e = let d = depth_is s low e r in among_left s (flat_map live_at (counting 1 MOST_PATH_NAMES)) (filter (λ t. not t.live) seen)
        (among_flat live_at s (depth_of held s.rid) MOST_PATH_NAMES 1 d.0 (under (depth_of held s.rid) d.1) (among_filter (λ t. t.live && (depth_of held t.rid == depth_of held s.rid)) s seen (both s.live (depth_of held s.rid == depth_of held s.rid) e (eq-eqb (depth_of held s.rid) (depth_of held s.rid) refl)) in_seen))
    by false e = among_right s (flat_map live_at (counting 1 MOST_PATH_NAMES)) (filter (λ t. not t.live) seen) (among_filter (λ t. not t.live) s seen (ap (λ (b : Bool). not b) e) in_seen)

  feed_all : TellsAll held after (feed_of held after)
  feed_all = record { each = all_both (λ s. Among s held.items) (IsReached held.items) (λ s. IsLower s → after < s.changed → Among (entry_told s) (feed_of held after)) (λ s a r low changed. among_map entry_told s told (one_told s a r low changed)) held.items (each_among held.items) h.reached }

  -- none twice

  abbrev At : ℕ → Stored → Type 0
  At d s = (s.live ≡ true) × (d ≤ depth_of held s.rid) × (stored_at held.items s.rid ≡ Some s)

  pub at_depth : (d : ℕ) → All (λ s. (s.live ≡ true) × (depth_of held s.rid ≡ d) × (stored_at held.items s.rid ≡ Some s)) (live_at d)
  at_depth d = all_passed Tells (λ s. (s.live ≡ true) × (depth_of held s.rid ≡ d) × (stored_at held.items s.rid ≡ Some s)) (λ s. s.live && (depth_of held s.rid == d)) (λ s e k. (left_true s.live (depth_of held s.rid == d) e, eqb-true (depth_of held s.rid) d (right_true s.live (depth_of held s.rid == d) e), k.0)) seen tells_seen

  self : (d e : ℕ) → e ≡ d → d ≤ e
  self d e k = omega (arith, k)

  lower : (d n : ℕ) → d + 1 ≤ n → d ≤ n
  lower d n k = omega (arith, k)

  from_depth : (n low : ℕ) → All (At low) (flat_map live_at (counting low n))
  from_depth zero low = tt
  from_depth (suc n) low = all_append (At low) (live_at low) (flat_map live_at (counting (low + 1) n)) (all_weaker (λ s. (s.live ≡ true) × (depth_of held s.rid ≡ low) × (stored_at held.items s.rid ≡ Some s)) (At low) (λ s k. (k.0, self low (depth_of held s.rid) k.1, k.2)) (live_at low) (at_depth low))
      (all_weaker (At (low + 1)) (At low) (λ s k. (k.0, lower low (depth_of held s.rid) k.1, k.2)) (flat_map live_at (counting (low + 1) n)) (from_depth n (low + 1)))

  same_depth : (s t : Stored) → s.rid.0 ≡ t.rid.0 → depth_of held s.rid ≡ depth_of held t.rid
  same_depth s t e = ap (λ (n : ℕ). depth_of held (record { 0 = n })) e

  deeper : (a b d : ℕ) → a ≡ d → d + 1 ≤ b → a ≡ b → ⊥
  deeper a b d e k z = omega (arith, e, k, z)

  apart_seen : Apart seen
  apart_seen = apart_filter was_changed held.items (apart_counted 1 held.items h.counted)

  apart_live : (n low : ℕ) → Apart (flat_map live_at (counting low n))
  apart_live zero low = tt
  apart_live (suc n) low = apart_append (live_at low) (flat_map live_at (counting (low + 1) n)) (apart_filter (λ s. s.live && (depth_of held s.rid == low)) seen apart_seen) (apart_live n (low + 1))
      (crossed (λ s. (s.live ≡ true) × (depth_of held s.rid ≡ low) × (stored_at held.items s.rid ≡ Some s)) (At (low + 1)) (λ s t p q e. deeper (depth_of held s.rid) (depth_of held t.rid) low p.1 q.1 (same_depth s t e)) (live_at low) (flat_map live_at (counting (low + 1) n)) (at_depth low) (from_depth n (low + 1)))

  apart_told : Apart told
  apart_told = apart_append (flat_map live_at (counting 1 MOST_PATH_NAMES)) (filter (λ s. not s.live) seen) (apart_live MOST_PATH_NAMES 1) (apart_filter (λ s. not s.live) seen apart_seen)
      (crossed (At 1) (λ t. (t.live ≡ false) × (stored_at held.items t.rid ≡ Some t)) (λ s t p q e. no_way (sym q.0 ∙ (ap (λ (x : Stored). x.live) (sym (one s t p.2 q.1 e)) ∙ p.0))) (flat_map live_at (counting 1 MOST_PATH_NAMES)) (filter (λ s. not s.live) seen) (from_depth MOST_PATH_NAMES 1)
      (all_passed Tells (λ t. (t.live ≡ false) × (stored_at held.items t.rid ≡ Some t)) (λ s. not s.live) (λ s e k. (not_true s.live e, k.0)) seen tells_seen)) where
        one : (s t : Stored) → stored_at held.items s.rid ≡ Some s → stored_at held.items t.rid ≡ Some t → s.rid.0 ≡ t.rid.0 → s ≡ t
        one s t a b e = one_some (stored_at held.items t.rid) s t (subst (λ (n : ℕ). stored_at held.items (record { 0 = n }) ≡ Some s) e a) b

  -- each fits

  module _ (ks : List Known) (kinds : AreKindsOf held ks) where
    of_kind : (s : Stored) → stored_at held.items s.rid ≡ Some s → (ls : List Known) → AreKindsOf held ls → is_of_kind ls (entry_told s) ≡ true
    of_kind s found [] k = refl
    of_kind s found (l ∷ ls) k = both (not (l.rid.0 == s.rid.0) || same_flag l.directory s.directory) (is_of_kind ls (entry_told s)) (by (l.rid.0 == s.rid.0) refl) (of_kind s found ls k.1) where
      same : (a b : Bool) → b ≡ a → same_flag a b ≡ true
      same true b e = e
      same false true e = no_way_back e
      same false false e = refl

      by : (b : Bool) → (l.rid.0 == s.rid.0) ≡ b → (not b || same_flag l.directory s.directory) ≡ true
      by true e = same l.directory s.directory (k.0 s (subst (λ (n : ℕ). stored_at held.items (record { 0 = n }) ≡ Some s) (sym (eqb-true l.rid.0 s.rid.0 e)) found))
      by false e = refl

    above_one : (n : ℕ) → 1 ≤ n → ((n ≡ 1) → ⊥) → nat_lt 1 n ≡ true
    above_one n a b = by (nat_lt 1 n) refl where
      by : (c : Bool) → nat_lt 1 n ≡ c → c ≡ true
      by true e = refl
      by false e = absurd (b (grind (arith, nat_tests, a, e)))

    is_le : (n m : ℕ) → n ≤ m → nat_le n m ≡ true
    is_le n m e = grind (arith, nat_tests, e)

    last_short : (v : List ℕ) (vs : List (List ℕ)) → length v ≤ MOST_FILE_BYTES → All (λ (bytes : List ℕ). length bytes ≤ MOST_FILE_BYTES) vs → length (last_of v vs) ≤ MOST_FILE_BYTES
    last_short v [] a b = a
    last_short v (w ∷ vs) a b = last_short w vs b.0 b.1

    fits_versions : (directory : Bool) (vs : List (List ℕ)) → (directory ≡ true → vs ≡ []) → (directory ≡ false → 1 ≤ length vs) → All (λ (bytes : List ℕ). length bytes ≤ MOST_FILE_BYTES) vs
        → cond directory ((length vs == 0) && (len_of vs == 0)) (nat_le 1 (length vs) && nat_le (len_of vs) MOST_FILE_BYTES) ≡ true
    fits_versions true vs none some short = rw (none refl) refl
    fits_versions false [] none some short = absurd (empty (some refl)) where
      empty : 1 ≤ 0 → ⊥
      empty k = omega (arith, k)
    fits_versions false (v ∷ vs) none some short = both (nat_le 1 (length (v ∷ vs))) (nat_le (length (last_of v vs)) MOST_FILE_BYTES) (is_le 1 (length (v ∷ vs)) (some refl)) (is_le (length (last_of v vs)) MOST_FILE_BYTES (last_short v vs short.0 short.1))

    five : (a b c d e : Bool) → a ≡ true → b ≡ true → c ≡ true → d ≡ true → e ≡ true → (a && b && c && d && e) ≡ true
    five true true true true true f g i j k = refl
    five false b c d e f g i j k = no_way f
    five true false c d e f g i j k = no_way g
    five true true false d e f g i j k = no_way i
    five true true true false e f g i j k = no_way j
    five true true true true false f g i j k = no_way k

    one_fits : (s : Stored) → Tells s → is_entry ks (entry_told s) ≡ true
    one_fits s k =
        let p : IsPlacedAt held.clock s = k.1.placed k.2 in let v : HasVersions s = k.1.versions in
        five (nat_lt 1 s.rid.0) (not (s.rid.0 == s.parent.0)) (is_name s.name) (is_of_kind ks (entry_told s)) (cond s.directory ((latest s == 0) && (len_of s.versions == 0)) (nat_le 1 (latest s) && nat_le (len_of s.versions) MOST_FILE_BYTES))
        (above_one s.rid.0 (below_next 1 held.items s.rid s h.counted k.0).0 k.2) (ap (λ (b : Bool). not b) (unlike s.rid.0 s.parent.0 (λ z. p.apart (sym z)))) p.named (of_kind s k.0 ks kinds) (fits_versions s.directory s.versions v.none v.some v.short)

    all_fit : (ss : List Stored) → All Tells ss → list_all (is_entry ks) (map entry_told ss) ≡ true
    all_fit [] k = refl
    all_fit (s ∷ ss) k = both (is_entry ks (entry_told s)) (list_all (is_entry ks) (map entry_told ss)) (one_fits s k.0) (all_fit ss k.1)

    feed_fits : are_entries ks (feed_of held after) ≡ true
    feed_fits = both (list_all (is_entry ks) (feed_of held after)) (are_distinct (feed_of held after)) (all_fit told tells_told) (are_apart told apart_told)

-- the laws

pub tells_now : (held : Held) (after : ℕ) → IsTidy held → All (TellsNow held after) (feed_of held after)
tells_now held after h = feed_now held h after

pub tells_all : (held : Held) (after : ℕ) → IsTidy held → TellsAll held after (feed_of held after)
tells_all held after h = feed_all held h after

pub fits_known : (held : Held) (after : ℕ) (ks : List Known) → IsTidy held → AreKindsOf held ks → are_entries ks (feed_of held after) ≡ true
fits_known held after ks h kinds = feed_fits held h after ks kinds
