-- A file that holds the byte of a local write, as long as it lists the write and nothing takes the byte away.
use Rattle.std.proofs.Common.{◌≡◌, ℕ, Bool, true, false, List, [], ◌∷◌, ◌++◌, refl, sym, ◌∙◌, ap, subst, arith, length}
use Rattle.std.specs.Prelude.{Option, Some, map, cond, not, ◌||◌}
use Rattle.std.proofs.lemmas.Bool.Decides.{nat_tests}
use Rattle.cf_base.specs.declared.ids.Usn.{Usn}
use Rattle.cf_model.specs.Contents.{RisesFrom, up_to}
use Rattle.cf_model.specs.Effects.{later_than}
use Rattle.cf_model.specs.Kept.{byte_given, lists}
use Rattle.cf_model.specs.Numbers.{above, no_usn, same_usn}
use Rattle.cf_model.specs.Overlay.{LocalWrite, Written, after_write, covers, is_covered, over}
use Rattle.cf_model.specs.Words.{passes_at}
use Rattle.cf_model.proofs.Laying.{map-append, over-append}
use Rattle.cf_model.proofs.Rebasing.{map-both, over-both, split}
use Rattle.cf_model_laws.specs.Invariant.{All, put_bytes}
use Rattle.cf_model_laws.proofs.Gathered.{all_append, all_filter, all_passed, all_weaker}
use Rattle.cf_model_laws.proofs.HeldBytes.{up_to_more}
use Rattle.cf_model_laws.proofs.RightItems.{above_self, no_way, not_above}
use Rattle.cf_model_laws.proofs.SoundSettles.{not_true}
use Rattle.cf_model_laws.proofs.SparedBytes.{Spares, content_given, given_covers, has_byte, is_byte, write_spared}

-- Of write n, which gave byte b to position p: the byte is held, the write covers its position, no later one touches it, and
-- the base under the writes up to this one has it.
pub record HoldsByte (n : Usn) (p b : ℕ) (base : List ℕ) (directory : Bool) (held : List (Option ℕ)) (ws : List Written) : Type 0 where
  pub file : directory ≡ false
  pub here : passes_at (has_byte b) held p ≡ true
  pub covered : All (λ w. same_usn w.number n ≡ true → covers w p ≡ true) ws
  pub later : All (λ w. above w.number n ≡ true → Spares w.write p) ws
  pub last : passes_at (is_byte b) (put_bytes base n ws) p ≡ true

-- numbers

not_same : (a n : Usn) → above a n ≡ true → same_usn a n ≡ false
not_same a n h = grind (arith, nat_tests, h)

below_same : (a n : Usn) → above n a ≡ true → same_usn a n ≡ false
below_same a n h = grind (arith, nat_tests, h)

self_same : (n : Usn) → same_usn n n ≡ true
self_same n = grind (arith, nat_tests)

same_above : (a n at : Usn) → same_usn a n ≡ true → above a at ≡ true → above n at ≡ true
same_above a n at h k = grind (arith, nat_tests, h, k)

above_same : (a n at : Usn) → same_usn a n ≡ true → above n at ≡ true → above a at ≡ true
above_same a n at h k = grind (arith, nat_tests, h, k)

under_later : (a at n : Usn) → above a at ≡ false → above n at ≡ true → above a n ≡ false
under_later a at n h k = grind (arith, nat_tests, h, k)

under_under : (a n at : Usn) → above a n ≡ false → above n at ≡ false → above a at ≡ false
under_under a n at h k = grind (arith, nat_tests, h, k)

-- lists of writes

pub lists_more : (n : Usn) (ws : List Written) (w : Written) → above w.number n ≡ true → lists n (ws ++ w ∷ []) ≡ true → lists n ws ≡ true
lists_more n [] w h e = no_way (sym (ap (λ (b : Bool). b || false) (not_same w.number n h)) ∙ e)
lists_more n (v ∷ ws) w h e = by (same_usn v.number n) e (lists_more n ws w h) where
  by : (b : Bool) → (b || lists n (ws ++ w ∷ [])) ≡ true → (lists n (ws ++ w ∷ []) ≡ true → lists n ws ≡ true) → (b || lists n ws) ≡ true
  by true e g = refl
  by false e g = g e

pub lists_last : (n : Usn) (ws : List Written) (w : Written) → w.number ≡ n → lists n (ws ++ w ∷ []) ≡ true
lists_last n [] w e = subst (λ (m : Usn). (same_usn m n || false) ≡ true) (sym e) (ap (λ (b : Bool). b || false) (self_same n))
lists_last n (v ∷ ws) w e = by (same_usn v.number n) (lists_last n ws w e) where
  by : (b : Bool) → lists n (ws ++ w ∷ []) ≡ true → (b || lists n (ws ++ w ∷ [])) ≡ true
  by true g = refl
  by false g = g

pub lists_later : (n at : Usn) (ws : List Written) → lists n (later_than at ws) ≡ true → (lists n ws ≡ true) × (above n at ≡ true)
lists_later n at [] e = no_way e
lists_later n at (w ∷ ws) e = by (above w.number at) refl e (lists_later n at ws) where
  one : (s : Bool) → same_usn w.number n ≡ s → above w.number at ≡ true → (s || lists n (later_than at ws)) ≡ true → (lists n (later_than at ws) ≡ true → (lists n ws ≡ true) × (above n at ≡ true))
      → ((s || lists n ws) ≡ true) × (above n at ≡ true)
  one true q a e g = (refl, same_above w.number n at q a)
  one false q a e g = g e

  other : (s : Bool) → (lists n ws ≡ true) × (above n at ≡ true) → ((s || lists n ws) ≡ true) × (above n at ≡ true)
  other true g = (refl, g.1)
  other false g = g

  by : (c : Bool) → above w.number at ≡ c → lists n (cond c (w ∷ later_than at ws) (later_than at ws)) ≡ true → (lists n (later_than at ws) ≡ true → (lists n ws ≡ true) × (above n at ≡ true))
      → (lists n (w ∷ ws) ≡ true) × (above n at ≡ true)
  by true a e g = one (same_usn w.number n) refl a e g
  by false a e g = other (same_usn w.number n) (g e)

pub lists_stays : (n at : Usn) (ws : List Written) → lists n ws ≡ true → above n at ≡ true → lists n (later_than at ws) ≡ true
lists_stays n at [] e h = no_way e
lists_stays n at (w ∷ ws) e h = by (same_usn w.number n) refl e (λ k. lists_stays n at ws k h) where
  one : (c : Bool) → c ≡ true → same_usn w.number n ≡ true → lists n (cond c (w ∷ later_than at ws) (later_than at ws)) ≡ true
  one true z q = ap (λ (b : Bool). b || lists n (later_than at ws)) q
  one false z q = no_way z

  other : (c : Bool) → lists n (later_than at ws) ≡ true → lists n (cond c (w ∷ later_than at ws) (later_than at ws)) ≡ true
  other true g = two (same_usn w.number n) g where
    two : (s : Bool) → lists n (later_than at ws) ≡ true → (s || lists n (later_than at ws)) ≡ true
    two true g = refl
    two false g = g
  other false g = g

  by : (s : Bool) → same_usn w.number n ≡ s → (s || lists n ws) ≡ true → (lists n ws ≡ true → lists n (later_than at ws) ≡ true) → lists n (later_than at (w ∷ ws)) ≡ true
  by true q e g = one (above w.number at) (above_same w.number n at q h) q
  by false q e g = other (above w.number at) (g e)

up_both : (at : Usn) (us vs : List Written) → up_to at (us ++ vs) ≡ up_to at us ++ up_to at vs
up_both at [] vs = refl
up_both at (u ∷ us) vs = by (not (above u.number at)) (up_both at us vs) where
  by : (c : Bool) → up_to at (us ++ vs) ≡ up_to at us ++ up_to at vs → cond c (u ∷ up_to at (us ++ vs)) (up_to at (us ++ vs)) ≡ cond c (u ∷ up_to at us) (up_to at us) ++ up_to at vs
  by true k = ap (λ (ws : List Written). u ∷ ws) k
  by false k = k

up_all : (at : Usn) (ws : List Written) → All (λ w. above w.number at ≡ false) ws → up_to at ws ≡ ws
up_all at [] h = refl
up_all at (w ∷ ws) h = rw h.0 (ap (λ (vs : List Written). w ∷ vs) (up_all at ws h.1))

up_under : (at : Usn) (ws : List Written) → All (λ w. above w.number at ≡ false) (up_to at ws)
up_under at ws = all_passed (λ w. Unit {0}) (λ w. above w.number at ≡ false) (λ w. not (above w.number at)) (λ w e k. not_true (above w.number at) e) ws (any ws) where
  any : (vs : List Written) → All (λ w. Unit {0}) vs
  any [] = tt
  any (v ∷ vs) = (tt, any vs)

-- a place that all writes spare
pub spared_all : (b p : ℕ) (ws : List Written) (xs : List ℕ) → All (λ w. Spares w.write p) ws → passes_at (is_byte b) xs p ≡ true → passes_at (is_byte b) (over xs (map (λ w. w.write) ws)) p ≡ true
spared_all b p [] xs h e = e
spared_all b p (w ∷ ws) xs h e = spared_all b p ws (after_write xs w.write) h.1 (write_spared b w.write xs p h.0 e)

-- the position is modified
pub is_modified_by : (n : Usn) (p : ℕ) (ws : List Written) → lists n ws ≡ true → All (λ w. same_usn w.number n ≡ true → covers w p ≡ true) ws → is_covered ws p ≡ true
is_modified_by n p [] e h = no_way e
is_modified_by n p (w ∷ ws) e h = by (same_usn w.number n) e h.0 (λ k. is_modified_by n p ws k h.1) where
  or : (a c : Bool) → c ≡ true → (a || c) ≡ true
  or true c k = refl
  or false c k = k

  by : (s : Bool) → (s || lists n ws) ≡ true → (s ≡ true → covers w p ≡ true) → (lists n ws ≡ true → is_covered ws p ≡ true) → (covers w p || is_covered ws p) ≡ true
  by true e k g = ap (λ (c : Bool). c || is_covered ws p) (k refl)
  by false e k g = or (covers w p) (is_covered ws p) (g e)

-- the write itself

over_last : (base : List ℕ) (ws : List Written) (w : Written) → over base (map (λ v. v.write) (ws ++ w ∷ [])) ≡ after_write (over base (map (λ v. v.write) ws)) w.write
over_last base ws w = ap (over base) (map-append (λ v. v.write) ws w) ∙ over-append base (map (λ v. v.write) ws) w.write

pub holds_first : (n : Usn) (p b : ℕ) (base : List ℕ) (directory : Bool) (held : List (Option ℕ)) (ws : List Written) (size : ℕ) (w : LocalWrite) → directory ≡ false → All (λ v. above n v.number ≡ true) ws → length (over base (map (λ v. v.write) ws)) ≡ size
    → byte_given size w p ≡ Some b → passes_at (has_byte b) held p ≡ true → HoldsByte n p b base directory held (ws ++ record { number = n; before = size; write = w } ∷ [])
holds_first n p b base directory held ws size w file under long given here = record {
  file = file;
  here = here;
  covered = all_append (λ v. same_usn v.number n ≡ true → covers v p ≡ true) ws (record { number = n; before = size; write = w } ∷ []) (all_weaker (λ v. above n v.number ≡ true) (λ v. same_usn v.number n ≡ true → covers v p ≡ true) (λ v k e. no_way (sym (below_same v.number n k) ∙ e)) ws under) ((λ e. given_covers b w size p given), tt);
  later = all_append (λ v. above v.number n ≡ true → Spares v.write p) ws (record { number = n; before = size; write = w } ∷ []) (all_weaker (λ v. above n v.number ≡ true) (λ v. above v.number n ≡ true → Spares v.write p) (λ v k e. no_way (sym (not_above n v.number k) ∙ e)) ws under) ((λ e. no_way (sym (above_self n) ∙ e)), tt);
  last = subst (λ (vs : List Written). passes_at (is_byte b) (over base (map (λ v. v.write) vs)) p ≡ true) (sym all)
      (subst (λ (xs : List ℕ). passes_at (is_byte b) xs p ≡ true) (sym (over_last base ws (record { number = n; before = size; write = w }))) (content_given b w (over base (map (λ v. v.write) ws)) size p long given));
}
  where
    all : up_to n (ws ++ record { number = n; before = size; write = w } ∷ []) ≡ ws ++ record { number = n; before = size; write = w } ∷ []
    all = up_all n (ws ++ record { number = n; before = size; write = w } ∷ []) (all_append (λ v. above v.number n ≡ false) ws (record { number = n; before = size; write = w } ∷ []) (all_weaker (λ v. above n v.number ≡ true) (λ v. above v.number n ≡ false) (λ v k. not_above n v.number k) ws under) (above_self n, tt))

-- another write

pub holds_more : (n : Usn) (p b : ℕ) (base : List ℕ) (directory : Bool) (old new : List (Option ℕ)) (ws : List Written) (w : Written) → above w.number n ≡ true → Spares w.write p → passes_at (has_byte b) new p ≡ true
    → HoldsByte n p b base directory old ws → HoldsByte n p b base directory new (ws ++ w ∷ [])
holds_more n p b base directory old new ws w a spares here h = record {
  file = h.file;
  here = here;
  covered = all_append (λ v. same_usn v.number n ≡ true → covers v p ≡ true) ws (w ∷ []) h.covered ((λ e. no_way (sym (not_same w.number n a) ∙ e)), tt);
  later = all_append (λ v. above v.number n ≡ true → Spares v.write p) ws (w ∷ []) h.later ((λ e. spares), tt);
  last = subst (λ (vs : List Written). passes_at (is_byte b) (over base (map (λ v. v.write) vs)) p ≡ true) (sym (up_to_more n ws w a)) h.last;
}

-- a Rebase that leaves the write in the list, and one that takes it in

pub holds_rebased : (n : Usn) (p b : ℕ) (old new : List ℕ) (directory : Bool) (held : List (Option ℕ)) (ws : List Written) (at : Usn) → above n at ≡ true → RisesFrom no_usn ws → new ≡ put_bytes old at ws
    → HoldsByte n p b old directory held ws → HoldsByte n p b new directory held (later_than at ws)
holds_rebased n p b old new directory held ws at a rises is h = record {
  file = h.file;
  here = h.here;
  covered = all_filter (λ w. same_usn w.number n ≡ true → covers w p ≡ true) (λ w. above w.number at) ws h.covered;
  later = all_filter (λ w. above w.number n ≡ true → Spares w.write p) (λ w. above w.number at) ws h.later;
  last = subst (λ (xs : List ℕ). passes_at (is_byte b) xs p ≡ true) (sym same) h.last;
}
  where
    all : up_to n ws ≡ up_to at ws ++ up_to n (later_than at ws)
    all = ap (up_to n) (split at no_usn ws rises) ∙ up_both n (up_to at ws) (later_than at ws)
        ∙ ap (λ (vs : List Written). vs ++ up_to n (later_than at ws)) (up_all n (up_to at ws) (all_weaker (λ w. above w.number at ≡ false) (λ w. above w.number n ≡ false) (λ w k. under_later w.number at n k a) (up_to at ws) (up_under at ws)))

    same : put_bytes new n (later_than at ws) ≡ put_bytes old n ws
    same =
        ap (λ (base : List ℕ). over base (map (λ w. w.write) (up_to n (later_than at ws)))) is
        ∙ sym (over-both old (map (λ w. w.write) (up_to at ws)) (map (λ w. w.write) (up_to n (later_than at ws))))
        ∙ ap (over old) (sym (map-both (λ w. w.write) (up_to at ws) (up_to n (later_than at ws))))
        ∙ ap (λ (vs : List Written). over old (map (λ w. w.write) vs)) (sym all)

pub taken_in : (n : Usn) (p b : ℕ) (base : List ℕ) (directory : Bool) (held : List (Option ℕ)) (ws : List Written) (at : Usn) → above n at ≡ false → RisesFrom no_usn ws → HoldsByte n p b base directory held ws
    → passes_at (is_byte b) (put_bytes base at ws) p ≡ true
taken_in n p b base directory held ws at a rises h =
    subst (λ (xs : List ℕ). passes_at (is_byte b) xs p ≡ true) (sym same) (spared_all b p (up_to at (later_than n ws)) (put_bytes base n ws) (all_filter (λ w. Spares w.write p) (λ w. not (above w.number at)) (later_than n ws) spared) h.last) where
      all : up_to at ws ≡ up_to n ws ++ up_to at (later_than n ws)
      all = ap (up_to at) (split n no_usn ws rises) ∙ up_both at (up_to n ws) (later_than n ws)
          ∙ ap (λ (vs : List Written). vs ++ up_to at (later_than n ws)) (up_all at (up_to n ws) (all_weaker (λ w. above w.number n ≡ false) (λ w. above w.number at ≡ false) (λ w k. under_under w.number n at k a) (up_to n ws) (up_under n ws)))

      same : put_bytes base at ws ≡ over (put_bytes base n ws) (map (λ w. w.write) (up_to at (later_than n ws)))
      same =
          ap (λ (vs : List Written). over base (map (λ w. w.write) vs)) all
          ∙ ap (over base) (map-both (λ w. w.write) (up_to n ws) (up_to at (later_than n ws)))
          ∙ over-both base (map (λ w. w.write) (up_to n ws)) (map (λ w. w.write) (up_to at (later_than n ws)))

      spared : All (λ w. Spares w.write p) (later_than n ws)
      spared = all_passed (λ w. above w.number n ≡ true → Spares w.write p) (λ w. Spares w.write p) (λ w. above w.number n) (λ w e k. k e) ws h.later
