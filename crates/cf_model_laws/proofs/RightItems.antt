-- What each kind of change keeps of an item.
use Rattle.std.proofs.Common.{◌≡◌, ◌≤◌, ℕ, Bool, true, false, List, [], ◌∷◌, ◌++◌, refl, sym, ◌∙◌, ap, subst, inl, inr, arith}
use Rattle.std.specs.Prelude.{cond, Option, unwrap_or, drop}
use Rattle.std.proofs.lemmas.Bool.Decides.{nat_tests}
use Rattle.cf_base.specs.declared.changes.Change.{Change}
use Rattle.cf_base.specs.declared.changes.Change.TheVariants as change
use Rattle.cf_base.specs.declared.ids.Rid.{Rid}
use Rattle.cf_base.specs.declared.ids.Usn.{Usn}
use Rattle.cf_base.specs.declared.ids.Version.{Version}
use Rattle.cf_model.specs.Contents.{RisesFrom, base_named}
use Rattle.cf_model.specs.Effects.{later_than, untargeted}
use Rattle.cf_model.specs.Numbers.{above, no_usn}
use Rattle.cf_model.specs.Overlay.{Written}
use Rattle.cf_model.specs.State.{Filter}
use Rattle.cf_model.specs.Store.{Held, bytes_of, stored_at, version_bytes}
use Rattle.cf_model.specs.Words.{number_of}
use Rattle.cf_model.proofs.ContentItems.{drop-more, no-version}
use Rattle.cf_model_laws.specs.Invariant.{All, AllUpTo, HasBase, HasNone, IsRightOf, SameBase, rid_in, version_in, target_in}
use Rattle.cf_model_laws.specs.Fitting.{Aims, Fits, Meets, NamesWell}
use Rattle.cf_model_laws.proofs.Gathered.{all_append, all_filter, all_weaker}

-- what fits meets what keeps the whole sound

pub fits_meets : (r : Held) (x : Filter) (c : Change) → Fits r x c → Meets r x c
fits_meets r x (change.Make item parent name k size identity) h = h.0
fits_meets r x (change.Remove item) h = h.0
fits_meets r x (change.Move item parent name) h = tt
fits_meets r x (change.Write item at bytes) h = tt
fits_meets r x (change.Size item size) h = tt
fits_meets r x (change.Filled item start bytes) h = h
fits_meets r x (change.Validated item start len) h = h
fits_meets r x (change.Emptied item start len) h = h
fits_meets r x (change.SetPin item pin) h = h
fits_meets r x (change.Mark item number) h = h.0
fits_meets r x (change.Clear item) h = h
fits_meets r x (change.Convert item identity) h = h.0
fits_meets r x (change.Revert item) h = h
fits_meets r x (change.Rebase item identity len at) h = h.0
fits_meets r x (change.Take item identity size) h = h.0
fits_meets r x (change.Copy item from parent name) h = h.0
fits_meets r x (change.Populated item) h = h
fits_meets r x (change.Keep item on) h = h

pub fits_aims : (r : Held) (x : Filter) (c : Change) → Fits r x c → Aims r x c
fits_aims r x (change.Make item parent name k size identity) h = h.1
fits_aims r x (change.Remove item) h = tt
fits_aims r x (change.Move item parent name) h = tt
fits_aims r x (change.Write item at bytes) h = tt
fits_aims r x (change.Size item size) h = tt
fits_aims r x (change.Filled item start bytes) h = tt
fits_aims r x (change.Validated item start len) h = tt
fits_aims r x (change.Emptied item start len) h = tt
fits_aims r x (change.SetPin item pin) h = tt
fits_aims r x (change.Mark item number) h = tt
fits_aims r x (change.Clear item) h = tt
fits_aims r x (change.Convert item identity) h = h.1
fits_aims r x (change.Revert item) h = tt
fits_aims r x (change.Rebase item identity len at) h = h.1
fits_aims r x (change.Take item identity size) h = h.1
fits_aims r x (change.Copy item from parent name) h = tt
fits_aims r x (change.Populated item) h = tt
fits_aims r x (change.Keep item on) h = tt

-- numbers

pub above_then : (a b c : Usn) → above a b ≡ true → above b c ≡ true → above a c ≡ true
above_then a b c h k = grind (arith, nat_tests, h, k)

pub above_last : (a b c : Usn) → above a b ≡ true → above c b ≡ false → above a c ≡ true
above_last a b c h k = grind (arith, nat_tests, h, k)

pub not_above : (a b : Usn) → above a b ≡ true → above b a ≡ false
not_above a b h = grind (arith, nat_tests, h)

pub above_none : (a b : Usn) → above a b ≡ true → above a no_usn ≡ true
above_none a b h = grind (arith, nat_tests, h)

pub above_self : (a : Usn) → above a a ≡ false
above_self a = grind (arith, nat_tests)

-- writes

pub all_under : (next number : Usn) (ws : List Written) → above next number ≡ true → AllUpTo number ws → All (λ w. above next w.number ≡ true) ws
all_under next number ws e h = all_weaker (λ w. above w.number number ≡ false) (λ w. above next w.number ≡ true) (λ w k. above_last next number w.number e k) ws h

rises_more : (low n : Usn) (ws : List Written) (w : Written) → w.number ≡ n → above n low ≡ true → All (λ v. above n v.number ≡ true) ws → RisesFrom low ws → RisesFrom low (ws ++ w ∷ [])
rises_more low n [] w e h k r = (subst (λ (x : Usn). above x low ≡ true) (sym e) h, tt)
rises_more low n (v ∷ ws) w e h k r = (r.0, rises_more v.number n ws w e k.0 k.1 r.1)

up_to_next : (next number : Usn) (ws : List Written) → above next number ≡ true → AllUpTo number ws → AllUpTo next ws
up_to_next next number ws e h = all_weaker (λ w. above next w.number ≡ true) (λ w. above w.number next ≡ false) (λ w k. not_above next w.number k) ws (all_under next number ws e h)

pub rises_later : (at low : Usn) (ws : List Written) → RisesFrom low ws → RisesFrom low (later_than at ws)
rises_later at low [] r = tt
rises_later at low (w ∷ ws) r = by (above w.number at) (rises_later at w.number ws r.1) where
  lower : (a b : Usn) (vs : List Written) → above b a ≡ true → RisesFrom b vs → RisesFrom a vs
  lower a b [] h k = tt
  lower a b (v ∷ vs) h k = (above_then v.number b a k.0 h, k.1)

  by : (b : Bool) → RisesFrom w.number (later_than at ws) → RisesFrom low (cond b (w ∷ later_than at ws) (later_than at ws))
  by true k = (r.0, k)
  by false k = lower low w.number (later_than at ws) r.0 k

-- bases

pub no_way : {A : Type 0} → false ≡ true → A
no_way z = absurd (w z) where
  w : false ≡ true → ⊥
  w z = cc

pub no_way_back : {A : Type 0} → true ≡ false → A
no_way_back z = no_way (sym z)

abbrev rid_at : ℕ → Rid
rid_at n = record { 0 = n }

abbrev version_at : ℕ → Version
version_at n = record { 0 = n }

same_rid : (a b : List ℕ) → (rid_in a).0 ≡ (rid_in b).0 → ◌≡◌ {A = Rid} (rid_in a) (rid_in b)
same_rid a b e = ap rid_at e

same_version : (a b : List ℕ) → (version_in a).0 ≡ (version_in b).0 → ◌≡◌ {A = Version} (version_in a) (version_in b)
same_version a b e = ap version_at e

pub same_bytes : (r : Held) (a b : List ℕ) → SameBase a b → bytes_of r (rid_in a) (version_in a) ≡ bytes_of r (rid_in b) (version_in b)
same_bytes r a b h = ap (λ (x : Rid). bytes_of r x (version_in a)) (same_rid a b h.0) ∙ ap (λ (x : Version). bytes_of r (rid_in b) x) (same_version a b h.1)

pub same_named : (r : Held) (a b : List ℕ) → SameBase a b → base_named r a ≡ base_named r b
same_named r a b h = ap (λ (x : Option (List ℕ)). unwrap_or x []) (same_bytes r a b h)

pub none_named : (r : Held) (a : List ℕ) → (version_in a).0 ≡ 0 → base_named r a ≡ []
none_named r a h = ap (λ (n : ℕ). unwrap_or (version_bytes (stored_at r.items (rid_in a)) n) []) h ∙ ap (λ (x : Option (List ℕ)). unwrap_or x []) (no-version (stored_at r.items (rid_in a)))

pub same_based : (r : Held) (a b : List ℕ) → SameBase a b → HasBase r b → HasBase r a
same_based r a b h (inl e) = inl (h.1 ∙ e)
same_based r a b h (inr k) = inr (k.0, same_bytes r a b h ∙ k.1)

pub same_none : (a b : List ℕ) → SameBase a b → HasNone b → HasNone a
same_none a b h k = (h.0 ∙ k.0, h.1 ∙ k.1)

pub both_none : (a b : List ℕ) → HasNone a → HasNone b → SameBase a b
both_none a b h k = (h.0 ∙ sym k.0, h.1 ∙ sym k.1)

-- an identity without its target
drop_twice : (identity : List ℕ) → drop 16 (untargeted identity) ≡ drop 16 identity
drop_twice identity = drop-more 8 identity

pub untargeted_same : (identity : List ℕ) → SameBase (untargeted identity) identity
untargeted_same identity = (refl, ap (λ (v : List ℕ). number_of v) (drop_twice identity))

-- kinds

-- the item stays, and the next number rises
pub stays_right : (r : Held) (next after : Usn) (id : ℕ) (directory placeholder : Bool) (identity : List ℕ) (in_sync : Bool) (number : Usn) (ws : List Written)
    → above after next ≡ true → IsRightOf r next id directory placeholder identity in_sync number ws → IsRightOf r after id directory placeholder identity in_sync number ws
stays_right r next after id directory placeholder identity in_sync number ws e h = record {
  based = h.based;
  aimed = h.aimed;
  rises = h.rises;
  last = h.last;
  early = above_then after next number e h.early;
  clean = h.clean;
  bare = h.bare;
  plain = h.plain;
  top = h.top;
}

-- under the new number, not in sync
pub numbered_right : (r : Held) (next after : Usn) (id : ℕ) (directory placeholder : Bool) (identity : List ℕ) (in_sync : Bool) (number : Usn) (ws : List Written)
    → above after next ≡ true → IsRightOf r next id directory placeholder identity in_sync number ws → IsRightOf r after id directory placeholder identity false next ws
numbered_right r next after id directory placeholder identity in_sync number ws e h = record {
  based = h.based;
  aimed = h.aimed;
  rises = h.rises;
  last = up_to_next next number ws h.early h.last;
  early = e;
  clean = λ z. no_way z;
  bare = h.bare;
  plain = h.plain;
  top = h.top;
}

pub written_right : (r : Held) (next after : Usn) (id : ℕ) (directory placeholder : Bool) (identity : List ℕ) (in_sync : Bool) (number : Usn) (ws : List Written) (w : Written)
    → w.number ≡ next → above after next ≡ true → IsRightOf r next id directory placeholder identity in_sync number ws → IsRightOf r after id directory placeholder identity false next (ws ++ w ∷ [])
written_right r next after id directory placeholder identity in_sync number ws w is e h = record {
  based = h.based;
  aimed = h.aimed;
  rises = rises_more no_usn next ws w is (above_none next number h.early) (all_under next number ws h.early h.last) h.rises;
  last = all_append (λ v. above v.number next ≡ false) ws (w ∷ []) (up_to_next next number ws h.early h.last) (subst (λ (x : Usn). above x next ≡ false) (sym is) (above_self next), tt);
  early = e;
  clean = λ z. no_way z;
  bare = h.bare;
  plain = h.plain;
  top = h.top;
}

pub marked_right : (r : Held) (next after : Usn) (id : ℕ) (directory placeholder : Bool) (identity : List ℕ) (in_sync : Bool) (number : Usn) (ws : List Written)
    → above after next ≡ true → IsRightOf r next id directory placeholder identity in_sync number ws → IsRightOf r after id directory placeholder identity true number []
marked_right r next after id directory placeholder identity in_sync number ws e h = record {
  based = h.based;
  aimed = h.aimed;
  rises = tt;
  last = tt;
  early = above_then after next number e h.early;
  clean = λ z. refl;
  bare = h.bare;
  plain = h.plain;
  top = h.top;
}

pub cleared_right : (r : Held) (next after : Usn) (id : ℕ) (directory placeholder : Bool) (identity : List ℕ) (in_sync : Bool) (number : Usn) (ws : List Written)
    → above after next ≡ true → IsRightOf r next id directory placeholder identity in_sync number ws → IsRightOf r after id directory placeholder identity false number ws
cleared_right r next after id directory placeholder identity in_sync number ws e h = record {
  based = h.based;
  aimed = h.aimed;
  rises = h.rises;
  last = h.last;
  early = above_then after next number e h.early;
  clean = λ z. no_way z;
  bare = h.bare;
  plain = h.plain;
  top = h.top;
}

pub converted_right : (r : Held) (next after : Usn) (id : ℕ) (directory placeholder : Bool) (identity new : List ℕ) (in_sync : Bool) (number : Usn) (ws : List Written)
    → SameBase new identity → (target_in new).0 ≡ 0 → above after next ≡ true → IsRightOf r next id directory placeholder identity in_sync number ws → IsRightOf r after id directory true new false next ws
converted_right r next after id directory placeholder identity new in_sync number ws same away e h = record {
  based = same_based r new identity same h.based;
  aimed = inl away;
  rises = h.rises;
  last = up_to_next next number ws h.early h.last;
  early = e;
  clean = λ z. no_way z;
  bare = λ z. same_none new identity same (h.bare z);
  plain = λ z y. no_way_back y;
  top = h.top;
}

pub rebased_right : (r : Held) (next after : Usn) (id : ℕ) (directory placeholder : Bool) (identity new : List ℕ) (in_sync : Bool) (number at : Usn) (ws : List Written)
    → NamesWell r directory placeholder new → above after next ≡ true → IsRightOf r next id directory placeholder identity in_sync number ws → IsRightOf r after id directory placeholder new in_sync number (later_than at ws)
rebased_right r next after id directory placeholder identity new in_sync number at ws well e h = record {
  based = well.based;
  aimed = well.aimed;
  rises = rises_later at no_usn ws h.rises;
  last = all_filter (λ w. above w.number number ≡ false) (λ w. above w.number at) ws h.last;
  early = above_then after next number e h.early;
  clean = λ z. ap (later_than at) (h.clean z);
  bare = well.bare;
  plain = well.plain;
  top = h.top;
}

pub took_right : (r : Held) (next after : Usn) (id : ℕ) (directory placeholder : Bool) (identity new : List ℕ) (in_sync : Bool) (number : Usn) (ws : List Written)
    → NamesWell r directory placeholder new → above after next ≡ true → IsRightOf r next id directory placeholder identity in_sync number ws → IsRightOf r after id directory placeholder new false next []
took_right r next after id directory placeholder identity new in_sync number ws well e h = record {
  based = well.based;
  aimed = well.aimed;
  rises = tt;
  last = tt;
  early = e;
  clean = λ z. refl;
  bare = well.bare;
  plain = well.plain;
  top = h.top;
}

pub copied_right : (r : Held) (next after : Usn) (id new : ℕ) (directory placeholder : Bool) (identity : List ℕ) (in_sync : Bool) (number : Usn) (ws : List Written) (w : Written)
    → w.number ≡ next → 2 ≤ new → above after next ≡ true → IsRightOf r next id directory placeholder identity in_sync number ws → IsRightOf r after new directory true (untargeted identity) false next (ws ++ w ∷ [])
copied_right r next after id new directory placeholder identity in_sync number ws w is large e h = record {
  based = same_based r (untargeted identity) identity (untargeted_same identity) h.based;
  aimed = inl refl;
  rises = rises_more no_usn next ws w is (above_none next number h.early) (all_under next number ws h.early h.last) h.rises;
  last = all_append (λ v. above v.number next ≡ false) ws (w ∷ []) (up_to_next next number ws h.early h.last) (subst (λ (x : Usn). above x next ≡ false) (sym is) (above_self next), tt);
  early = e;
  clean = λ z. no_way z;
  bare = λ z. same_none (untargeted identity) identity (untargeted_same identity) (h.bare z);
  plain = λ z y. no_way_back y;
  top = λ z. absurd (none new z large);
}
  where
    none : (n : ℕ) → n ≡ 1 → 2 ≤ n → ⊥
    none n z k = omega (arith, z, k)

pub made_right : (r : Held) (next after : Usn) (new : ℕ) (directory placeholder : Bool) (identity : List ℕ) (ws : List Written)
    → NamesWell r directory placeholder identity → RisesFrom no_usn ws → AllUpTo next ws → 2 ≤ new → above after next ≡ true → IsRightOf r after new directory placeholder identity false next ws
made_right r next after new directory placeholder identity ws well rises last large e = record {
  based = well.based;
  aimed = well.aimed;
  rises = rises;
  last = last;
  early = e;
  clean = λ z. no_way z;
  bare = well.bare;
  plain = well.plain;
  top = λ z. absurd (none new z large);
}
  where
    none : (n : ℕ) → n ≡ 1 → 2 ≤ n → ⊥
    none n z k = omega (arith, z, k)
