-- What holds where a request is not refused.
use Rattle.std.proofs.Common.{◌≡◌, ℕ, ◌+◌, ◌-◌, ◌<◌, ◌≤◌, Bool, true, false, not, cond, List, [], ◌∷◌, drop, length, refl, sym, ap, ◌∙◌, subst, arith, ◌==◌, ◌&&◌, ◌||◌}
use Rattle.std.specs.Prelude.{Option, Some, None, nat_le, nat_lt, sum_by}
use Rattle.std.specs.List.{list_any}
use Rattle.std.proofs.lemmas.Bool.{eq-eqb}
use Rattle.std.proofs.lemmas.List.Sums.{sum_by_push}
use Rattle.std.proofs.lemmas.Bool.Decides.{nat_tests}
use Rattle.cf_base.specs.declared.ids.Rid.{Rid}
use Rattle.cf_base.specs.declared.ids.Version.{Version}
use Rattle.cf_base.specs.declared.messages.Why.TheVariants as why
use Rattle.cf_model.specs.Numbers.{no_rid}
use Rattle.cf_model.specs.Store.{Held, Stored, depth_of, height_of, is_live, is_live_dir, is_live_file, is_taken, is_under, latest_at, next_rid, passes_bytes, passes_items, stored_at, why_move, why_new_dir, why_new_file, why_remove, why_version, with_new, with_version}
use Rattle.cf_model.specs.Texts.{is_name}
use Rattle.cf_model.specs.Words.{first_of, same, says}
use Rattle.cf_remote.specs.Held.{held_len}

-- where the first cause of a list is none, none of them holds

file_skips : (a b c d e f : Bool)
    → first_of ((a, why.NotThere) ∷ (b, why.BadName) ∷ (c, why.TooLarge) ∷ (d, why.TooDeep) ∷ (e, why.NameTaken) ∷ (f, why.Quota) ∷ []) ≡ None → (c ≡ false) × (e ≡ false) × (f ≡ false)
file_skips true b c d e f h = cc
file_skips false true c d e f h = cc
file_skips false false true d e f h = cc
file_skips false false false true e f h = cc
file_skips false false false false true f h = cc
file_skips false false false false false true h = cc
file_skips false false false false false false h = (refl, refl, refl)

dir_skips : (a b c d e : Bool) → first_of ((a, why.NotThere) ∷ (b, why.BadName) ∷ (c, why.TooDeep) ∷ (d, why.NameTaken) ∷ (e, why.Quota) ∷ []) ≡ None → d ≡ false
dir_skips true b c d e h = cc
dir_skips false true c d e h = cc
dir_skips false false true d e h = cc
dir_skips false false false true e h = cc
dir_skips false false false false e h = refl

move_skips : (a b c d e : Bool) → first_of ((a, why.NotThere) ∷ (b, why.BadName) ∷ (c, why.Loop) ∷ (d, why.TooDeep) ∷ (e, why.NameTaken) ∷ []) ≡ None → (a ≡ false) × (e ≡ false)
move_skips true b c d e h = cc
move_skips false true c d e h = cc
move_skips false false true d e h = cc
move_skips false false false true e h = cc
move_skips false false false false true h = cc
move_skips false false false false false h = (refl, refl)

pub skipped : {A : Type 0} (b : Bool) (x : A) (o : Option A) → cond b (Some x) o ≡ None → (b ≡ false) × (o ≡ None)
skipped true x o e = cc
skipped false x o e = (refl, e)

pub not_false : (b : Bool) → not b ≡ false → b ≡ true
not_false true e = refl
not_false false e = cc

pub or_false : (a b : Bool) → (a || b) ≡ false → (a ≡ false) × (b ≡ false)
or_false true b e = cc
or_false false b e = (refl, e)

pub within : (m n : ℕ) → nat_lt m n ≡ false → n ≤ m
within m n e = grind (arith, nat_tests)

-- a live directory is a directory
in_directory : (held : Held) (parent : Rid) → is_live_dir held parent ≡ true → says (λ s. s.directory) (stored_at held.items parent) ≡ true
in_directory held parent e = one (stored_at held.items parent) e where
  second : (a b : Bool) → (a && b) ≡ true → b ≡ true
  second true b h = h
  second false b h = let z : false ≡ true = h in cc

  one : (o : Option Stored) → says (λ s. s.live && s.directory) o ≡ true → says (λ s. s.directory) o ≡ true
  one None h = h
  one (Some s) h = second s.live s.directory h

pub record IsNewFile (held : Held) (parent : Rid) (name bytes : List ℕ) : Type 0 where
  pub inside : says (λ s. s.directory) (stored_at held.items parent) ≡ true
  pub small : length bytes ≤ 16777216
  pub free : is_taken held parent name no_rid ≡ false
  pub fits : sum_by held_len (with_new held parent name false (bytes ∷ [])) ≤ 536870912

pub new_file : (held : Held) (parent : Rid) (name bytes : List ℕ) → why_new_file held parent name bytes ≡ None → IsNewFile held parent name bytes
new_file held parent name bytes e =
    let after : List Stored = with_new held parent name false (bytes ∷ []) in
    let h = file_skips (not (is_live_dir held parent)) (not (is_name name)) (nat_lt 16777216 (length bytes)) (nat_le 32 (depth_of held parent)) (is_taken held parent name no_rid)
    (passes_bytes after || passes_items after) e in
    record { inside = in_directory held parent (not_false _ (skipped _ _ _ e).0); small = within 16777216 (length bytes) h.0; free = h.1; fits = within 536870912 (sum_by held_len after) (or_false (passes_bytes after) (passes_items after) h.2).0 }

pub new_dir : (held : Held) (parent : Rid) (name : List ℕ) → why_new_dir held parent name ≡ None → is_taken held parent name no_rid ≡ false
new_dir held parent name e = dir_skips (not (is_live_dir held parent)) (not (is_name name)) (nat_le 32 (depth_of held parent)) (is_taken held parent name no_rid)
    (passes_items (with_new held parent name true [])) e

pub dir_inside : (held : Held) (parent : Rid) (name : List ℕ) → why_new_dir held parent name ≡ None → says (λ s. s.directory) (stored_at held.items parent) ≡ true
dir_inside held parent name e = in_directory held parent (not_false _ (skipped _ _ _ e).0)

pub record IsNextVersion (held : Held) (rid : Rid) (bytes : List ℕ) : Type 0 where
  pub live : says (λ s. s.live) (stored_at held.items rid) ≡ true
  pub small : length bytes ≤ 16777216
  pub fits : sum_by held_len (with_version held rid bytes) ≤ 536870912

pub record IsPlace (held : Held) (rid parent : Rid) (name : List ℕ) : Type 0 where
  pub live : says (λ s. s.live) (stored_at held.items rid) ≡ true
  pub inside : says (λ s. s.directory) (stored_at held.items parent) ≡ true
  pub free : is_taken held parent name rid ≡ false

pub other_place : (held : Held) (rid parent : Rid) (name : List ℕ) → why_move held rid parent name ≡ None → IsPlace held rid parent name
other_place held rid parent name e =
    let h = move_skips ((rid.0 == 1) || not (is_live held rid) || not (is_live_dir held parent)) (not (is_name name)) ((parent.0 == rid.0) || is_under held parent rid)
    (nat_lt 32 (depth_of held parent + 1 + height_of held rid)) (is_taken held parent name rid) e in
    let both = or_false ((rid.0 == 1) || not (is_live held rid)) (not (is_live_dir held parent)) h.0 in
    let there = or_false (rid.0 == 1) (not (is_live held rid)) both.0 in
    record { live = not_false (is_live held rid) there.1; inside = in_directory held parent (not_false (is_live_dir held parent) both.1); free = h.1 }

pub removed : (held : Held) (rid : Rid) (expect : Version) → why_remove held rid expect ≡ None → says (λ s. s.live) (stored_at held.items rid) ≡ true
removed held rid expect e = not_false _ (or_false _ _ (skipped _ _ _ e).0).1

-- where a version is not refused for another cause

above : (m n : ℕ) → n ≤ m → nat_lt m n ≡ false
above m n le = grind (arith, nat_tests)

below : (m n : ℕ) → m < n → nat_lt m n ≡ true
below m n lt = grind (arith, nat_tests)

judged : (there large latest full : Bool) → there ≡ true → large ≡ false → latest ≡ true
    → first_of ((not there, why.NotThere) ∷ (large, why.TooLarge) ∷ (not latest, why.Conflict) ∷ (full, why.Quota) ∷ []) ≡ cond full (Some why.Quota) None
judged there large latest full a b c = rw (a, b, c) refl

module _ (held : Held) (rid : Rid) (expect : Version) (bytes : List ℕ) (there : is_live_file held rid ≡ true) (small : length bytes ≤ 16777216) (same : expect.0 ≡ (latest_at held rid).0)
    (n : ℕ) (total : n ≡ sum_by held_len (with_version held rid bytes)) where
  by_total : why_version held rid expect bytes ≡ cond (nat_lt 536870912 n) (Some why.Quota) None
  by_total = judged (is_live_file held rid) (nat_lt 16777216 (length bytes)) (expect.0 == (latest_at held rid).0) (passes_bytes (with_version held rid bytes))
      there (above 16777216 (length bytes) small) (eq-eqb expect.0 (latest_at held rid).0 same) ∙ ap (λ (k : ℕ). cond (nat_lt 536870912 k) (Some why.Quota) None) (sym total)

  pub version_full : 536870912 < n → Some why.Quota ≡ why_version held rid expect bytes
  version_full lt = sym (by_total ∙ ap (λ (b : Bool). cond b (Some why.Quota) None) (below 536870912 n lt))

  pub version_fits : n ≤ 536870912 → None ≡ why_version held rid expect bytes
  version_fits le = sym (by_total ∙ ap (λ (b : Bool). cond b (Some why.Quota) None) (above 536870912 n le))

-- of a name and a place that are told by other words

pub item_free : (items : List Stored) (parent p : Rid) (name n : List ℕ) (but : Rid) → p ≡ parent → n ≡ name
    → list_any (λ s. s.live && (s.parent.0 == parent.0) && same s.name name && not (s.rid.0 == but.0)) items ≡ false
    → list_any (λ s. s.live && (s.parent.0 == p.0) && same s.name n && not (s.rid.0 == but.0)) items ≡ false
item_free items parent p name n but a b h =
    subst (λ (x : Rid). list_any (λ s. s.live && (s.parent.0 == x.0) && same s.name n && not (s.rid.0 == but.0)) items ≡ false) (sym a)
    (subst (λ (x : List ℕ). list_any (λ s. s.live && (s.parent.0 == parent.0) && same s.name x && not (s.rid.0 == but.0)) items ≡ false) (sym b) h)

pub file_fits : (held : Held) (parent : Rid) (name bytes : List ℕ) (item : Stored) → item.versions ≡ bytes ∷ [] → item.least ≡ 1
    → sum_by held_len (with_new held parent name false (bytes ∷ [])) ≤ 536870912 → sum_by held_len held.items + held_len item ≤ 536870912
file_fits held parent name bytes item versions least fits =
    let made : Stored = record { rid = next_rid held; parent = parent; name = name; directory = false; live = true; versions = bytes ∷ []; least = 1; changed = held.clock + 1 } in
    let alike : held_len item ≡ held_len made = λ i. sum_by length (drop (least i - 1) (versions i)) in
    omega (arith, fits, sum_by_push held_len held.items made, alike)
