-- Items that match are alike by their paths too.
use Rattle.std.proofs.Common.{◌≡◌, ℕ, zero, suc, Bool, true, false, List, [], ◌∷◌, refl, sym, ◌∙◌, ap, subst, length, eq-eqb}
use Rattle.std.specs.Prelude.{Option, Some, not, map, filter, count_by, ◌+◌, ◌&&◌, ◌||◌, ◌==◌}
use Rattle.std.specs.Bool.{beq}
use Rattle.std.specs.List.{list_all, list_any}
use Rattle.std.proofs.lemmas.Bool.{eqb-true}
use Rattle.std.proofs.lemmas.List.Sums.{length-filter}
use Rattle.cf_base.specs.declared.ids.Rid.{Rid}
use Rattle.cf_model.specs.Books.{Tombstone}
use Rattle.cf_model.specs.Identities.{target_of}
use Rattle.cf_model.specs.Items.{Item, item_of, pin_of}
use Rattle.cf_model.specs.LookUp.{is_excluded, is_excluded_pin, item_line, line_up}
use Rattle.cf_model.specs.Numbers.{no_rid, root_rid}
use Rattle.cf_model.specs.Passes.{is_unsettled, unsettled}
use Rattle.cf_model.specs.Settled.{has_one_local, is_alike, is_latest, is_settled, is_settled_item, local_names, remote_names, same_names}
use Rattle.cf_model.specs.Skips.{in_use}
use Rattle.cf_model.specs.State.{State, book_now, items_now}
use Rattle.cf_model.specs.Store.{Held, Stored, line_of, stored_at}
use Rattle.cf_model.specs.Words.{is_empty, part, same, says}
use Rattle.cf_model_laws.specs.Invariant.{All}
use Rattle.cf_model_laws.proofs.FoundItems.{both, found_id}
use Rattle.cf_model_laws.proofs.Gathered.{all_weaker}
use Rattle.cf_model_laws.proofs.RightItems.{no_way, no_way_back}
use Rattle.cf_model_laws.proofs.SoundSettles.{left_true, right_true}
use Rattle.cf_model_convergence.specs.Matching.{IsAllHere, IsBelow, IsMatched, IsMatching}
use Rattle.cf_model_convergence.proofs.Lines.{no_line as no_above, same_rid}
use Rattle.cf_model_convergence.proofs.TidyItems.{found_rid}

-- the root

no_line : (items : List Item) (i : Item) → item_of items i.id ≡ Some i → i.id.0 ≡ 1 → item_line items i.id ≡ []
no_line items i found top = ap (λ (o : Option Item). line_up (length items) items o) found ∙ by (length items) where
  by : (fuel : ℕ) → line_up fuel items (Some i) ≡ []
  by zero = refl
  by (suc fuel) = rw (eq-eqb i.id.0 1 top) refl

root_line : (held : Held) → line_of held root_rid ≡ []
root_line held = no_above (length held.items) held.items root_rid refl

root_target : (i : Item) → i.id.0 ≡ 1 → target_of i ≡ root_rid
root_target i top = rw (eq-eqb i.id.0 1 top) refl

-- names

no_names : (f g : ℕ → List ℕ) (xs ys : List ℕ) → xs ≡ [] → ys ≡ [] → same_names (map f xs) (map g ys) ≡ true
no_names f g xs ys d e = rw (d, e) refl

more_names : (f g : ℕ → List ℕ) (x y : ℕ) (l m xs ys : List ℕ) → xs ≡ x ∷ l → ys ≡ y ∷ m → same (f x) (g y) ≡ true → same_names (map f l) (map g m) ≡ true → same_names (map f xs) (map g ys) ≡ true
more_names f g x y l m xs ys d e h k = rw (d, e) (both (same (f x) (g y)) (same_names (map f l) (map g m)) h k)

tail_of : (x y : ℕ) (xs ys : List ℕ) → x ∷ xs ≡ y ∷ ys → xs ≡ ys
tail_of x y xs ys e = cc

-- an item that is not excluded has no parent that is
not_excluded : (f : ℕ → Bool) (x : ℕ) (l xs : List ℕ) → xs ≡ x ∷ l → list_any f (1 ∷ xs) ≡ false → list_any f (1 ∷ l) ≡ false
not_excluded f x l xs e h = by (f 1) (f x) (list_any f l) (subst (λ (ys : List ℕ). list_any f (1 ∷ ys) ≡ false) e h) where
  by : (a b c : Bool) → (a || (b || c)) ≡ false → (a || c) ≡ false
  by true b c k = k
  by false true c k = no_way_back k
  by false false c k = k

module _ (s : State) (h : IsMatching s) where
  abbrev Alike : Item → Type 0
  Alike i = same_names (local_names (items_now s) i.id) (remote_names s.link.remote (target_of i)) ≡ true

  -- of each item with this line
  abbrev Follows : List ℕ → Type 0
  Follows line = (i : Item) → item_of (items_now s) i.id ≡ Some i → is_excluded (items_now s) i.id ≡ false → in_use s i.id ≡ false → item_line (items_now s) i.id ≡ line → Alike i

  at_root : (i : Item) → item_of (items_now s) i.id ≡ Some i → i.id.0 ≡ 1 → Alike i
  at_root i found top =
      no_names (λ k. part (λ (j : Item). j.name) [] (item_of (items_now s) (record { 0 = k }))) (λ k. part (λ (r : Stored). r.name) [] (stored_at s.link.remote.items (record { 0 = k }))) (item_line (items_now s) i.id) (line_of s.link.remote (target_of i))
      (no_line (items_now s) i found top) (ap (λ (rid : Rid). line_of s.link.remote rid) (root_target i top) ∙ root_line s.link.remote)

  below_root : (x : ℕ) (xs : List ℕ) → Follows xs → (i : Item) → IsBelow s i → is_excluded (items_now s) i.id ≡ false → in_use s i.id ≡ false → item_line (items_now s) i.id ≡ x ∷ xs → Alike i
  below_root x xs rest i below out idle line =
      let m : IsMatched s i = h.matched i below out idle in
      let p : (p : Item) × (item_of (items_now s) i.parent ≡ Some p) × (item_line (items_now s) i.id ≡ i.id.0 ∷ item_line (items_now s) p.id) = h.tree i below in
      let target : (target_of i).0 ≡ m.stored.rid.0 = sym (found_rid s.link.remote.items (target_of i) m.stored m.found) in
      let there : stored_at s.link.remote.items m.stored.rid ≡ Some m.stored = subst (λ (rid : Rid). stored_at s.link.remote.items rid ≡ Some m.stored) (same_rid (target_of i) m.stored.rid target) m.found in
      let lower : (m.stored.rid.0 ≡ 1) → ⊥ = λ top. h.one_root i below (target ∙ top) in
      let up : (target_of p.0).0 ≡ m.stored.parent.0 = ap (λ (o : Option Item). (part target_of no_rid o).0) (sym p.1) ∙ m.parent in
      let found : item_of (items_now s) p.0.id ≡ Some p.0 = ap (λ (k : ℕ). item_of (items_now s) (record { 0 = k })) (found_id i.parent (items_now s) p.0 p.1) ∙ p.1 in
      let above : Alike p.0 = rest p.0 found (not_excluded (λ k. is_excluded_pin (pin_of (items_now s) (record { 0 = k }))) i.id.0 (item_line (items_now s) p.0.id) (item_line (items_now s) i.id) p.2 out) (h.idle i p.0 below p.1) (tail_of i.id.0 x (item_line (items_now s) p.0.id) xs (sym p.2 ∙ line)) in
      more_names (λ k. part (λ (j : Item). j.name) [] (item_of (items_now s) (record { 0 = k }))) (λ k. part (λ (r : Stored). r.name) [] (stored_at s.link.remote.items (record { 0 = k }))) i.id.0 m.stored.rid.0
      (item_line (items_now s) p.0.id) (line_of s.link.remote m.stored.parent) (item_line (items_now s) i.id) (line_of s.link.remote (target_of i)) p.2
      (ap (λ (rid : Rid). line_of s.link.remote rid) (same_rid (target_of i) m.stored.rid target) ∙ h.remote_tree m.stored there m.live lower)
      (names i m.stored below.0 there m.name)
      (subst (λ (rid : Rid). same_names (local_names (items_now s) p.0.id) (remote_names s.link.remote rid) ≡ true) (same_rid (target_of p.0) m.stored.parent up) above)
    where
      names : (i : Item) (r : Stored) → item_of (items_now s) i.id ≡ Some i → stored_at s.link.remote.items r.rid ≡ Some r → same i.name r.name ≡ true
          → same (part (λ (j : Item). j.name) [] (item_of (items_now s) (record { 0 = i.id.0 }))) (part (λ (q : Stored). q.name) [] (stored_at s.link.remote.items (record { 0 = r.rid.0 }))) ≡ true
      names i r d e k = rw (d, e) k

  lower : (i : Item) → item_of (items_now s) i.id ≡ Some i → (i.id.0 == 1) ≡ false → IsBelow s i
  lower i found q = (found, λ z. no_way (sym q ∙ eq-eqb i.id.0 1 z))

  either_way : (x : ℕ) (xs : List ℕ) → Follows xs → Follows (x ∷ xs)
  either_way x xs rest i found out idle line = by (i.id.0 == 1) refl where
    by : (b : Bool) → (i.id.0 == 1) ≡ b → Alike i
    by true q = at_root i found (eqb-true i.id.0 1 q)
    by false q = below_root x xs rest i (lower i found q) out idle line

  no_way_up : Follows []
  no_way_up i found out idle line = by (i.id.0 == 1) refl where
    nothing : (x : ℕ) (xs : List ℕ) → x ∷ xs ≡ [] → ⊥
    nothing x xs z = cc

    by : (b : Bool) → (i.id.0 == 1) ≡ b → Alike i
    by true q = at_root i found (eqb-true i.id.0 1 q)
    by false q = let p = h.tree i (lower i found q) in absurd (nothing i.id.0 (item_line (items_now s) p.0.id) (sym p.2 ∙ line))

  same_paths : (line : List ℕ) → Follows line
  same_paths [] = no_way_up
  same_paths (x ∷ xs) = either_way x xs (same_paths xs)

  -- an item is settled

  alike : (i : Item) → IsBelow s i → is_excluded (items_now s) i.id ≡ false → in_use s i.id ≡ false → (i.in_sync && says (is_alike s i) (stored_at s.link.remote.items (target_of i))) ≡ true
  alike i below out idle =
      let m : IsMatched s i = h.matched i below out idle in
      let target : target_of i ≡ m.stored.rid = same_rid (target_of i) m.stored.rid (sym (found_rid s.link.remote.items (target_of i) m.stored m.found)) in
      let paths : same_names (local_names (items_now s) i.id) (remote_names s.link.remote m.stored.rid) ≡ true =
      subst (λ (rid : Rid). same_names (local_names (items_now s) i.id) (remote_names s.link.remote rid) ≡ true) target (same_paths (item_line (items_now s) i.id) i below.0 out idle refl) in
      both i.in_sync (says (is_alike s i) (stored_at s.link.remote.items (target_of i))) m.in_sync
      (subst (λ (o : Option Stored). says (is_alike s i) o ≡ true) (sym m.found)
      (all_four m.stored.live (beq m.stored.directory i.directory) (same_names (local_names (items_now s) i.id) (remote_names s.link.remote m.stored.rid)) i.directory (is_latest i m.stored) m.live (alike_kind m.stored.directory i.directory m.kind) paths m.latest))
    where
      alike_kind : (a b : Bool) → a ≡ b → beq a b ≡ true
      alike_kind true true e = refl
      alike_kind false false e = refl
      alike_kind true false e = no_way_back e
      alike_kind false true e = no_way e

      all_four : (a b c d e : Bool) → a ≡ true → b ≡ true → c ≡ true → (d ≡ false → e ≡ true) → (a && b && c && (d || e)) ≡ true
      all_four true true true true e j k l m = refl
      all_four true true true false e j k l m = m refl
      all_four false b c d e j k l m = no_way j
      all_four true false c d e j k l m = no_way k
      all_four true true false d e j k l m = no_way l

  settled_item : (i : Item) → item_of (items_now s) i.id ≡ Some i → is_settled_item s i ≡ true
  settled_item i found = by (i.id.0 == 1) (is_excluded (items_now s) i.id) (in_use s i.id) refl refl refl where
    by : (a b c : Bool) → (i.id.0 == 1) ≡ a → is_excluded (items_now s) i.id ≡ b → in_use s i.id ≡ c → (a || b || c || (i.in_sync && says (is_alike s i) (stored_at s.link.remote.items (target_of i)))) ≡ true
    by true b c d e f = refl
    by false true c d e f = refl
    by false false true d e f = refl
    by false false false d e f = alike i (lower i found d) e f

-- lists

passes : {A : Type 0} (f : A → Bool) (xs : List A) → All (λ x. f x ≡ true) xs → list_all f xs ≡ true
passes f [] h = refl
passes f (x ∷ xs) h = both (f x) (list_all f xs) h.0 (passes f xs h.1)

pub passed : {A : Type 0} (f : A → Bool) (xs : List A) → list_all f xs ≡ true → All (λ x. f x ≡ true) xs
passed f [] h = tt
passed f (x ∷ xs) h = (left_true (f x) (list_all f xs) h, passed f xs (right_true (f x) (list_all f xs) h))

none_counted : {A : Type 0} (f : A → Bool) (xs : List A) → All (λ x. f x ≡ false) xs → count_by f xs ≡ 0
none_counted f xs h = sym (length-filter f xs) ∙ ap (λ (ys : List _). length ys) (none xs h) where
  none : (ys : List _) → All (λ x. f x ≡ false) ys → filter f ys ≡ []
  none [] h = refl
  none (y ∷ ys) h = rw h.0 (none ys h.1)

-- the laws

settled_by : (b : Bool) (s : State) → IsMatching s → (b ≡ true → list_all (has_one_local s) s.link.remote.items ≡ true) → is_settled b s ≡ true
settled_by b s h all = three b (is_empty (book_now s).tombstones) (list_all (is_settled_item s) (items_now s)) (list_all (has_one_local s) s.link.remote.items) (ap (λ (ts : List Tombstone). is_empty ts) h.buried) (passes (is_settled_item s) (items_now s) (all_weaker (λ i. item_of (items_now s) i.id ≡ Some i) (λ i. is_settled_item s i ≡ true) (settled_item s h) (items_now s) h.found)) all where
  three : (b x y z : Bool) → x ≡ true → y ≡ true → (b ≡ true → z ≡ true) → (x && y && (not b || z)) ≡ true
  three true true true z d e f = f refl
  three false true true z d e f = refl
  three b false y z d e f = no_way d
  three b true false z d e f = no_way e

pub matching_settled : (s : State) → IsMatching s → is_settled false s ≡ true
matching_settled s h = settled_by false s h (λ z. no_way z)

pub all_settled : (s : State) → IsMatching s → IsAllHere s → is_settled true s ≡ true
all_settled s h all = settled_by true s h (λ z. passes (has_one_local s) s.link.remote.items all)

pub settled_none : (populated : Bool) (s : State) → is_settled populated s ≡ true → unsettled s ≡ 0
settled_none populated s h =
    let front : (is_empty (book_now s).tombstones && list_all (is_settled_item s) (items_now s)) ≡ true = left_true (is_empty (book_now s).tombstones && list_all (is_settled_item s) (items_now s)) (not populated || list_all (has_one_local s) s.link.remote.items) h in
    both_none (length (book_now s).tombstones) (count_by (is_unsettled s) (items_now s))
    (no_length (book_now s).tombstones (left_true (is_empty (book_now s).tombstones) (list_all (is_settled_item s) (items_now s)) front))
    (none_counted (is_unsettled s) (items_now s) (all_weaker (λ i. is_settled_item s i ≡ true) (λ i. is_unsettled s i ≡ false) (λ i k. in_sync (i.id.0 == 1) (is_excluded (items_now s) i.id) (in_use s i.id) i.in_sync (says (is_alike s i) (stored_at s.link.remote.items (target_of i))) k) (items_now s)
    (passed (is_settled_item s) (items_now s) (right_true (is_empty (book_now s).tombstones) (list_all (is_settled_item s) (items_now s)) front))))
  where
    both_none : (a b : ℕ) → a ≡ 0 → b ≡ 0 → a + b ≡ 0
    both_none a b d e = rw (d, e) refl

    no_length : (ts : List Tombstone) → is_empty ts ≡ true → length ts ≡ 0
    no_length [] e = refl
    no_length (t ∷ ts) e = no_way e

    in_sync : (a b c d e : Bool) → (a || b || c || (d && e)) ≡ true → (not a && not d && not c && not b) ≡ false
    in_sync true b c d e k = refl
    in_sync false b c true e k = refl
    in_sync false b true false e k = refl
    in_sync false true false false e k = refl
    in_sync false false false false e k = no_way k
