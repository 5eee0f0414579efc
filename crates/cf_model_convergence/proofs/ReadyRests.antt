-- Where a pass found nothing to upload, all that is known is settled.
use Rattle.std.proofs.Common.{◌≡◌, ◌⊎◌, ◌<◌, ◌≤◌, ◌+◌, ℕ, zero, suc, Bool, true, false, List, [], ◌∷◌, refl, sym, ◌∙◌, ap, subst, inl, inr, arith, length}
use Rattle.std.specs.Prelude.{Option, Some, None, cond, find, not, take, ◌||◌, ◌&&◌, ◌==◌}
use Rattle.std.specs.List.{list_any}
use Rattle.std.proofs.lemmas.Bool.{eqb-true}
use Rattle.std.proofs.lemmas.Bool.Decides.{nat_tests}
use Rattle.cf_base.specs.declared.ids.ItemId.{ItemId}
use Rattle.cf_base.specs.declared.ids.Rid.{Rid}
use Rattle.cf_base.specs.declared.ids.Usn.{Usn}
use Rattle.cf_model.specs.Books.{QueueEntry, Tombstone, tombstone_of}
use Rattle.cf_model.specs.Growth.{CountsFrom}
use Rattle.cf_model.specs.Identities.{is_untargeted, parent_target, target_of}
use Rattle.cf_model.specs.Items.{Item, item_of, pin_of}
use Rattle.cf_model.specs.LookUp.{is_excluded, is_excluded_pin, item_line}
use Rattle.cf_model.specs.Messages.{no_number}
use Rattle.cf_model.specs.Numbers.{no_rid, root_rid, same_usn, no_key, same_key}
use Rattle.cf_model.specs.PushReplies.{has_item, has_number}
use Rattle.cf_model.specs.Pushes.{has_entry, has_rid_entry, is_left_out, is_tombstone_left_out, push_all, is_hydrating}
use Rattle.cf_model.specs.Settled.{is_settled}
use Rattle.cf_model.specs.State.{State, book_now, items_now}
use Rattle.cf_model.specs.Store.{Stored, stored_at}
use Rattle.cf_model.specs.Words.{number_of, part, says}
use Rattle.cf_model_laws.specs.Invariant.{All, InOrder, Invariant, IsRight}
use Rattle.cf_model_laws.specs.Premises.{IsFair}
use Rattle.cf_model.specs.Changes.{next_number}
use Rattle.cf_model_laws.proofs.FoundItems.{found_id}
use Rattle.cf_model_laws.proofs.Gathered.{all_found, all_weaker}
use Rattle.cf_model_laws.proofs.RightItems.{no_way, no_way_back}
use Rattle.cf_model_laws.proofs.SoundSettles.{same_item}
use Rattle.cf_model_convergence.specs.Lasting.{IsTargetedWell}
use Rattle.cf_model_convergence.specs.Matching.{IsBelow}
use Rattle.cf_model_convergence.specs.Ready.{IsReady}
use Rattle.cf_model_convergence.specs.Resting.{AreAllTargets, IsAtRest, IsRested, IsTargetOf, IsTargetRight}
use Rattle.cf_model_convergence.specs.Telling.{AreWhole, IsAside, IsIdle, IsListening, IsTold}
use Rattle.cf_model_convergence.proofs.PushesIdle.{pushes_told}
use Rattle.cf_model_convergence.proofs.RestingMatches.{rest_settled}
use Rattle.cf_model_convergence.proofs.RightTargets.{aimed_right}
use Rattle.cf_model_convergence.proofs.TargetsHere.{rest_whole}
use Rattle.cf_model.specs.Requests.{is_hydrate_wait}
use Rattle.cf_model.specs.Skips.{in_use}
use Rattle.cf_model.specs.Missing.{Wait}
use Rattle.cf_model.specs.Trees.{Ends}

-- the rids of a remote begin at 1
pub nothing : (items : List Stored) (n : ℕ) → CountsFrom n items → (x : Rid) (r : Stored) → x.0 ≡ 0 → stored_at items x ≡ Some r → 1 ≤ n → ⊥
nothing [] n c x r z e k = let y : ◌≡◌ {A = Option Stored} None (Some r) = e in cc
nothing (s ∷ items) n c x r z e k = by (s.rid.0 == x.0) refl e (λ w. nothing items (n + 1) c.1 x r z w (up n k)) where
  up : (n : ℕ) → 1 ≤ n → 1 ≤ n + 1
  up n k = omega (arith, k)

  differ : (a b n : ℕ) → a ≡ n → 1 ≤ n → b ≡ 0 → a ≡ b → ⊥
  differ a b n p q w y = omega (arith, p, q, w, y)

  by : (b : Bool) → (s.rid.0 == x.0) ≡ b → cond b (Some s) (stored_at items x) ≡ Some r → (stored_at items x ≡ Some r → ⊥) → ⊥
  by true q w more = differ s.rid.0 x.0 n c.0 k z (eqb-true s.rid.0 x.0 q)
  by false q w more = more w

-- each item is found under its id
found_all : (low next : ℕ) (items : List Item) → InOrder low next items → All (λ i. (item_of items i.id ≡ Some i) × (low < i.id.0)) items
found_all low next [] h = tt
found_all low next (i ∷ is) h = ((here (i.id.0 == i.id.0) (same i.id.0), h.0), all_weaker (λ j. (item_of is j.id ≡ Some j) × (i.id.0 < j.id.0)) (λ j. (item_of (i ∷ is) j.id ≡ Some j) × (low < j.id.0)) (λ j k. (past j k.0 k.1, less low i.id.0 j.id.0 h.0 k.1)) is (found_all i.id.0 next is h.1)) where
  same : (n : ℕ) → (n == n) ≡ true
  same n = grind (arith, nat_tests)

  here : (b : Bool) → b ≡ true → cond b (Some i) (item_of is i.id) ≡ Some i
  here true z = refl
  here false z = no_way z

  less : (a b c : ℕ) → a < b → b < c → a < c
  less a b c h k = omega (arith, h, k)

  apart : (a b : ℕ) → a < b → (a == b) ≡ false
  apart a b h = grind (arith, nat_tests, h)

  past : (j : Item) → item_of is j.id ≡ Some j → i.id.0 < j.id.0 → item_of (i ∷ is) j.id ≡ Some j
  past j e k = by (i.id.0 == j.id.0) (apart i.id.0 j.id.0 k) where
    by : (b : Bool) → b ≡ false → cond b (Some i) (item_of is j.id) ≡ Some j
    by true z = no_way_back z
    by false z = e

either : (a b : Bool) → (a || b) ≡ true → a ≡ false → b ≡ true
either true b e z = no_way_back z
either false b e z = e

any_tail : (f : ℕ → Bool) (a b : ℕ) (ks : List ℕ) → list_any f (a ∷ b ∷ ks) ≡ false → list_any f (a ∷ ks) ≡ false
any_tail f a b ks e = by (f a) (f b) e where
  by : (x y : Bool) → (x || (y || list_any f ks)) ≡ false → (x || list_any f ks) ≡ false
  by true y z = no_way_back z
  by false true z = no_way_back z
  by false false z = z

module _ (s : State) (h : Invariant s) (fair : IsFair s.link) (ready : IsReady s) (t : State) (idle : IsIdle s t) where
  found : All (λ i. item_of (items_now s) i.id ≡ Some i) (items_now s)
  found = all_weaker (λ i. (item_of (items_now s) i.id ≡ Some i) × (0 < i.id.0)) (λ i. item_of (items_now s) i.id ≡ Some i) (λ i k. k.0) (items_now s) (found_all 0 s.filter.volume.next_item.0 (items_now s) (h.1 fair).now.order)

  judged : (i : Item) → IsBelow s i → IsAside s i
  judged i below = (all_found (λ j. (k : Item) → item_of (items_now s) j.id ≡ Some k → IsAside s k) (λ j. j.id.0 == i.id.0) (items_now s) i below.0 idle.items).0 i below.0

  -- no upload is on its way, and nothing is held back
  no_entry : (item : ItemId) → has_entry s item ≡ false
  no_entry item = subst (λ (es : List QueueEntry). list_any (λ e. e.item.0 == item.0) es ≡ false) (sym ready.none) refl

  no_item : (item : ItemId) → has_item s.volatile.held_items item ≡ false
  no_item item = subst (λ (is : List ItemId). has_item is item ≡ false) (sym ready.items_free) refl

  not_root : (i : Item) → ((i.id.0 ≡ 1) → ⊥) → (i.id.0 == 1) ≡ false
  not_root i low = by (i.id.0 == 1) refl where
    by : (b : Bool) → (i.id.0 == 1) ≡ b → b ≡ false
    by true q = absurd (low (eqb-true i.id.0 1 q))
    by false q = refl

  -- what is left out has a parent without a target
  bare_parent : (i : Item) → IsBelow s i → is_excluded (items_now s) i.id ≡ false → is_left_out s i ≡ true → ((parent_target (items_now s) i).0 == 0) ≡ true
  bare_parent i below out e =
      either ((i.id.0 == 1) || has_entry s i.id || has_item s.volatile.held_items i.id || is_excluded (items_now s) i.id) ((parent_target (items_now s) i).0 == 0) e
      (none (i.id.0 == 1) (has_entry s i.id) (has_item s.volatile.held_items i.id) (is_excluded (items_now s) i.id) (not_root i below.1) (no_entry i.id) (no_item i.id) out) where
        none : (a b c d : Bool) → a ≡ false → b ≡ false → c ≡ false → d ≡ false → (a || b || c || d) ≡ false
        none true b c d w x y z = w
        none false true c d w x y z = x
        none false false true d w x y z = y
        none false false false d w x y z = z

  target_some : (p : Item) → (((p.id.0 ≡ 1) → ⊥) → is_untargeted p ≡ false) → ((target_of p).0 == 0) ≡ false
  target_some p below = by (p.id.0 == 1) refl where
    by : (b : Bool) → (p.id.0 == 1) ≡ b → ((target_of p).0 == 0) ≡ false
    by true q = root b_is where
      b_is : (p.id.0 == 1) ≡ true
      b_is = q

      root : (p.id.0 == 1) ≡ true → ((target_of p).0 == 0) ≡ false
      root z = ap (λ (c : Bool). (cond c root_rid (record { 0 = number_of (take 8 p.identity) })).0 == 0) z
    by false q = below (λ z. differ p.id.0 z q) where
      differ : (n : ℕ) → n ≡ 1 → (n == 1) ≡ false → ⊥
      differ n z q = grind (arith, nat_tests, z, q)

  -- what is waited for is in use
  busy : (item : ItemId) → is_hydrating item s ≡ true → in_use s item ≡ true
  busy item e = either_true (list_any (λ o. o.item.0 == item.0) s.filter.handles) (list_any (λ w. (w.item.0 == item.0) && not (same_key w.id.0 no_key)) s.filter.waiting.waits) (any s.filter.waiting.waits (h.1 fair).numbered e) where
    either_true : (a b : Bool) → b ≡ true → (a || b) ≡ true
    either_true true b z = refl
    either_true false b z = z

    any : (ws : List Wait) → All (λ w. same_key w.id.0 no_key ≡ false) ws → list_any (λ w. is_hydrate_wait w.kind && (w.item.0 == item.0)) ws ≡ true → list_any (λ w. (w.item.0 == item.0) && not (same_key w.id.0 no_key)) ws ≡ true
    any [] k z = z
    any (w ∷ ws) k z = one (is_hydrate_wait w.kind) (w.item.0 == item.0) (same_key w.id.0 no_key) k.0 z (any ws k.1) where
      one : (a b c : Bool) → c ≡ false → ((a && b) || list_any (λ v. is_hydrate_wait v.kind && (v.item.0 == item.0)) ws) ≡ true → (list_any (λ v. is_hydrate_wait v.kind && (v.item.0 == item.0)) ws ≡ true → list_any (λ v. (v.item.0 == item.0) && not (same_key v.id.0 no_key)) ws ≡ true)
          → ((b && not c) || list_any (λ v. (v.item.0 == item.0) && not (same_key v.id.0 no_key)) ws) ≡ true
      one a true true q z more = no_way_back q
      one a true false q z more = refl
      one true false c q z more = more z
      one false false c q z more = more z

  rests : (n : ℕ) (i : Item) → length (item_line (items_now s) i.id) ≤ n → IsBelow s i → is_excluded (items_now s) i.id ≡ false → in_use s i.id ≡ false → IsRested s i
  rests zero i few below out unused = absurd (none (length (item_line (items_now s) i.id)) few (ap (λ (ks : List ℕ). length ks) (ready.tree i below).2)) where
    none : (k : ℕ) {m : ℕ} → k ≤ 0 → k ≡ suc m → ⊥
    none k {m} a b = omega (arith, a, b)
  rests (suc n) i few below out unused = by (judged i below) (λ p below2 few2 out2 unused2. rests n p few2 below2 out2 unused2) where
    up : (p : Item) × (item_of (items_now s) i.parent ≡ Some p) × (item_line (items_now s) i.id ≡ i.id.0 ∷ item_line (items_now s) p.id)
    up = ready.tree i below

    parent_found : item_of (items_now s) up.0.id ≡ Some up.0
    parent_found = subst (λ (x : ItemId). item_of (items_now s) x ≡ Some up.0) (sym (same_item up.0.id i.parent (found_id i.parent (items_now s) up.0 up.1))) up.1

    fewer : (a b m : ℕ) → a ≤ suc m → a ≡ suc b → b ≤ m
    fewer a b m x y = omega (arith, x, y)

    few_up : length (item_line (items_now s) up.0.id) ≤ n
    few_up = fewer (length (item_line (items_now s) i.id)) (length (item_line (items_now s) up.0.id)) n few (ap (λ (ks : List ℕ). length ks) up.2)

    out_up : is_excluded (items_now s) up.0.id ≡ false
    out_up =
        any_tail (λ k. is_excluded_pin (pin_of (items_now s) (record { 0 = k }))) 1 i.id.0 (item_line (items_now s) up.0.id)
        (subst (λ (ks : List ℕ). list_any (λ k. is_excluded_pin (pin_of (items_now s) (record { 0 = k }))) (1 ∷ ks) ≡ false) up.2 out)

    by : IsAside s i → ((p : Item) → IsBelow s p → length (item_line (items_now s) p.id) ≤ n → is_excluded (items_now s) p.id ≡ false → in_use s p.id ≡ false → IsRested s p) → IsRested s i
    by (inr (inl k)) more = k
    by (inr (inr k)) more = no_way (sym unused ∙ busy i.id k)
    by (inl e) more =
        no_way (sym (target_some up.0 (λ low. (more up.0 (parent_found, low) few_up out_up (ready.idle i up.0 below up.1)).target))
        ∙ sym (ap (λ (o : Option Item). (part target_of no_rid o).0 == 0) up.1) ∙ bare_parent i below out e)

  all_under : (n : ℕ) → n ≤ n
  all_under n = omega arith

  buried : (book_now s).tombstones ≡ []
  buried = by (book_now s).tombstones refl idle.tombstones where
    same : (n : Usn) → same_usn n n ≡ true
    same n = both (n.epoch == n.epoch) (n.place == n.place) (grind (arith, nat_tests)) (grind (arith, nat_tests)) where
      both : (a b : Bool) → a ≡ true → b ≡ true → (a && b) ≡ true
      both true b e z = z
      both false b e z = no_way e

    equal : (n : ℕ) → (n == n) ≡ true
    equal n = grind (arith, nat_tests)

    shown : (x : Tombstone) (b : Bool) (o : Option Tombstone) → b ≡ true → says (λ u. u.rid.0 == x.rid.0) (cond b (Some x) o) ≡ true
    shown x true o z = equal x.rid.0
    shown x false o z = no_way z

    three : (a b c : Bool) → a ≡ true → b ≡ false → c ≡ false → (not a || b || c) ≡ false
    three true b c x y z = by2 b c y z where
      by2 : (b c : Bool) → b ≡ false → c ≡ false → (b || c) ≡ false
      by2 true c y z = y
      by2 false c y z = z
    three false b c x y z = no_way x

    by : (ts : List Tombstone) → (book_now s).tombstones ≡ ts → All (λ x. is_tombstone_left_out s x ≡ true) ts → ts ≡ []
    by [] e k = refl
    by (x ∷ ts) e k =
        no_way (sym (three (says (λ u. u.rid.0 == x.rid.0) (tombstone_of (book_now s) x.number)) (has_rid_entry s x) (has_number s.volatile.held_tombstones x.number)
        (subst (λ (us : List Tombstone). says (λ u. u.rid.0 == x.rid.0) (find (λ u. same_usn u.number x.number) us) ≡ true) (sym e) (shown x (same_usn x.number x.number) _ (same x.number)))
        (subst (λ (es : List QueueEntry). list_any (λ q. q.rid.0 == x.rid.0) es ≡ false) (sym ready.none) refl)
        (subst (λ (ns : List Usn). has_number ns x.number ≡ false) (sym ready.tombstones_free) refl)) ∙ k.0)

  targeted : (i : Item) → IsBelow s i → IsTargetedWell s.link.remote i
  targeted i below = aimed_right s.link.remote i (all_found (IsRight s.link.remote (next_number s.filter.volume)) (λ j. j.id.0 == i.id.0) (items_now s) i below.0 (h.1 fair).now.right).0.aimed below.1

  pub at_rest : IsAtRest s
  at_rest = record {
    tidy = ready.tidy;
    found = found;
    tree = ready.tree;
    one_root = λ i below e. one i (targeted i below) e;
    there = λ i below some. there i some (targeted i below);
    right = λ i r below target. right i r target (targeted i below);
    passed = ready.passed;
    rested = λ i below out idle2. rests (length (item_line (items_now s) i.id)) i (all_under (length (item_line (items_now s) i.id))) below out idle2;
    ahead = λ i r below out idle2 target late. ready.ahead i r below idle2 target late;
    idle = ready.idle;
    buried = buried;
  }
    where
      zero_one : (n : ℕ) → n ≡ 0 → n ≡ 1 → ⊥
      zero_one n a b = omega (arith, a, b)

      zero_is : (n : ℕ) → n ≡ 0 → (n == 0) ≡ false → ⊥
      zero_is n a b = grind (arith, nat_tests, a, b)

      one : (i : Item) → IsTargetedWell s.link.remote i → (target_of i).0 ≡ 1 → ⊥
      one i (inl z) e = zero_one (target_of i).0 z e
      one i (inr k) e = k.3 e

      there : (i : Item) → is_untargeted i ≡ false → IsTargetedWell s.link.remote i → (r : Stored) × IsTargetOf s i r
      there i some (inl z) = absurd (zero_is (target_of i).0 z some)
      there i some (inr k) = (k.0, k.1)

      same : (a b : Stored) → ◌≡◌ {A = Option Stored} (Some a) (Some b) → a ≡ b
      same a b e = cc

      right : (i : Item) (r : Stored) → IsTargetOf s i r → IsTargetedWell s.link.remote i → IsTargetRight i r
      right i r target (inr k) = subst (IsTargetRight i) (same k.0 r (sym k.1 ∙ target)) k.2
      right i r target (inl z) = none (target_of i) z target where
        none : (x : Rid) → x.0 ≡ 0 → stored_at s.link.remote.items x ≡ Some r → IsTargetRight i r
        none x z e = absurd (nothing s.link.remote.items 1 (ready.tidy.counted) x r z e (low 1)) where
          low : (n : ℕ) → n ≤ n
          low n = omega arith

pub ready_settled : (s : State) (u : Unit {0}) (t : State) → Invariant s → IsFair s.link → IsListening s → AreWhole s → IsReady s → Ends (push_all s) u t → no_number t ≡ false → IsTold s t ⊎ (is_settled false t ≡ true)
ready_settled s u t h fair listening whole ready ends left = by (pushes_told s u t h fair listening whole ends left) where
  by : IsTold s t ⊎ IsIdle s t → IsTold s t ⊎ (is_settled false t ≡ true)
  by (inl k) = inl k
  by (inr k) = inr (subst (λ (x : State). is_settled false x ≡ true) (sym k.same) (rest_settled s (at_rest s h fair ready t k)))

pub ready_whole : (s : State) (u : Unit {0}) (t : State) → Invariant s → IsFair s.link → IsListening s → AreWhole s → IsReady s → AreAllTargets s → Ends (push_all s) u t → no_number t ≡ false → IsTold s t ⊎ (is_settled true t ≡ true)
ready_whole s u t h fair listening whole ready all ends left = by (pushes_told s u t h fair listening whole ends left) where
  by : IsTold s t ⊎ IsIdle s t → IsTold s t ⊎ (is_settled true t ≡ true)
  by (inl k) = inl k
  by (inr k) = inr (subst (λ (x : State). is_settled true x ≡ true) (sym k.same) (rest_whole s (at_rest s h fair ready t k) all))
