-- The entries of a feed that asks after the cursor are seated when it is given.
use Rattle.std.proofs.Common.{◌≡◌, ◌⊎◌, ◌<◌, ◌≤◌, ℕ, Bool, true, false, List, [], ◌∷◌, refl, sym, ◌∙◌, ap, subst, inl, inr, arith, eq-eqb}
use Rattle.std.specs.Prelude.{Some, cond, filter, nat_lt, ◌&&◌, ◌==◌}
use Rattle.std.proofs.lemmas.Bool.{eqb-true}
use Rattle.cf_base.specs.declared.ids.Rid.{Rid}
use Rattle.cf_base.specs.declared.ids.Usn.{Usn}
use Rattle.cf_base.specs.declared.messages.Entry.{Entry}
use Rattle.cf_model.specs.Books.{Book}
use Rattle.cf_model.specs.Identities.{has_target, target_of}
use Rattle.cf_model.specs.Items.{Item, item_of}
use Rattle.cf_model.specs.Numbers.{root_id, root_rid}
use Rattle.cf_model.specs.Store.{Held, Stored, entry_told, feed_of, stored_at}
use Rattle.cf_model_laws.specs.Invariant.{All, Among, IsRight, target_in}
use Rattle.cf_model_laws.proofs.FoundItems.{found_id}
use Rattle.cf_model_laws.proofs.Gathered.{all_found, all_in, all_weaker}
use Rattle.cf_model_laws.proofs.RightItems.{no_way}
use Rattle.cf_model_laws.proofs.SoundSettles.{left_true, right_true}
use Rattle.cf_model_convergence.specs.Feeds.{AreParentsFirst, HasParent, TellsNow}
use Rattle.cf_model_convergence.specs.Lasting.{IsTargetedWell}
use Rattle.cf_model_convergence.specs.Tidy.{IsLower, IsTidy, IsTidyItem}
use Rattle.cf_model_convergence.proofs.FeedsOrder.{parents_first}
use Rattle.cf_model_convergence.proofs.FeedsTold.{all_among, tells_now}
use Rattle.cf_model_convergence.proofs.Lines.{one_some, same_rid}
use Rattle.cf_model_convergence.proofs.ReadyRests.{nothing}
use Rattle.cf_model_convergence.proofs.RightTargets.{aimed_right}
use Rattle.cf_model_convergence.proofs.TidyItems.{found_rid, said}
use Rattle.cf_model_populated.specs.Accounted.{AreAccountedFor, IsAccountedFor, IsHereOrBuried, buries_directory}
use Rattle.cf_model_arrivals.specs.Buried.{AreBuriedRight, IsOfKindBuried}
use Rattle.cf_model_arrivals.specs.Kept.{AreKept, IsKept}
use Rattle.cf_model_arrivals.specs.Seated.{AreSeated, AreSeats}
use Rattle.cf_model_arrivals.proofs.AccountedChanges.{none_among}

-- each seat, by these directories and the entries before
abbrev FirstSeat : List (ℕ × Bool) → List Entry → Entry → Type 0
FirstSeat outs before e = ((e.parent.0 ≡ 0) → ⊥) × (Among (e.parent.0, true) outs ⊎ ((d : Entry) × Among d before × (d.live ≡ true) × (d.dir ≡ true) × (d.rid.0 ≡ e.parent.0)))

abbrev FirstSeats : List (ℕ × Bool) → List Entry → List Entry → Type 0
FirstSeats outs before [] = Unit {0}
FirstSeats outs before (e ∷ es) = (e.live ≡ true → FirstSeat outs before e) × FirstSeats outs (e ∷ before) es

one_more : (outs : List (ℕ × Bool)) (k : ℕ × Bool) (before es : List Entry) → FirstSeats outs before es → FirstSeats (k ∷ outs) before es
one_more outs k before [] h = tt
one_more outs k before (e ∷ es) h = ((λ live. let z = h.0 live in (z.0, more z.1)), one_more outs k (e ∷ before) es h.1) where
  more : Among (e.parent.0, true) outs ⊎ ((d : Entry) × Among d before × (d.live ≡ true) × (d.dir ≡ true) × (d.rid.0 ≡ e.parent.0)) → Among (e.parent.0, true) (k ∷ outs) ⊎ ((d : Entry) × Among d before × (d.live ≡ true) × (d.dir ≡ true) × (d.rid.0 ≡ e.parent.0))
  more (inl z) = inl (inr z)
  more (inr z) = inr z

seats_of : (outs ks : List (ℕ × Bool)) → ((k : ℕ × Bool) → Among k outs → Among k ks) → (before es : List Entry) → ((d : Entry) → Among d before → d.live ≡ true → Among (d.rid.0, d.dir) ks) → FirstSeats outs before es → AreSeats ks (filter (λ e. e.live) es)
seats_of outs ks incl before [] told h = tt
seats_of outs ks incl before (e ∷ es) told h =
    by e.live refl (λ live. seats_of outs ((e.rid.0, e.dir) ∷ ks) (λ k a. inr (incl k a)) (e ∷ before) es (told_more live) h.1) (λ dead. seats_of outs ks incl (e ∷ before) es (told_same dead) h.1) where
      told_more : e.live ≡ true → (d : Entry) → (e ≡ d) ⊎ Among d before → d.live ≡ true → Among (d.rid.0, d.dir) ((e.rid.0, e.dir) ∷ ks)
      told_more live d (inl z) q = inl (ap (λ (x : Entry). (x.rid.0, x.dir)) z)
      told_more live d (inr z) q = inr (told d z q)

      told_same : e.live ≡ false → (d : Entry) → (e ≡ d) ⊎ Among d before → d.live ≡ true → Among (d.rid.0, d.dir) ks
      told_same dead d (inl z) q = no_way (sym dead ∙ ap (λ (x : Entry). x.live) z ∙ q)
      told_same dead d (inr z) q = told d z q

      seat : Among (e.parent.0, true) outs ⊎ ((d : Entry) × Among d before × (d.live ≡ true) × (d.dir ≡ true) × (d.rid.0 ≡ e.parent.0)) → Among (e.parent.0, true) ks
      seat (inl z) = incl (e.parent.0, true) z
      seat (inr z) = subst (λ (n : ℕ). Among (n, true) ks) z.4 (subst (λ (b : Bool). Among (z.0.rid.0, b) ks) z.3 (told z.0 z.1 z.2))

      by : (b : Bool) → e.live ≡ b → (e.live ≡ true → AreSeats ((e.rid.0, e.dir) ∷ ks) (filter (λ x. x.live) es)) → (e.live ≡ false → AreSeats ks (filter (λ x. x.live) es)) → AreSeats ks (cond b (e ∷ filter (λ x. x.live) es) (filter (λ x. x.live) es))
      by true q alive dead = let z = h.0 q in (z.0, seat z.1, alive q)
      by false q alive dead = dead q

module _ (r : Held) (tidy : IsTidy r) (n : Usn) (items : List Item) (b : Book) (right : All (IsRight r n) items) (root : (i : Item) × (item_of items root_id ≡ Some i) × (i.directory ≡ true)) (account : AreAccountedFor r items b) (none : buries_directory b ≡ false) (buried : AreBuriedRight r items b) where
  least : (k : ℕ) → k ≤ k
  least k = omega arith

  -- the root is here
  root_target : (i : Item) → i.id.0 ≡ 1 → (target_of i).0 ≡ 1
  root_target i z = by (i.id.0 == 1) (eq-eqb i.id.0 1 z) where
    by : (c : Bool) → c ≡ true → (cond c root_rid (target_in i.identity)).0 ≡ 1
    by true q = refl
    by false q = no_way q

  root_kept : (rid : ℕ) → rid ≡ 1 → IsKept items rid true
  root_kept rid z = (root.0, (all_found (λ x. Among x items) (λ x. x.id.0 == root_id.0) items root.0 root.1 (all_in items)).0, root_target root.0 (found_id root_id items root.0 root.1) ∙ sym z, root.2)

  -- a directory that the cursor has passed is here
  held_kept : (p : Stored) → stored_at r.items p.rid ≡ Some p → IsLower p → p.directory ≡ true → (i : Item) → Among i items → has_target i p.rid ≡ true → IsKept items p.rid.0 true
  held_kept p stored low dir i among target = (i, among, aim, by (aimed_right r i (all_among (IsRight r n) items i among right).aimed below)) where
    aim : (target_of i).0 ≡ p.rid.0
    aim = eqb-true (target_of i).0 p.rid.0 (right_true (nat_lt 0 p.rid.0) ((target_of i).0 == p.rid.0) target)

    below : i.id.0 ≡ 1 → ⊥
    below z = low (sym aim ∙ root_target i z)

    by : IsTargetedWell r i → i.directory ≡ true
    by (inl z) = absurd (nothing r.items 1 tidy.counted p.rid p (sym aim ∙ z) stored (least 1))
    by (inr z) = sym z.2.kind ∙ ap (λ (x : Stored). x.directory) (one_some (stored_at r.items p.rid) z.0 p (subst (λ (y : Rid). stored_at r.items y ≡ Some z.0) (same_rid (target_of i) p.rid aim) z.1) stored) ∙ dir

  passed_kept : (p : Stored) → stored_at r.items p.rid ≡ Some p → IsLower p → p.live ≡ true → p.directory ≡ true → p.changed ≤ b.cursor → IsKept items p.rid.0 true
  passed_kept p stored low live dir passed = by ((all_found (IsAccountedFor items b) (λ x. x.rid.0 == p.rid.0) r.items p stored (account none)).0 low live passed) where
    by : IsHereOrBuried items b p.rid → IsKept items p.rid.0 true
    by (inl h) = held_kept p stored low dir h.0 h.1 h.2
    by (inr h) = of_kind (all_among (IsOfKindBuried r) b.tombstones h.0 h.1 buried.kinds) where
      of_kind : IsOfKindBuried r h.0 → IsKept items p.rid.0 true
      of_kind (inl z) = absurd (nothing r.items 1 tidy.counted p.rid p (sym h.2 ∙ z) stored (least 1))
      of_kind (inr (x, at, k)) = no_way (sym (none_among (λ t. t.version.0 == 0) b.tombstones h.0 none h.1) ∙ eq-eqb h.0.version.0 0 (k (ap (λ (y : Stored). y.directory) (one_some (stored_at r.items p.rid) x p (subst (λ (y : Rid). stored_at r.items y ≡ Some x) (same_rid h.0.rid p.rid h.2) at) stored) ∙ dir)))

  -- a directory that no entry tells
  abbrev IsOld : ℕ × Bool → Type 0
  IsOld k = (k.0 ≡ 1) ⊎ ((p : Stored) × (stored_at r.items (record { 0 = k.0 }) ≡ Some p) × (p.changed ≤ b.cursor))

  abbrev Tells : Entry → Type 0
  Tells e = TellsNow r b.cursor e

  record Outs (before es : List Entry) : Type 0 where
    outs : List (ℕ × Bool)
    kept : AreKept items outs
    some : All (λ k. ((k.0 ≡ 0 → ⊥) × (k.1 ≡ true)) × IsOld k) outs
    seats : FirstSeats outs before es

  -- the parent of a live entry
  up : (e : Entry) → Tells e → e.live ≡ true → (p : Stored) × (stored_at r.items e.parent ≡ Some p) × (p.live ≡ true) × (p.directory ≡ true)
  up e tells live =
      let s : Stored = tells.0 in
      let item : IsTidyItem r s = (all_found (IsTidyItem r) (λ x. x.rid.0 == e.rid.0) r.items s tells.1 tidy.items).0 in
      let k = said (λ x. x.live && x.directory) (stored_at r.items s.parent) (item.under tells.3 (sym (ap (λ (x : Entry). x.live) tells.2) ∙ live)) in
      (k.0, subst (λ (y : Rid). stored_at r.items y ≡ Some k.0) (sym (ap (λ (x : Entry). x.parent) tells.2)) k.1, left_true k.0.live k.0.directory k.2, right_true k.0.live k.0.directory k.2)

  some_parent : (e : Entry) → Tells e → e.live ≡ true → e.parent.0 ≡ 0 → ⊥
  some_parent e tells live z = let k = up e tells live in nothing r.items 1 tidy.counted e.parent k.0 z k.1 (least 1)

  dead_first : (e : Entry) (before es : List Entry) → e.live ≡ false → Outs (e ∷ before) es → Outs before (e ∷ es)
  dead_first e before es dead rest = record { outs = rest.outs; kept = rest.kept; some = rest.some; seats = ((λ live. no_way (sym dead ∙ live)), rest.seats) }

  with_out : (e : Entry) (before es : List Entry) → Tells e → e.live ≡ true → IsKept items e.parent.0 true → IsOld (e.parent.0, true) → Outs (e ∷ before) es → Outs before (e ∷ es)
  with_out e before es tells live kept old rest = record {
    outs = (e.parent.0, true) ∷ rest.outs;
    kept = (kept, rest.kept);
    some = (((some_parent e tells live, refl), old), rest.some);
    seats = ((λ q. (some_parent e tells live, inl (inl refl))), one_more rest.outs (e.parent.0, true) (e ∷ before) es rest.seats);
  }

  live_first : (e : Entry) (before es : List Entry) → Tells e → e.live ≡ true → HasParent r b.cursor before e → Outs (e ∷ before) es → Outs before (e ∷ es)
  live_first e before es tells live (inl z) rest = with_out e before es tells live (root_kept e.parent.0 z) (inl z) rest
  live_first e before es tells live (inr (inl (p, stored, passed))) rest = by (p.rid.0 == 1) refl where
    k : (p : Stored) × (stored_at r.items e.parent ≡ Some p) × (p.live ≡ true) × (p.directory ≡ true)
    k = up e tells live

    same : k.0 ≡ p
    same = one_some (stored_at r.items e.parent) k.0 p k.1 stored

    id : p.rid.0 ≡ e.parent.0
    id = found_rid r.items e.parent p stored

    by : (c : Bool) → (p.rid.0 == 1) ≡ c → Outs before (e ∷ es)
    by true q = let z : e.parent.0 ≡ 1 = sym id ∙ eqb-true p.rid.0 1 q in with_out e before es tells live (root_kept e.parent.0 z) (inl z) rest
    by false q =
        with_out e before es tells live
        (subst (λ (m : ℕ). IsKept items m true) id (passed_kept p (subst (λ (y : Rid). stored_at r.items y ≡ Some p) (sym (same_rid p.rid e.parent id)) stored) (λ z. no_way (sym q ∙ eq-eqb p.rid.0 1 z)) (sym (ap (λ (x : Stored). x.live) same) ∙ k.2) (sym (ap (λ (x : Stored). x.directory) same) ∙ k.3) passed))
        (inr (p, stored, passed)) rest
  live_first e before es tells live (inr (inr (p, stored, among))) rest = record {
    outs = rest.outs;
    kept = rest.kept;
    some = rest.some;
    seats = ((λ q. (some_parent e tells live, inr (entry_told p, among, sym (ap (λ (x : Stored). x.live) same) ∙ k.2, sym (ap (λ (x : Stored). x.directory) same) ∙ k.3, found_rid r.items e.parent p stored))), rest.seats);
  }
    where
      k : (p : Stored) × (stored_at r.items e.parent ≡ Some p) × (p.live ≡ true) × (p.directory ≡ true)
      k = up e tells live

      same : k.0 ≡ p
      same = one_some (stored_at r.items e.parent) k.0 p k.1 stored

  outs_of : (before es : List Entry) → All Tells es → AreParentsFirst r b.cursor before es → Outs before es
  outs_of before [] tells first = record { outs = []; kept = tt; some = tt; seats = tt }
  outs_of before (e ∷ es) tells first = by e.live refl (outs_of (e ∷ before) es tells.1 first.1) where
    by : (c : Bool) → e.live ≡ c → Outs (e ∷ before) es → Outs before (e ∷ es)
    by true q rest = live_first e before es tells.0 q (first.0 q) rest
    by false q rest = dead_first e before es q rest

  -- no entry tells one of them
  apart : (e : Entry) (k : ℕ × Bool) → Tells e → IsOld k → e.rid.0 ≡ k.0 → ⊥
  apart e k tells (inl z) q = tells.3 (found_rid r.items e.rid tells.0 tells.1 ∙ q ∙ z)
  apart e k tells (inr z) q = never b.cursor tells.0.changed tells.4 (subst (λ (x : Stored). x.changed ≤ b.cursor) (one_some (stored_at r.items e.rid) z.0 tells.0 (subst (λ (y : Rid). stored_at r.items y ≡ Some z.0) (sym (same_rid e.rid (record { 0 = k.0 }) q)) z.1) tells.1) z.2) where
    never : (a c : ℕ) → a < c → c ≤ a → ⊥
    never a c h j = omega (arith, h, j)

  pub seats_given : AreSeated items (feed_of r b.cursor)
  seats_given = record {
    outs = o.outs;
    kept = o.kept;
    some = all_weaker (λ k. ((k.0 ≡ 0 → ⊥) × (k.1 ≡ true)) × IsOld k) (λ k. (k.0 ≡ 0 → ⊥) × (k.1 ≡ true)) (λ k z. z.0) o.outs o.some;
    untold = all_weaker Tells (λ e. All (λ k. e.rid.0 ≡ k.0 → ⊥) o.outs) (λ e tells. all_weaker (λ k. ((k.0 ≡ 0 → ⊥) × (k.1 ≡ true)) × IsOld k) (λ k. e.rid.0 ≡ k.0 → ⊥) (λ k z. apart e k tells z.1) o.outs o.some) (feed_of r b.cursor) (tells_now r b.cursor tidy);
    seats = seats_of o.outs o.outs (λ k a. a) [] (feed_of r b.cursor) (λ d a. absurd a) o.seats;
  }
    where
      o : Outs [] (feed_of r b.cursor)
      o = outs_of [] (feed_of r b.cursor) (tells_now r b.cursor tidy) (parents_first r b.cursor tidy)
