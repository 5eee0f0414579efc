-- A feed that is taken in: each live item of the remote is here.
use Rattle.std.proofs.Common.{◌≡◌, ◌⊎◌, ◌<◌, ◌≤◌, ℕ, zero, suc, Bool, true, false, List, [], ◌∷◌, refl, sym, ◌∙◌, ap, subst, inl, inr}
use Rattle.std.specs.Prelude.{Option, Some, None, cond, find, nat_lt, ◌&&◌, ◌==◌}
use Rattle.std.proofs.lemmas.Bool.{eqb-true}
use Rattle.cf_base.specs.declared.ids.Rid.{Rid}
use Rattle.cf_model.specs.Feeds.{is_parent, parent_here}
use Rattle.cf_model.specs.Numbers.{root_rid}
use Rattle.cf_model.specs.Words.{says}
use Rattle.cf_model.specs.Identities.{by_target, has_target, target_of}
use Rattle.cf_model.specs.Items.{Item}
use Rattle.cf_model.specs.State.{Filter, State, book_now, items_now}
use Rattle.cf_model.specs.Store.{Held, Stored, entry_told, feed_of, stored_at}
use Rattle.cf_model_laws.specs.Invariant.{All, Invariant, target_in, Among}
use Rattle.cf_model_laws.specs.Premises.{IsFair}
use Rattle.cf_model_laws.proofs.Gathered.{all_any, all_both, all_found}
use Rattle.cf_model_laws.proofs.RightItems.{no_way}
use Rattle.cf_model_laws.proofs.SoundSettles.{left_true, right_true}
use Rattle.cf_model_convergence.specs.Agreeing.{IsAgreed, IsPassedHere}
use Rattle.cf_model_convergence.specs.Resting.{AreAllTargets, AreTargetsApart, IsTargetOf}
use Rattle.cf_model_convergence.specs.Settles.{IsFed}
use Rattle.cf_model_convergence.specs.Tidy.{IsLower, IsReached, IsTidyItem, Reaches}
use Rattle.cf_model_convergence.specs.Turns.{IsLeftBy}
use Rattle.cf_model_convergence.proofs.FeedAsked.{kinds_right}
use Rattle.cf_model_convergence.proofs.FeedsTold.{all_among, tells_all}
use Rattle.cf_model_convergence.proofs.Lines.{one_some, reaches_at, same_rid}
use Rattle.cf_model_convergence.proofs.TidyItems.{each_found, found_rid}
use Rattle.cf_model_convergence.proofs.FedKnown.{early_or_late, find_among}

-- all that the remote has is here

none_found : {A : Type 0} (f : A → Bool) (xs : List A) (y : A) → find f xs ≡ None → Among y xs → f y ≡ false
none_found f [] y e a = absurd a
none_found f (x ∷ xs) y e a = by (f x) refl e a (none_found f xs y) where
  never : {B : Type 0} → Some x ≡ None → B
  never z = absurd (w z) where
    w : Some x ≡ None → ⊥
    w z = cc

  by : (b : Bool) → f x ≡ b → cond b (Some x) (find f xs) ≡ None → (x ≡ y) ⊎ Among y xs → (find f xs ≡ None → Among y xs → f y ≡ false) → f y ≡ false
  by true q z a g = never z
  by false q z (inl same) g = subst (λ (w : _). f w ≡ false) same q
  by false q z (inr a) g = g z a

module _ (s : State) (h : Invariant s) (fair : IsFair s.link) (agreed : IsAgreed s) (all : IsPassedHere s) (m : State) (fed : IsFed s m) where
  abbrev IsHere : Stored → Type 0
  IsHere r = (i : Item) × Among i (items_now s) × (has_target i r.rid ≡ true)

  both : (a b : Bool) → a ≡ true → b ≡ true → (a && b) ≡ true
  both true b x y = y
  both false b x y = no_way x

  found_here : (r : Stored) (i : Item) → by_target (items_now s) r.rid ≡ Some i → IsHere r
  found_here r i f = (i, find_among (λ x. has_target x r.rid) (items_now s) i f, (all_found (λ x. Unit {0}) (λ x. has_target x r.rid) (items_now s) i f (all_any (λ x. Unit {0}) (λ x. tt) (items_now s))).1)

  root_here : (r : Stored) → r.rid.0 ≡ 1 → IsHere r
  root_here r top = (all.top.0, find_among (λ x. x.id.0 == 1) (items_now s) all.top.0 all.top.1, subst (λ (n : ℕ). (nat_lt 0 n && ((target_of all.top.0).0 == n)) ≡ true) (sym top) (one (all.top.0.id.0 == 1) (all_found (λ x. Unit {0}) (λ x. x.id.0 == 1) (items_now s) all.top.0 all.top.1 (all_any (λ x. Unit {0}) (λ x. tt) (items_now s))).1)) where
    one : (b : Bool) → b ≡ true → (nat_lt 0 1 && ((cond b root_rid (target_in all.top.0.identity)).0 == 1)) ≡ true
    one true z = refl
    one false z = no_way z

  -- what was told with its parent here
  told_here : (r p : Stored) → stored_at s.link.remote.items r.rid ≡ Some r → IsLower r → r.live ≡ true → stored_at s.link.remote.items r.parent ≡ Some p → p.directory ≡ true → IsHere p → (book_now s).cursor < r.changed → IsHere r
  told_here r p stored low live up dir here late = by (all_among (λ e. IsLeftBy fed.postponed e s m) (feed_of s.link.remote (book_now s).cursor) (entry_told r) mem fed.entries) where
    mem : Among (entry_told r) (feed_of s.link.remote (book_now s).cursor)
    mem = (all_found (λ x. IsLower x → (book_now s).cursor < x.changed → Among (entry_told x) (feed_of s.link.remote (book_now s).cursor)) (λ x. x.rid.0 == r.rid.0) s.link.remote.items r stored (tells_all s.link.remote (book_now s).cursor agreed.tidy).each).0 low late

    j : Item
    j = here.0

    named : has_target j r.parent ≡ true
    named = subst (λ (x : Rid). has_target j x ≡ true) (same_rid p.rid r.parent (found_rid s.link.remote.items r.parent p up)) here.2

    aims : (target_of j).0 ≡ r.parent.0
    aims = eqb-true (target_of j).0 r.parent.0 (right_true (nat_lt 0 r.parent.0) ((target_of j).0 == r.parent.0) named)

    kind : j.directory ≡ true
    kind = sym (all_among (λ i. (x : Stored) → IsTargetOf s i x → x.directory ≡ i.directory) (items_now s) j here.1 (kinds_right s h fair agreed.tidy) p (subst (λ (x : Rid). stored_at s.link.remote.items x ≡ Some p) (sym (same_rid (target_of j) r.parent aims)) up)) ∙ dir

    parent : is_parent (entry_told r) j ≡ true
    parent = both (has_target j r.parent && j.directory) j.populated (both (has_target j r.parent) j.directory named kind) (all_among (λ i. i.directory ≡ true → i.populated ≡ true) (items_now s) j here.1 all.populated kind)

    by : IsLeftBy fed.postponed (entry_told r) s m → IsHere r
    by (inl k) = found_here r k.1 k.2
    by (inr (inl k)) = gone k.1 where
      gone : (r.live ≡ false) ⊎ (parent_here s (entry_told r) ≡ None) → IsHere r
      gone (inl z) = no_way (sym z ∙ live)
      gone (inr z) = no_way (sym (none_found (is_parent (entry_told r)) (items_now s) j z here.1) ∙ parent)
    by (inr (inr k)) = found_here r k.1 k.2

  at_depth : (n : ℕ) (r : Stored) → stored_at s.link.remote.items r.rid ≡ Some r → r.live ≡ true → Reaches s.link.remote.items n r.rid → IsHere r
  at_depth zero r stored live way = root_here r way
  at_depth (suc n) r stored live way = by (stored_at s.link.remote.items r.parent) refl (item.under way.0 live) (early_or_late (book_now s).cursor r.changed) (λ p up alive. at_depth n p (subst (λ (x : Rid). stored_at s.link.remote.items x ≡ Some p) (sym (same_rid p.rid r.parent (found_rid s.link.remote.items r.parent p up))) up) alive (reaches_at s.link.remote.items n r.parent p.rid (sym (found_rid s.link.remote.items r.parent p up)) (subst (λ (x : Stored). Reaches s.link.remote.items n x.parent) (one_some (stored_at s.link.remote.items r.rid) way.1 r way.2 stored) way.3))) where
    item : IsTidyItem s.link.remote r
    item = (all_found (IsTidyItem s.link.remote) (λ x. x.rid.0 == r.rid.0) s.link.remote.items r stored agreed.tidy.items).0

    by : (o : Option Stored) → stored_at s.link.remote.items r.parent ≡ o → says (λ x. x.live && x.directory) o ≡ true → (r.changed ≤ (book_now s).cursor) ⊎ ((book_now s).cursor < r.changed) → ((p : Stored) → stored_at s.link.remote.items r.parent ≡ Some p → p.live ≡ true → IsHere p) → IsHere r
    by None up z when more = no_way z
    by (Some p) up z (inl early) more = (all_found (λ x. IsLower x → x.live ≡ true → x.changed ≤ (book_now s).cursor → (i : Item) × Among i (items_now s) × (has_target i x.rid ≡ true)) (λ x. x.rid.0 == r.rid.0) s.link.remote.items r stored all.here).0 way.0 live early
    by (Some p) up z (inr late) more = told_here r p stored way.0 live up (right_true p.live p.directory z) (more p up (left_true p.live p.directory z)) late

  pub all_targets : AreAllTargets m
  all_targets = record {
    apart = subst AreTargetsApart (sym same) agreed.alone;
    some = subst (λ (x : Held). All (λ r. r.live ≡ true → (i : Item) × Among i (items_now m) × (has_target i r.rid ≡ true)) x.items) (sym fed.remote)
        (all_both (λ r. stored_at s.link.remote.items r.rid ≡ Some r) (IsReached s.link.remote.items) (λ r. r.live ≡ true → (i : Item) × Among i (items_now m) × (has_target i r.rid ≡ true))
        (λ r stored reached live. subst (λ (is : List Item). (i : Item) × Among i is × (has_target i r.rid ≡ true)) (sym same) (at_depth (reached live).0 r stored live (reached live).2)) s.link.remote.items (each_found 1 s.link.remote.items agreed.tidy.counted) agreed.tidy.reached);
  }
    where
      same : items_now m ≡ items_now s
      same = ap (λ (f : Filter). f.volume.items) fed.filter
