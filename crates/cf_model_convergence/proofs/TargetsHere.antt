-- Each live item of the remote is here once.
use Rattle.std.proofs.Common.{◌≡◌, ℕ, Bool, true, false, List, [], ◌∷◌, refl, sym, ◌∙◌, ap, subst, inl, inr, length, eq-eqb}
use Rattle.std.specs.Prelude.{cond, count_by, filter, nat_lt, not, ◌||◌, ◌==◌}
use Rattle.std.proofs.lemmas.Bool.{eqb-true}
use Rattle.std.proofs.lemmas.List.Sums.{length-filter}
use Rattle.cf_base.specs.declared.ids.Rid.{Rid}
use Rattle.cf_model.specs.Identities.{has_target, target_of}
use Rattle.cf_model.specs.Items.{Item}
use Rattle.cf_model.specs.Settled.{has_one_local, is_settled}
use Rattle.cf_model.specs.State.{State, items_now}
use Rattle.cf_model.specs.Store.{Stored}
use Rattle.cf_model_laws.specs.Invariant.{All, Among}
use Rattle.cf_model_laws.proofs.Gathered.{all_weaker}
use Rattle.cf_model_laws.proofs.RightItems.{no_way}
use Rattle.cf_model_laws.proofs.SoundSettles.{left_true, right_true}
use Rattle.cf_model_convergence.specs.Resting.{AreAllTargets, AreTargetsApart, IsAtRest}
use Rattle.cf_model_convergence.proofs.FeedsTold.{all_among}
use Rattle.cf_model_convergence.proofs.RestingMatches.{rest_matches}
use Rattle.cf_model_convergence.proofs.SettledItems.{all_settled}

module _ (rid : Rid) where
  target_is : (i : Item) → has_target i rid ≡ true → (target_of i).0 ≡ rid.0
  target_is i e = eqb-true (target_of i).0 rid.0 (right_true (nat_lt 0 rid.0) ((target_of i).0 == rid.0) e)

  -- two that have it are one
  no_two : (i j : Item) → has_target i rid ≡ true → has_target j rid ≡ true → ((target_of i).0 ≡ (target_of j).0 → (target_of i).0 ≡ 0) → ⊥
  no_two i j a b h = not_none (sym (target_is i a) ∙ h (target_is i a ∙ sym (target_is j b))) where
    some : nat_lt 0 rid.0 ≡ true
    some = left_true (nat_lt 0 rid.0) ((target_of i).0 == rid.0) a

    not_none : rid.0 ≡ 0 → ⊥
    not_none e = no_way (sym (ap (λ (n : ℕ). nat_lt 0 n) e) ∙ some)

  no_more : (i : Item) → has_target i rid ≡ true → (items : List Item) → All (λ j. (target_of i).0 ≡ (target_of j).0 → (target_of i).0 ≡ 0) items → filter (λ j. has_target j rid) items ≡ []
  no_more i a [] h = refl
  no_more i a (j ∷ items) h = by (has_target j rid) refl (no_more i a items h.1) where
    by : (b : Bool) → has_target j rid ≡ b → filter (λ k. has_target k rid) items ≡ [] → cond b (j ∷ filter (λ k. has_target k rid) items) (filter (λ k. has_target k rid) items) ≡ []
    by true e k = absurd (no_two i j a e h.0)
    by false e k = k

  one : (i : Item) → has_target i rid ≡ true → (items : List Item) → AreTargetsApart items → Among i items → length (filter (λ j. has_target j rid) items) ≡ 1
  one i a [] h m = absurd m
  one i a (j ∷ items) h (inl e) = rw (subst (λ (k : Item). has_target k rid ≡ true) (sym e) a) (ap (λ (l : List Item). length (j ∷ l)) (no_more j (subst (λ (k : Item). has_target k rid ≡ true) (sym e) a) items h.0))
  one i a (j ∷ items) h (inr m) = by (has_target j rid) refl (one i a items h.1 m) where
    by : (b : Bool) → has_target j rid ≡ b → length (filter (λ k. has_target k rid) items) ≡ 1 → length (cond b (j ∷ filter (λ k. has_target k rid) items) (filter (λ k. has_target k rid) items)) ≡ 1
    by true e k = absurd (no_two j i e a (all_among (λ k. (target_of j).0 ≡ (target_of k).0 → (target_of j).0 ≡ 0) items i m h.0))
    by false e k = k

one_here : (s : State) → AreTargetsApart (items_now s) → (r : Stored) → (r.live ≡ true → (i : Item) × Among i (items_now s) × (has_target i r.rid ≡ true)) → has_one_local s r ≡ true
one_here s apart r some = by r.live refl where
  by : (b : Bool) → r.live ≡ b → (not b || (count_by (λ i. has_target i r.rid) (items_now s) == 1)) ≡ true
  by true e = let x = some e in eq-eqb (count_by (λ i. has_target i r.rid) (items_now s)) 1 (sym (length-filter (λ i. has_target i r.rid) (items_now s)) ∙ one r.rid x.0 x.2 (items_now s) apart x.1)
  by false e = refl

pub rest_whole : (s : State) → IsAtRest s → AreAllTargets s → is_settled true s ≡ true
rest_whole s h k = all_settled s (rest_matches s h) (all_weaker (λ r. r.live ≡ true → (i : Item) × Among i (items_now s) × (has_target i r.rid ≡ true)) (λ r. has_one_local s r ≡ true) (one_here s k.apart) s.link.remote.items k.some)
