-- What the cursor has passed is known where the test of it says so.
use Rattle.std.proofs.Common.{◌≡◌, ◌≤◌, ℕ, Bool, true, false, List, [], ◌∷◌, refl, sym, ◌∙◌, subst, inl, inr, arith}
use Rattle.std.specs.Prelude.{Option, Some, not, nat_lt, ◌&&◌, ◌||◌, ◌==◌}
use Rattle.std.specs.List.{list_all, list_any}
use Rattle.std.proofs.lemmas.Bool.{eqb-true}
use Rattle.std.proofs.lemmas.Bool.Decides.{nat_tests}
use Rattle.cf_base.specs.declared.items.SeenPath.{SeenPath}
use Rattle.cf_model.specs.Books.{Book, Tombstone, seen_of}
use Rattle.cf_model.specs.Identities.{base_version, has_target, is_untargeted, target_of}
use Rattle.cf_model.specs.Items.{Item, item_of}
use Rattle.cf_model.specs.Numbers.{root_id}
use Rattle.cf_model.specs.State.{State, book_now, items_now}
use Rattle.cf_model.specs.Store.{Stored, latest, stored_at}
use Rattle.cf_model.specs.Words.{part, same, says}
use Rattle.cf_model_laws.specs.Invariant.{All, Among}
use Rattle.cf_model_laws.proofs.Gathered.{all_found, all_weaker}
use Rattle.cf_model_laws.proofs.RightItems.{no_way}
use Rattle.cf_model_laws.proofs.SoundSettles.{left_true, right_true}
use Rattle.cf_model_convergence.specs.Agreeing.{IsKeptUp, IsPassedHere}
use Rattle.cf_model_convergence.specs.Lapses.{are_all_here, is_here, is_known, is_seen_right, of_target}
use Rattle.cf_model_convergence.specs.Matching.{IsBelow}
use Rattle.cf_model_convergence.specs.Resting.{IsKnown, IsTargetOf}
use Rattle.cf_model_convergence.specs.Tidy.{IsLower, IsTidy}
use Rattle.cf_model_convergence.proofs.ReadyRests.{nothing}
use Rattle.cf_model_convergence.proofs.SettledItems.{passed}
use Rattle.cf_model_convergence.proofs.TakenKnown.{same_is}

-- one of two that hold, where the first does not
pub second : (a b : Bool) → (a || b) ≡ true → (a ≡ true → ⊥) → b ≡ true
second true b e n = absurd (n refl)
second false b e n = e

seen_right : (b : Book) (i : Item) (r : Stored) → is_seen_right b i r ≡ true → (p : SeenPath) → seen_of b i.id ≡ Some p → (p.parent.0 ≡ r.parent.0) × (p.name ≡ r.name)
seen_right b i r e p seen =
    let z : ((p.parent.0 == r.parent.0) && same p.name r.name) ≡ true = subst (λ (o : Option SeenPath). part (λ (q : SeenPath). (q.parent.0 == r.parent.0) && same q.name r.name) true o ≡ true) seen e in
    (eqb-true p.parent.0 r.parent.0 (left_true (p.parent.0 == r.parent.0) (same p.name r.name) z), same_is p.name r.name (right_true (p.parent.0 == r.parent.0) (same p.name r.name) z))

-- neither holds
pub neither : (a b : Bool) → (a ≡ true → ⊥) → (b ≡ true → ⊥) → (a || b) ≡ true → ⊥
neither true b n m e = n refl
neither false b n m e = m e

late : (c n : ℕ) → n ≤ c → nat_lt c n ≡ true → ⊥
late c n h z = grind (arith, nat_tests, h, z)

never : (b : Bool) → b ≡ true → not b ≡ true → ⊥
never true e z = no_way z
never false e z = no_way e

known_is : (b : Book) (i : Item) (r : Stored) → ((i.id.0 ≡ 1) → ⊥) → r.changed ≤ b.cursor → is_known b i r ≡ true → IsKnown b i r
known_is b i r low early e =
    let y : ((r.live && (i.directory || ((base_version i).0 == latest r))) && is_seen_right b i r) ≡ true = second ((i.id.0 == 1) || nat_lt b.cursor r.changed) _ e (neither (i.id.0 == 1) (nat_lt b.cursor r.changed) (λ z. low (eqb-true i.id.0 1 z)) (λ z. late b.cursor r.changed early z)) in
    let w : (r.live && (i.directory || ((base_version i).0 == latest r))) ≡ true = left_true (r.live && (i.directory || ((base_version i).0 == latest r))) (is_seen_right b i r) y in
    record {
      live = left_true r.live (i.directory || ((base_version i).0 == latest r)) w;
      version = λ file. eqb-true (base_version i).0 (latest r) (second i.directory ((base_version i).0 == latest r) (right_true r.live (i.directory || ((base_version i).0 == latest r)) w) (λ z. no_way (sym file ∙ z)));
      seen = seen_right b i r (right_true (r.live && (i.directory || ((base_version i).0 == latest r))) (is_seen_right b i r) y);
    }

pub tested_known : (s : State) → IsTidy s.link.remote → list_all (of_target s.link.remote (is_known (book_now s))) (items_now s) ≡ true → IsKeptUp s
tested_known s tidy tested = record { passed = by } where
  each : All (λ i. of_target s.link.remote (is_known (book_now s)) i ≡ true) (items_now s)
  each = passed (of_target s.link.remote (is_known (book_now s))) (items_now s) tested

  by : (i : Item) (r : Stored) → IsBelow s i → IsTargetOf s i r → r.changed ≤ (book_now s).cursor → IsKnown (book_now s) i r
  by i r below target early =
      known_is (book_now s) i r below.1 early
      (subst (λ (o : Option Stored). says (is_known (book_now s) i) o ≡ true) target
      (second (is_untargeted i) (says (is_known (book_now s) i) (stored_at s.link.remote.items (target_of i)))
      (all_found (λ j. of_target s.link.remote (is_known (book_now s)) j ≡ true) (λ j. j.id.0 == i.id.0) (items_now s) i below.0 each).0
      (λ z. nothing s.link.remote.items 1 tidy.counted (target_of i) r (eqb-true (target_of i).0 0 z) target (least 1)))) where
        least : (n : ℕ) → n ≤ n
        least n = omega arith

-- what is passed is here

among_any : {A : Type 0} (f : A → Bool) (xs : List A) → list_any f xs ≡ true → (x : A) × Among x xs × (f x ≡ true)
among_any f [] e = no_way e
among_any f (x ∷ xs) e = by (f x) refl e (among_any f xs) where
  by : (b : Bool) → f x ≡ b → (b || list_any f xs) ≡ true → (list_any f xs ≡ true → (y : _) × Among y xs × (f y ≡ true)) → (y : _) × Among y (x ∷ xs) × (f y ≡ true)
  by true q z more = (x, inl refl, q)
  by false q z more = let w = more z in (w.0, inr w.1, w.2)

pub tested_here : (s : State) → (i : Item) × (item_of (items_now s) root_id ≡ Some i) → (book_now s).tombstones ≡ [] → list_all (λ i. not i.directory || i.populated) (items_now s) ≡ true → are_all_here s.link.remote (items_now s) (book_now s) ≡ true → IsPassedHere s
tested_here s top none full tested = record {
  top = top;
  populated = all_weaker (λ i. (not i.directory || i.populated) ≡ true) (λ i. i.directory ≡ true → i.populated ≡ true) (λ i e dir. second (not i.directory) i.populated e (λ z. never i.directory dir z)) (items_now s) (passed (λ i. not i.directory || i.populated) (items_now s) full);
  here = all_weaker (λ r. is_here (items_now s) (book_now s) r ≡ true) (λ r. IsLower r → r.live ≡ true → r.changed ≤ (book_now s).cursor → (i : Item) × Among i (items_now s) × (has_target i r.rid ≡ true)) one s.link.remote.items each;
}
  where
    each : All (λ r. is_here (items_now s) (book_now s) r ≡ true) s.link.remote.items
    each = passed (is_here (items_now s) (book_now s)) s.link.remote.items (subst (λ (ts : List Tombstone). (list_any (λ t. t.version.0 == 0) ts || list_all (is_here (items_now s) (book_now s)) s.link.remote.items) ≡ true) none tested)

    one : (r : Stored) → is_here (items_now s) (book_now s) r ≡ true → IsLower r → r.live ≡ true → r.changed ≤ (book_now s).cursor → (i : Item) × Among i (items_now s) × (has_target i r.rid ≡ true)
    one r e lower live early =
        by (list_any (λ i. has_target i r.rid) (items_now s)) refl (subst (λ (ts : List Tombstone). (start || list_any (λ i. has_target i r.rid) (items_now s) || list_any (λ t. t.rid.0 == r.rid.0) ts) ≡ true) none e) where
          start : Bool
          start = (r.rid.0 == 1) || not r.live || nat_lt (book_now s).cursor r.changed

          no_start : start ≡ true → ⊥
          no_start = neither ((r.rid.0 == 1) || not r.live) (nat_lt (book_now s).cursor r.changed) (neither (r.rid.0 == 1) (not r.live) (λ z. lower (eqb-true r.rid.0 1 z)) (λ z. never r.live live z)) (λ z. late (book_now s).cursor r.changed early z)

          by : (b : Bool) → list_any (λ i. has_target i r.rid) (items_now s) ≡ b → ((start || b) || false) ≡ true → (i : Item) × Among i (items_now s) × (has_target i r.rid ≡ true)
          by true q z = among_any (λ i. has_target i r.rid) (items_now s) q
          by false q z = absurd (neither (start || false) false (neither start false no_start (λ y. no_way y)) (λ y. no_way y) z)
