-- What is at rest matches.
use Rattle.std.proofs.Common.{◌≡◌, ◌<◌, ◌≤◌, ℕ, Bool, true, false, List, ◌∷◌, refl, ◌∙◌, ap, subst, arith, length, eq-eqb}
use Rattle.std.specs.Prelude.{Some, not, nat_le, ◌&&◌, ◌==◌}
use Rattle.std.proofs.lemmas.Bool.{eqb-true}
use Rattle.std.proofs.lemmas.Bool.Decides.{nat_tests}
use Rattle.cf_base.specs.declared.items.SeenPath.{SeenPath}
use Rattle.cf_model.specs.Books.{seen_of}
use Rattle.cf_model.specs.Identities.{base_rid, base_version, parent_target, stands_at_path}
use Rattle.cf_model.specs.Items.{Item, is_dirty}
use Rattle.cf_model.specs.LookUp.{is_excluded}
use Rattle.cf_model.specs.Settled.{is_settled}
use Rattle.cf_model.specs.Skips.{in_use}
use Rattle.cf_model.specs.State.{State, book_now, items_now}
use Rattle.cf_model.specs.Store.{Held, Stored, latest, line_of, stored_at}
use Rattle.cf_model.specs.Words.{same}
use Rattle.cf_model_laws.proofs.FoundItems.{both}
use Rattle.cf_model_laws.proofs.Gathered.{all_found}
use Rattle.cf_model_laws.proofs.SoundSettles.{left_true, right_true}
use Rattle.cf_model_convergence.specs.Matching.{IsBelow, IsMatched, IsMatching}
use Rattle.cf_model_convergence.specs.Resting.{IsAtRest, IsKnown, IsRested, IsTargetOf, IsTargetRight}
use Rattle.cf_model_convergence.specs.Tidy.{IsReached, IsTidy}
use Rattle.cf_model_convergence.proofs.Lines.{few, line_up_one}
use Rattle.cf_model_convergence.proofs.SettledItems.{matching_settled}
use Rattle.cf_model_convergence.proofs.TidyItems.{said}

line_there : (held : Held) → IsTidy held → (r : Stored) → stored_at held.items r.rid ≡ Some r → r.live ≡ true → ((r.rid.0 ≡ 1) → ⊥) → line_of held r.rid ≡ r.rid.0 ∷ line_of held r.parent
line_there held h r found live low =
    let x = (all_found (IsReached held.items) (λ s. s.rid.0 == r.rid.0) held.items r found h.reached).0 live in
    line_up_one held.items x.0 (length held.items) r.rid r x.2 (few held.items x.0 r.rid h.counted x.2) low found

module _ (s : State) (h : IsAtRest s) where
  known : (i : Item) (r : Stored) → IsBelow s i → is_excluded (items_now s) i.id ≡ false → in_use s i.id ≡ false → IsTargetOf s i r → IsKnown (book_now s) i r
  known i r below out idle target = by (nat_le r.changed (book_now s).cursor) refl where
    is_passed : (n m : ℕ) → nat_le n m ≡ true → n ≤ m
    is_passed n m e = grind (arith, nat_tests, e)

    is_ahead : (n m : ℕ) → nat_le n m ≡ false → m < n
    is_ahead n m e = grind (arith, nat_tests, e)

    by : (b : Bool) → nat_le r.changed (book_now s).cursor ≡ b → IsKnown (book_now s) i r
    by true e = h.passed i r below target (is_passed r.changed (book_now s).cursor e)
    by false e = h.ahead i r below out idle target (is_ahead r.changed (book_now s).cursor e)

  matched : (i : Item) → IsBelow s i → is_excluded (items_now s) i.id ≡ false → in_use s i.id ≡ false → IsMatched s i
  matched i below out idle =
      let rest : IsRested s i = h.rested i below out idle in
      let x : (r : Stored) × IsTargetOf s i r = h.there i below rest.target in
      let right : IsTargetRight i x.0 = h.right i x.0 below x.1 in
      let k : IsKnown (book_now s) i x.0 = known i x.0 below out idle x.1 in
      let p : (p : SeenPath) × (seen_of (book_now s) i.id ≡ Some p) × (stands_at_path (items_now s) i p ≡ true) = said (stands_at_path (items_now s) i) (seen_of (book_now s) i.id) rest.stands in
      let here : (p.0.parent.0 ≡ x.0.parent.0) × (p.0.name ≡ x.0.name) = k.seen p.0 p.1 in
      record {
        stored = x.0;
        found = x.1;
        live = k.live;
        kind = right.kind;
        parent = eqb-true (parent_target (items_now s) i).0 p.0.parent.0 (left_true ((parent_target (items_now s) i).0 == p.0.parent.0) (same i.name p.0.name) p.2) ∙ here.0;
        name = subst (λ (n : List ℕ). same i.name n ≡ true) here.1 (right_true ((parent_target (items_now s) i).0 == p.0.parent.0) (same i.name p.0.name) p.2);
        latest = λ file. three (not (is_dirty i)) ((base_rid i).0 == x.0.rid.0) ((base_version i).0 == latest x.0) (ap (λ (b : Bool). not b) rest.clean) (eq-eqb (base_rid i).0 x.0.rid.0 (right.base file)) (eq-eqb (base_version i).0 (latest x.0) (k.version file));
        in_sync = rest.in_sync;
      }
    where
      three : (a b c : Bool) → a ≡ true → b ≡ true → c ≡ true → (a && b && c) ≡ true
      three a b c d e f = both (a && b) c (both a b d e) f

pub rest_matches : (s : State) → IsAtRest s → IsMatching s
rest_matches s h = record { found = h.found; tree = h.tree; remote_tree = line_there s.link.remote h.tidy; one_root = h.one_root; idle = h.idle; matched = matched s h; buried = h.buried }

pub rest_settled : (s : State) → IsAtRest s → is_settled false s ≡ true
rest_settled s h = matching_settled s (rest_matches s h)
