-- What is taken in of an item that the remote has so is known.
use Rattle.std.proofs.Common.{◌≡◌, ◌<◌, ◌≤◌, ℕ, zero, suc, Bool, true, false, List, [], ◌∷◌, refl, sym, ◌∙◌, ap, inl, inr, arith, length}
use Rattle.std.specs.Prelude.{Option, Some, None, not, nat_lt, slice_get, ◌&&◌, ◌==◌}
use Rattle.std.proofs.lemmas.Bool.{eqb-true}
use Rattle.std.proofs.lemmas.Bool.Decides.{nat_tests}
use Rattle.cf_base.specs.declared.items.SeenPath.{SeenPath}
use Rattle.cf_base.specs.declared.messages.Entry.{Entry}
use Rattle.cf_model.specs.Feeds.{is_path_of}
use Rattle.cf_model.specs.Identities.{base_rid, base_version}
use Rattle.cf_model.specs.Items.{Item}
use Rattle.cf_model.specs.State.{State, book_now}
use Rattle.cf_model.specs.Store.{Held, Stored, entry_told, latest, stored_at, version_bytes}
use Rattle.cf_model.specs.Words.{same, says}
use Rattle.cf_model_laws.specs.Invariant.{HasBase}
use Rattle.cf_model_laws.proofs.RightItems.{no_way, no_way_back}
use Rattle.cf_model_laws.proofs.SoundSettles.{left_true, right_true}
use Rattle.cf_model_convergence.specs.Resting.{IsKnown, IsTargetRight}
use Rattle.cf_model_convergence.specs.Turns.{IsTakenIn}

pub same_is : (xs ys : List ℕ) → same xs ys ≡ true → xs ≡ ys
same_is [] [] e = refl
same_is [] (y ∷ ys) e = no_way e
same_is (x ∷ xs) [] e = no_way e
same_is (x ∷ xs) (y ∷ ys) e = ap (λ (n : ℕ). n ∷ xs) (eqb-true x y (left_true (x == y) (same xs ys) e)) ∙ ap (λ (zs : List ℕ). y ∷ zs) (same_is xs ys (right_true (x == y) (same xs ys) e))

within : (xs : List (List ℕ)) (n : ℕ) (x : List ℕ) → slice_get xs n ≡ Some x → n < length xs
within [] zero x e = let z : ◌≡◌ {A = Option (List ℕ)} None (Some x) = e in cc
within [] (suc n) x e = let z : ◌≡◌ {A = Option (List ℕ)} None (Some x) = e in cc
within (y ∷ xs) zero x e = first (length xs) where
  first : (n : ℕ) → 0 < suc n
  first n = omega arith
within (y ∷ xs) (suc n) x e = next n (length xs) (within xs n x e) where
  next : (a b : ℕ) → a < b → suc a < suc b
  next a b h = omega (arith, h)

-- a version that was made is no later than the latest
made_early : (r : Stored) (v : ℕ) (bytes : List ℕ) → version_bytes (Some r) v ≡ Some bytes → v ≤ latest r
made_early r zero bytes e = let z : ◌≡◌ {A = Option (List ℕ)} None (Some bytes) = e in cc
made_early r (suc v) bytes e = up v (length r.versions) (within r.versions v bytes e) where
  up : (a b : ℕ) → a < b → suc a ≤ b
  up a b h = omega (arith, h)

pub based_early : (held : Held) (i : Item) (r : Stored) → stored_at held.items r.rid ≡ Some r → (base_rid i).0 ≡ r.rid.0 → HasBase held i.identity → (base_version i).0 ≤ latest r
based_early held i r found base (inl e) = low (base_version i).0 (latest r) e where
  low : (a b : ℕ) → a ≡ 0 → a ≤ b
  low a b e = omega (arith, e)
based_early held i r found base (inr k) =
    made_early r (base_version i).0 k.0 (sym (ap (λ (o : Option Stored). version_bytes o (base_version i).0) (ap (λ (n : ℕ). stored_at held.items (record { 0 = n })) base ∙ found)) ∙ k.1)

pub taken_known : (held : Held) (e : Entry) (i : Item) (r : Stored) (s t : State) → stored_at held.items r.rid ≡ Some r → e ≡ entry_told r → e.live ≡ true → IsTargetRight i r → HasBase held i.identity → IsTakenIn e i s t → IsKnown (book_now t) i r
taken_known held e i r s t found told live right based taken = record {
  live = sym (ap (λ (x : Entry). x.live) told) ∙ live;
  version = λ file. equal (base_version i).0 (latest r) (based_early held i r found (right.base file) based) (not_newer file);
  seen = λ p at. path p (sym (ap (λ (o : Option SeenPath). says (is_path_of e) o) at) ∙ taken.seen);
}
  where
    equal : (a b : ℕ) → a ≤ b → nat_lt a b ≡ false → a ≡ b
    equal a b h k = grind (arith, nat_tests, h, k)

    not_newer : i.directory ≡ false → nat_lt (base_version i).0 (latest r) ≡ false
    not_newer file = by i.directory (nat_lt (base_version i).0 (latest r)) file (sym (ap (λ (x : Entry). not i.directory && nat_lt (base_version i).0 x.version.0) told) ∙ taken.version) where
      by : (d b : Bool) → d ≡ false → (not d && b) ≡ false → b ≡ false
      by true b z k = no_way_back z
      by false b z k = k

    path : (p : SeenPath) → ((p.parent.0 == e.parent.0) && same p.name e.name) ≡ true → (p.parent.0 ≡ r.parent.0) × (p.name ≡ r.name)
    path p z = (
      eqb-true p.parent.0 e.parent.0 (left_true (p.parent.0 == e.parent.0) (same p.name e.name) z) ∙ ap (λ (x : Entry). x.parent.0) told,
      same_is p.name e.name (right_true (p.parent.0 == e.parent.0) (same p.name e.name) z) ∙ ap (λ (x : Entry). x.name) told,
    )
