-- An item of the remote is known exactly where a local item is found that is it.
use Rattle.std.proofs.Common.{◌≡◌, ◌<◌, ℕ, zero, suc, Bool, true, false, not, cond, List, [], ◌∷◌, ◌&&◌, ◌||◌, ◌==◌, Option, Some, is_some, nat_lt, arith, refl, sym, ◌∙◌, ap}
use Rattle.std.proofs.lemmas.Bool.{eqb-true, lt-ltb, ne_eqb}
use Rattle.std.proofs.lemmas.List.Elements.{All-head, All-tail}
use Rattle.std.specs.Prelude.{All, filter, find, map}
use Rattle.cf_base.specs.declared.ids.Rid.{Rid}
use Rattle.cf_engine_feed_plan.specs.Premises.{id_of}
use Rattle.cf_engine_provider.specs.Listings.{known_in}
use Rattle.cf_model.specs.Fits.{is_known}
use Rattle.cf_model.specs.Identities.{has_target, is_untargeted, target_of}
use Rattle.cf_model.specs.Items.{Item}
use Rattle.cf_model.specs.Messages.{known_of}

-- by numbers: 0 is no item of the remote
same_test : (t r : ℕ) (u rest : Bool) → (t == 0) ≡ u → ((nat_lt 0 r && (t == r)) || rest) ≡ cond u rest ((t == r) || rest)
same_test t zero true rest e = refl
same_test t zero false rest e = ap (λ (b : Bool). b || rest) (sym e)
same_test t (suc r) false rest e = ap (λ (b : Bool). (b && (t == suc r)) || rest) (lt-ltb 0 (suc r) (omega arith))
same_test t (suc r) true rest e =
    let none : t ≡ 0 = eqb-true t 0 e in
    ap (λ (b : Bool). (b && (t == suc r)) || rest) (lt-ltb 0 (suc r) (omega arith)) ∙ ap (λ (b : Bool). b || rest) (ne_eqb t (suc r) (λ same. omega (arith, none, same)))

found_or : (b : Bool) (i : Item) (o : Option Item) → is_some (id_of (cond b (Some i) o)) ≡ (b || is_some (id_of o))
found_or true i o = refl
found_or false i o = refl

known_or : (u : Bool) (i : Item) (targeted : List Item) (rid : Rid) → is_known (map known_of (cond (not u) (i ∷ targeted) targeted)) rid ≡ cond u (is_known (map known_of targeted) rid) (((target_of i).0 == rid.0) || is_known (map known_of targeted) rid)
known_or true i targeted rid = refl
known_or false i targeted rid = refl

pub found_is_known : (items : List Item) (rid : Rid) → is_some (id_of (find (λ i. has_target i rid) items)) ≡ is_known (known_in items) rid
found_is_known [] rid = refl
found_is_known (i ∷ is) rid =
    found_or (has_target i rid) i (find (λ x. has_target x rid) is)
    ∙ ap (λ (b : Bool). has_target i rid || b) (found_is_known is rid)
    ∙ same_test (target_of i).0 rid.0 (is_untargeted i) (is_known (known_in is) rid) refl
    ∙ sym (known_or (is_untargeted i) i (filter (λ x. not (is_untargeted x)) is) rid)

-- an item that is later than each target is not known

neither : (u b k : Bool) → b ≡ false → k ≡ false → cond u k (b || k) ≡ false
neither true b k e h = h
neither false b k e h = ap (λ (c : Bool). c || k) e ∙ h

pub above_unknown : (items : List Item) (rid : Rid) → All (λ i. (target_of i).0 < rid.0) items → is_known (known_in items) rid ≡ false
above_unknown [] rid above = refl
above_unknown (i ∷ is) rid above =
    known_or (is_untargeted i) i (filter (λ x. not (is_untargeted x)) is) rid
    ∙ neither (is_untargeted i) ((target_of i).0 == rid.0) (is_known (known_in is) rid)
    (ne_eqb (target_of i).0 rid.0 (λ same. omega (arith, same, All-head (λ x. (target_of x).0 < rid.0) i is above)))
    (above_unknown is rid (All-tail (λ x. (target_of x).0 < rid.0) i is above))
