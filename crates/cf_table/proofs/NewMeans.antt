-- What the rows of new items mean.
use Rattle.std.proofs.Common.{◌≡◌, ℕ, Bool, true, false, ◌&&◌, ◌||◌, not, List, [], ◌∷◌, ◌++◌, length, refl, sym, ap, ◌∙◌, arith, ltb, Option, None}
use Rattle.std.proofs.lemmas.Bool.Decides.{nat_tests}
use Rattle.std.specs.Option.{is_some}
use Rattle.std.specs.Prelude.{replicate}
use Rattle.cf_base.specs.declared.ids.ItemId.{ItemId}
use Rattle.cf_base.specs.declared.ids.Usn.{Usn}
use Rattle.cf_base.specs.declared.items.Kind.{Kind}
use Rattle.cf_base.specs.declared.items.Kind.TheVariants as kind
use Rattle.cf_base.specs.declared.items.Pin.{Pin}
use Rattle.cf_model.specs.Effects.{copied, later_than, made, size_made, writes_made}
use Rattle.cf_model.specs.Items.{Item}
use Rattle.cf_model.specs.Numbers.{above, no_usn}
use Rattle.cf_model.specs.Overlay.{Resize, Written, is_covered}
use Rattle.cf_model.specs.Words.{is_empty, within}
use Rattle.cf_ranges.specs.Positions.{contains}
use Rattle.cf_table.specs.Means.{AreUpTo, HasBytes, starts_dirty}
use Rattle.cf_table.specs.declared.rows.Row.{Row}
use Rattle.cf_table.proofs.Above.{all_above, not_above_self, numbers_push, some_pushed}
use Rattle.cf_table.proofs.MarkMeans.{length_replicate, nothing, passes_none}
use Rattle.cf_table.proofs.Meaning.{covered_push}

nowhere : (p : ℕ) → (within 0 0 p || false) ≡ false
nowhere p = grind (arith, nat_tests)

made_covers : (k : Kind) (n : Usn) (p : ℕ) → is_covered (writes_made k n) p ≡ false
made_covers kind.File n p = nowhere p
made_covers kind.Dir n p = refl
made_covers kind.PlaceholderFile n p = refl
made_covers kind.PlaceholderDir n p = refl
made_covers kind.UnpopulatedDir n p = refl

made_dirty : (k : Kind) (n : Usn) → starts_dirty k ≡ not (is_empty (writes_made k n))
made_dirty kind.File n = refl
made_dirty kind.Dir n = refl
made_dirty kind.PlaceholderFile n = refl
made_dirty kind.PlaceholderDir n = refl
made_dirty kind.UnpopulatedDir n = refl

made_numbers : (k : Kind) (n : Usn) → above n no_usn ≡ true → AreUpTo n (writes_made k n)
made_numbers kind.File n h = (h, not_above_self n, tt)
made_numbers kind.Dir n h = tt
made_numbers kind.PlaceholderFile n h = tt
made_numbers kind.PlaceholderDir n h = tt
made_numbers kind.UnpopulatedDir n h = tt

none_covered : (b covered : Bool) → covered ≡ false → false ≡ (b && covered)
none_covered b covered e = nothing b ∙ ap (λ c. b && c) (sym e)

abbrev no_bytes : ℕ → List (Option ℕ)
no_bytes n = replicate n None

pub made_bytes : (new : Row) (id parent : ItemId) (name : List ℕ) (k : Kind) (size : ℕ) (identity : List ℕ) (pin : Pin) (n : Usn) → above n no_usn ≡ true →
    new.size ≡ size_made k size → new.anchor ≡ no_usn → new.dirty ≡ starts_dirty k → new.dirty_since ≡ starts_dirty k →
    new.here ≡ [] → new.valid ≡ [] → new.modified ≡ [] → new.modified_since ≡ [] → HasBytes new (made id parent name k size identity pin n)
made_bytes new id parent name k size identity pin n after is anchor dirty dirty_since here valid modified since =
    let all : writes_made k n ≡ later_than new.anchor (writes_made k n) = sym (ap (λ a. later_than a (writes_made k n)) anchor ∙ all_above n (writes_made k n) (made_numbers k n after)) in
    record {
      size = is ∙ sym (length_replicate (size_made k size) None);
      even = length_replicate (size_made k size) false ∙ sym (length_replicate (size_made k size) None);
      numbers = made_numbers k n after;
      dirty = dirty ∙ made_dirty k n;
      dirty_since = dirty_since ∙ made_dirty k n ∙ ap (λ v. not (is_empty v)) all;
      here = λ p. ap (λ r. contains r p) here ∙ passes_none is_some (size_made k size) None p refl;
      valid = λ p. ap (λ r. contains r p) valid ∙ passes_none (λ b. b) (size_made k size) false p refl;
      modified = λ p. ap (λ r. contains r p) modified ∙ none_covered (ltb p (length (no_bytes (size_made k size)))) (is_covered (writes_made k n) p) (made_covers k n p);
      modified_since = λ p. ap (λ r. contains r p) since ∙ none_covered (ltb p (length (no_bytes (size_made k size)))) (is_covered (writes_made k n) p) (made_covers k n p)
          ∙ ap (λ v. ltb p (length (no_bytes (size_made k size))) && is_covered v p) all;
    }

-- a size that stays covers nothing
no_more : (b : Bool) (size p : ℕ) → b ≡ (b || within size size p)
no_more true size p = refl
no_more false size p = grind (arith, nat_tests)

pub copied_bytes : (row new : Row) (id parent : ItemId) (name : List ℕ) (pin : Pin) (n : Usn) (i : Item) → row.number ≡ i.number → above n row.number ≡ true →
    new.size ≡ row.size → new.anchor ≡ no_usn → new.dirty ≡ true → new.dirty_since ≡ true →
    new.here ≡ row.here → new.valid ≡ row.valid → new.modified ≡ row.modified → new.modified_since ≡ row.modified → HasBytes row i → HasBytes new (copied id parent name pin n i)
copied_bytes row new id parent name pin n i number after size anchor dirty dirty_since here valid modified since m =
    let w : Written = record { number = n; before = length i.held; write = Resize (length i.held) } in
    let numbers : AreUpTo n (i.writes ++ w ∷ []) = numbers_push i.number n i.writes w (ap (λ a. above n a) (sym number) ∙ after) refl m.numbers in
    let all : i.writes ++ w ∷ [] ≡ later_than new.anchor (i.writes ++ w ∷ []) = sym (ap (λ a. later_than a (i.writes ++ w ∷ [])) anchor ∙ all_above n (i.writes ++ w ∷ []) numbers) in
    let covered : (p : ℕ) → (ltb p (length i.held) && is_covered i.writes p) ≡ (ltb p (length i.held) && is_covered (i.writes ++ w ∷ []) p) =
    λ p. ap (λ b. ltb p (length i.held) && b) (no_more (is_covered i.writes p) (length i.held) p ∙ sym (covered_push i.writes w p)) in
    record {
      size = size ∙ m.size;
      even = m.even;
      numbers = numbers;
      dirty = dirty ∙ some_pushed i.writes w;
      dirty_since = dirty_since ∙ some_pushed i.writes w ∙ ap (λ v. not (is_empty v)) all;
      here = λ p. ap (λ r. contains r p) here ∙ m.here p;
      valid = λ p. ap (λ r. contains r p) valid ∙ m.valid p;
      modified = λ p. ap (λ r. contains r p) modified ∙ m.modified p ∙ covered p;
      modified_since = λ p. ap (λ r. contains r p) since ∙ m.modified p ∙ covered p ∙ ap (λ v. ltb p (length i.held) && is_covered v p) all;
    }
