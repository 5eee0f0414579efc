-- What the changes of marks mean: those after which other writes count, or none.
use Rattle.std.proofs.Common.{◌≡◌, ℕ, zero, suc, ◌+◌, Bool, true, false, ◌&&◌, ◌||◌, not, cond, List, [], ◌∷◌, length, min, refl, sym, ap, ◌∙◌, arith, ltb, Option, Some, None}
use Rattle.std.proofs.lemmas.Bool.{cond-true, cond-false}
use Rattle.std.proofs.lemmas.Bool.Decides.{nat_tests}
use Rattle.std.specs.Option.{is_some}
use Rattle.std.specs.Prelude.{replicate}
use Rattle.cf_base.specs.declared.ids.Usn.{Usn}
use Rattle.cf_model.specs.Effects.{later_than, rebased, reverted, took}
use Rattle.cf_model.specs.Items.{Item, bytes_held}
use Rattle.cf_model.specs.Numbers.{above, no_usn}
use Rattle.cf_model.specs.Overlay.{Put, Written, is_covered}
use Rattle.cf_model.specs.Words.{is_empty, passes_at, within}
use Rattle.cf_ranges.specs.Positions.{contains}
use Rattle.cf_table.specs.Means.{AreUpTo, HasBytes, IsLater, is_modified_since}
use Rattle.cf_table.specs.declared.rows.Row.{Row}
use Rattle.cf_table.proofs.Above.{above_twice, above_zero, all_above, none_above, not_above_self, numbers_above}

pub nothing : (b : Bool) → false ≡ (b && false)
nothing true = refl
nothing false = refl

-- all is modified

length_held : (held : List (Option ℕ)) → length (bytes_held held) ≡ length held
length_held [] = refl
length_held (h ∷ hs) = ap suc (length_held hs)

all_below : (size len p : ℕ) → len ≡ size → (true && ltb p size) ≡ (ltb p size && (within (min 0 size) (0 + len) p || false))
all_below size len p e = grind (arith, nat_tests)

reverted_set : (dir : Bool) (held : List (Option ℕ)) (n : Usn) (p : ℕ) →
    (not dir && ltb p (length held)) ≡ (ltb p (length held) && is_covered (cond dir [] (record { number = n; before = length held; write = Put 0 (bytes_held held) } ∷ [])) p)
reverted_set true held n p = nothing (ltb p (length held))
reverted_set false held n p = all_below (length held) (length (bytes_held held)) p (length_held held)

reverted_above : (a : Usn) (dir : Bool) (w : Written) → above w.number a ≡ true → later_than a (cond dir [] (w ∷ [])) ≡ cond dir [] (w ∷ [])
reverted_above a true w h = refl
reverted_above a false w h = cond-true (above w.number a) _ _ h

reverted_dirty : (dir : Bool) (w : Written) → not dir ≡ not (is_empty (cond dir [] (w ∷ [])))
reverted_dirty true w = refl
reverted_dirty false w = refl

reverted_numbers : (n : Usn) (dir : Bool) (w : Written) → w.number ≡ n → above n no_usn ≡ true → AreUpTo n (cond dir [] (w ∷ []))
reverted_numbers n true w e h = tt
reverted_numbers n false w e h = (ap (λ m. above m no_usn) e ∙ h, ap (λ m. above m n) e ∙ not_above_self n, tt)

pub reverted_bytes : (row new : Row) (n : Usn) (i : Item) → row.dir ≡ i.directory → IsLater n row → new.size ≡ row.size → new.anchor ≡ row.anchor →
    new.dirty ≡ not row.dir → new.dirty_since ≡ not row.dir → new.here ≡ row.here → new.valid ≡ row.valid →
    ((p : ℕ) → contains new.modified p ≡ (not row.dir && ltb p row.size)) → ((p : ℕ) → contains new.modified_since p ≡ (not row.dir && ltb p row.size)) → HasBytes row i → HasBytes new (reverted n i)
reverted_bytes row new n i dir later size anchor dirty dirty_since here valid modified since m =
    let w : Written = record { number = n; before = length i.held; write = Put 0 (bytes_held i.held) } in
    let above_anchor : above n new.anchor ≡ true = ap (λ a. above n a) anchor ∙ later.anchor in
    let same : later_than new.anchor (cond i.directory [] (w ∷ [])) ≡ cond i.directory [] (w ∷ []) = reverted_above new.anchor i.directory w above_anchor in
    record {
      size = size ∙ m.size;
      even = m.even;
      numbers = reverted_numbers n i.directory w refl (above_zero row.anchor n later.anchor);
      dirty = dirty ∙ ap not dir ∙ reverted_dirty i.directory w;
      dirty_since = dirty_since ∙ ap not dir ∙ reverted_dirty i.directory w ∙ ap (λ v. not (is_empty v)) (sym same);
      here = λ p. ap (λ r. contains r p) here ∙ m.here p;
      valid = λ p. ap (λ r. contains r p) valid ∙ m.valid p;
      modified = λ p. modified p ∙ ap (λ d. not d && ltb p row.size) dir ∙ ap (λ k. not i.directory && ltb p k) m.size ∙ reverted_set i.directory i.held n p;
      modified_since = λ p. since p ∙ ap (λ d. not d && ltb p row.size) dir ∙ ap (λ k. not i.directory && ltb p k) m.size ∙ reverted_set i.directory i.held n p
          ∙ ap (λ v. ltb p (length i.held) && is_covered v p) (sym same);
    }

-- nothing is modified

pub length_replicate : {A : Type 0} (n : ℕ) (x : A) → length (replicate n x) ≡ n
length_replicate zero x = refl
length_replicate (suc n) x = ap suc (length_replicate n x)

pub passes_none : {A : Type 0} (f : A → Bool) (n : ℕ) (x : A) (p : ℕ) → f x ≡ false → false ≡ passes_at f (replicate n x) p
passes_none f zero x p h = refl
passes_none f (suc n) x zero h = sym h
passes_none f (suc n) x (suc p) h = passes_none f n x p h

pub took_bytes : (new : Row) (identity : List ℕ) (size : ℕ) (n : Usn) (i : Item) → new.size ≡ size → new.dirty ≡ false → new.dirty_since ≡ false →
    new.here ≡ [] → new.valid ≡ [] → new.modified ≡ [] → new.modified_since ≡ [] → HasBytes new (took identity size n i)
took_bytes new identity size n i is dirty dirty_since here valid modified since = record {
  size = is ∙ sym (length_replicate size None);
  even = length_replicate size false ∙ sym (length_replicate size None);
  numbers = tt;
  dirty = dirty;
  dirty_since = dirty_since;
  here = λ p. ap (λ r. contains r p) here ∙ passes_none is_some size None p refl;
  valid = λ p. ap (λ r. contains r p) valid ∙ passes_none (λ b. b) size false p refl;
  modified = λ p. ap (λ r. contains r p) modified ∙ nothing (ltb p (length (replicate size None)));
  modified_since = λ p. ap (λ r. contains r p) since ∙ nothing (ltb p (length (replicate size None)));
}

-- the base takes writes in

pub length_taken : (dir none : Bool) (base : Option ℕ) (len : ℕ) → none ≡ false → cond dir base (Some len) ≡ cond (dir || none) base (Some len)
length_taken true none base len h = refl
length_taken false none base len h = sym (cond-false none base (Some len) h)

pub length_stays : (dir : Bool) (base : Option ℕ) (len : ℕ) → base ≡ cond (dir || true) base (Some len)
length_stays true base len = refl
length_stays false base len = refl

pub rebased_none : (row new : Row) (identity : List ℕ) (len : ℕ) (i : Item) → new.size ≡ row.size → new.anchor ≡ row.anchor → new.dirty ≡ row.dirty → new.dirty_since ≡ row.dirty_since →
    new.here ≡ row.here → new.valid ≡ row.valid → new.modified ≡ row.modified → new.modified_since ≡ row.modified_since → HasBytes row i → HasBytes new (rebased identity len no_usn i)
rebased_none row new identity len i size anchor dirty dirty_since here valid modified since m =
    let all : i.writes ≡ later_than no_usn i.writes = sym (all_above i.number i.writes m.numbers) in
    record {
      size = size ∙ m.size;
      even = m.even;
      numbers = numbers_above i.number no_usn i.writes m.numbers;
      dirty = dirty ∙ m.dirty ∙ ap (λ v. not (is_empty v)) all;
      dirty_since = dirty_since ∙ m.dirty_since ∙ ap (λ a. not (is_empty (later_than a i.writes))) (sym anchor) ∙ ap (λ v. not (is_empty (later_than new.anchor v))) all;
      here = λ p. ap (λ r. contains r p) here ∙ m.here p;
      valid = λ p. ap (λ r. contains r p) valid ∙ m.valid p;
      modified = λ p. ap (λ r. contains r p) modified ∙ m.modified p ∙ ap (λ v. ltb p (length i.held) && is_covered v p) all;
      modified_since = λ p. ap (λ r. contains r p) since ∙ m.modified_since p ∙ ap (λ a. is_modified_since a i p) (sym anchor)
          ∙ ap (λ v. ltb p (length i.held) && is_covered (later_than new.anchor v) p) all;
    }

pub rebased_anchor : (row new : Row) (identity : List ℕ) (len : ℕ) (i : Item) → new.size ≡ row.size → new.anchor ≡ row.anchor → new.dirty ≡ row.dirty_since → new.dirty_since ≡ row.dirty_since →
    new.here ≡ row.here → new.valid ≡ row.valid → new.modified ≡ row.modified_since → new.modified_since ≡ row.modified_since → HasBytes row i → HasBytes new (rebased identity len row.anchor i)
rebased_anchor row new identity len i size anchor dirty dirty_since here valid modified since m =
    let twice : later_than row.anchor i.writes ≡ later_than new.anchor (later_than row.anchor i.writes) = sym (above_twice row.anchor i.writes) ∙ ap (λ a. later_than a (later_than row.anchor i.writes)) (sym anchor) in
    record {
      size = size ∙ m.size;
      even = m.even;
      numbers = numbers_above i.number row.anchor i.writes m.numbers;
      dirty = dirty ∙ m.dirty_since;
      dirty_since = dirty_since ∙ m.dirty_since ∙ ap (λ v. not (is_empty v)) twice;
      here = λ p. ap (λ r. contains r p) here ∙ m.here p;
      valid = λ p. ap (λ r. contains r p) valid ∙ m.valid p;
      modified = λ p. ap (λ r. contains r p) modified ∙ m.modified_since p;
      modified_since = λ p. ap (λ r. contains r p) since ∙ m.modified_since p ∙ ap (λ v. ltb p (length i.held) && is_covered v p) twice;
    }

none_of : (row : Row) (i : Item) → row.number ≡ i.number → HasBytes row i → later_than row.number i.writes ≡ []
none_of row i number m = ap (λ n. later_than n i.writes) number ∙ none_above i.number i.writes m.numbers

pub rebased_number : (row new : Row) (identity : List ℕ) (len : ℕ) (i : Item) → row.number ≡ i.number → new.size ≡ row.size → new.dirty ≡ false → new.dirty_since ≡ false →
    new.here ≡ row.here → new.valid ≡ row.valid → new.modified ≡ [] → new.modified_since ≡ [] → HasBytes row i → HasBytes new (rebased identity len row.number i)
rebased_number row new identity len i number size dirty dirty_since here valid modified since m =
    let none : [] ≡ later_than row.number i.writes = sym (none_of row i number m) in
    record {
      size = size ∙ m.size;
      even = m.even;
      numbers = numbers_above i.number row.number i.writes m.numbers;
      dirty = dirty ∙ ap (λ v. not (is_empty v)) none;
      dirty_since = dirty_since ∙ ap (λ v. not (is_empty (later_than new.anchor v))) none;
      here = λ p. ap (λ r. contains r p) here ∙ m.here p;
      valid = λ p. ap (λ r. contains r p) valid ∙ m.valid p;
      modified = λ p. ap (λ r. contains r p) modified ∙ nothing (ltb p (length i.held)) ∙ ap (λ v. ltb p (length i.held) && is_covered v p) none;
      modified_since = λ p. ap (λ r. contains r p) since ∙ nothing (ltb p (length i.held)) ∙ ap (λ v. ltb p (length i.held) && is_covered (later_than new.anchor v) p) none;
    }

-- the anchor becomes the number
pub anchored_bytes : (row new : Row) (i : Item) → row.number ≡ i.number → new.anchor ≡ row.number → new.size ≡ row.size → new.dirty ≡ row.dirty → new.dirty_since ≡ false →
    new.here ≡ row.here → new.valid ≡ row.valid → new.modified ≡ row.modified → new.modified_since ≡ [] → HasBytes row i → HasBytes new i
anchored_bytes row new i number anchor size dirty dirty_since here valid modified since m =
    let none : [] ≡ later_than new.anchor i.writes = sym (ap (λ n. later_than n i.writes) anchor ∙ none_of row i number m) in
    record {
      size = size ∙ m.size;
      even = m.even;
      numbers = m.numbers;
      dirty = dirty ∙ m.dirty;
      dirty_since = dirty_since ∙ ap (λ v. not (is_empty v)) none;
      here = λ p. ap (λ r. contains r p) here ∙ m.here p;
      valid = λ p. ap (λ r. contains r p) valid ∙ m.valid p;
      modified = λ p. ap (λ r. contains r p) modified ∙ m.modified p;
      modified_since = λ p. ap (λ r. contains r p) since ∙ nothing (ltb p (length i.held)) ∙ ap (λ v. ltb p (length i.held) && is_covered v p) none;
    }
