-- Rows and records put back as they were at the last point.
use Rattle.std.proofs.Common.{◌≡◌, ℕ, ◌+◌, ◌<◌, Bool, true, false, ◌||◌, ◌&&◌, not, cond, eqb, ltb, List, [], ◌∷◌, Option, Some, None, refl, sym, ◌∙◌, ap, subst, arith}
use Rattle.std.specs.List.{list_any}
use Rattle.std.specs.Prelude.{filter, is_some, map}
use Rattle.std.proofs.lemmas.Bool.{cond-false, eqb-true, ne_eqb}
use Rattle.cf_base.specs.declared.answers.AuxRecord.{AuxRecord}
use Rattle.cf_base.specs.declared.ids.ItemId.{ItemId}
use Rattle.cf_model.specs.Formats.{with_record, without_record}
use Rattle.cf_model.specs.Words.{same}
use Rattle.cf_table.proofs.NamedEntries.{same_is, same_itself}
use Rattle.cf_table.specs.Tables.{RisesFrom, row_of, with_row, without_row}
use Rattle.cf_table.specs.declared.rows.Row.{Row}
use Rattle.cf_volume_points.proofs.Lookups.{at_with, at_without}
use Rattle.cf_volume_points.proofs.Lookups.{has_filtered}
use Rattle.cf_volume_image.proofs.RecordPlaces.{all_stay}
use Rattle.cf_volume_image.specs.Contents.{record_at}
use Rattle.cf_volume_image.specs.Enough.{has_id}
use Rattle.cf_volume_image.specs.Spelled.{AreRecordsFrom}
use Rattle.cf_volume_points.proofs.RowChanges.{found_with, found_without}
use Rattle.cf_volume_points.specs.Known.{or_now, record_then, row_then}

either : {A : Type 0} (a b : Bool) (o : Option A) → cond b None (cond a None o) ≡ cond (a || b) None o
either true true o = refl
either true false o = refl
either false b o = refl

-- rows

row_below : (low : ℕ) (rows : List Row) (id : ItemId) → RisesFrom low rows → id.0 < low → row_of rows id ≡ None
row_below low [] id h lt = refl
row_below low (r ∷ rs) id h lt = cond-false (eqb r.id.0 id.0) (Some r) (row_of rs id) (ne_eqb r.id.0 id.0 (λ e. omega (arith, e, h.0, lt))) ∙ row_below (r.id.0 + 1) rs id h.1 (omega (arith, h.0, lt))

abbrev pub PutsRows : List Row → List Row → List Row → List Row → Type 0
PutsRows left now all first = (id : ItemId) → or_now (row_of left id) (row_of now id) ≡ or_now (row_of all id) (row_of first id)

pub row_put : (left rest all : List Row) (r p : Row) (first now next : List Row) (low : ℕ) → left ≡ r ∷ rest → p ≡ r → next ≡ with_row p now → RisesFrom 0 now → RisesFrom low left → PutsRows left now all first → PutsRows rest next all first
row_put left rest all r p first now next low is copy put rises rise so id =
    ap (λ (l : List Row). or_now (row_of rest id) (row_of l id)) (put ∙ ap (λ (x : Row). with_row x now) copy)
    ∙ ap (λ (o : Option Row). or_now (row_of rest id) o) (found_with r 0 now id rises)
    ∙ by (eqb r.id.0 id.0) refl
    ∙ ap (λ (l : List Row). or_now (row_of l id) (row_of now id)) (sym is)
    ∙ so id
  where
    by : (t : Bool) → eqb r.id.0 id.0 ≡ t → or_now (row_of rest id) (cond t (Some r) (row_of now id)) ≡ or_now (cond t (Some r) (row_of rest id)) (row_of now id)
    by true e =
        let h : RisesFrom low (r ∷ rest) = subst (λ (l : List Row). RisesFrom low l) is rise in
        ap (λ (o : Option Row). or_now o (Some r)) (row_below (r.id.0 + 1) rest id h.1 (omega (arith, eqb-true r.id.0 id.0 e)))
    by false e = refl

abbrev pub TakesRows : List ItemId → List Row → List ItemId → List Row → Type 0
TakesRows left now all first = (id : ItemId) → cond (has_id left id) None (row_of now id) ≡ cond (has_id all id) None (row_of first id)

pub row_taken : (left rest all : List ItemId) (x : ItemId) (first now next : List Row) → left ≡ x ∷ rest → next ≡ without_row x now → TakesRows left now all first → TakesRows rest next all first
row_taken left rest all x first now next is gone so id =
    ap (λ (l : List Row). cond (has_id rest id) None (row_of l id)) gone
    ∙ ap (λ (o : Option Row). cond (has_id rest id) None o) (found_without x now id)
    ∙ either (eqb x.0 id.0) (has_id rest id) (row_of now id)
    ∙ ap (λ (l : List ItemId). cond (has_id l id) None (row_of now id)) (sym is)
    ∙ so id

-- without those that are new
pub rows_back : (next : ItemId) (noted old put new : List Row) (ids : List ItemId) → ids ≡ map (λ (r : Row). r.id) (filter (λ (r : Row). not (ltb r.id.0 next.0)) put) → ((id : ItemId) → row_of put id ≡ or_now (row_of noted id) (row_of old id))
    → ((id : ItemId) → row_of new id ≡ cond (has_id ids id) None (row_of put id)) → (id : ItemId) → row_of new id ≡ row_then id noted next (row_of old id)
rows_back next noted old put new ids is puts takes id =
    takes id
    ∙ ap (λ (l : List ItemId). cond (has_id l id) None (row_of put id)) is
    ∙ ap (λ (t : Bool). cond t None (row_of put id)) (has_filtered (λ (i : ItemId). not (ltb i.0 next.0)) put id)
    ∙ left (row_of put id) (ltb id.0 next.0)
    ∙ ap (λ (o : Option Row). cond (ltb id.0 next.0) o None) (puts id)
  where
    left : (o : Option Row) (t : Bool) → cond (is_some o && not t) None o ≡ cond t o None
    left None true = refl
    left None false = refl
    left (Some r) true = refl
    left (Some r) false = refl

-- records

abbrev pub PutsRecords : List AuxRecord → List AuxRecord → List AuxRecord → List AuxRecord → Type 0
PutsRecords left now all first = (key : List ℕ) → or_now (record_at left key) (record_at now key) ≡ or_now (record_at all key) (record_at first key)

pub record_put : (left rest all : List AuxRecord) (r p : AuxRecord) (first now next : List AuxRecord) (before : Option (List ℕ)) → left ≡ r ∷ rest → p ≡ r → next ≡ with_record p now → AreRecordsFrom before left → PutsRecords left now all first → PutsRecords rest next all first
record_put left rest all r p first now next before is copy put rise so key =
    ap (λ (l : List AuxRecord). or_now (record_at rest key) (record_at l key)) (put ∙ ap (λ (x : AuxRecord). with_record x now) copy)
    ∙ ap (λ (o : Option AuxRecord). or_now (record_at rest key) o) (at_with r key (same r.key key) now refl)
    ∙ by (same r.key key) refl
    ∙ ap (λ (l : List AuxRecord). or_now (record_at l key) (record_at now key)) (sym is)
    ∙ so key
  where
    none_left : record_at rest r.key ≡ None
    none_left =
        let h : AreRecordsFrom before (r ∷ rest) = subst (λ (l : List AuxRecord). AreRecordsFrom before l) is rise in
        ap (λ (l : List AuxRecord). record_at l r.key) (sym (all_stay r.key rest h.1)) ∙ at_without r.key r.key true rest (same_itself r.key)

    by : (t : Bool) → same r.key key ≡ t → or_now (record_at rest key) (cond t (Some r) (record_at now key)) ≡ or_now (cond t (Some r) (record_at rest key)) (record_at now key)
    by true e = ap (λ (o : Option AuxRecord). or_now o (Some r)) (ap (λ (k : List ℕ). record_at rest k) (sym (same_is r.key key e)) ∙ none_left)
    by false e = refl

abbrev any_key : List AuxRecord → List ℕ → Bool
any_key made key = list_any (λ r. same r.key key) made

abbrev pub TakesRecords : List AuxRecord → List AuxRecord → List AuxRecord → List AuxRecord → Type 0
TakesRecords left now all first = (key : List ℕ) → cond (list_any (λ r. same r.key key) left) None (record_at now key) ≡ cond (list_any (λ r. same r.key key) all) None (record_at first key)

pub record_taken : (left rest all : List AuxRecord) (x : AuxRecord) (k : List ℕ) (first now next : List AuxRecord) → left ≡ x ∷ rest → k ≡ x.key → next ≡ without_record k now → TakesRecords left now all first → TakesRecords rest next all first
record_taken left rest all x k first now next is named gone so key =
    ap (λ (l : List AuxRecord). cond (any_key rest key) None (record_at l key)) (gone ∙ ap (λ (n : List ℕ). without_record n now) named)
    ∙ ap (λ (o : Option AuxRecord). cond (any_key rest key) None o) (at_without x.key key (same x.key key) now refl)
    ∙ either (same x.key key) (any_key rest key) (record_at now key)
    ∙ ap (λ (l : List AuxRecord). cond (any_key l key) None (record_at now key)) (sym is)
    ∙ so key

pub records_back : (noted made old put new : List AuxRecord) → ((key : List ℕ) → record_at put key ≡ or_now (record_at noted key) (record_at old key)) → ((key : List ℕ) → record_at new key ≡ cond (list_any (λ r. same r.key key) made) None (record_at put key))
    → (key : List ℕ) → record_at new key ≡ record_then key noted made (record_at old key)
records_back noted made old put new puts takes key = takes key ∙ ap (λ (o : Option AuxRecord). cond (any_key made key) None o) (puts key)
