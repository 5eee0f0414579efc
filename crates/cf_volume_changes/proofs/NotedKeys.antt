-- Records noted as they were at the last point.
use Rattle.std.proofs.Common.{◌≡◌, ℕ, Bool, true, false, ◌||◌, cond, List, [], ◌∷◌, refl, sym, ◌∙◌, ap, subst, Option, Some, None}
use Rattle.std.specs.List.{list_any}
use Rattle.std.specs.Option.{is_some}
use Rattle.std.proofs.lemmas.Bool.{cond-true, true≢false}
use Rattle.std.proofs.lemmas.Option.{none-some, same_Some}
use Rattle.cf_base.specs.declared.answers.AuxRecord.{AuxRecord}
use Rattle.cf_volume_points.proofs.Lookups.{at_with}
use Rattle.cf_volume_image.specs.Contents.{record_at}
use Rattle.cf_volume_image.specs.RecordLists.{IsShort}
use Rattle.cf_volume_image.specs.Spelled.{AreRecordsFrom}
use Rattle.cf_model.specs.Formats.{with_record}
use Rattle.cf_model.specs.Words.{same}
use Rattle.cf_volume_points.specs.Known.{or_now, record_then}
use Rattle.cf_table.proofs.NamedEntries.{same_is, same_itself}
use Rattle.cf_volume_changes.specs.Notes.{NotesKey}

pub found_key : (xs : List AuxRecord) (key : List ℕ) (r : AuxRecord) → record_at xs key ≡ Some r → r.key ≡ key
found_key [] key r e = absurd (none-some r e)
found_key (x ∷ xs) key r e = by (same x.key key) refl e (found_key xs key r)
  where
    by : (t : Bool) → same x.key key ≡ t → cond t (Some x) (record_at xs key) ≡ Some r → (record_at xs key ≡ Some r → r.key ≡ key) → r.key ≡ key
    by true h g f = ap (λ (y : AuxRecord). y.key) (sym (same_Some x r g)) ∙ same_is x.key key h
    by false h g f = f g

pub found_by_key : (xs : List AuxRecord) (key : List ℕ) (r : AuxRecord) → record_at xs key ≡ Some r → record_at xs r.key ≡ Some r
found_by_key xs key r e = ap (record_at xs) (found_key xs key r e) ∙ e

pub found_short : (before : Option (List ℕ)) (xs : List AuxRecord) (key : List ℕ) (r : AuxRecord) → AreRecordsFrom before xs → record_at xs key ≡ Some r → IsShort r
found_short before [] key r h e = absurd (none-some r e)
found_short before (x ∷ xs) key r h e = by (same x.key key) e (found_short (Some x.key) xs key r h.1)
  where
    by : (t : Bool) → cond t (Some x) (record_at xs key) ≡ Some r → (record_at xs key ≡ Some r → IsShort r) → IsShort r
    by true g f = subst IsShort (same_Some x r g) (h.0.0.0, h.0.1)
    by false g f = f g

-- keys that were made

any_found : (xs : List AuxRecord) (key : List ℕ) → list_any (λ r. same r.key key) xs ≡ is_some (record_at xs key)
any_found [] key = refl
any_found (x ∷ xs) key = by (same x.key key) (any_found xs key)
  where
    by : (t : Bool) → list_any (λ r. same r.key key) xs ≡ is_some (record_at xs key) → (t || list_any (λ r. same r.key key) xs) ≡ is_some (cond t (Some x) (record_at xs key))
    by true h = refl
    by false h = h

then_is : (key : List ℕ) (old made : List AuxRecord) (now : Option AuxRecord) → record_then key old made now ≡ cond (is_some (record_at made key)) None (or_now (record_at old key) now)
then_is key old made now = ap (λ (t : Bool). cond t None (or_now (record_at old key) now)) (any_found made key)

by_some : (o : Option AuxRecord) → is_some o ≡ true → (a b : Option AuxRecord) → or_now o a ≡ or_now o b
by_some None e a b = absurd (true≢false (sym e))
by_some (Some r) e a b = refl

-- it was made since
pub key_made : (key : List ℕ) (records old made : List AuxRecord) → is_some (record_at made key) ≡ true → NotesKey key records old old made made
key_made key records old made some = record {
  others = λ k now apart. refl;
  here = λ now. then_is key old made now ∙ cond-true (is_some (record_at made key)) None _ some ∙ sym (then_is key old made (record_at records key) ∙ cond-true (is_some (record_at made key)) None _ some);
}

pub no_record : (o : Option AuxRecord) → is_some o ≡ false → o ≡ None
no_record None e = refl
no_record (Some r) e = absurd (true≢false e)

pub key_kept : (key : List ℕ) (records old new made : List AuxRecord) (r p : AuxRecord) → record_at records key ≡ Some r → p ≡ r → record_at old key ≡ None → new ≡ with_record p old → NotesKey key records old new made made
key_kept key records old new made r p found is none put = record {
  others = λ k now apart. ap (λ (o : Option AuxRecord). cond (list_any (λ x. same x.key k) made) None (or_now o now)) (ap (λ (l : List AuxRecord). record_at l k) put ∙ at_with p k false old (ap (λ (l : List ℕ). same l k) at ∙ apart));
  here = λ now. ap (λ (o : Option AuxRecord). cond (list_any (λ x. same x.key key) made) None (or_now o now)) (ap (λ (l : List AuxRecord). record_at l key) put ∙ at_with p key true old (ap (λ (l : List ℕ). same l key) at ∙ same_itself key))
      ∙ ap (λ (o : Option AuxRecord). cond (list_any (λ x. same x.key key) made) None o) (ap (λ (x : AuxRecord). Some x) is ∙ sym found ∙ sym (ap (λ (o : Option AuxRecord). or_now o (record_at records key)) none));
}
  where
    at : p.key ≡ key
    at = ap (λ (x : AuxRecord). x.key) is ∙ found_key records key r found

pub key_new : (key : List ℕ) (records old made made' : List AuxRecord) (p : AuxRecord) → record_at records key ≡ None → p.key ≡ key → record_at old key ≡ None → record_at made key ≡ None → made' ≡ with_record p made → NotesKey key records old old made made'
key_new key records old made made' p gone at none fresh put = record {
  others = λ k now apart. then_is k old made' now
      ∙ ap (λ (o : Option AuxRecord). cond (is_some o) None (or_now (record_at old k) now)) (ap (λ (l : List AuxRecord). record_at l k) put ∙ at_with p k false made (ap (λ (l : List ℕ). same l k) at ∙ apart))
      ∙ sym (then_is k old made now);
  here = λ now. then_is key old made' now
      ∙ ap (λ (o : Option AuxRecord). cond (is_some o) None (or_now (record_at old key) now)) (ap (λ (l : List AuxRecord). record_at l key) put ∙ at_with p key true made (ap (λ (l : List ℕ). same l key) at ∙ same_itself key))
      ∙ sym (then_is key old made (record_at records key) ∙ ap (λ (o : Option AuxRecord). cond (is_some o) None (or_now (record_at old key) (record_at records key))) fresh ∙ ap (λ (o : Option AuxRecord). or_now o (record_at records key)) none ∙ gone);
}
