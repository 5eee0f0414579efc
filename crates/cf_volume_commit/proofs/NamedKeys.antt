-- A payload names each record that differs, and the records that it has are those.
use Rattle.std.proofs.Common.{◌≡◌, ℕ, ◌^◌, ◌<◌, Bool, true, false, ◌||◌, ◌&&◌, not, cond, List, [], ◌∷◌, length, map, Option, Some, None, refl, sym, ◌∙◌, ap}
use Rattle.std.specs.Prelude.{All, filter, is_some}
use Rattle.std.specs.List.{list_any}
use Rattle.std.proofs.lemmas.Bool.{cond-true, cond-false}
use Rattle.std.proofs.lemmas.List.Elements.{All-head, All-tail, All-nil, All-cons, All-weaker}
use Rattle.cf_base.specs.declared.answers.AuxRecord.{AuxRecord}
use Rattle.cf_volume_points.proofs.Lookups.{none_and, weaker_after}
use Rattle.cf_volume_commit.specs.Differing.{IsThen, changed_keys, is_record_changed, removed_keys}
use Rattle.cf_volume_points.specs.declared.earlier.Earlier.{Earlier}
use Rattle.cf_volume_image.proofs.Keys.{before_not_same}
use Rattle.cf_volume_image.proofs.RecordsLeft.{records_left, rise_is}
use Rattle.cf_volume_image.specs.Contents.{in_front, record_at, records_at}
use Rattle.cf_volume_image.specs.Enough.{has_key, record_left}
use Rattle.cf_volume_image.specs.Spelled.{AreKeysFrom, AreRecordsFrom}
use Rattle.cf_volume_image.specs.States.{without_records}
use Rattle.cf_volume_image.specs.declared.contents.Contents.{Contents}
use Rattle.cf_model.specs.Formats.{Image, with_records}
use Rattle.cf_model.specs.Words.{same}
use Rattle.cf_volume_points.specs.Known.{or_now}
use Rattle.cf_table.proofs.NamedEntries.{same_is, same_itself}

-- the keys of records that pass a test on keys
pub has_filtered : (q : List ℕ → Bool) (rs : List AuxRecord) (key : List ℕ) → has_key (map (λ (r : AuxRecord). r.key) (filter (λ (r : AuxRecord). q r.key) rs)) key ≡ (is_some (record_at rs key) && q key)
has_filtered q [] key = refl
has_filtered q (x ∷ xs) key = by (same x.key key) refl (q x.key) refl (has_filtered q xs key)
  where
    rest : List (List ℕ)
    rest = map (λ (r : AuxRecord). r.key) (filter (λ (r : AuxRecord). q r.key) xs)

    by : (t : Bool) → same x.key key ≡ t → (u : Bool) → q x.key ≡ u → has_key rest key ≡ (is_some (record_at xs key) && q key)
        → has_key (map (λ (r : AuxRecord). r.key) (cond u (x ∷ filter (λ (r : AuxRecord). q r.key) xs) (filter (λ (r : AuxRecord). q r.key) xs))) key ≡ (is_some (cond t (Some x) (record_at xs key)) && q key)
    by true p true w h = ap (λ (b : Bool). b || has_key rest key) p ∙ sym (ap q (sym (same_is x.key key p)) ∙ w)
    by true p false w h =
        let gone : q key ≡ false = ap q (sym (same_is x.key key p)) ∙ w in
        h ∙ ap (λ (b : Bool). is_some (record_at xs key) && b) gone ∙ none_and (is_some (record_at xs key)) ∙ sym gone
    by false p true w h = ap (λ (b : Bool). b || has_key rest key) p ∙ h
    by false p false w h = h

pub any_found : (rs : List AuxRecord) (key : List ℕ) → list_any (λ r. same r.key key) rs ≡ is_some (record_at rs key)
any_found [] key = refl
any_found (x ∷ xs) key = by (same x.key key) (any_found xs key)
  where
    by : (t : Bool) → list_any (λ r. same r.key key) xs ≡ is_some (record_at xs key) → (t || list_any (λ r. same r.key key) xs) ≡ is_some (cond t (Some x) (record_at xs key))
    by true h = refl
    by false h = h

-- what the record is with the payload, by what it was and is
picked : (now then : Option AuxRecord) (made : Bool) → cond ((is_some now && (made || is_some then)) && is_some now) now (cond (is_some then && (not made && not (is_some now))) None (cond made None (or_now then now))) ≡ now
picked None None true = refl
picked None None false = refl
picked None (Some r) true = refl
picked None (Some r) false = refl
picked (Some n) None true = refl
picked (Some n) None false = refl
picked (Some n) (Some r) true = refl
picked (Some n) (Some r) false = refl

names : (then : Earlier) (c : Contents) (i : Image) → IsThen then c i → (key : List ℕ) → record_left i.records c.records (removed_keys then c.records) (changed_keys then c.records) key ≡ record_at c.records key
names then c i is key =
    let changed : has_key (changed_keys then c.records) key ≡ (is_some (record_at c.records key) && (is_some (record_at then.made key) || is_some (record_at then.records key)))
    = has_filtered (λ (k : List ℕ). is_some (record_at then.made k) || is_some (record_at then.records k)) c.records key in
    let removed : has_key (removed_keys then c.records) key ≡ (is_some (record_at then.records key) && (not (is_some (record_at then.made key)) && not (is_some (record_at c.records key))))
    = has_filtered (λ (k : List ℕ). not (is_some (record_at then.made k)) && not (is_some (record_at c.records k))) then.records key in
    let was : record_at i.records key ≡ cond (is_some (record_at then.made key)) None (or_now (record_at then.records key) (record_at c.records key))
    = is.records key ∙ ap (λ (t : Bool). cond t None (or_now (record_at then.records key) (record_at c.records key))) (any_found then.made key) in
    (λ k. cond (changed k && is_some (record_at c.records key)) (record_at c.records key) (cond (removed k) None (was k)))
    ∙ picked (record_at c.records key) (record_at then.records key) (is_some (record_at then.made key))

pub records_after : (then : Earlier) (c : Contents) (i : Image) → AreRecordsFrom None c.records → IsThen then c i
    → with_records (records_at c.records (changed_keys then c.records)) (without_records (removed_keys then c.records) i.records) ≡ c.records
records_after then c i rise is = records_left i.records c.records (removed_keys then c.records) (changed_keys then c.records) (rise_is None i.records is.keys_rise) (rise_is None c.records rise) (names then c i is)

-- the records that are named are those that pass

abbrev Found : List AuxRecord → AuxRecord → Type 0
Found rs r = record_at rs r.key ≡ Some r

abbrev After : List ℕ → AuxRecord → Type 0
After key r = same key r.key ≡ false

all_after : (key : List ℕ) (rs : List AuxRecord) → AreRecordsFrom (Some key) rs → All (After key) rs
all_after key [] h = All-nil (After key)
all_after key (r ∷ rs) h = All-cons (After key) r rs (before_not_same key r.key h.0.0.1) (all_after key rs (weaker_after key r.key rs h.0.0.1 h.1))

both_all : {A : Type 0} (P Q : A → Type 0) (xs : List A) → All P xs → All Q xs → All (λ (x : A). P x × Q x) xs
both_all {A} P Q [] p q = All-nil (λ (x : A). P x × Q x)
both_all {A} P Q (x ∷ xs) p q = All-cons (λ (x : A). P x × Q x) x xs (All-head P x xs p, All-head Q x xs q) (both_all P Q xs (All-tail P x xs p) (All-tail Q x xs q))

all_found : (before : Option (List ℕ)) (rs : List AuxRecord) → AreRecordsFrom before rs → All (Found rs) rs
all_found before [] h = All-nil (Found [])
all_found before (x ∷ xs) h =
    All-cons (Found (x ∷ xs)) x xs (cond-true (same x.key x.key) _ _ (same_itself x.key))
    (All-weaker (λ (r : AuxRecord). After x.key r × Found xs r) (Found (x ∷ xs)) (λ r f. cond-false (same x.key r.key) _ _ f.0 ∙ f.1) xs
    (both_all (After x.key) (Found xs) xs (all_after x.key xs h.1) (all_found (Some x.key) xs h.1)))

records_of_those : (rs : List AuxRecord) (p : AuxRecord → Bool) (xs : List AuxRecord) → All (Found rs) xs → records_at rs (map (λ (r : AuxRecord). r.key) (filter p xs)) ≡ filter p xs
records_of_those rs p [] h = refl
records_of_those rs p (x ∷ xs) h = by (p x) (records_of_those rs p xs (All-tail (Found rs) x xs h))
  where
    by : (t : Bool) → records_at rs (map (λ (r : AuxRecord). r.key) (filter p xs)) ≡ filter p xs
        → records_at rs (map (λ (r : AuxRecord). r.key) (cond t (x ∷ filter p xs) (filter p xs))) ≡ cond t (x ∷ filter p xs) (filter p xs)
    by true e =
        ap (λ (o : Option AuxRecord). in_front o (records_at rs (map (λ (r : AuxRecord). r.key) (filter p xs)))) (All-head (Found rs) x xs h)
        ∙ ap (λ (l : List AuxRecord). x ∷ l) e
    by false e = e

pub records_named : (then : Earlier) (rs : List AuxRecord) → AreRecordsFrom None rs → records_at rs (changed_keys then rs) ≡ filter (is_record_changed then) rs
records_named then rs rise = records_of_those rs (is_record_changed then) rs (all_found None rs rise)

pub keys_of : (before : Option (List ℕ)) (rs : List AuxRecord) → AreRecordsFrom before rs → AreKeysFrom before (map (λ (r : AuxRecord). r.key) rs)
keys_of before [] h = tt
keys_of before (r ∷ rs) h = (h.0.0, keys_of (Some r.key) rs h.1)

pub keys_short : (before : Option (List ℕ)) (ks : List (List ℕ)) → AreKeysFrom before ks → All (λ (k : List ℕ). length k < 2 ^ 8) ks
keys_short before [] h = All-nil (λ (k : List ℕ). length k < 2 ^ 8)
keys_short before (k ∷ ks) h = All-cons (λ (k : List ℕ). length k < 2 ^ 8) k ks h.0.0 (keys_short (Some k) ks h.1)
