-- The auxiliary records that a payload leaves, record by record.
use Rattle.std.proofs.Common.{◌≡◌, ℕ, Bool, true, false, ◌||◌, ◌&&◌, not, cond, List, [], ◌∷◌, refl, sym, ap, subst, ◌∙◌, inl, inr, Option, Some, None}
use Rattle.std.proofs.lemmas.Bool.{cases_Bool}
use Rattle.std.specs.Prelude.{filter, is_some}
use Rattle.std.specs.List.{list_any}
use Rattle.cf_base.specs.declared.answers.AuxRecord.{AuxRecord}
use Rattle.cf_model.specs.Formats.{is_key_removed, with_record, with_records, without_record}
use Rattle.cf_model.specs.Words.{comes_before, put_in, same}
use Rattle.cf_table.proofs.NamedEntries.{same_is, same_itself}
use Rattle.cf_volume_image.specs.Contents.{in_front, record_at, records_at}
use Rattle.cf_volume_image.specs.Enough.{has_key, record_left}
use Rattle.cf_volume_image.specs.Spelled.{AreRecordsFrom, IsAfter}
use Rattle.cf_volume_image.specs.States.{without_records}
use Rattle.cf_volume_image.proofs.Choices.{drop_in, drop_same, keep_other, named_none, named_some, none_or_none, twice}
use Rattle.cf_volume_image.proofs.Keys.{after_not_same, before_not_same, else_before, goes_on_before, same_back}

-- the keys rise, from the one after this on
abbrev pub Rise : Option (List ℕ) → List AuxRecord → Type 0
Rise before [] = Unit {0}
Rise before (r ∷ rs) = IsAfter before r.key × Rise (Some r.key) rs

pub rise_is : (before : Option (List ℕ)) (rs : List AuxRecord) → AreRecordsFrom before rs → Rise before rs
rise_is before [] h = tt
rise_is before (r ∷ rs) h = (h.0.0.1, rise_is (Some r.key) rs h.1)

weaker : (before : Option (List ℕ)) (key : List ℕ) (rs : List AuxRecord) → IsAfter before key → Rise (Some key) rs → Rise before rs
weaker before key [] a h = tt
weaker None key (r ∷ rs) a h = (tt, h.1)
weaker (Some k) key (r ∷ rs) a h = (goes_on_before k key r.key a h.0, h.1)

not_before : (key before : List ℕ) (rs : List AuxRecord) → comes_before key before ≡ true → Rise (Some before) rs → record_at rs key ≡ None
not_before key before [] h k = refl
not_before key before (r ∷ rs) h k =
    let b : comes_before key r.key ≡ true = goes_on_before key before r.key h k.0 in
    rw (after_not_same key r.key b) (not_before key r.key rs b k.1)

none_from : (key : List ℕ) (rs : List AuxRecord) → Rise (Some key) rs → record_at rs key ≡ None
none_from key [] k = refl
none_from key (r ∷ rs) k = rw (after_not_same key r.key k.0) (not_before key r.key rs k.0 k.1)

some_same : (a b : AuxRecord) → ◌≡◌ {A = Option AuxRecord} (Some a) (Some b) → a ≡ b
some_same a b e = cc

at_first : (r : AuxRecord) (rs : List AuxRecord) → record_at (r ∷ rs) r.key ≡ Some r
at_first r rs = rw (same_itself r.key) refl

at_rest : (r : AuxRecord) (rs : List AuxRecord) (key : List ℕ) → same r.key key ≡ false → record_at (r ∷ rs) key ≡ record_at rs key
at_rest r rs key h = rw h refl

above_first : (y : AuxRecord) (ys : List AuxRecord) (key : List ℕ) → Rise (Some y.key) ys → comes_before key y.key ≡ true → record_at (y ∷ ys) key ≡ None
above_first y ys key k h = at_rest y ys key (after_not_same key y.key h) ∙ not_before key y.key ys h k

pub one_list : (before : Option (List ℕ)) (xs ys : List AuxRecord) → Rise before xs → Rise before ys → ((key : List ℕ) → record_at xs key ≡ record_at ys key) → xs ≡ ys
one_list before [] [] h k e = refl
one_list before [] (y ∷ ys) h k e = let z : None ≡ Some y = e y.key ∙ at_first y ys in cc
one_list before (x ∷ xs) [] h k e = let z : Some x ≡ None = sym (at_first x xs) ∙ e x.key in cc
one_list before (x ∷ xs) (y ∷ ys) h k e = elim (cases_Bool (comes_before x.key y.key)) [
  | inl less ↦ let z : Some x ≡ None = sym (at_first x xs) ∙ e x.key ∙ above_first y ys x.key k.1 less in cc
  | inr more ↦ elim (cases_Bool (same x.key y.key)) [
    | inl hit ↦
        let keys : x.key ≡ y.key = same_is x.key y.key hit in
        let first : x ≡ y = some_same x y (sym (at_first x xs) ∙ e x.key ∙ ap (λ b. cond b (Some y) (record_at ys x.key)) (same_back y.key x.key ∙ hit)) in
        ap (λ v. v ∷ xs) first ∙ ap (λ v. y ∷ v) (one_list (Some x.key) xs ys h.1 (subst (λ (n : List ℕ). Rise (Some n) ys) (sym keys) k.1) (rest keys))
    | inr miss ↦ let z : None ≡ Some y = sym (above_first x xs y.key h.1 (else_before x.key y.key more miss)) ∙ e y.key ∙ at_first y ys in cc
  ]
] where
  rest : x.key ≡ y.key → (key : List ℕ) → record_at xs key ≡ record_at ys key
  rest keys key = elim (cases_Bool (same x.key key)) [
    | inl hit ↦
        let at : x.key ≡ key = same_is x.key key hit in
        none_from key xs (subst (λ (n : List ℕ). Rise (Some n) xs) at h.1) ∙ sym (none_from key ys (subst (λ (n : List ℕ). Rise (Some n) ys) (sym keys ∙ at) k.1))
    | inr miss ↦ sym (at_rest x xs key miss) ∙ e key ∙ at_rest y ys key (ap (λ n. same n key) (sym keys) ∙ miss)
  ]

-- look-ups in what is put and removed

at_without : (k key : List ℕ) (xs : List AuxRecord) → record_at (without_record k xs) key ≡ cond (same k key) None (record_at xs key)
at_without k key [] = none_or_none (same k key)
at_without k key (x ∷ xs) = elim (cases_Bool (same x.key k)) [
  | inl hit ↦
      let e : same x.key key ≡ same k key = ap (λ n. same n key) (same_is x.key k hit) in
      rw hit (at_without k key xs ∙ drop_same (same x.key key) (same k key) (Some x) (record_at xs key) e)
  | inr miss ↦
      rw miss (keep_other (same x.key key) (same k key) (Some x) None (record_at xs key) (record_at (without_record k xs) key)
      (λ at. ap (λ n. same k n) (sym (same_is x.key key at)) ∙ same_back k x.key ∙ miss) (at_without k key xs))
]

at_put : (r : AuxRecord) (key : List ℕ) (xs : List AuxRecord) → record_at xs r.key ≡ None → record_at (put_in (λ x y. comes_before x.key y.key) r xs) key ≡ cond (same r.key key) (Some r) (record_at xs key)
at_put r key [] n = refl
at_put r key (x ∷ xs) n = elim (cases_Bool (comes_before x.key r.key)) [
  | inl less ↦
      rw less (keep_other (same x.key key) (same r.key key) (Some x) (Some r) (record_at xs key) (record_at (put_in (λ x y. comes_before x.key y.key) r xs) key)
      (λ at. ap (λ n. same r.key n) (sym (same_is x.key key at)) ∙ after_not_same x.key r.key less) (at_put r key xs (sym (at_rest x xs r.key (before_not_same x.key r.key less)) ∙ n)))
  | inr more ↦ rw more refl
]

gone : (r : AuxRecord) (xs : List AuxRecord) → record_at (without_record r.key xs) r.key ≡ None
gone r xs = at_without r.key r.key xs ∙ ap (λ b. cond b None (record_at xs r.key)) (same_itself r.key)

at_with : (r : AuxRecord) (key : List ℕ) (xs : List AuxRecord) → record_at (with_record r xs) key ≡ cond (same r.key key) (Some r) (record_at xs key)
at_with r key xs =
    at_put r key (without_record r.key xs) (gone r xs)
    ∙ ap (λ o. cond (same r.key key) (Some r) o) (at_without r.key key xs) ∙ twice (same r.key key) (Some r) None (record_at xs key)

at_removed : (keys : List (List ℕ)) (key : List ℕ) (xs : List AuxRecord) → record_at (without_records keys xs) key ≡ cond (has_key keys key) None (record_at xs key)
at_removed keys key [] = none_or_none (has_key keys key)
at_removed keys key (x ∷ xs) = elim (cases_Bool (is_key_removed keys x)) [
  | inl hit ↦
      rw hit (drop_in (same x.key key) (has_key keys key) (Some x) (record_at xs key) (record_at (without_records keys xs) key)
      (λ at. ap (λ n. list_any (λ k. same k n) keys) (sym (same_is x.key key at)) ∙ hit) (at_removed keys key xs))
  | inr miss ↦
      rw miss (keep_other (same x.key key) (has_key keys key) (Some x) None (record_at xs key) (record_at (without_records keys xs) key)
      (λ at. ap (λ n. list_any (λ k. same k n) keys) (sym (same_is x.key key at)) ∙ miss) (at_removed keys key xs))
]

found_key : (xs : List AuxRecord) (key : List ℕ) (r : AuxRecord) → record_at xs key ≡ Some r → r.key ≡ key
found_key [] key r h = let z : None ≡ Some r = h in cc
found_key (x ∷ xs) key r h = elim (cases_Bool (same x.key key)) [
  | inl hit ↦
      let z : Some x ≡ Some r = sym (ap (λ b. cond b (Some x) (record_at xs key)) hit) ∙ h in
      ap (λ y. y.key) (sym (some_same x r z)) ∙ same_is x.key key hit
  | inr miss ↦ found_key xs key r (sym (ap (λ b. cond b (Some x) (record_at xs key)) miss) ∙ h)
]

at_changed : (now : List AuxRecord) (keys : List (List ℕ)) (xs : List AuxRecord) (key : List ℕ) → record_at (with_records (records_at now keys) xs) key ≡ cond (has_key keys key && is_some (record_at now key)) (record_at now key) (record_at xs key)
at_changed now [] xs key = refl
at_changed now (k ∷ ks) xs key = by (record_at now k) refl (at_changed now ks) where
  by : (o : Option AuxRecord) → record_at now k ≡ o → ((ys : List AuxRecord) (n : List ℕ) → record_at (with_records (records_at now ks) ys) n ≡ cond (has_key ks n && is_some (record_at now n)) (record_at now n) (record_at ys n)) →
      record_at (with_records (in_front o (records_at now ks)) xs) key ≡ cond ((same k key || has_key ks key) && is_some (record_at now key)) (record_at now key) (record_at xs key)
  by None e so =
      so xs key ∙ named_none (same k key) (has_key ks key) (record_at now key) (record_at xs key) (λ at. ap (record_at now) (sym (same_is k key at)) ∙ e)
  by (Some r) e so =
      so (with_record r xs) key
      ∙ ap (λ o. cond (has_key ks key && is_some (record_at now key)) (record_at now key) o) (at_with r key xs ∙ ap (λ n. cond (same n key) (Some r) (record_at xs key)) (found_key now k r e))
      ∙ named_some (same k key) (has_key ks key) (record_at now key) (record_at xs key) r (λ at. ap (record_at now) (sym (same_is k key at)) ∙ e)

-- order

filter_rise : (f : AuxRecord → Bool) (before : Option (List ℕ)) (xs : List AuxRecord) → Rise before xs → Rise before (filter f xs)
filter_rise f before [] h = tt
filter_rise f before (x ∷ xs) h = by (f x) (filter_rise f (Some x.key) xs h.1) where
  by : (b : Bool) → Rise (Some x.key) (filter f xs) → Rise before (cond b (x ∷ filter f xs) (filter f xs))
  by true so = (h.0, so)
  by false so = weaker before x.key (filter f xs) h.0 so

put_rise : (r : AuxRecord) (before : Option (List ℕ)) (xs : List AuxRecord) → IsAfter before r.key → record_at xs r.key ≡ None → Rise before xs → Rise before (put_in (λ x y. comes_before x.key y.key) r xs)
put_rise r before [] le n h = (le, tt)
put_rise r before (x ∷ xs) le n h = elim (cases_Bool (comes_before x.key r.key)) [
  | inl less ↦ rw less (h.0, put_rise r (Some x.key) xs less (sym (at_rest x xs r.key (before_not_same x.key r.key less)) ∙ n) h.1)
  | inr more ↦ rw more (le, (else_before x.key r.key more (other (same x.key r.key) refl), h.1))
] where
  other : (b : Bool) → same x.key r.key ≡ b → same x.key r.key ≡ false
  other true e = let z : Some x ≡ None = sym (ap (λ b. cond b (Some x) (record_at xs r.key)) e) ∙ n in cc
  other false e = e

with_rise : (r : AuxRecord) (xs : List AuxRecord) → Rise None xs → Rise None (with_record r xs)
with_rise r xs h = put_rise r None (without_record r.key xs) tt (gone r xs) (filter_rise (λ x. not (same x.key r.key)) None xs h)

all_rise : (rs xs : List AuxRecord) → Rise None xs → Rise None (with_records rs xs)
all_rise [] xs h = h
all_rise (r ∷ rs) xs h = all_rise rs (with_record r xs) (with_rise r xs h)

pub records_left : (old new : List AuxRecord) (removed changed : List (List ℕ)) → Rise None old → Rise None new → ((key : List ℕ) → record_left old new removed changed key ≡ record_at new key) → with_records (records_at new changed) (without_records removed old) ≡ new
records_left old new removed changed h k names =
    one_list None (with_records (records_at new changed) (without_records removed old)) new (all_rise (records_at new changed) (without_records removed old) (filter_rise (λ r. not (is_key_removed removed r)) None old h)) k
    (λ key. at_changed new changed (without_records removed old) key ∙ ap (λ o. cond (has_key changed key && is_some (record_at new key)) (record_at new key) o) (at_removed removed key old) ∙ names key)
