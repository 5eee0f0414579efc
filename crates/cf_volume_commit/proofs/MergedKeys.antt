-- The records that differ are those noted that are still there, and the new ones.
use Rattle.std.proofs.Common.{◌≡◌, ℕ, Bool, true, false, ◌||◌, ◌&&◌, cond, List, [], ◌∷◌, ◌++◌, map, Option, Some, None, refl, sym, ◌∙◌, ap, subst, append_assoc}
use Rattle.std.specs.Prelude.{filter, is_some}
use Rattle.std.specs.List.{list_any}
use Rattle.std.proofs.lemmas.Bool.{true≢false}
use Rattle.cf_base.specs.declared.answers.AuxRecord.{AuxRecord}
use Rattle.cf_volume_commit.proofs.NamedKeys.{any_found, has_filtered, keys_of}
use Rattle.cf_volume_commit.specs.Differing.{AddsKeys, changed_keys, is_record_changed}
use Rattle.cf_volume_points.specs.declared.earlier.Earlier.{Earlier}
use Rattle.cf_volume_image.proofs.Keys.{before_not_same, else_before, goes_on_before, same_back}
use Rattle.cf_volume_image.specs.Contents.{record_at}
use Rattle.cf_volume_image.specs.Enough.{has_key}
use Rattle.cf_volume_image.specs.Spelled.{AreKeysFrom, AreRecordsFrom}
use Rattle.cf_model.specs.Formats.{with_record}
use Rattle.cf_model.specs.Words.{comes_before, same}
use Rattle.cf_volume_points.proofs.Lookups.{at_with, filter_records}
use Rattle.cf_table.proofs.NamedEntries.{same_is, same_itself}

-- keys put among others

or_false : (b : Bool) → b ≡ (b || false)
or_false true = refl
or_false false = refl

none_and : (b : Bool) → false ≡ (b && false)
none_and true = refl
none_and false = refl

pub not_there : (now keys : List AuxRecord) (key : List ℕ) → is_some (record_at now key) ≡ false → AddsKeys now (λ k. same key k) keys keys
not_there now keys key none = record { each = λ k. or_false (is_some (record_at keys k)) ∙ ap (λ (b : Bool). is_some (record_at keys k) || b) (by k (same key k) refl) }
  where
    by : (k : List ℕ) (t : Bool) → same key k ≡ t → false ≡ (is_some (record_at now k) && t)
    by k true e = sym (ap (λ (l : List ℕ). is_some (record_at now l) && true) (sym (same_is key k e)) ∙ ap (λ (b : Bool). b && true) none)
    by k false e = none_and (is_some (record_at now k))

pub put_there : (now keys new : List AuxRecord) (key : List ℕ) (r : AuxRecord) → is_some (record_at now key) ≡ true → r.key ≡ key → new ≡ with_record r keys → AddsKeys now (λ k. same key k) keys new
put_there now keys new key r some is put = record {
  each = λ k. ap (λ (l : List AuxRecord). is_some (record_at l k)) put ∙ ap is_some (at_with r k (same key k) keys (ap (λ (l : List ℕ). same l k) is)) ∙ by k (same key k) refl;
}
  where
    turn : (b : Bool) → true ≡ (b || true)
    turn true = refl
    turn false = refl

    by : (k : List ℕ) (t : Bool) → same key k ≡ t → is_some (cond t (Some r) (record_at keys k)) ≡ (is_some (record_at keys k) || (is_some (record_at now k) && t))
    by k true e = turn (is_some (record_at keys k)) ∙ ap (λ (b : Bool). is_some (record_at keys k) || (b && true)) (sym (ap (λ (l : List ℕ). is_some (record_at now l)) (sym (same_is key k e)) ∙ some))
    by k false e = or_false (is_some (record_at keys k)) ∙ ap (λ (b : Bool). is_some (record_at keys k) || b) (none_and (is_some (record_at now k)))

-- the keys of a list, one after the other
pub one_key : (left rest : List AuxRecord) (x : AuxRecord) (out new all : List (List ℕ)) (key : List ℕ) → left ≡ x ∷ rest → key ≡ x.key → new ≡ out ++ key ∷ []
    → out ++ map (λ (r : AuxRecord). r.key) left ≡ all → new ++ map (λ (r : AuxRecord). r.key) rest ≡ all
one_key left rest x out new all key next is pushed so =
    ap (λ (l : List (List ℕ)). l ++ map (λ (r : AuxRecord). r.key) rest) (pushed ∙ ap (λ (k : List ℕ). out ++ k ∷ []) is)
    ∙ append_assoc out (x.key ∷ []) (map (λ (r : AuxRecord). r.key) rest)
    ∙ ap (λ (l : List AuxRecord). out ++ map (λ (r : AuxRecord). r.key) l) (sym next) ∙ so

three : (a n x y : Bool) → ((a || (n && x)) || (n && y)) ≡ (a || (n && (x || y)))
three true n x y = refl
three false true true y = refl
three false true false y = refl
three false false x y = refl

-- one more of a list
pub more_keys : (now old keys new noted left rest : List AuxRecord) (x : AuxRecord) → left ≡ x ∷ rest → AddsKeys now (λ k. same x.key k) keys new
    → ((k : List ℕ) → (is_some (record_at keys k) || (is_some (record_at now k) && list_any (λ r. same r.key k) left)) ≡ (is_some (record_at old k) || (is_some (record_at now k) && list_any (λ r. same r.key k) noted)))
    → (k : List ℕ) → (is_some (record_at new k) || (is_some (record_at now k) && list_any (λ r. same r.key k) rest)) ≡ (is_some (record_at old k) || (is_some (record_at now k) && list_any (λ r. same r.key k) noted))
more_keys now old keys new noted left rest x next adds so k =
    ap (λ (b : Bool). b || (is_some (record_at now k) && list_any (λ r. same r.key k) rest)) (adds.each k)
    ∙ three (is_some (record_at keys k)) (is_some (record_at now k)) (same x.key k) (list_any (λ r. same r.key k) rest)
    ∙ ap (λ (l : List AuxRecord). is_some (record_at keys k) || (is_some (record_at now k) && list_any (λ r. same r.key k) l)) (sym next) ∙ so k

pub all_keys : (now old keys noted left : List AuxRecord) → left ≡ []
    → ((k : List ℕ) → (is_some (record_at keys k) || (is_some (record_at now k) && list_any (λ r. same r.key k) left)) ≡ (is_some (record_at old k) || (is_some (record_at now k) && list_any (λ r. same r.key k) noted)))
    → AddsKeys now (λ k. list_any (λ r. same r.key k) noted) old keys
all_keys now old keys noted left none so = record {
  each = λ k.
      or_false (is_some (record_at keys k)) ∙ ap (λ (b : Bool). is_some (record_at keys k) || b) (none_and (is_some (record_at now k)))
      ∙ ap (λ (l : List AuxRecord). is_some (record_at keys k) || (is_some (record_at now k) && list_any (λ r. same r.key k) l)) (sym none) ∙ so k;
}

-- two lists of keys in order with the same keys are the same

none_before : (key x : List ℕ) (xs : List (List ℕ)) → comes_before key x ≡ true → AreKeysFrom (Some x) xs → has_key (x ∷ xs) key ≡ false
none_before key x [] lt h = ap (λ (b : Bool). b || false) (same_back x key ∙ before_not_same key x lt)
none_before key x (y ∷ ys) lt h = (λ j. (same_back x key ∙ before_not_same key x lt) j || none_before key y ys (goes_on_before key x y lt h.0.1) h.1 j)

has_first : (x : List ℕ) (xs : List (List ℕ)) → has_key (x ∷ xs) x ≡ true
has_first x xs = ap (λ (b : Bool). b || has_key xs x) (same_itself x)

keys_same : (before : Option (List ℕ)) (xs ys : List (List ℕ)) → AreKeysFrom before xs → AreKeysFrom before ys → ((key : List ℕ) → has_key xs key ≡ has_key ys key) → xs ≡ ys
keys_same before [] [] p q h = refl
keys_same before [] (y ∷ ys) p q h = absurd (true≢false (sym (h y ∙ has_first y ys)))
keys_same before (x ∷ xs) [] p q h = absurd (true≢false (sym (has_first x xs) ∙ h x))
keys_same before (x ∷ xs) (y ∷ ys) p q h =
    let is : x ≡ y = first (comes_before x y) refl (same x y) refl in
    (λ j. is j ∷ keys_same (Some x) xs ys p.1 (subst (λ (k : List ℕ). AreKeysFrom (Some k) ys) (sym is) q.1) (rest is) j)
  where
    first : (t : Bool) → comes_before x y ≡ t → (u : Bool) → same x y ≡ u → x ≡ y
    first true e u f = absurd (true≢false (sym (has_first x xs) ∙ h x ∙ none_before x y ys e q.1))
    first false e true f = same_is x y f
    first false e false f = absurd (true≢false (sym (has_first y ys) ∙ sym (h y) ∙ none_before y x xs (else_before x y e f) p.1))

    later : (key : List ℕ) (z : List ℕ) (zs : List (List ℕ)) → same z key ≡ true → AreKeysFrom (Some z) zs → has_key zs key ≡ false
    later key z [] e r = refl
    later key z (w ∷ ws) e r = none_before key w ws (subst (λ (k : List ℕ). comes_before k w ≡ true) (same_is z key e) r.0.1) r.1

    rest : x ≡ y → (key : List ℕ) → has_key xs key ≡ has_key ys key
    rest is key = by (same x key) refl
      where
        by : (t : Bool) → same x key ≡ t → has_key xs key ≡ has_key ys key
        by true e = later key x xs e p.1 ∙ sym (later key y ys (ap (λ (k : List ℕ). same k key) (sym is) ∙ e) q.1)
        by false e = ap (λ (b : Bool). b || has_key xs key) (sym e) ∙ h key ∙ ap (λ (b : Bool). b || has_key ys key) (ap (λ (k : List ℕ). same k key) (sym is) ∙ e)

has_keys : (rs : List AuxRecord) (key : List ℕ) → has_key (map (λ (r : AuxRecord). r.key) rs) key ≡ is_some (record_at rs key)
has_keys [] key = refl
has_keys (x ∷ xs) key = by (same x.key key) (has_keys xs key)
  where
    by : (t : Bool) → has_key (map (λ (r : AuxRecord). r.key) xs) key ≡ is_some (record_at xs key) → (t || has_key (map (λ (r : AuxRecord). r.key) xs) key) ≡ is_some (cond t (Some x) (record_at xs key))
    by true h = refl
    by false h = h

pub merged : (then : Earlier) (now first second a b : List AuxRecord) → AreRecordsFrom None now → AreRecordsFrom None second → first ≡ [] → a ≡ then.made → b ≡ then.records → (mid : List AuxRecord)
    → AddsKeys now (λ k. list_any (λ r. same r.key k) a) first mid → AddsKeys now (λ k. list_any (λ r. same r.key k) b) mid second
    → map (λ (r : AuxRecord). r.key) second ≡ changed_keys then now
merged then now first second a b rise order none a_is b_is mid made noted =
    keys_same None (map (λ (r : AuxRecord). r.key) second) (changed_keys then now) (keys_of None second order) (keys_of None (filter (is_record_changed then) now) (filter_records (is_record_changed then) None now rise)) each
  where
    joined : (n a b : Bool) → ((false || (n && a)) || (n && b)) ≡ (n && (a || b))
    joined true a b = refl
    joined false a b = refl

    each : (key : List ℕ) → has_key (map (λ (r : AuxRecord). r.key) second) key ≡ has_key (changed_keys then now) key
    each key =
        has_keys second key ∙ noted.each key
        ∙ (λ j. made.each key j || (is_some (record_at now key) && any_found b key j))
        ∙ (λ j. (is_some (record_at (none j) key) || (is_some (record_at now key) && any_found a key j)) || (is_some (record_at now key) && is_some (record_at b key)))
        ∙ (λ j. (false || (is_some (record_at now key) && is_some (record_at (a_is j) key))) || (is_some (record_at now key) && is_some (record_at (b_is j) key)))
        ∙ joined (is_some (record_at now key)) (is_some (record_at then.made key)) (is_some (record_at then.records key))
        ∙ sym (has_filtered (λ (k : List ℕ). is_some (record_at then.made k) || is_some (record_at then.records k)) now key)
