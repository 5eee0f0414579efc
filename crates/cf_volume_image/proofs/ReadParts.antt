-- Records, keys and ids as they are read, one after the other.
use Rattle.std.proofs.Common.{◌≡◌, ℕ, zero, suc, ◌+◌, List, [], ◌∷◌, ◌++◌, length, length-append, get_or, refl, sym, ap, subst, ◌∙◌, append_assoc, append-nil, arith, inl, inr, Option, Some, None}
use Rattle.std.specs.List.{flat_map}
use Rattle.cf_base.specs.declared.answers.AuxRecord.{AuxRecord}
use Rattle.cf_base.specs.declared.ids.ItemId.{ItemId}
use Rattle.cf_codec.specs.Left.{Left, Takes}
use Rattle.cf_model.specs.Formats.{spell_id, spell_key, spell_record}
use Rattle.cf_table.proofs.Taken.{takes_both}
use Rattle.cf_table.specs.declared.failures.RowError.{RowError}
use Rattle.cf_table.specs.declared.failures.RowError.TheVariants.{OutOfMemory}
use Rattle.cf_volume_image.specs.Faults.{AtId, AtIdsFrom, AtKey, AtKeysFrom, AtRecord, AtRecordsFrom}
use Rattle.cf_volume_image.specs.RecordLists.{last_key_of, last_of}
use Rattle.cf_volume_image.specs.Spelled.{AreIdsFrom, AreKeysFrom, AreRecordsFrom, IsId, IsKey, IsRecord}

-- what is taken and put at the end

each_more : {A : Type 0} (f : A → List ℕ) (xs : List A) (x : A) → flat_map f (xs ++ x ∷ []) ≡ flat_map f xs ++ f x
each_more f [] x = append-nil (f x)
each_more f (y ∷ ys) x = ap (λ t. f y ++ t) (each_more f ys x) ∙ sym (append_assoc (f y) (flat_map f ys) (f x))

pub each_taken : {A : Type 0} (f : A → List ℕ) (all xs : List A) (x : A) (old mid new : Left) → all ≡ xs ++ x ∷ [] → Takes (flat_map f xs) old mid → Takes (f x) mid new → Takes (flat_map f all) old new
each_taken f all xs x old mid new is h k = subst (λ (t : List ℕ). Takes t old new) (sym (ap (flat_map f) is ∙ each_more f xs x)) (takes_both h k)

pub count_more : {A : Type 0} (all xs : List A) (x : A) (n : ℕ) → all ≡ xs ++ x ∷ [] → length xs ≡ n → length all ≡ n + 1
count_more all xs x n is h = ap length is ∙ omega (arith, h, length-append xs (x ∷ []))

-- the last one

pub last_key_more : (before : Option (List ℕ)) (xs : List AuxRecord) (x : AuxRecord) → last_key_of before (xs ++ x ∷ []) ≡ Some x.key
last_key_more before [] x = refl
last_key_more before (y ∷ ys) x = last_key_more (Some y.key) ys x

pub last_more : (before : Option (List ℕ)) (xs : List (List ℕ)) (x : List ℕ) → last_of before (xs ++ x ∷ []) ≡ Some x
last_more before [] x = refl
last_more before (y ∷ ys) x = last_more (Some y) ys x

pub last_key_at : (before : Option (List ℕ)) (xs : List AuxRecord) (j : ℕ) (d : AuxRecord) → length xs ≡ j + 1 → Some (get_or xs j d).key ≡ last_key_of before xs
last_key_at before [] j d h = absurd (omega arith)
last_key_at before (x ∷ []) zero d h = refl
last_key_at before (x ∷ []) (suc j) d h = absurd (omega arith)
last_key_at before (x ∷ y ∷ ys) zero d h = absurd (omega arith)
last_key_at before (x ∷ y ∷ ys) (suc j) d h = last_key_at (Some x.key) (y ∷ ys) j d (omega arith)

pub last_at : (before : Option (List ℕ)) (xs : List (List ℕ)) (j : ℕ) (d : List ℕ) → length xs ≡ j + 1 → Some (get_or xs j d) ≡ last_of before xs
last_at before [] j d h = absurd (omega arith)
last_at before (x ∷ []) zero d h = refl
last_at before (x ∷ []) (suc j) d h = absurd (omega arith)
last_at before (x ∷ y ∷ ys) zero d h = absurd (omega arith)
last_at before (x ∷ y ∷ ys) (suc j) d h = last_at (Some x) (y ∷ ys) j d (omega arith)

-- records

pub record_fault : (before asked : Option (List ℕ)) (n m : ℕ) (left : Left) (e : RowError) → n ≡ suc m → asked ≡ before → AtRecord asked left e → AtRecordsFrom before n left e
record_fault before asked n m left e is same h = rw is (inl (subst (λ (b : Option (List ℕ)). AtRecord b left e) same h))

pub no_memory_for_records : (before : Option (List ℕ)) (n : ℕ) (left : Left) → AtRecordsFrom before n left OutOfMemory
no_memory_for_records before zero left = tt
no_memory_for_records before (suc n) left = inl (inl (inl (inl tt)))

pub behind_record : (before asked : Option (List ℕ)) (n m : ℕ) (left mid : Left) (e : RowError) (r : AuxRecord) → n ≡ suc m → asked ≡ before → IsRecord asked r → Takes (spell_record r) left mid → AtRecordsFrom (Some r.key) m mid e → AtRecordsFrom before n left e
behind_record before asked n m left mid e r is same fits takes h =
    rw is (inr (record { part = r; is_part = subst (λ (b : Option (List ℕ)). IsRecord b r) same fits; mid = mid; takes = takes; fault = h }))

pub records_then : (asked : Option (List ℕ)) (all xs : List AuxRecord) (r : AuxRecord) → all ≡ xs ++ r ∷ [] → asked ≡ last_key_of None xs → ((more : List AuxRecord) → AreRecordsFrom (last_key_of None xs) more → AreRecordsFrom None (xs ++ more)) → IsRecord asked r →
    (more : List AuxRecord) → AreRecordsFrom (last_key_of None all) more → AreRecordsFrom None (all ++ more)
records_then asked all xs r is same so fits more h =
    subst (λ (t : List AuxRecord). AreRecordsFrom None t) (sym (ap (λ v. v ++ more) is ∙ append_assoc xs (r ∷ []) more))
    (so (r ∷ more) (subst (λ (b : Option (List ℕ)). IsRecord b r) same fits, subst (λ (b : Option (List ℕ)). AreRecordsFrom b more) (ap (last_key_of None) is ∙ last_key_more None xs r) h))

pub records_end : (xs : List AuxRecord) → ((more : List AuxRecord) → AreRecordsFrom (last_key_of None xs) more → AreRecordsFrom None (xs ++ more)) → AreRecordsFrom None xs
records_end xs so = subst (λ (v : List AuxRecord). AreRecordsFrom None v) (append-nil xs) (so [] tt)

-- keys

pub key_fault : (before asked : Option (List ℕ)) (n m : ℕ) (left : Left) (e : RowError) → n ≡ suc m → asked ≡ before → AtKey asked left e → AtKeysFrom before n left e
key_fault before asked n m left e is same h = rw is (inl (subst (λ (b : Option (List ℕ)). AtKey b left e) same h))

pub no_memory_for_keys : (before : Option (List ℕ)) (n : ℕ) (left : Left) → AtKeysFrom before n left OutOfMemory
no_memory_for_keys before zero left = tt
no_memory_for_keys before (suc n) left = inl (inl (inl tt))

pub behind_key : (before asked : Option (List ℕ)) (n m : ℕ) (left mid : Left) (e : RowError) (k : List ℕ) → n ≡ suc m → asked ≡ before → IsKey asked k → Takes (spell_key k) left mid → AtKeysFrom (Some k) m mid e → AtKeysFrom before n left e
behind_key before asked n m left mid e k is same fits takes h =
    rw is (inr (record { part = k; is_part = subst (λ (b : Option (List ℕ)). IsKey b k) same fits; mid = mid; takes = takes; fault = h }))

pub keys_then : (asked : Option (List ℕ)) (all xs : List (List ℕ)) (k : List ℕ) → all ≡ xs ++ k ∷ [] → asked ≡ last_of None xs → ((more : List (List ℕ)) → AreKeysFrom (last_of None xs) more → AreKeysFrom None (xs ++ more)) → IsKey asked k →
    (more : List (List ℕ)) → AreKeysFrom (last_of None all) more → AreKeysFrom None (all ++ more)
keys_then asked all xs k is same so fits more h =
    subst (λ (t : List (List ℕ)). AreKeysFrom None t) (sym (ap (λ v. v ++ more) is ∙ append_assoc xs (k ∷ []) more))
    (so (k ∷ more) (subst (λ (b : Option (List ℕ)). IsKey b k) same fits, subst (λ (b : Option (List ℕ)). AreKeysFrom b more) (ap (last_of None) is ∙ last_more None xs k) h))

pub keys_end : (xs : List (List ℕ)) → ((more : List (List ℕ)) → AreKeysFrom (last_of None xs) more → AreKeysFrom None (xs ++ more)) → AreKeysFrom None xs
keys_end xs so = subst (λ (v : List (List ℕ)). AreKeysFrom None v) (append-nil xs) (so [] tt)

-- ids

pub id_fault : (before : Option ℕ) (n m : ℕ) (left : Left) (e : RowError) → n ≡ suc m → AtId before left e → AtIdsFrom before n left e
id_fault before n m left e is h = rw is (inl h)

pub no_memory_for_ids : (before : Option ℕ) (n : ℕ) (left : Left) → AtIdsFrom before n left OutOfMemory
no_memory_for_ids before zero left = tt
no_memory_for_ids before (suc n) left = inl tt

pub behind_id : (before : Option ℕ) (n m : ℕ) (left mid : Left) (e : RowError) (id : ItemId) → n ≡ suc m → IsId before id → Takes (spell_id id) left mid → AtIdsFrom (Some id.0) m mid e → AtIdsFrom before n left e
behind_id before n m left mid e id is fits takes h = rw is (inr (record { part = id; is_part = fits; mid = mid; takes = takes; fault = h }))

pub ids_then : (before : Option ℕ) (all xs : List ItemId) (id : ItemId) → all ≡ xs ++ id ∷ [] → ((more : List ItemId) → AreIdsFrom before more → AreIdsFrom None (xs ++ more)) → IsId before id →
    (more : List ItemId) → AreIdsFrom (Some id.0) more → AreIdsFrom None (all ++ more)
ids_then before all xs id is so fits more h = subst (λ (t : List ItemId). AreIdsFrom None t) (sym (ap (λ v. v ++ more) is ∙ append_assoc xs (id ∷ []) more)) (so (id ∷ more) (fits, h))

pub ids_end : (before : Option ℕ) (xs : List ItemId) → ((more : List ItemId) → AreIdsFrom before more → AreIdsFrom None (xs ++ more)) → AreIdsFrom None xs
ids_end before xs so = subst (λ (v : List ItemId). AreIdsFrom None v) (append-nil xs) (so [] tt)
