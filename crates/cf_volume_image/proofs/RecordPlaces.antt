-- Auxiliary records in order of key: where one stands, and what it means to put one in or to take one out.
use Rattle.std.proofs.Common.{◌≡◌, ℕ, zero, suc, ◌+◌, ◌-◌, ◌*◌, ◌<◌, ◌≤◌, Bool, true, false, not, cond, List, [], ◌∷◌, ◌++◌, length, drop, get_or, set, refl, sym, ap, subst, ◌∙◌, arith, Option, Some, None}
use Rattle.std.specs.Prelude.{find, insert, is_some, option_map, remove}
use Rattle.cf_base.specs.declared.answers.AuxRecord.{AuxRecord}
use Rattle.cf_collections.specs.Split.{IsSplit, NonePass, behind, front, rest}
use Rattle.cf_collections.proofs.Splits.{front_within, inserted_there, none_there, removed_there, set_front, some_there}
use Rattle.cf_model.specs.Formats.{with_record, without_record}
use Rattle.cf_model.specs.Images.{aux_len}
use Rattle.cf_model.specs.Words.{comes_before, put_in, same}
use Rattle.cf_volume_image.specs.Contents.{record_at}
use Rattle.cf_volume_image.specs.RecordLists.{AreKept, IsShort, comes_after, records_len, stands_before}
use Rattle.cf_volume_image.specs.Spelled.{AreRecordsFrom, IsAfter}
use Rattle.cf_table.proofs.NamedEntries.{same_is}
use Rattle.cf_volume_image.proofs.Loops.{drop_at}
use Rattle.cf_volume_image.proofs.Keys.{after_not_same, before_not_same, else_before, goes_on_before, not_back}

-- p records pass the test, and the one there, if one is, fails it
abbrev pub Splits : (AuxRecord → Bool) → List AuxRecord → ℕ → Type 0
Splits test [] p = p ≡ 0
Splits test (x ∷ xs) zero = test x ≡ false
Splits test (x ∷ xs) (suc p) = (test x ≡ true) × Splits test xs p

pub splits_front : (test : AuxRecord → Bool) (rs : List AuxRecord) → Splits test rs (length (front test rs))
splits_front test [] = refl
splits_front test (x ∷ xs) = by (splits_front test xs) (test x) refl where
  by : Splits test xs (length (front test xs)) → (b : Bool) → test x ≡ b → Splits test (x ∷ xs) (length (cond b (x ∷ front test xs) []))
  by more true e = (e, more)
  by more false e = e

-- order

pub weaker : (before : Option (List ℕ)) (key : List ℕ) (rs : List AuxRecord) → IsAfter before key → AreRecordsFrom (Some key) rs → AreRecordsFrom before rs
weaker before key [] a h = tt
weaker None key (r ∷ rs) a h = (((h.0.0.0, tt), h.0.1), h.1)
weaker (Some k) key (r ∷ rs) a h = (((h.0.0.0, goes_on_before k key r.key a h.0.0.1), h.0.1), h.1)

pub none_after : (key before : List ℕ) (rs : List AuxRecord) → comes_before key before ≡ true → AreRecordsFrom (Some before) rs → record_at rs key ≡ None
none_after key before [] h k = refl
none_after key before (r ∷ rs) h k =
    let b : comes_before key r.key ≡ true = goes_on_before key before r.key h k.0.0.1 in
    rw (after_not_same key r.key b) (none_after key r.key rs b k.1)

pub all_stay : (key : List ℕ) (rs : List AuxRecord) → AreRecordsFrom (Some key) rs → without_record key rs ≡ rs
all_stay key [] h = refl
all_stay key (r ∷ rs) h = rw (after_not_same key r.key h.0.0.1) (ap (λ v. r ∷ v) (all_stay key rs (weaker (Some key) r.key rs h.0.0.1 h.1)))

goes_first : (r : AuxRecord) (rs : List AuxRecord) → AreRecordsFrom (Some r.key) rs → put_in (λ x y. comes_before x.key y.key) r rs ≡ r ∷ rs
goes_first r [] h = refl
goes_first r (x ∷ xs) h = rw (not_back r.key x.key h.0.0.1) refl

-- where a key divides them

not_not : (b : Bool) → not b ≡ false → b ≡ true
not_not true h = refl
not_not false h = sym h

none_stands : (key low : List ℕ) (rs : List AuxRecord) → comes_before low key ≡ false → AreRecordsFrom (Some low) rs → NonePass (stands_before key) rs
none_stands key low [] miss h = tt
none_stands key low (r ∷ rs) miss h = let here = by (comes_before r.key key) refl in (here, none_stands key r.key rs here h.1) where
  by : (b : Bool) → comes_before r.key key ≡ b → comes_before r.key key ≡ false
  by true hit = let z : false ≡ true = sym miss ∙ goes_on_before low r.key key h.0.0.1 hit in cc
  by false e = e

split_from : (key : List ℕ) (before : Option (List ℕ)) (rs : List AuxRecord) → AreRecordsFrom before rs → IsSplit (stands_before key) rs
split_from key before [] h = tt
split_from key before (r ∷ rs) h = ((λ miss. none_stands key r.key rs miss h.1), split_from key (Some r.key) rs h.1)

pub split : (key : List ℕ) (rs : List AuxRecord) → AreRecordsFrom None rs → IsSplit (stands_before key) rs
split key rs h = split_from key None rs h

all_after : (key low : List ℕ) (rs : List AuxRecord) → comes_before key low ≡ true → AreRecordsFrom (Some low) rs → NonePass (λ r. not (comes_after key r)) rs
all_after key low [] hit h = tt
all_after key low (r ∷ rs) hit h = let here = goes_on_before key low r.key hit h.0.0.1 in (ap not here, all_after key r.key rs here h.1)

split_after_from : (key : List ℕ) (before : Option (List ℕ)) (rs : List AuxRecord) → AreRecordsFrom before rs → IsSplit (λ r. not (comes_after key r)) rs
split_after_from key before [] h = tt
split_after_from key before (r ∷ rs) h = ((λ miss. all_after key r.key rs (not_not (comes_before key r.key) miss) h.1), split_after_from key (Some r.key) rs h.1)

pub split_after : (key : List ℕ) (rs : List AuxRecord) → AreRecordsFrom None rs → IsSplit (λ r. not (comes_after key r)) rs
split_after key rs h = split_after_from key None rs h

-- look-ups

not_true : (b : Bool) → not b ≡ true → b ≡ false
not_true true h = sym h
not_true false h = refl

pub after_found : (key : List ℕ) (rs : List AuxRecord) (p : ℕ) (d : AuxRecord) → Splits (λ r. not (comes_after key r)) rs p → p < length rs → Some (get_or rs p d) ≡ find (comes_after key) rs
after_found key [] p d s lt = absurd (omega arith)
after_found key (x ∷ xs) zero d s lt = rw (not_not (comes_before key x.key) s) refl
after_found key (x ∷ xs) (suc p) d s lt = rw (not_true (comes_before key x.key) s.0) (after_found key xs p d s.1 (omega arith))

pub none_behind : (key : List ℕ) (rs : List AuxRecord) (p : ℕ) → Splits (λ r. not (comes_after key r)) rs p → length rs ≤ p → None ≡ find (comes_after key) rs
none_behind key [] p s le = refl
none_behind key (x ∷ xs) zero s le = absurd (omega arith)
none_behind key (x ∷ xs) (suc p) s le = rw (not_true (comes_before key x.key) s.0) (none_behind key xs p s.1 (omega arith))

pub found : (key : List ℕ) (rs : List AuxRecord) (p : ℕ) (d : AuxRecord) → Splits (stands_before key) rs p → p < length rs → same (get_or rs p d).key key ≡ true → record_at rs key ≡ Some (get_or rs p d)
found key [] p d s lt h = absurd (omega arith)
found key (x ∷ xs) zero d s lt h = rw h refl
found key (x ∷ xs) (suc p) d s lt h = rw (before_not_same x.key key s.0) (found key xs p d s.1 (omega arith) h)

pub missing : (key : List ℕ) (before : Option (List ℕ)) (rs : List AuxRecord) (p : ℕ) (d : AuxRecord) → AreRecordsFrom before rs → Splits (stands_before key) rs p → (p < length rs → same (get_or rs p d).key key ≡ false) → record_at rs key ≡ None
missing key before [] p d r s h = refl
missing key before (x ∷ xs) zero d r s h =
    let e : same x.key key ≡ false = h (omega arith) in
    rw e (none_after key x.key xs (else_before x.key key s e) r.1)
missing key before (x ∷ xs) (suc p) d r s h = rw (before_not_same x.key key s.0) (missing key (Some x.key) xs p d r.1 s.1 (λ lt. h (omega (arith, lt))))

-- puts

pub put_found : (aux : AuxRecord) (before : Option (List ℕ)) (rs : List AuxRecord) (p : ℕ) (d : AuxRecord) → AreRecordsFrom before rs → Splits (stands_before aux.key) rs p → p < length rs → same (get_or rs p d).key aux.key ≡ true → with_record aux rs ≡ set rs p aux
put_found aux before [] p d r s lt h = absurd (omega arith)
put_found aux before (x ∷ xs) zero d r s lt h =
    let e : AreRecordsFrom (Some aux.key) xs = subst (λ (k : List ℕ). AreRecordsFrom (Some k) xs) (same_is x.key aux.key h) r.1 in
    rw h (ap (put_in (λ x y. comes_before x.key y.key) aux) (all_stay aux.key xs e) ∙ goes_first aux xs e)
put_found aux before (x ∷ xs) (suc p) d r s lt h =
    rw (before_not_same x.key aux.key s.0) (rw (s.0) (ap (λ v. x ∷ v) (put_found aux (Some x.key) xs p d r.1 s.1 (omega arith) h)))

pub put_missing : (aux : AuxRecord) (before : Option (List ℕ)) (rs : List AuxRecord) (p : ℕ) (d : AuxRecord) → AreRecordsFrom before rs → Splits (stands_before aux.key) rs p → (p < length rs → same (get_or rs p d).key aux.key ≡ false) → with_record aux rs ≡ insert rs p aux
put_missing aux before [] p d r s h = rw s refl
put_missing aux before (x ∷ xs) zero d r s h =
    let e : same x.key aux.key ≡ false = h (omega arith) in
    let b : comes_before aux.key x.key ≡ true = else_before x.key aux.key s e in
    let all : AreRecordsFrom (Some aux.key) (x ∷ xs) = (((r.0.0.0, b), r.0.1), r.1) in
    ap (put_in (λ x y. comes_before x.key y.key) aux) (all_stay aux.key (x ∷ xs) all) ∙ goes_first aux (x ∷ xs) all
put_missing aux before (x ∷ xs) (suc p) d r s h =
    rw (before_not_same x.key aux.key s.0) (rw (s.0) (ap (λ v. x ∷ v) (put_missing aux (Some x.key) xs p d r.1 s.1 (λ lt. h (omega (arith, lt))))))

-- removals

pub remove_found : (key : List ℕ) (before : Option (List ℕ)) (rs : List AuxRecord) (p : ℕ) (d : AuxRecord) → AreRecordsFrom before rs → Splits (stands_before key) rs p → p < length rs → same (get_or rs p d).key key ≡ true → remove rs p ≡ without_record key rs
remove_found key before [] p d r s lt h = absurd (omega arith)
remove_found key before (x ∷ xs) zero d r s lt h =
    rw h (sym (all_stay key xs (subst (λ (k : List ℕ). AreRecordsFrom (Some k) xs) (same_is x.key key h) r.1)))
remove_found key before (x ∷ xs) (suc p) d r s lt h = rw (before_not_same x.key key s.0) (ap (λ v. x ∷ v) (remove_found key (Some x.key) xs p d r.1 s.1 (omega arith) h))

pub remove_missing : (key : List ℕ) (before : Option (List ℕ)) (rs : List AuxRecord) (p : ℕ) (d : AuxRecord) → AreRecordsFrom before rs → Splits (stands_before key) rs p → (p < length rs → same (get_or rs p d).key key ≡ false) → without_record key rs ≡ rs
remove_missing key before [] p d r s h = refl
remove_missing key before (x ∷ xs) zero d r s h =
    let e : same x.key key ≡ false = h (omega arith) in
    all_stay key (x ∷ xs) (((r.0.0.0, else_before x.key key s e), r.0.1), r.1)
remove_missing key before (x ∷ xs) (suc p) d r s h = rw (before_not_same x.key key s.0) (ap (λ v. x ∷ v) (remove_missing key (Some x.key) xs p d r.1 s.1 (λ lt. h (omega (arith, lt)))))

-- they stay in order

pub set_rises : (before : Option (List ℕ)) (rs : List AuxRecord) (p : ℕ) (d aux : AuxRecord) → AreRecordsFrom before rs → p < length rs → same (get_or rs p d).key aux.key ≡ true → IsShort aux → AreRecordsFrom before (set rs p aux)
set_rises before [] p d aux r lt h short = absurd (omega arith)
set_rises before (x ∷ xs) zero d aux r lt h short =
    let e = same_is x.key aux.key h in
    (((short.0, subst (λ (k : List ℕ). IsAfter before k) e r.0.0.1), short.1), subst (λ (k : List ℕ). AreRecordsFrom (Some k) xs) e r.1)
set_rises before (x ∷ xs) (suc p) d aux r lt h short = (r.0, set_rises (Some x.key) xs p d aux r.1 (omega arith) h short)

pub insert_rises : (before : Option (List ℕ)) (rs : List AuxRecord) (p : ℕ) (d aux : AuxRecord) → AreRecordsFrom before rs → IsAfter before aux.key → Splits (stands_before aux.key) rs p → (p < length rs → same (get_or rs p d).key aux.key ≡ false) → IsShort aux → AreRecordsFrom before (insert rs p aux)
insert_rises before [] p d aux r a s h short = rw s (((short.0, a), short.1), tt)
insert_rises before (x ∷ xs) zero d aux r a s h short =
    (((short.0, a), short.1), (((r.0.0.0, else_before x.key aux.key s (h (omega arith))), r.0.1), r.1))
insert_rises before (x ∷ xs) (suc p) d aux r a s h short = (r.0, insert_rises (Some x.key) xs p d aux r.1 s.0 s.1 (λ lt. h (omega (arith, lt))) short)

pub remove_rises : (before : Option (List ℕ)) (rs : List AuxRecord) (p : ℕ) → AreRecordsFrom before rs → p < length rs → AreRecordsFrom before (remove rs p)
remove_rises before [] p r lt = absurd (omega arith)
remove_rises before (x ∷ xs) zero r lt = weaker before x.key xs r.0.0.1 r.1
remove_rises before (x ∷ xs) (suc p) r lt = (r.0, remove_rises (Some x.key) xs p r.1 (omega arith))

-- lengths

pub len_at : (rs : List AuxRecord) (p : ℕ) (d : AuxRecord) → p < length rs → aux_len (get_or rs p d) ≤ records_len rs
len_at [] p d lt = absurd (omega arith)
len_at (x ∷ xs) zero d lt = omega arith
len_at (x ∷ xs) (suc p) d lt = omega (arith, len_at xs p d (omega arith))

pub set_len : (rs : List AuxRecord) (p : ℕ) (d aux : AuxRecord) → p < length rs → records_len (set rs p aux) + aux_len (get_or rs p d) ≡ records_len rs + aux_len aux
set_len [] p d aux lt = absurd (omega arith)
set_len (x ∷ xs) zero d aux lt = omega arith
set_len (x ∷ xs) (suc p) d aux lt = omega (arith, set_len xs p d aux (omega arith))

pub insert_len : (rs : List AuxRecord) (p : ℕ) (aux : AuxRecord) → p ≤ length rs → records_len (insert rs p aux) ≡ records_len rs + aux_len aux
insert_len rs zero aux le = omega arith
insert_len [] (suc p) aux le = absurd (omega arith)
insert_len (x ∷ xs) (suc p) aux le = omega (arith, insert_len xs p aux (omega arith))

pub remove_len : (rs : List AuxRecord) (p : ℕ) (d : AuxRecord) → p < length rs → records_len (remove rs p) + aux_len (get_or rs p d) ≡ records_len rs
remove_len [] p d lt = absurd (omega arith)
remove_len (x ∷ xs) zero d lt = omega arith
remove_len (x ∷ xs) (suc p) d lt = omega (arith, remove_len xs p d (omega arith))

pub len_bound : (before : Option (List ℕ)) (rs : List AuxRecord) → AreRecordsFrom before rs → records_len rs ≤ 65793 * length rs
len_bound before [] h = omega arith
len_bound before (r ∷ rs) h = omega (arith, h.0.0.0, h.0.1, len_bound (Some r.key) rs h.1)

pub short_at : (before : Option (List ℕ)) (rs : List AuxRecord) (p : ℕ) (d : AuxRecord) → AreRecordsFrom before rs → p < length rs → IsShort (get_or rs p d)
short_at before [] p d h lt = absurd (omega arith)
short_at before (x ∷ xs) zero d h lt = (h.0.0.0, h.0.1)
short_at before (x ∷ xs) (suc p) d h lt = short_at (Some x.key) xs p d h.1 (omega arith)

pub short_here : (rs : List AuxRecord) (p : ℕ) (r : AuxRecord) → AreRecordsFrom None rs → p < length rs → r ≡ get_or rs p r → IsShort r
short_here rs p r h lt is = subst (λ (x : AuxRecord). IsShort x) (sym is) (short_at None rs p r h lt)

pub len_drop : (rs : List AuxRecord) (p : ℕ) (r : AuxRecord) → p < length rs → r ≡ get_or rs p r → records_len (drop p rs) ≡ aux_len r + records_len (drop (p + 1) rs)
len_drop rs p r lt is = ap records_len (drop_at rs p r lt is)

-- the record with a key, where the code looks

-- it stands there
pub record Stands (key : List ℕ) (rs : List AuxRecord) (x : AuxRecord) : Type 0 where
  pub in_range : length (front (stands_before key) rs) < length rs
  pub item : (d : AuxRecord) → get_or rs (length (front (stands_before key) rs)) d ≡ x
  pub has_key : same x.key key ≡ true

some_same : (a b : AuxRecord) → ◌≡◌ {A = Option AuxRecord} (Some a) (Some b) → a ≡ b
some_same a b e = cc

module _ (key : List ℕ) (rs : List AuxRecord) (rise : AreRecordsFrom None rs) where
  nowhere : behind (stands_before key) rs ≡ [] → record_at rs key ≡ None
  nowhere none = missing key None rs (length (front (stands_before key) rs)) (record { key = []; value = [] }) rise (splits_front (stands_before key) rs) (λ lt. absurd (omega (arith, lt, none_there (stands_before key) rs none)))

  at_place : (x : AuxRecord) (l : List AuxRecord) → behind (stands_before key) rs ≡ x ∷ l → record_at rs key ≡ cond (same x.key key) (Some x) None
  at_place x l here = by (same x.key key) refl where
    in_range : length (front (stands_before key) rs) < length rs
    in_range = (some_there (stands_before key) rs l x x here).0

    is : get_or rs (length (front (stands_before key) rs)) x ≡ x
    is = (some_there (stands_before key) rs l x x here).1

    by : (b : Bool) → same x.key key ≡ b → record_at rs key ≡ cond b (Some x) None
    by true hit = found key rs (length (front (stands_before key) rs)) x (splits_front (stands_before key) rs) in_range (ap (λ (r : AuxRecord). same r.key key) is ∙ hit) ∙ ap Some is
    by false miss = missing key None rs (length (front (stands_before key) rs)) x rise (splits_front (stands_before key) rs) (λ lt. ap (λ (r : AuxRecord). same r.key key) is ∙ miss)

  pub found_there : (left l : List AuxRecord) (x : AuxRecord) (o : Option AuxRecord) → left ≡ behind (stands_before key) rs → left ≡ x ∷ l → o ≡ cond (same x.key key) (Some x) None → o ≡ record_at rs key
  found_there left l x o is here named = named ∙ sym (at_place x l (sym is ∙ here))

  pub none_found : (left : List AuxRecord) → left ≡ behind (stands_before key) rs → left ≡ [] → None ≡ record_at rs key
  none_found left is none = sym (nowhere (sym is ∙ none))

  stands : (x : AuxRecord) → record_at rs key ≡ Some x → Stands key rs x
  stands x e = by (behind (stands_before key) rs) refl where
    at : (y : AuxRecord) (l : List AuxRecord) → behind (stands_before key) rs ≡ y ∷ l → (b : Bool) → same y.key key ≡ b → cond b (Some y) None ≡ Some x → Stands key rs x
    at y l here true hit k =
        let same_one : y ≡ x = some_same y x k in
        record {
          in_range = (some_there (stands_before key) rs l y y here).0;
          item = λ d. (some_there (stands_before key) rs l y d here).1 ∙ same_one;
          has_key = ap (λ (r : AuxRecord). same r.key key) (sym same_one) ∙ hit;
        }
    at y l here false miss k = let z : None ≡ Some x = k in absurd cc

    by : (l : List AuxRecord) → behind (stands_before key) rs ≡ l → Stands key rs x
    by [] none = let z : None ≡ Some x = sym (nowhere none) ∙ e in absurd cc
    by (y ∷ l) here = at y l here (same y.key key) refl (sym (at_place y l here) ∙ e)

  gap : (d : AuxRecord) → record_at rs key ≡ None → length (front (stands_before key) rs) < length rs → same (get_or rs (length (front (stands_before key) rs)) d).key key ≡ false
  gap d e lt = by (same (get_or rs (length (front (stands_before key) rs)) d).key key) refl where
    by : (b : Bool) → same (get_or rs (length (front (stands_before key) rs)) d).key key ≡ b → same (get_or rs (length (front (stands_before key) rs)) d).key key ≡ false
    by true hit = let z : None ≡ Some (get_or rs (length (front (stands_before key) rs)) d) = sym e ∙ found key rs (length (front (stands_before key) rs)) d (splits_front (stands_before key) rs) lt hit in absurd cc
    by false miss = miss

pub found_after : (key : List ℕ) (rs left l : List AuxRecord) (x : AuxRecord) → left ≡ behind (λ r. not (comes_after key r)) rs → left ≡ x ∷ l → Some x ≡ find (comes_after key) rs
found_after key rs left l x is here =
    let at = some_there (λ r. not (comes_after key r)) rs l x x (sym is ∙ here) in
    ap Some (sym at.1) ∙ after_found key rs (length (front (λ r. not (comes_after key r)) rs)) x (splits_front (λ r. not (comes_after key r)) rs) at.0

pub none_after_it : (key : List ℕ) (rs left : List AuxRecord) → left ≡ behind (λ r. not (comes_after key r)) rs → left ≡ [] → None ≡ find (comes_after key) rs
none_after_it key rs left is none =
    none_behind key rs (length (front (λ r. not (comes_after key r)) rs)) (splits_front (λ r. not (comes_after key r)) rs) (omega (arith, none_there (λ r. not (comes_after key r)) rs (sym is ∙ none)))

-- what becomes of the records and of their length

some_is : (o : Option AuxRecord) → is_some o ≡ true → (x : AuxRecord) × (o ≡ Some x)
some_is (Some x) h = (x, refl)
some_is None h = let z : false ≡ true = h in absurd cc

none_is : (o : Option AuxRecord) → is_some o ≡ false → o ≡ None
none_is (Some x) h = let z : true ≡ false = h in absurd cc
none_is None h = refl

pub len_some : (o : Option AuxRecord) (n : ℕ) → Some n ≡ option_map aux_len o → is_some o ≡ true
len_some (Some x) n h = refl
len_some None n h = let z : ◌≡◌ {A = Option ℕ} (Some n) None = h in absurd cc

pub len_none : (o : Option AuxRecord) → None ≡ option_map aux_len o → is_some o ≡ false
len_none (Some x) h = let z : ◌≡◌ {A = Option ℕ} None (Some (aux_len x)) = h in absurd cc
len_none None h = refl

len_is : (o : Option AuxRecord) (n : ℕ) → Some n ≡ option_map aux_len o → (x : AuxRecord) × (o ≡ Some x) × (n ≡ aux_len x)
len_is (Some x) n h = (x, refl, (let z : ◌≡◌ {A = Option ℕ} (Some n) (Some (aux_len x)) = h in cc))
len_is None n h = let z : ◌≡◌ {A = Option ℕ} (Some n) None = h in absurd cc

pub len_found : (o : Option AuxRecord) (x : AuxRecord) (n : ℕ) → Some x ≡ o → n ≡ aux_len x → Some n ≡ option_map aux_len o
len_found o x n here len = ap Some len ∙ ap (option_map aux_len) here

module _ (key : List ℕ) (rs : List AuxRecord) (rise : AreRecordsFrom None rs) where
  pub some_behind : is_some (record_at rs key) ≡ true → 0 < length (behind (stands_before key) rs)
  some_behind h = by (behind (stands_before key) rs) refl where
    by : (l : List AuxRecord) → behind (stands_before key) rs ≡ l → 0 < length l
    by [] none = let z : false ≡ true = sym (ap is_some (nowhere key rs rise none)) ∙ h in absurd cc
    by (x ∷ l) here = omega arith

  found_at : (x : AuxRecord) → Stands key rs x → (d : AuxRecord) → same (get_or rs (length (front (stands_before key) rs)) d).key key ≡ true
  found_at x s d = ap (λ (r : AuxRecord). same r.key key) (s.item d) ∙ s.has_key

  removed_is : (x : AuxRecord) → Stands key rs x → remove rs (length (front (stands_before key) rs)) ≡ without_record key rs
  removed_is x s = remove_found key None rs (length (front (stands_before key) rs)) x rise (splits_front (stands_before key) rs) s.in_range (found_at x s x)

  pub remove_there : (new : List AuxRecord) → is_some (record_at rs key) ≡ true → new ≡ front (stands_before key) rs ++ rest (behind (stands_before key) rs) → new ≡ without_record key rs
  remove_there new h is =
      let x = some_is (record_at rs key) h in
      is ∙ sym (removed_there (stands_before key) rs rs (remove rs (length (front (stands_before key) rs))) (length (front (stands_before key) rs)) refl refl refl) ∙ removed_is x.0 (stands key rs rise x.0 x.1)

  pub remove_nowhere : is_some (record_at rs key) ≡ false → rs ≡ without_record key rs
  remove_nowhere h =
      let d : AuxRecord = record { key = []; value = [] } in
      sym (remove_missing key None rs (length (front (stands_before key) rs)) d rise (splits_front (stands_before key) rs) (gap key rs rise d (none_is (record_at rs key) h)))

  pub less_there : (n less : ℕ) → n ≡ records_len rs → Some less ≡ option_map aux_len (record_at rs key) → less ≤ n
  less_there n less len h =
      let x = len_is (record_at rs key) less h in
      let s : Stands key rs x.0 = stands key rs rise x.0 x.1 in
      omega (arith, len, x.2, ap aux_len (s.item x.0), len_at rs (length (front (stands_before key) rs)) x.0 s.in_range)

  pub kept_without : (n less : ℕ) → n ≡ records_len rs → Some less ≡ option_map aux_len (record_at rs key) → AreKept (without_record key rs) (n - less)
  kept_without n less len h =
      let x = len_is (record_at rs key) less h in
      let s : Stands key rs x.0 = stands key rs rise x.0 x.1 in
      subst (λ (l : List AuxRecord). AreKept l (n - less)) (removed_is x.0 s) (record {
        rise = remove_rises None rs (length (front (stands_before key) rs)) rise s.in_range;
        len = omega (arith, len, x.2, ap aux_len (s.item x.0), remove_len rs (length (front (stands_before key) rs)) x.0 s.in_range);
      })

module _ (aux : AuxRecord) (rs : List AuxRecord) (rise : AreRecordsFrom None rs) where
  set_is : (x : AuxRecord) → Stands aux.key rs x → set rs (length (front (stands_before aux.key) rs)) aux ≡ with_record aux rs
  set_is x s = sym (put_found aux None rs (length (front (stands_before aux.key) rs)) x rise (splits_front (stands_before aux.key) rs) s.in_range (found_at aux.key rs rise x s x))

  insert_is : record_at rs aux.key ≡ None → insert rs (length (front (stands_before aux.key) rs)) aux ≡ with_record aux rs
  insert_is none = sym (put_missing aux None rs (length (front (stands_before aux.key) rs)) aux rise (splits_front (stands_before aux.key) rs) (gap aux.key rs rise aux none))

  pub put_there : (new : List AuxRecord) → is_some (record_at rs aux.key) ≡ true → new ≡ front (stands_before aux.key) rs ++ aux ∷ rest (behind (stands_before aux.key) rs) → new ≡ with_record aux rs
  put_there new h is =
      let x = some_is (record_at rs aux.key) h in
      let s : Stands aux.key rs x.0 = stands aux.key rs rise x.0 x.1 in
      is ∙ sym (set_front (stands_before aux.key) rs aux s.in_range) ∙ set_is x.0 s

  pub put_between : (new : List AuxRecord) → is_some (record_at rs aux.key) ≡ false → new ≡ front (stands_before aux.key) rs ++ aux ∷ behind (stands_before aux.key) rs → new ≡ with_record aux rs
  put_between new h is =
      is ∙ sym (inserted_there (stands_before aux.key) rs rs (insert rs (length (front (stands_before aux.key) rs)) aux) (length (front (stands_before aux.key) rs)) aux refl refl refl)
      ∙ insert_is (none_is (record_at rs aux.key) h)

  pub kept_replaced : (n less : ℕ) → IsShort aux → (m : ℕ) × AreKept rs m × (n ≡ m + aux_len aux) → Some less ≡ option_map aux_len (record_at rs aux.key) → AreKept (with_record aux rs) (n - less)
  kept_replaced n less short longer h =
      let x = len_is (record_at rs aux.key) less h in
      let s : Stands aux.key rs x.0 = stands aux.key rs rise x.0 x.1 in
      subst (λ (l : List AuxRecord). AreKept l (n - less)) (set_is x.0 s) (record {
        rise = set_rises None rs (length (front (stands_before aux.key) rs)) x.0 aux rise s.in_range (found_at aux.key rs rise x.0 s x.0) short;
        len = omega (arith, longer.1.len, longer.2, x.2, ap aux_len (s.item x.0), set_len rs (length (front (stands_before aux.key) rs)) x.0 aux s.in_range, len_at rs (length (front (stands_before aux.key) rs)) x.0 s.in_range);
      })

  pub kept_added : (n : ℕ) → IsShort aux → (m : ℕ) × AreKept rs m × (n ≡ m + aux_len aux) → None ≡ option_map aux_len (record_at rs aux.key) → AreKept (with_record aux rs) n
  kept_added n short longer h =
      let none : record_at rs aux.key ≡ None = none_is (record_at rs aux.key) (len_none (record_at rs aux.key) h) in
      subst (λ (l : List AuxRecord). AreKept l n) (insert_is none) (record {
        rise = insert_rises None rs (length (front (stands_before aux.key) rs)) aux aux rise tt (splits_front (stands_before aux.key) rs) (gap aux.key rs rise aux none) short;
        len = omega (arith, longer.1.len, longer.2, insert_len rs (length (front (stands_before aux.key) rs)) aux (front_within (stands_before aux.key) rs));
      })
