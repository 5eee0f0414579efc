-- A record that is taken out and put back stands where it stood.
use Rattle.std.proofs.Common.{◌≡◌, ℕ, Bool, true, false, cond, ◌==◌, List, [], ◌∷◌, Option, Some, None, inl, inr, refl, sym, ap, ◌∙◌, subst}
use Rattle.std.proofs.lemmas.Bool.{and_parts, cases_Bool, eqb-true}
use Rattle.std.specs.Prelude.{find, option_map}
use Rattle.std.specs.List.{AllByRecursion}
use Rattle.cf_base.specs.declared.answers.AuxRecord.{AuxRecord}
use Rattle.cf_base.specs.declared.ids.Token.{Token}
use Rattle.cf_engine_queue.specs.Keys.{AreByKey, record_at}
use Rattle.cf_engine_queue.specs.Records.{IsEntry, IsKeepable}
use Rattle.cf_engine_queue.proofs.ByKey.{before_goes_on, not_itself, same_text}
use Rattle.cf_engine_queue.proofs.Found.{by_key, entry_at}
use Rattle.cf_engine_queue.proofs.StaysKeepable.{short_tokens}
use Rattle.cf_engine_queue.proofs.Steps.{no_entry_step}
use Rattle.cf_model.specs.Books.{Book, QueueEntry, aux_records, entry_of, entry_record, without_entry}
use Rattle.cf_model.specs.Formats.{with_record, without_record}
use Rattle.cf_model.specs.Numbers.{same_key}
use Rattle.cf_model.specs.Words.{comes_before, put_in, same}

-- what comes later is another, and does not come before
other_later : (a b : List ℕ) → comes_before a b ≡ true → same b a ≡ false
other_later a b h = elim (cases_Bool (same b a)) [
  | inl e ↦ (let bad : true ≡ false = sym h ∙ ap (λ (x : List ℕ). comes_before a x) (same_text b a e) ∙ not_itself a in cc)
  | inr e ↦ e
]

not_before : (a b : List ℕ) → comes_before a b ≡ true → comes_before b a ≡ false
not_before a b h = elim (cases_Bool (comes_before b a)) [
  | inl e ↦ (let bad : true ≡ false = sym (before_goes_on a b a h e) ∙ not_itself a in cc)
  | inr e ↦ e
]

-- records

abbrev Later : AuxRecord → List AuxRecord → Type 0
Later r rs = AllByRecursion (λ x. comes_before r.key x.key ≡ true) rs

abbrev placed : AuxRecord → List AuxRecord → List AuxRecord
placed r rs = put_in (λ x y. comes_before x.key y.key) r rs

all_kept : (r : AuxRecord) (rs : List AuxRecord) → Later r rs → without_record r.key rs ≡ rs
all_kept r [] h = refl
all_kept r (x ∷ xs) h = rw (other_later r.key x.key h.0) (ap (λ (l : List AuxRecord). x ∷ l) (all_kept r xs h.1))

comes_first : (r : AuxRecord) (rs : List AuxRecord) → Later r rs → placed r rs ≡ r ∷ rs
comes_first r [] h = refl
comes_first r (x ∷ xs) h = rw (not_before r.key x.key h.0) refl

inside : (x y : AuxRecord) → ◌≡◌ {A = Option AuxRecord} (Some x) (Some y) → x ≡ y
inside x y e = cc

-- what is found among later ones is later
found_later : (x r : AuxRecord) (key : List ℕ) (rs : List AuxRecord) → Later x rs → record_at key rs ≡ Some r → comes_before x.key r.key ≡ true
found_later x r key [] h e = let bad : ◌≡◌ {A = Option AuxRecord} None (Some r) = e in cc
found_later x r key (y ∷ ys) h e = by (found_later x r key ys h.1) (same y.key key) refl
  where
    by : (record_at key ys ≡ Some r → comes_before x.key r.key ≡ true) → (t : Bool) → same y.key key ≡ t → comes_before x.key r.key ≡ true
    by rest true hit = ap (λ (z : AuxRecord). comes_before x.key z.key) (sym (inside y r (sym (ap (λ (t : Bool). cond t (Some y) (record_at key ys)) hit) ∙ e))) ∙ h.0
    by rest false miss = rest (sym (ap (λ (t : Bool). cond t (Some y) (record_at key ys)) miss) ∙ e)

pub put_back : (r : AuxRecord) (rs : List AuxRecord) → AreByKey rs → record_at r.key rs ≡ Some r → with_record r (without_record r.key rs) ≡ rs
put_back r [] h e = let bad : ◌≡◌ {A = Option AuxRecord} None (Some r) = e in cc
put_back r (x ∷ xs) h e = by (put_back r xs h.1) (same x.key r.key) refl
  where
    by : (record_at r.key xs ≡ Some r → with_record r (without_record r.key xs) ≡ xs) → (t : Bool) → same x.key r.key ≡ t → with_record r (without_record r.key (x ∷ xs)) ≡ x ∷ xs
    by rest true hit =
        let it : x ≡ r = inside x r (sym (ap (λ (t : Bool). cond t (Some x) (record_at r.key xs)) hit) ∙ e) in
        let later : Later r xs = subst (λ (z : AuxRecord). Later z xs) it h.0 in
        rw hit (ap (λ (l : List AuxRecord). placed r (without_record r.key l)) (all_kept r xs later) ∙ ap (λ (l : List AuxRecord). placed r l) (all_kept r xs later) ∙ comes_first r xs later ∙ ap (λ (z : AuxRecord). z ∷ xs) (sym it))
    by rest false miss =
        let found : record_at r.key xs ≡ Some r = sym (ap (λ (t : Bool). cond t (Some x) (record_at r.key xs)) miss) ∙ e in
        rw (miss, miss, found_later x r r.key xs h.0 found) (ap (λ (l : List AuxRecord). x ∷ l) (rest found))

-- what is found passes the test
found_is : {A : Type 0} (is : A → Bool) (xs : List A) (x : A) → find is xs ≡ Some x → is x ≡ true
found_is is [] x e = let bad : None ≡ Some x = e in cc
found_is {A} is (y ∷ ys) x e = by (found_is is ys x) (is y) refl
  where
    some : (z : A) → ◌≡◌ {A = Option A} (Some z) (Some x) → z ≡ x
    some z h = cc

    by : (find is ys ≡ Some x → is x ≡ true) → (t : Bool) → is y ≡ t → is x ≡ true
    by rest true hit = ap is (sym (some y (sym (ap (λ (t : Bool). cond t (Some y) (find is ys)) hit) ∙ e))) ∙ hit
    by rest false miss = rest (sym (ap (λ (t : Bool). cond t (Some y) (find is ys)) miss) ∙ e)

same_token : (a b : Token) → same_key a.0 b.0 ≡ true → a ≡ b
same_token a b h = let p = and_parts (a.0.epoch == b.0.epoch) (a.0.number == b.0.number) h in λ i. record { 0 = record { epoch = eqb-true a.0.epoch b.0.epoch p.0 i; number = eqb-true a.0.number b.0.number p.1 i } }

-- that of a live entry comes back to where it stood
pub entry_back : (b : Book) (token : Token) (e : QueueEntry) (r : AuxRecord) → IsKeepable b → Some e ≡ entry_of b token → IsEntry r e → with_record r (aux_records (without_entry token b)) ≡ aux_records b
entry_back b token e r k is says =
    let it : e.token ≡ token = same_token e.token token (found_is (λ d. same_key d.token.0 token.0) b.entries e (sym is)) in
    let at : record_at (entry_record e).key (aux_records b) ≡ Some (entry_record e) = entry_at b e.token k says.fits.token ∙ ap (λ (t : Token). option_map entry_record (entry_of b t)) it ∙ ap (option_map entry_record) (sym is) in
    let back = ap (λ (l : List AuxRecord). with_record (entry_record e) l) (no_entry_step b e.token (short_tokens b k) says.fits.token) ∙ put_back (entry_record e) (aux_records b) (by_key b k) at in
    subst (λ (t : Token). with_record r (aux_records (without_entry t b)) ≡ aux_records b) it (subst (λ (z : AuxRecord). with_record z (aux_records (without_entry e.token b)) ≡ aux_records b) (sym says.spelled) back)
