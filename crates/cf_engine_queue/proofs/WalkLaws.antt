-- What a walk over records in order of key finds.
use Rattle.std.proofs.Common.{◌≡◌, ℕ, Bool, true, false, cond, List, [], ◌∷◌, ◌++◌, Option, Some, None, refl, sym, ap, subst, ◌∙◌, append_assoc}
use Rattle.cf_base.specs.declared.answers.AuxRecord.{AuxRecord}
use Rattle.cf_collections.specs.Split.{behind, front, rest}
use Rattle.cf_model.specs.Words.{comes_before, same}
use Rattle.cf_volume_image.proofs.Keys.{before_not_same}
use Rattle.cf_volume_image.proofs.RecordPlaces.{found_there, none_found}
use Rattle.cf_volume_image.specs.RecordLists.{stands_before}
use Rattle.cf_volume_image.specs.Spelled.{AreRecordsFrom}
use Rattle.cf_engine_queue.specs.Keys.{record_at}
use Rattle.cf_engine_queue.specs.Walks.{IsWalk, first_at}
use Rattle.cf_engine_queue.proofs.ByKey.{before_goes_on, same_text}

-- a key stands before that of each record behind it
stands_first : (low : List ℕ) (past rest : List AuxRecord) (r : AuxRecord) → AreRecordsFrom (Some low) (past ++ r ∷ rest) → comes_before low r.key ≡ true
stands_first low [] rest r h = h.0.0.1
stands_first low (x ∷ past) rest r h = before_goes_on low x.key r.key h.0.0.1 (stands_first x.key past rest r h.1)

-- a record with the key is the one with the key
the_one : (before : Option (List ℕ)) (past rest : List AuxRecord) (r : AuxRecord) (key : List ℕ) → AreRecordsFrom before (past ++ r ∷ rest) → same r.key key ≡ true → record_at key (past ++ r ∷ rest) ≡ Some r
the_one before [] rest r key h is = rw is refl
the_one before (x ∷ past) rest r key h is =
    rw (before_not_same x.key key (subst (λ k. comes_before x.key k ≡ true) (same_text r.key key is) (stands_first x.key past rest r h.1))) (the_one (Some x.key) past rest r key h.1 is)

-- what the next record says
pub first_named : (ahead rest : List AuxRecord) (key : List ℕ) (r : AuxRecord) (b : Bool) → ahead ≡ r ∷ rest → b ≡ same r.key key → b ≡ true → Some r ≡ first_at key ahead
first_named ahead rest key r b here named is = sym (ap (first_at key) here ∙ ap (λ (t : Bool). cond t (Some r) None) (sym named ∙ is))

pub first_other : (ahead rest : List AuxRecord) (key : List ℕ) (r : AuxRecord) (b : Bool) → ahead ≡ r ∷ rest → b ≡ same r.key key → b ≡ false → None ≡ first_at key ahead
first_other ahead rest key r b here named is = sym (ap (first_at key) here ∙ ap (λ (t : Bool). cond t (Some r) None) (sym named ∙ is))

-- it is the one with the key
pub next_found : (ahead all : List AuxRecord) (key : List ℕ) (r : AuxRecord) → IsWalk ahead all → first_at key ahead ≡ Some r → record_at key all ≡ Some r
next_found [] all key r w e = let bad : None ≡ Some r = e in absurd cc
next_found (x ∷ ahead) all key r w e = by (same x.key key) refl e
  where
    by : (b : Bool) → same x.key key ≡ b → cond b (Some x) None ≡ Some r → record_at key all ≡ Some r
    by true is e = ap (record_at key) w.is ∙ the_one None w.past ahead x key (subst (AreRecordsFrom None) w.is w.rise) is ∙ e
    by false is e = let bad : None ≡ Some r = e in absurd cc

-- and the first one from the place of the key on
pub first_found : (all : List AuxRecord) (key : List ℕ) → AreRecordsFrom None all → first_at key (behind (stands_before key) all) ≡ record_at key all
first_found all key rise = by (behind (stands_before key) all) refl
  where
    by : (left : List AuxRecord) → left ≡ behind (stands_before key) all → first_at key left ≡ record_at key all
    by [] is = none_found key all rise [] is refl
    by (x ∷ left) is = found_there key all rise (x ∷ left) left x (cond (same x.key key) (Some x) None) is refl refl

-- how a walk goes on
pub walks_on : (ahead all : List AuxRecord) → IsWalk ahead all → IsWalk (rest ahead) all
walks_on [] all w = w
walks_on (x ∷ ahead) all w = record { past = w.past ++ x ∷ []; is = w.is ∙ sym (append_assoc w.past (x ∷ []) ahead); rise = w.rise }

front_and_behind : (p : AuxRecord → Bool) (xs : List AuxRecord) → xs ≡ front p xs ++ behind p xs
front_and_behind p [] = refl
front_and_behind p (x ∷ xs) = one (p x) (front_and_behind p xs)
  where
    one : (b : Bool) → xs ≡ front p xs ++ behind p xs → x ∷ xs ≡ cond b (x ∷ front p xs) [] ++ cond b (behind p xs) (x ∷ xs)
    one true more = ap (λ (l : List AuxRecord). x ∷ l) more
    one false more = refl

-- a walk from the place of a key on
pub walks_from : (all : List AuxRecord) (key : List ℕ) → AreRecordsFrom None all → IsWalk (behind (stands_before key) all) all
walks_from all key rise = record { past = front (stands_before key) all; is = front_and_behind (stands_before key) all; rise = rise }

-- one from the first record on
pub walks_all : (all : List AuxRecord) → AreRecordsFrom None all → IsWalk all all
walks_all all rise = record { past = []; is = refl; rise = rise }
