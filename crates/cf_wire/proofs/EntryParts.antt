-- Entries, and the bytes that stand for values, are read exactly.
use Rattle.std.proofs.Common.{◌≡◌, ℕ, zero, suc, ◌+◌, ◌<◌, ◌==◌, Bool, true, false, cond, List, [], ◌∷◌, ◌++◌, length, Option, Some, None, Ok, inl, inr, refl, sym, ap, ◌∙◌, subst, arith, append_assoc}
use Rattle.std.proofs.lemmas.Bool.{cases_Bool, eqb-true}
use Rattle.std.proofs.lemmas.List.{nil_from_length}
use Rattle.std.specs.List.{AllByRecursion, flat_map}
use Rattle.cf_base.specs.declared.messages.Entry.{Entry}
use Rattle.cf_base.specs.declared.messages.Why.{Why}
use Rattle.cf_base.specs.declared.messages.Why.TheVariants as why
use Rattle.cf_codec.specs.Left.{Left, Takes}
use Rattle.cf_model.specs.Frames.{flag, name_bytes, spell_entries, spell_entry, why_number}
use Rattle.cf_model.specs.Words.{in_bytes}
use Rattle.cf_wire.specs.Reading.{◌>>=◌, Step, counted_at, dir_of, entries_at, entry_at, flag_of, marked_at, why_of}
use Rattle.cf_wire.specs.Spelled.{FitsEntries, FitsEntry, entry_widths}
use Rattle.cf_wire.proofs.Exact.{IsExact, both_exact, left, ok_is}
use Rattle.cf_wire.proofs.Marks.{marked_exact}
use Rattle.cf_wire.proofs.Parts.{form_exact, last_eight, made_exact, then_eight, then_four, then_name}

-- a chain of tests that gave a value
told : {X : Type 0} (number : X → ℕ) (b k : ℕ) (x y : X) (rest : Option X) → number x ≡ k → (rest ≡ Some y → number y ≡ b) → cond (b == k) (Some x) rest ≡ Some y → number y ≡ b
told number b k x y rest is next e = elim (cases_Bool (b == k)) [
  | inl hit ↦ (let h = rw hit at e in let same : x ≡ y = cc in ap number (sym same) ∙ is ∙ sym (eqb-true b k hit))
  | inr miss ↦ next (rw miss at e)
]

none_told : {X : Type 0} (number : X → ℕ) (b : ℕ) (y : X) → None ≡ Some y → number y ≡ b
none_told number b y e = absurd cc

abbrev dir_number : Bool → ℕ
dir_number d = cond d 1 2

below : (d : Bool) (m n : ℕ) → m < 256 → n < 256 → cond d m n < 256
below true m n a b = a
below false m n a b = b

dir_back : (d : Bool) → dir_of (dir_number d) ≡ Some d
dir_back true = refl
dir_back false = refl

pub dir_exact : IsExact (λ (d : Bool). cond d 1 2 ∷ []) (λ d. 1 ∷ []) (λ d. Unit {0}) (λ d. d) (marked_at dir_of)
dir_exact = marked_exact dir_number dir_of true (λ d. below d 1 2 (omega arith) (omega arith)) dir_back
    (λ b d e. told dir_number b 1 true d _ refl (told dir_number b 2 false d _ refl (none_told dir_number b d)) e)

flag_back : (d : Bool) → flag_of (flag d) ≡ Some d
flag_back true = refl
flag_back false = refl

pub flag_exact : IsExact (λ (d : Bool). flag d ∷ []) (λ d. 1 ∷ []) (λ d. Unit {0}) (λ d. d) (marked_at flag_of)
flag_exact = marked_exact flag flag_of true (λ d. below d 1 0 (omega arith) (omega arith)) flag_back
    (λ b d e. told flag b 1 true d _ refl (told flag b 0 false d _ refl (none_told flag b d)) e)

why_back : (w : Why) → why_of (why_number w) ≡ Some w
why_back why.Conflict = refl
why_back why.NameTaken = refl
why_back why.NotThere = refl
why_back why.NotEmpty = refl
why_back why.Loop = refl
why_back why.Quota = refl
why_back why.BadName = refl
why_back why.TooDeep = refl
why_back why.TooLarge = refl

why_small : (w : Why) → why_number w < 256
why_small why.Conflict = omega arith
why_small why.NameTaken = omega arith
why_small why.NotThere = omega arith
why_small why.NotEmpty = omega arith
why_small why.Loop = omega arith
why_small why.Quota = omega arith
why_small why.BadName = omega arith
why_small why.TooDeep = omega arith
why_small why.TooLarge = omega arith

why_forth : (b : ℕ) (w : Why) → why_of b ≡ Some w → why_number w ≡ b
why_forth b w e =
    told why_number b 1 why.Conflict w _ refl (told why_number b 2 why.NameTaken w _ refl (told why_number b 3 why.NotThere w _ refl (told why_number b 4 why.NotEmpty w _ refl
    (told why_number b 5 why.Loop w _ refl (told why_number b 6 why.Quota w _ refl (told why_number b 7 why.BadName w _ refl (told why_number b 8 why.TooDeep w _ refl
    (told why_number b 9 why.TooLarge w _ refl (none_told why_number b w))))))))) e

pub why_exact : IsExact (λ (w : Why). why_number w ∷ []) (λ w. 1 ∷ []) (λ w. Unit {0}) (λ w. w) (marked_at why_of)
why_exact = marked_exact why_number why_of why.Conflict why_small why_back why_forth

-- an entry

abbrev Fields : Type 0
Fields = ℕ × (ℕ × (List ℕ × (Bool × (Bool × (ℕ × (ℕ × ℕ))))))

abbrev entry_of : Fields → Entry
entry_of p = record {
  rid = record { 0 = p.0 };
  parent = record { 0 = p.1.0 };
  name = p.1.1.0;
  dir = p.1.1.1.0;
  live = p.1.1.1.1.0;
  version = record { 0 = p.1.1.1.1.1.0 };
  len = p.1.1.1.1.1.1.0;
  changed = p.1.1.1.1.1.1.1;
}

abbrev fields_of : Entry → Fields
fields_of e = (e.rid.0, (e.parent.0, (e.name, (e.dir, (e.live, (e.version.0, (e.len, e.changed)))))))

regroup : (n a b c d : List ℕ) → n ++ (a ++ (b ++ (c ++ d))) ≡ (((n ++ a) ++ b) ++ c) ++ d
regroup n a b c d = simp append_assoc

entry_spelled : (e : Entry)
    → in_bytes 8 e.rid.0 ++ (in_bytes 8 e.parent.0 ++ (name_bytes e.name ++ ((dir_number e.dir ∷ []) ++ ((flag e.live ∷ []) ++ (in_bytes 8 e.version.0 ++ (in_bytes 4 e.len ++ in_bytes 8 e.changed)))))) ≡ spell_entry e
entry_spelled e = ap (λ (t : List ℕ). in_bytes 8 e.rid.0 ++ (in_bytes 8 e.parent.0 ++ length e.name ∷ t)) (regroup e.name (dir_number e.dir ∷ flag e.live ∷ []) (in_bytes 8 e.version.0) (in_bytes 4 e.len) (in_bytes 8 e.changed))

pub entry_exact : IsExact spell_entry entry_widths FitsEntry (λ e. e) entry_at
unfolding entry_at
entry_exact = form_exact _ _ _ _ _ spell_entry entry_widths FitsEntry (λ e. e)
    (then_eight (λ rid _. then_eight (λ parent _. then_name (λ name _.
    both_exact (λ (d : Bool). cond d 1 2 ∷ []) (λ d. 1 ∷ []) (λ d. Unit {0}) (marked_at dir_of) _ _ _ _ _ dir_exact (λ dir _. both_exact (λ (d : Bool). flag d ∷ []) (λ d. 1 ∷ []) (λ d. Unit {0}) (marked_at flag_of) _ _ _ _ _ flag_exact (λ live _.
    then_eight (λ version _. then_four (λ len _.
    last_eight (λ changed. entry_of (rid, (parent, (name, (dir, (live, (version, (len, changed))))))))))))))))
    entry_of (λ p f. entry_spelled (entry_of p)) (λ p f. refl) (λ p f. refl)
    (λ p f. record { rid = f.0; parent = f.1.0; name = f.1.1.0; version = f.1.1.1.1.1.0; len = f.1.1.1.1.1.1.0; changed = f.1.1.1.1.1.1.1 })
    (λ e f. (fields_of e, (f.rid, (f.parent, (f.name, (tt, (tt, (f.version, (f.len, f.changed))))))), refl))

-- n entries

abbrev FitsCount : ℕ → List Entry → Type 0
FitsCount n es = (length es ≡ n) × AllByRecursion FitsEntry es

abbrev spell_all : List Entry → List ℕ
spell_all es = flat_map spell_entry es

abbrev wide_all : List Entry → List ℕ
wide_all es = flat_map entry_widths es

counted_none : IsExact spell_all wide_all (FitsCount 0) (λ es. es) (counted_at 0)
unfolding counted_at
counted_none = record {
  some = ([], (refl, tt));
  sized = λ es f. rw (nil_from_length es f.0) refl;
  again = λ es place rest f. (let same : place ≡ place + 0 = omega arith in rw (nil_from_length es f.0) (ap (λ (n : ℕ). Ok ([], left n rest)) same));
  takes = λ l m z bytes e. (let p = ok_is ([], l) (z, m) e in
      let here : [] ≡ z = ap (λ (r : List Entry × Left). r.0) p in
      let after : l ≡ m = ap (λ (r : List Entry × Left). r.1) p in
      record { value = []; made = sym here; fits = (refl, tt); takes = subst (λ (n : Left). Takes [] l n) after (record { parts = refl; place = omega arith }) });
  short = λ l p bytes e. absurd cc;
  bad = λ l p bytes e. absurd cc;
}

abbrev next_at : ℕ → Left → Step (List Entry)
next_at n l = entry_at l >>= λ e. counted_at n e.1 >>= λ es. Ok (e.0 ∷ es.0, es.1)

split : (n : ℕ) (es : List Entry) → FitsCount (suc n) es → (p : Entry × List Entry) × (FitsEntry p.0 × FitsCount n p.1) × (p.0 ∷ p.1 ≡ es)
split n [] f = absurd (omega (arith, f.0))
split n (e ∷ es) f = ((e, es), (f.1.0, (omega (arith, f.0), f.1.1)), refl)

counted_more : (n : ℕ) → IsExact spell_all wide_all (FitsCount n) (λ es. es) (counted_at n) → IsExact spell_all wide_all (FitsCount (suc n)) (λ es. es) (next_at n)
counted_more n others = form_exact _ _ _ _ _ spell_all wide_all (FitsCount (suc n)) (λ es. es)
    (both_exact spell_entry entry_widths FitsEntry entry_at _ _ _ _ _ entry_exact (λ e f. made_exact spell_all wide_all (FitsCount n) (counted_at n) (λ es. e ∷ es) others))
    (λ p. p.0 ∷ p.1) (λ p f. refl) (λ p f. refl) (λ p f. refl) (λ p f. (ap suc f.1.0, (f.0, f.1.1))) (split n)

counted_exact : (n : ℕ) → IsExact spell_all wide_all (FitsCount n) (λ es. es) (counted_at n)
unfolding counted_at
counted_exact zero = counted_none
counted_exact (suc n) = counted_more n (counted_exact n)

abbrev pub wide_entries : List Entry → List ℕ
wide_entries es = 4 ∷ wide_all es

pub entries_exact : IsExact spell_entries wide_entries FitsEntries (λ es. es) entries_at
unfolding entries_at
entries_exact = form_exact _ _ _ _ _ spell_entries wide_entries FitsEntries (λ es. es)
    (then_four (λ n _. counted_exact n))
    (λ p. p.1) (λ p f. ap (λ (k : ℕ). in_bytes 4 k ++ spell_all p.1) (sym f.1.0)) (λ p f. refl) (λ p f. refl) (λ p f. (omega (arith, f.0, f.1.0), f.1.1))
    (λ es f. ((length es, es), (f.0, (refl, f.1)), refl))
