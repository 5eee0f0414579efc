-- How many records have a number, as a record is put in or taken out.
use Rattle.std.proofs.Common.{◌≡◌, ℕ, ◌+◌, ◌<◌, ◌^◌, ◌&&◌, ◌||◌, ◌==◌, Bool, true, false, List, [], ◌∷◌, length, take, drop, refl, sym, ap, subst, ◌∙◌, arith, Option, Some, None, inl, inr, nat_lt, MatchOption, ◌≢◌}
use Rattle.std.proofs.lemmas.Bool.{cases_Bool, eq-eqb}
use Rattle.std.proofs.lemmas.Bool.Decides.{nat_tests}
use Rattle.std.specs.List.{list_any}
use Rattle.cf_base.specs.declared.answers.AuxRecord.{AuxRecord}
use Rattle.cf_model.specs.Formats.{with_record, without_record}
use Rattle.cf_model.specs.Words.{comes_before, in_bytes, number_of, put_in, same, says}
use Rattle.cf_model.proofs.LengthLaws.{in_bytes-length}
use Rattle.cf_model.proofs.ReplyLaws.{read_back}
use Rattle.cf_table.proofs.Indexed.{number_is}
use Rattle.cf_table.proofs.NamedEntries.{same_is, same_itself}
use Rattle.cf_volume_image.specs.Contents.{record_at}
use Rattle.cf_volume_image.specs.Numbers.{AddsAll, AreAllSame, AreCounted, AreNumbersOf, TakesAll, count_of, counts_at, has_number, how_many, is_number, is_numbered, offset_of, one_if, spells_at}
use Rattle.cf_volume_image.specs.Spelled.{AreRecordsFrom}
use Rattle.cf_volume_image.specs.declared.number_places.NumberPlace.{NumberPlace}
use Rattle.cf_volume_image.specs.declared.number_places.NumberPlace.TheVariants.{First, Second}
use Rattle.cf_volume_image.specs.declared.number_places.Numbers.{Numbers}
use Rattle.cf_volume_image.specs.declared.record_numbers.RecordNumbers.{RecordNumbers}
use Rattle.cf_volume_image.proofs.RecordPlaces.{all_stay}

-- those of a list

module _ (p : AuxRecord → Bool) where
  pub removed : (key : List ℕ) (before : Option (List ℕ)) (rs : List AuxRecord) → AreRecordsFrom before rs → how_many p (without_record key rs) + one_if (says p (record_at rs key)) ≡ how_many p rs
  removed key before [] h = refl
  removed key before (r ∷ rs) h = elim (cases_Bool (same r.key key)) [
    | inl hit ↦
        let stays = all_stay key rs (subst (λ (k : List ℕ). AreRecordsFrom (Some k) rs) (same_is r.key key hit) h.1) in
        rw hit (ap (λ l. how_many p l + one_if (p r)) stays ∙ omega arith)
    | inr miss ↦ rw miss (omega (arith, removed key (Some r.key) rs h.1))
  ]

  put_one : (f : AuxRecord → AuxRecord → Bool) (x : AuxRecord) (rs : List AuxRecord) → how_many p (put_in f x rs) ≡ one_if (p x) + how_many p rs
  put_one f x [] = refl
  put_one f x (r ∷ rs) = elim (cases_Bool (f r x)) [
    | inl hit ↦ rw hit (omega (arith, put_one f x rs))
    | inr miss ↦ rw miss refl
  ]

  pub put : (x : AuxRecord) (rs : List AuxRecord) → AreRecordsFrom None rs → how_many p (with_record x rs) + one_if (says p (record_at rs x.key)) ≡ one_if (p x) + how_many p rs
  put x rs h = omega (arith, put_one (λ a b. comes_before a.key b.key) x (without_record x.key rs), removed x.key None rs h)

  pub some_counted : (rs : List AuxRecord) → nat_lt 0 (how_many p rs) ≡ list_any p rs
  some_counted [] = refl
  some_counted (r ∷ rs) = by (p r) (some_counted rs) where
    by : (b : Bool) → nat_lt 0 (how_many p rs) ≡ list_any p rs → nat_lt 0 (one_if b + how_many p rs) ≡ (b || list_any p rs)
    by true h = grind (arith, nat_tests)
    by false h = let e : 0 + how_many p rs ≡ how_many p rs = omega arith in ap (nat_lt 0) e ∙ h

-- the numbers of a record

not_so : (b : Bool) → (b ≡ true → ⊥) → b ≡ false
not_so true h = absurd (h refl)
not_so false h = refl

same_numbers : (m n : ℕ) → m < 2 ^ 64 → n < 2 ^ 64 → (m == n) ≡ same (in_bytes 8 m) (in_bytes 8 n)
same_numbers m n h k = elim (cases_Bool (m == n)) [
  | inl hit ↦ hit ∙ sym (ap (λ v. same (in_bytes 8 v) (in_bytes 8 n)) (number_is m n hit) ∙ same_itself (in_bytes 8 n))
  | inr miss ↦ miss ∙ sym (not_so (same (in_bytes 8 m) (in_bytes 8 n)) (λ s.
      let e : m ≡ n = sym (read_back m h) ∙ ap number_of (same_is (in_bytes 8 m) (in_bytes 8 n) s) ∙ read_back n k in
      let z : false ≡ true = sym miss ∙ eq-eqb m n e in cc))
]

number_says : (n : ℕ) (field : List ℕ) (o : Option ℕ) → MatchOption o (length field ≢ 8) (λ m. (m < 2 ^ 64) × (field ≡ in_bytes 8 m)) → n < 2 ^ 64 → is_number n o ≡ same field (in_bytes 8 n)
number_says n field None h lt = sym (not_so (same field (in_bytes 8 n)) (λ s. h (ap length (same_is field (in_bytes 8 n) s) ∙ in_bytes-length 8 n)))
number_says n field (Some m) h lt = same_numbers m n h.0 lt ∙ ap (λ v. same v (in_bytes 8 n)) (sym h.1)

pub both_numbers : (r : AuxRecord) (key value f g : List ℕ) (x y : Option ℕ) → key ≡ r.key → value ≡ r.value → is_numbered key ≡ true → f ≡ take 8 (drop 0 value) → g ≡ take 8 (drop 17 value)
    → MatchOption x (length f ≢ 8) (λ m. (m < 2 ^ 64) × (f ≡ in_bytes 8 m)) → MatchOption y (length g ≢ 8) (λ m. (m < 2 ^ 64) × (g ≡ in_bytes 8 m)) → AreNumbersOf (Some r) (record { first = x; second = y })
both_numbers r key value f g x y k v numbered fe ge h j First n lt =
    number_says n f x h lt ∙ ap (λ l. same l (in_bytes 8 n)) (fe ∙ ap (λ l. take 8 (drop 0 l)) v) ∙ ap (λ b. b && spells_at 0 n r.value) (sym numbered ∙ ap is_numbered k)
both_numbers r key value f g x y k v numbered fe ge h j Second n lt =
    number_says n g y j lt ∙ ap (λ l. same l (in_bytes 8 n)) (ge ∙ ap (λ l. take 8 (drop 17 l)) v) ∙ ap (λ b. b && spells_at 17 n r.value) (sym numbered ∙ ap is_numbered k)

pub unnumbered : (place : NumberPlace) (n : ℕ) (key : List ℕ) (rs : List AuxRecord) → is_numbered key ≡ false → says (has_number place n) (record_at rs key) ≡ false
unnumbered place n key [] h = refl
unnumbered place n key (r ∷ rs) h = elim (cases_Bool (same r.key key)) [
  | inl hit ↦ rw hit (ap (λ b. b && spells_at (offset_of place) n r.value) (ap is_numbered (same_is r.key key hit) ∙ h))
  | inr miss ↦ rw miss (unnumbered place n key rs h)
]

-- the counts of a list

pub counted_put : (x : AuxRecord) (rs after : List AuxRecord) (more gone : Numbers) (old mid new : RecordNumbers) → AreRecordsFrom None rs → AreCounted rs old → AreNumbersOf (Some x) more → AreNumbersOf (record_at rs x.key) gone
    → AddsAll more old mid → TakesAll gone mid new → after ≡ with_record x rs → AreCounted after new
counted_put x rs after more gone old mid new rise counted of_x of_gone adds takes is = λ place n lt.
    omega (arith, counted place n lt, adds place n, takes place n, ap one_if (of_x place n lt), ap one_if (of_gone place n lt), put (has_number place n) x rs rise, ap (how_many (has_number place n)) is)

pub counted_back : (rs after : List AuxRecord) (more : Numbers) (old mid new : RecordNumbers) → AreCounted rs old → AddsAll more old mid → TakesAll more mid new → after ≡ rs → AreCounted after new
counted_back rs after more old mid new counted adds takes is = λ place n lt. omega (arith, counted place n lt, adds place n, takes place n, ap (how_many (has_number place n)) is)

pub counted_same : (rs : List AuxRecord) (old new : RecordNumbers) → AreCounted rs old → AreAllSame old new → AreCounted rs new
counted_same rs old new counted same = λ place n lt. same place n ∙ counted place n lt

pub counted_removed : (key : List ℕ) (rs after : List AuxRecord) (gone : Numbers) (old new : RecordNumbers) → AreRecordsFrom None rs → AreCounted rs old → AreNumbersOf (record_at rs key) gone → TakesAll gone old new → after ≡ without_record key rs → AreCounted after new
counted_removed key rs after gone old new rise counted of_gone takes is = λ place n lt.
    omega (arith, counted place n lt, takes place n, ap one_if (of_gone place n lt), removed (has_number place n) key None rs rise, ap (how_many (has_number place n)) is)

-- as they are counted in turn
abbrev pub AreCountedTo : List AuxRecord → List AuxRecord → RecordNumbers → Type 0
AreCountedTo all rest t = (place : NumberPlace) (n : ℕ) → n < 2 ^ 64 → count_of (counts_at place t) n + how_many (has_number place n) rest ≡ how_many (has_number place n) all
