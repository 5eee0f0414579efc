-- The blocks that a book has given out, after a change.
use Rattle.std.proofs.Common.{◌≡◌, ℕ, zero, suc, ◌+◌, ◌-◌, ◌<◌, Bool, true, false, ◌&&◌, ◌||◌, not, List, [], ◌∷◌, ◌++◌, refl, sym, ap, ◌∙◌, arith, eqb, eqb-true, inl, inr}
use Rattle.std.specs.Prelude.{filter}
use Rattle.std.specs.List.{list_any}
use Rattle.std.proofs.lemmas.Bool.{cases_Bool, cond_both}
use Rattle.std.proofs.lemmas.Bool.Decides.{nat_tests}
use Rattle.std.proofs.lemmas.List.Folds.{list_any-append}
use Rattle.cf_base.specs.declared.spans.Span.{Span}
use Rattle.cf_ranges.specs.Positions.{within, in_span}
use Rattle.cf_base.specs.declared.ids.Key.{Key}
use Rattle.cf_ranges.specs.Owned.{counting, is_owned, overlaps, TakesBlocks, OwnsAll, Disjoint, GivesBack, ApartFrom, AreClaims}

or_true : (v : Bool) → (v || true) ≡ true
or_true true = refl
or_true false = refl

pub counting_push : (i n m j : ℕ) → m ≡ n + 1 → j ≡ i + n → counting i m ≡ counting i n ++ j ∷ []
counting_push i n zero j e h = absurd (omega arith)
counting_push i zero (suc m) j e h = let z : m ≡ 0 = omega arith in ap (λ k. i ∷ counting (i + 1) k) z ∙ ap (λ v. v ∷ []) (omega arith)
counting_push i (suc n) (suc m) j e h = ap (λ v. i ∷ v) (counting_push (i + 1) n m j (omega arith) (omega arith))

counted : (i n b : ℕ) → list_any (λ c. eqb c b) (counting i n) ≡ within i (i + n) b
counted i zero b = none i b where
  none : (i b : ℕ) → false ≡ within i (i + 0) b
  none i b = grind (arith, nat_tests)
counted i (suc n) b = ap (λ v. eqb i b || v) (counted (i + 1) n b) ∙ more i n b where
  more : (i n b : ℕ) → (eqb i b || within (i + 1) (i + 1 + n) b) ≡ within i (i + suc n) b
  more i n b = grind (arith, nat_tests)

pub owned_pushed : (owned : List ℕ) (s : Span) (b : ℕ) → is_owned (owned ++ counting s.start s.len) b ≡ (is_owned owned b || in_span s b)
owned_pushed owned s b = list_any-append (λ c. eqb c b) owned (counting s.start s.len) ∙ ap (λ v. is_owned owned b || v) (counted s.start s.len b)

pub owned_kept : (owned : List ℕ) (s : Span) (b : ℕ) → is_owned (filter (λ c. not (in_span s c)) owned) b ≡ (is_owned owned b && not (in_span s b))
owned_kept [] s b = refl
owned_kept (c ∷ cs) s b = cond_both (not (in_span s c)) _ _ (λ v. is_owned v b ≡ (is_owned (c ∷ cs) b && not (in_span s b)))
    (λ out. ap (λ v. eqb c b || v) (owned_kept cs s b) ∙ kept c b s.start (s.start + s.len) (is_owned cs b) out)
    (λ gone. owned_kept cs s b ∙ left c b s.start (s.start + s.len) (is_owned cs b) gone) where
      kept : (c b from to : ℕ) (v : Bool) → not (within from to c) ≡ true → (eqb c b || (v && not (within from to b))) ≡ ((eqb c b || v) && not (within from to b))
      kept c b from to true h = grind (arith, nat_tests)
      kept c b from to false h = grind (arith, nat_tests)

      left : (c b from to : ℕ) (v : Bool) → not (within from to c) ≡ false → (v && not (within from to b)) ≡ ((eqb c b || v) && not (within from to b))
      left c b from to true h = grind (arith, nat_tests)
      left c b from to false h = grind (arith, nat_tests)

apart_after : (owned left : List ℕ) (s t : Span) → OwnsAll owned t → Disjoint s t → GivesBack owned left s → OwnsAll left t
apart_after owned left s t all apart back b in_t = back b ∙ both (is_owned owned b) (in_span s b) (in_span t b) (all b in_t) in_t (apart b) where
  both : (o s t : Bool) → o ≡ true → t ≡ true → (s ≡ true → t ≡ false) → (o && not s) ≡ true
  both o true t h k f = let z : true ≡ false = sym k ∙ f refl in cc
  both o false t h k f = ap (λ v. v && true) h

pub claims_after : (owned left : List ℕ) (s : Span) (cs : List (Key × Span)) → ApartFrom s cs → AreClaims owned cs → GivesBack owned left s → AreClaims left cs
claims_after owned left s [] apart claims back = tt
claims_after owned left s (c ∷ cs) apart claims back = (apart_after owned left s c.1 claims.0 apart.0 back, claims.1, claims_after owned left s cs apart.1 claims.2 back)

pub claims_spent : (old new : List ℕ) (c : Key × Span) (cs : List (Key × Span)) → AreClaims old (c ∷ cs) → GivesBack old new c.1 → AreClaims new cs
claims_spent old new c cs claims back = claims_after old new c.1 cs claims.1 claims.2 back

-- the blocks of a claim are owned, so one that takes none of the owned blocks is apart from it
owned_apart : (old : List ℕ) (s t : Span) → OwnsAll old t → overlaps old s ≡ false → Disjoint s t
owned_apart old s t all free b in_s = elim (cases_Bool (in_span t b)) [
  | inl in_t ↦ let z : true ≡ false = sym (owned_overlaps old s b (all b in_t) in_s) ∙ free in cc
  | inr out ↦ out
] where
  owned_overlaps : (old : List ℕ) (s : Span) (b : ℕ) → is_owned old b ≡ true → in_span s b ≡ true → overlaps old s ≡ true
  owned_overlaps [] s b o i = o
  owned_overlaps (c ∷ cs) s b o i = elim (cases_Bool (eqb c b)) [
    | inl same ↦ ap (λ v. in_span s v || overlaps cs s) (eqb-true c b same) ∙ ap (λ v. v || overlaps cs s) i
    | inr other ↦ ap (λ v. in_span s c || v) (owned_overlaps cs s b (sym (ap (λ v. v || is_owned cs b) other) ∙ o) i) ∙ or_true (in_span s c)
  ]

all_apart : (old : List ℕ) (s : Span) (cs : List (Key × Span)) → AreClaims old cs → overlaps old s ≡ false → ApartFrom s cs
all_apart old s [] claims free = tt
all_apart old s (c ∷ cs) claims free = (owned_apart old s c.1 claims.0 free, all_apart old s cs claims.2 free)

still_claims : (old new : List ℕ) (s : Span) (cs : List (Key × Span)) → AreClaims old cs → TakesBlocks old new s → AreClaims new cs
still_claims old new s [] claims takes = tt
still_claims old new s (c ∷ cs) claims takes = (λ b i. takes b ∙ ap (λ v. v || in_span s b) (claims.0 b i), claims.1, still_claims old new s cs claims.2 takes)

pub claims_taken : (old new : List ℕ) (c : Key × Span) (cs : List (Key × Span)) → AreClaims old cs → overlaps old c.1 ≡ false → TakesBlocks old new c.1 → AreClaims new (c ∷ cs)
claims_taken old new c cs claims free takes =
    (λ b i. takes b ∙ ap (λ v. is_owned old b || v) i ∙ or_true (is_owned old b), all_apart old c.1 cs claims free, still_claims old new c.1 cs claims takes)

-- each block of the first is one of the second
abbrev Inside : Span → Span → Type 0
Inside s t = (b : ℕ) → in_span s b ≡ true → in_span t b ≡ true

part_apart : (s t : Span) (cs : List (Key × Span)) → Inside s t → ApartFrom t cs → ApartFrom s cs
part_apart s t [] inside apart = tt
part_apart s t (c ∷ cs) inside apart = (λ b i. apart.0 b (inside b i), part_apart s t cs inside apart.1)

pub claims_split : (owned : List ℕ) (c : Key × Span) (cs : List (Key × Span)) (at : ℕ) → c.1.start < at → at < c.1.start + c.1.len → AreClaims owned (c ∷ cs)
    → AreClaims owned ((c.0, record { start = c.1.start; len = at - c.1.start }) ∷ (c.0, record { start = at; len = c.1.start + c.1.len - at }) ∷ cs)
claims_split owned c cs at low high claims =
    let first : Span = record { start = c.1.start; len = at - c.1.start } in
    let second : Span = record { start = at; len = c.1.start + c.1.len - at } in
    let first_in : (b : ℕ) → in_span first b ≡ true → in_span c.1 b ≡ true = λ b. before c.1.start (c.1.start + c.1.len) at b low high in
    let second_in : (b : ℕ) → in_span second b ≡ true → in_span c.1 b ≡ true = λ b. behind c.1.start (c.1.start + c.1.len) at b low high in (
      λ b i. claims.0 b (first_in b i),
      (λ b i. halves c.1.start (c.1.start + c.1.len) at b low high i, part_apart first c.1 cs first_in claims.1),
      (λ b i. claims.0 b (second_in b i), part_apart second c.1 cs second_in claims.1, claims.2),
    ) where
      before : (from to at b : ℕ) → from < at → at < to → within from (from + (at - from)) b ≡ true → within from to b ≡ true
      before from to at b low high i = grind (arith, nat_tests)

      behind : (from to at b : ℕ) → from < at → at < to → within at (at + (to - at)) b ≡ true → within from to b ≡ true
      behind from to at b low high i = grind (arith, nat_tests)

      halves : (from to at b : ℕ) → from < at → at < to → within from (from + (at - from)) b ≡ true → within at (at + (to - at)) b ≡ false
      halves from to at b low high i = grind (arith, nat_tests)
