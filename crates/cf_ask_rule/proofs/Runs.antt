-- Blocks in order, and the runs that they make.
use Rattle.std.proofs.Common.{◌≡◌, ℕ, zero, suc, ◌+◌, ◌^◌, ◌<◌, ◌≤◌, get_or, Bool, cond, List, [], ◌∷◌, ◌++◌, true, false, refl, sym, ap, ◌∙◌, arith, append-nil, eqb, eqb-true, ◌&&◌}
use Rattle.std.specs.Prelude.{filter}
use Rattle.std.specs.Bool.{beq}
use Rattle.std.specs.List.{AllByRecursion}
use Rattle.std.proofs.lemmas.List.Elements.{filter-append}
use Rattle.cf_model.specs.Asks.{Run, is_fetched, runs_of, runs_on}
use Rattle.cf_model.specs.Missing.{View}
use Rattle.cf_model.specs.Words.{counting}

pub counting_push : (i n m j : ℕ) → m ≡ n + 1 → j ≡ i + n → counting i m ≡ counting i n ++ j ∷ []
counting_push i n zero j e h = absurd (omega arith)
counting_push i zero (suc m) j e h = let z : m ≡ 0 = omega arith in ap (λ k. i ∷ counting (i + 1) k) z ∙ ap (λ v. v ∷ []) (omega arith)
counting_push i (suc n) (suc m) j e h = ap (λ v. i ∷ v) (counting_push (i + 1) n m j (omega arith) (omega arith))

filter_counting : (p : ℕ → Bool) (n m : ℕ) → m ≡ n + 1 → filter p (counting 0 m) ≡ filter p (counting 0 n) ++ cond (p n) (n ∷ []) []
filter_counting p n m e = ap (filter p) (counting_push 0 n m n e (omega arith)) ∙ filter-append p (counting 0 n) (n ∷ [])

pub one_more : (p : ℕ → Bool) (n m : ℕ) (xs : List ℕ) → m ≡ n + 1 → xs ≡ filter p (counting 0 n) → p n ≡ true → xs ++ n ∷ [] ≡ filter p (counting 0 m)
one_more p n m xs e h t = ap (λ v. v ++ n ∷ []) h ∙ sym (filter_counting p n m e ∙ ap (λ b. filter p (counting 0 n) ++ cond b (n ∷ []) []) t)

pub none_more : (p : ℕ → Bool) (n m : ℕ) (xs : List ℕ) → m ≡ n + 1 → xs ≡ filter p (counting 0 n) → p n ≡ false → xs ≡ filter p (counting 0 m)
none_more p n m xs e h t = h ∙ sym (filter_counting p n m e ∙ ap (λ b. filter p (counting 0 n) ++ cond b (n ∷ []) []) t ∙ append-nil (filter p (counting 0 n)))

pub small_filter : (p : ℕ → Bool) (i n : ℕ) → i + n ≤ 2 ^ 40 → AllByRecursion (λ b. b < 2 ^ 40) (filter p (counting i n))
small_filter p i zero h = tt
small_filter p i (suc n) h = one (p i) (small_filter p (i + 1) n (omega arith)) where
  one : (b : Bool) → AllByRecursion (λ b. b < 2 ^ 40) (filter p (counting (i + 1) n)) → AllByRecursion (λ b. b < 2 ^ 40) (cond b (i ∷ filter p (counting (i + 1) n)) (filter p (counting (i + 1) n)))
  one true t = (omega arith, t)
  one false t = t

pub small_at : (bs : List ℕ) (i : ℕ) → AllByRecursion (λ b. b < 2 ^ 40) bs → get_or bs i 0 < 2 ^ 40
small_at [] i h = nil i where
  nil : (i : ℕ) → get_or {A = ℕ} [] i 0 < 2 ^ 40
  nil zero = omega arith
  nil (suc i) = omega arith
small_at (b ∷ bs) zero h = h.0
small_at (b ∷ bs) (suc i) h = small_at bs i h.1

and_left : (a b : Bool) → (a && b) ≡ true → a ≡ true
and_left true b h = refl
and_left false b h = h

abbrev pub Small : List Run → Type 0
Small rs = AllByRecursion (λ (x : Run). x.first + x.count ≤ 2 ^ 40) rs

small_by : (c : Bool) (r : Run) (xs ys : List Run) → r.first + r.count ≤ 2 ^ 40 → (c ≡ true → Small xs) → Small ys → Small (elim c as (λ _. List Run) [ true ↦ xs | false ↦ r ∷ ys ])
small_by true r xs ys h f g = f refl
small_by false r xs ys h f g = (h, g)

small_on : (v : View) (r : Run) (bs : List ℕ) → r.first + r.count ≤ 2 ^ 40 → AllByRecursion (λ b. b < 2 ^ 40) bs → Small (runs_on v r bs)
small_on v r [] h a = (h, tt)
small_on v r (b ∷ bs) h a = let f : b < 2 ^ 40 = a.0 in small_by ((eqb b (r.first + r.count)) && beq (is_fetched v b) r.fetch) r _ _ h
    (λ e. let q : b ≡ r.first + r.count = eqb-true b (r.first + r.count) (and_left (eqb b (r.first + r.count)) _ e) in small_on v (record r { count = r.count + 1 }) bs (omega arith) a.1)
    (small_on v (record { fetch = is_fetched v b; first = b; count = 1 }) bs (omega arith) a.1)

pub small_runs : (v : View) (bs : List ℕ) → AllByRecursion (λ b. b < 2 ^ 40) bs → AllByRecursion (λ (x : Run). x.first + x.count ≤ 2 ^ 40) (runs_of v bs)
small_runs v [] a = tt
small_runs v (b ∷ bs) a = let f : b < 2 ^ 40 = a.0 in small_on v (record { fetch = is_fetched v b; first = b; count = 1 }) bs (omega arith) a.1
